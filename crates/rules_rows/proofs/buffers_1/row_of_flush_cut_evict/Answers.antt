use mathlib.Core.Path.{refl}
use Rattle.rules_rows.proofs.Opened.{all_rules}
use Rattle.rules_rows.proofs.buffers_1.row_of_flush_cut_evict.Goals as goal

pub returns : goal.returns
unfolding all_rules
returns c = record { read = record { read = refl; lines = refl }; printed = refl; safe = refl }
