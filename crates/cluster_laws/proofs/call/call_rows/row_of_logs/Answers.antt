use mathlib.Core.Path.{refl}
use Rattle.cluster_laws.proofs.call.call_rows.row_of_logs.Goals as goal

pub returns : goal.returns
returns c = record { page = refl; trim = refl; cut = refl; no_page = λ w. w }
