use Rattle.std.proofs.Common.{rules}
use Rattle.arrayvec.proofs.ArrayVecLemmas.{filter-from_retain}
use Rattle.lock_entry.proofs.members.drop_right.Goals as goal

pub returns : goal.returns
returns c = filter-from_retain _ _ _ (λ x b f y call. search rules) _ _ c.retain.ensures.filtered
