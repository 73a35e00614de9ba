use Rattle.std.proofs.Common.{◌≡◌}
use Rattle.lock_entry.proofs.Marks.{marked}
use Rattle.lock_entry.proofs.settle.mark_revoked.Given as goal

abbrev pub invariant-loop-right : goal.invariant-loop-right
invariant-loop-right l = l.rights ≡ marked l.right-index l.initial.rights
