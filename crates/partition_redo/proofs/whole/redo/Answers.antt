use Rattle.std.proofs.Common.{refl}
use Rattle.partition_redo.proofs.whole.redo.Goals as goal

pub returns-in-Err-clause-unwritten : goal.returns-in-Err-clause-unwritten
returns-in-Err-clause-unwritten g c = λ none. absurd (none c.in-Err.call refl)

pub returns-in-Err-clause-unstopped : goal.returns-in-Err-clause-unstopped
returns-in-Err-clause-unstopped g c = λ none. absurd (none c.in-Err.call refl)
