-- The law is a lemma.
use Rattle.run_laws.proofs.Runs.{worked-written}
use Rattle.run_laws.proofs.laws.work_is_written.Goals as goal

pub returns : goal.returns
returns c = worked-written
