-- The law is a lemma.
use Rattle.run_laws.proofs.Runs.{run-raised}
use Rattle.run_laws.proofs.laws.run_is_raised.Goals as goal

pub returns : goal.returns
returns c = run-raised
