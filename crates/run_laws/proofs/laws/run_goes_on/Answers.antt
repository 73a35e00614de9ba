-- The law is a lemma.
use Rattle.run_laws.proofs.Runs.{worked-append}
use Rattle.run_laws.proofs.laws.run_goes_on.Goals as goal

pub returns : goal.returns
returns c = worked-append
