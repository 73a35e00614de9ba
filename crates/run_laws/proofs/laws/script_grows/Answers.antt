-- The law is a lemma.
use Rattle.run_laws.proofs.Scripts.{script-grows}
use Rattle.run_laws.proofs.laws.script_grows.Goals as goal

pub returns : goal.returns
returns c = script-grows
