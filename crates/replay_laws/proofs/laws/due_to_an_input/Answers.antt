-- The law is a lemma.
use Rattle.replay_laws.proofs.Inputs.{is_due}
use Rattle.replay_laws.proofs.laws.due_to_an_input.Goals as goal

pub returns : goal.returns
returns c = is_due
