use Rattle.node_laws.proofs.Steps.{sends_are_messages_law}
use Rattle.node_laws.proofs.laws.sends_are_messages.Goals as goal

pub returns : goal.returns
returns c = sends_are_messages_law
