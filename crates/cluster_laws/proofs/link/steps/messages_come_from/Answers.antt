use Rattle.cluster_laws.proofs.LinkParts.Stepped.{messages_come_from_law}
use Rattle.cluster_laws.proofs.link.steps.messages_come_from.Goals as goal

pub returns : goal.returns
returns c = messages_come_from_law
