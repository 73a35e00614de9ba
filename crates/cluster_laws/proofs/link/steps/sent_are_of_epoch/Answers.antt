use Rattle.cluster_laws.proofs.LinkParts.Stepped.{sent_are_of_epoch_law}
use Rattle.cluster_laws.proofs.link.steps.sent_are_of_epoch.Goals as goal

pub returns : goal.returns
returns c = sent_are_of_epoch_law
