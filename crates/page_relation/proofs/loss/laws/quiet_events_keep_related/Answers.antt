use Rattle.page_relation.proofs.LossParts.Wholes.{quiet_events_keep_related_law}
use Rattle.page_relation.proofs.loss.laws.quiet_events_keep_related.Goals as goal

pub returns : goal.returns
returns c = quiet_events_keep_related_law
