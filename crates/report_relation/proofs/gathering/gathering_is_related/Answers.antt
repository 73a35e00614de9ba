use Rattle.report_relation.proofs.Tabled.{gathering_is_related_law}
use Rattle.report_relation.proofs.gathering.gathering_is_related.Goals as goal

pub returns : goal.returns
returns c = gathering_is_related_law
