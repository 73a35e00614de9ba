use Rattle.kept_relation.proofs.TurnParts.Listing.{report_is_listed_law}
use Rattle.kept_relation.proofs.turn.views.report_is_listed.Goals as goal

pub returns : goal.returns
returns c = report_is_listed_law
