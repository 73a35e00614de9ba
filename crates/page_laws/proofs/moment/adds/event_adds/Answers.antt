use Rattle.page_laws.proofs.MomentParts.Entries.{event_adds_law}
use Rattle.page_laws.proofs.moment.adds.event_adds.Goals as goal

pub returns : goal.returns
returns c = event_adds_law
