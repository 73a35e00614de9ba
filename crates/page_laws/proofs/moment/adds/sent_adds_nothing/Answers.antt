use Rattle.page_laws.proofs.MomentParts.Entries.{sent_adds_nothing_law}
use Rattle.page_laws.proofs.moment.adds.sent_adds_nothing.Goals as goal

pub returns : goal.returns
returns c = sent_adds_nothing_law
