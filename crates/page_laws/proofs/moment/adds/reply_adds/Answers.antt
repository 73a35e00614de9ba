use Rattle.page_laws.proofs.MomentParts.Entries.{reply_adds_law}
use Rattle.page_laws.proofs.moment.adds.reply_adds.Goals as goal

pub returns : goal.returns
returns c = reply_adds_law
