use Rattle.page_laws.proofs.MomentParts.Entries.{refused_adds_nothing_law}
use Rattle.page_laws.proofs.moment.adds.refused_adds_nothing.Goals as goal

pub returns : goal.returns
returns c = refused_adds_nothing_law
