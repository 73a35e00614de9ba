use Rattle.std.proofs.Common.{refl}
use Rattle.page_protocol.specs.Authority.{granting}
use Rattle.page_protocol.specs.Eras.{crashing, falling, reporting, completing}
use Rattle.page_protocol.specs.Homes.{asking, accepting, writing, committing}
use Rattle.page_protocol.proofs.rows.a_lost_release_is_redone.Goals as goal

pub returns-clause-disk : goal.returns-clause-disk
unfolding asking granting accepting writing committing falling crashing reporting completing
returns-clause-disk c = refl

pub returns-clause-entry : goal.returns-clause-entry
unfolding asking granting accepting writing committing falling crashing reporting completing
returns-clause-entry c = refl

pub returns-clause-serves : goal.returns-clause-serves
unfolding asking granting accepting writing committing falling crashing reporting completing
returns-clause-serves c = refl

pub returns-clause-nobody : goal.returns-clause-nobody
unfolding asking granting accepting writing committing falling crashing reporting completing
returns-clause-nobody c = refl
