use Rattle.std.proofs.Common.{refl}
use Rattle.page_protocol.specs.Authority.{granting, giving, spending, returning, releasing, releasing_change}
use Rattle.page_protocol.specs.Homes.{asking, accepting, taking_right, reading, writing, committing_reads, committing}
use Rattle.page_protocol.proofs.MoreRuns.{revoked_run, revoked_bars}
use Rattle.page_protocol.proofs.more_rows.a_revocation_waits_for_an_open_reader.Goals as goal

pub returns-clause-run : goal.returns-clause-run
returns-clause-run c = (1, 1, revoked_run)

pub returns-clause-holder : goal.returns-clause-holder
unfolding granting giving spending returning releasing releasing_change asking accepting taking_right reading writing committing_reads committing
returns-clause-holder c = refl

pub returns-clause-home : goal.returns-clause-home
unfolding granting giving spending returning releasing releasing_change asking accepting taking_right reading writing committing_reads committing
returns-clause-home c = refl

pub returns-clause-bars : goal.returns-clause-bars
returns-clause-bars c = revoked_bars

pub returns-clause-right : goal.returns-clause-right
unfolding granting giving spending returning releasing releasing_change asking accepting taking_right reading writing committing_reads committing
returns-clause-right c = refl

pub returns-clause-page : goal.returns-clause-page
unfolding granting giving spending returning releasing releasing_change asking accepting taking_right reading writing committing_reads committing
returns-clause-page c = refl

pub returns-clause-entry : goal.returns-clause-entry
unfolding granting giving spending returning releasing releasing_change asking accepting taking_right reading writing committing_reads committing
returns-clause-entry c = refl

pub returns-clause-committed : goal.returns-clause-committed
unfolding granting giving spending returning releasing releasing_change asking accepting taking_right reading writing committing_reads committing
returns-clause-committed c = refl
