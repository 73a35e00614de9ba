use Rattle.std.proofs.Common.{refl}
use Rattle.page_protocol.specs.Authority.{granting, giving, releasing_change}
use Rattle.page_protocol.specs.Homes.{asking, accepting, taking_right, reading, writing, committing}
use Rattle.page_protocol.proofs.RowRuns.{row_run}
use Rattle.page_protocol.proofs.rows.a_write_is_read_elsewhere.Goals as goal

pub returns-clause-run : goal.returns-clause-run
returns-clause-run c = (1, 0, row_run)

pub returns-clause-page : goal.returns-clause-page
unfolding asking granting accepting writing committing releasing_change giving taking_right reading
returns-clause-page c = refl

pub returns-clause-read : goal.returns-clause-read
unfolding asking granting accepting writing committing releasing_change giving taking_right reading
returns-clause-read c = refl

pub returns-clause-entry : goal.returns-clause-entry
unfolding asking granting accepting writing committing releasing_change giving taking_right reading
returns-clause-entry c = refl

pub returns-clause-disk : goal.returns-clause-disk
unfolding asking granting accepting writing committing releasing_change giving taking_right reading
returns-clause-disk c = refl

pub returns-clause-right : goal.returns-clause-right
unfolding asking granting accepting writing committing releasing_change giving taking_right reading
returns-clause-right c = refl

pub returns-clause-committed : goal.returns-clause-committed
unfolding asking granting accepting writing committing releasing_change giving taking_right reading
returns-clause-committed c = refl
