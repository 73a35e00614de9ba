use Rattle.std.proofs.Common.{refl}
use Rattle.page_protocol.specs.Authority.{granting, giving, releasing_change}
use Rattle.page_protocol.specs.Eras.{falling, reporting, completing}
use Rattle.page_protocol.specs.Homes.{asking, accepting, taking_right, reading, writing, committing}
use Rattle.page_protocol.proofs.RowRuns.{row_moved, row_moved_bars}
use Rattle.page_protocol.proofs.rows.a_move_keeps_a_reader.Goals as goal

pub returns-clause-run : goal.returns-clause-run
returns-clause-run c = (1, 0, row_moved)

pub returns-clause-bars : goal.returns-clause-bars
returns-clause-bars c = row_moved_bars

pub returns-clause-right : goal.returns-clause-right
unfolding asking granting accepting writing committing releasing_change giving taking_right reading falling reporting completing
returns-clause-right c = refl

pub returns-clause-reader : goal.returns-clause-reader
unfolding asking granting accepting writing committing releasing_change giving taking_right reading falling reporting completing
returns-clause-reader c = refl

pub returns-clause-sees : goal.returns-clause-sees
unfolding asking granting accepting writing committing releasing_change giving taking_right reading falling reporting completing
returns-clause-sees c = refl

pub returns-clause-entry : goal.returns-clause-entry
unfolding asking granting accepting writing committing releasing_change giving taking_right reading falling reporting completing
returns-clause-entry c = refl

pub returns-clause-owner : goal.returns-clause-owner
unfolding asking granting accepting writing committing releasing_change giving taking_right reading falling reporting completing
returns-clause-owner c = refl

pub returns-clause-disk : goal.returns-clause-disk
unfolding asking granting accepting writing committing releasing_change giving taking_right reading falling reporting completing
returns-clause-disk c = refl
