-- Each row is computed.
use Rattle.std.proofs.Common.{refl}
use Rattle.run_rules.specs.Redo.{redo, redone, reached, ranges_at, entries_of, records_in}
use Rattle.run_rules.specs.Views.{count_from}
use Rattle.run_rules.proofs.disk_rows.rows_of_redo.Goals as goal

pub returns-clause-fresh : goal.returns-clause-fresh
unfolding redo redone reached ranges_at entries_of records_in count_from
returns-clause-fresh c = refl

pub returns-clause-two_logs : goal.returns-clause-two_logs
unfolding redo redone reached ranges_at entries_of records_in count_from
returns-clause-two_logs c = refl

pub returns-clause-wrong_number : goal.returns-clause-wrong_number
unfolding redo redone reached ranges_at entries_of records_in count_from
returns-clause-wrong_number c = refl
