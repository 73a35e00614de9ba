-- Each row is computed.
use Rattle.std.proofs.Common.{refl}
use Rattle.run_rules.specs.Redo.{redo, redone, reached, ranges_at, entries_of, records_in}
use Rattle.run_rules.specs.Views.{count_from}
use Rattle.run_rules.specs.Durable.{durable_fault, first_lost}
use Rattle.run_rules.specs.Now.{after, ran_on}
use Rattle.run_rules.specs.Running.{worked, raised_from}
use Rattle.run_rules.specs.Script.{moments_of, moments, script_from}
use Rattle.run_rules.proofs.disk_rows.rows_of_durable.Goals as goal

pub returns-clause-record : goal.returns-clause-record
unfolding redo redone reached ranges_at entries_of records_in count_from durable_fault first_lost after ran_on worked raised_from moments_of moments script_from
returns-clause-record c = refl

pub returns-clause-stored : goal.returns-clause-stored
unfolding redo redone reached ranges_at entries_of records_in count_from durable_fault first_lost after ran_on worked raised_from moments_of moments script_from
returns-clause-stored c = refl

pub returns-clause-both : goal.returns-clause-both
unfolding redo redone reached ranges_at entries_of records_in count_from durable_fault first_lost after ran_on worked raised_from moments_of moments script_from
returns-clause-both c = refl

pub returns-clause-nothing : goal.returns-clause-nothing
unfolding redo redone reached ranges_at entries_of records_in count_from durable_fault first_lost after ran_on worked raised_from moments_of moments script_from
returns-clause-nothing c = refl

pub returns-clause-torn : goal.returns-clause-torn
unfolding redo redone reached ranges_at entries_of records_in count_from durable_fault first_lost after ran_on worked raised_from moments_of moments script_from
returns-clause-torn c = refl

pub returns-clause-too_new : goal.returns-clause-too_new
unfolding redo redone reached ranges_at entries_of records_in count_from durable_fault first_lost after ran_on worked raised_from moments_of moments script_from
returns-clause-too_new c = refl
