-- Each row is computed.
use Rattle.std.proofs.Common.{refl}
use Rattle.run_rules.specs.Running.{worked, raised_from, run_from}
use Rattle.run_rules.specs.Script.{moments_of, moments, script_from}
use Rattle.run_rules.specs.Now.{after, first_fault, ran_on}
use Rattle.run_rules.specs.Fresh.{written_over, all_current}
use Rattle.run_rules.proofs.rows.rows_of_faults.Goals as goal

pub returns-clause-plain_path_is_fresh : goal.returns-clause-plain_path_is_fresh
unfolding worked raised_from run_from moments_of moments script_from after first_fault ran_on written_over all_current
returns-clause-plain_path_is_fresh c = refl

pub returns-clause-plain_path_is_serial : goal.returns-clause-plain_path_is_serial
unfolding worked raised_from run_from moments_of moments script_from after first_fault ran_on written_over all_current
returns-clause-plain_path_is_serial c = refl

pub returns-clause-right_value_is_fresh : goal.returns-clause-right_value_is_fresh
unfolding worked raised_from run_from moments_of moments script_from after first_fault ran_on written_over all_current
returns-clause-right_value_is_fresh c = refl

pub returns-clause-right_value_is_serial : goal.returns-clause-right_value_is_serial
unfolding worked raised_from run_from moments_of moments script_from after first_fault ran_on written_over all_current
returns-clause-right_value_is_serial c = refl

pub returns-clause-changed_value_is_not_fresh : goal.returns-clause-changed_value_is_not_fresh
unfolding worked raised_from run_from moments_of moments script_from after first_fault ran_on written_over all_current
returns-clause-changed_value_is_not_fresh c = refl

pub returns-clause-changed_value_is_not_serial : goal.returns-clause-changed_value_is_not_serial
unfolding worked raised_from run_from moments_of moments script_from after first_fault ran_on written_over all_current
returns-clause-changed_value_is_not_serial c = refl

pub returns-clause-old_read_is_fresh : goal.returns-clause-old_read_is_fresh
unfolding worked raised_from run_from moments_of moments script_from after first_fault ran_on written_over all_current
returns-clause-old_read_is_fresh c = refl

pub returns-clause-old_read_is_not_serial : goal.returns-clause-old_read_is_not_serial
unfolding worked raised_from run_from moments_of moments script_from after first_fault ran_on written_over all_current
returns-clause-old_read_is_not_serial c = refl
