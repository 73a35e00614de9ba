-- Each row is computed.
use Rattle.std.proofs.Common.{refl}
use Rattle.run_rules.specs.Running.{worked, raised_from, run_from}
use Rattle.run_rules.specs.Script.{moments_of, moments, script_from}
use Rattle.run_rules.specs.Now.{after, first_fault, ran_on}
use Rattle.run_rules.specs.Serial.{serial}
use Rattle.run_rules.proofs.rows.rows_of_traces.Goals as goal

pub returns-clause-script : goal.returns-clause-script
unfolding worked raised_from run_from moments_of moments script_from after first_fault ran_on serial
returns-clause-script c = refl

pub returns-clause-order : goal.returns-clause-order
unfolding worked raised_from run_from moments_of moments script_from after first_fault ran_on serial
returns-clause-order c = refl

pub returns-clause-now : goal.returns-clause-now
unfolding worked raised_from run_from moments_of moments script_from after first_fault ran_on serial
returns-clause-now c = refl

pub returns-clause-no_result : goal.returns-clause-no_result
unfolding worked raised_from run_from moments_of moments script_from after first_fault ran_on serial
returns-clause-no_result c = refl

pub returns-clause-refused : goal.returns-clause-refused
unfolding worked raised_from run_from moments_of moments script_from after first_fault ran_on serial
returns-clause-refused c = refl

pub returns-clause-kept : goal.returns-clause-kept
unfolding worked raised_from run_from moments_of moments script_from after first_fault ran_on serial
returns-clause-kept c = refl
