use Rattle.std.proofs.Common.{refl}
use Rattle.run_rules.specs.Now.{ran_on, after}
use Rattle.run_rules.specs.Running.{worked, raised_from}
use Rattle.run_rules.specs.Script.{moments_of, moments, script_from}
use Rattle.page_laws.proofs.moment.rows.row_of_now.Goals as goal

pub returns : goal.returns
unfolding ran_on after worked raised_from moments_of moments script_from
returns c = record { has = refl; has_no_result = λ has. has; written = refl; only_read = refl }
