use Rattle.std.proofs.Common.{refl}
use Rattle.home_laws.specs.Refused.{access_refusal}
use Rattle.home_laws.specs.RefusedEnds.{commit_refusal, abort_refusal}
use Rattle.home_laws.proofs.laws.refusals_agree.Goals as goal

pub returns-clause-reads : goal.returns-clause-reads
unfolding access_refusal
returns-clause-reads c n t p = refl

pub returns-clause-writes : goal.returns-clause-writes
unfolding access_refusal
returns-clause-writes c n t p place bytes = refl

pub returns-clause-commits : goal.returns-clause-commits
unfolding commit_refusal
returns-clause-commits c n t = refl

pub returns-clause-aborts : goal.returns-clause-aborts
unfolding abort_refusal
returns-clause-aborts c n t = refl
