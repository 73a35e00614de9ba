use Rattle.std.proofs.Common.{length}
use Rattle.install_steps.proofs.apt.+are_apt.Given as goal

-- how many plans are left
abbrev pub decreases-are_apt : goal.decreases-are_apt
decreases-are_apt l = length l.plans.now
