use Rattle.std.specs.Vec.Iter.{into_iter_len}
use Rattle.install_steps.proofs.planned.+carry_rest.Given as goal

-- how many plans are left
abbrev pub decreases-carry_rest : goal.decreases-carry_rest
decreases-carry_rest g l = into_iter_len l.plans
