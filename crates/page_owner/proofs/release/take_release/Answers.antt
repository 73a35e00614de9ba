use Rattle.std.proofs.Common.{rules, refl}
use Rattle.node_parts.specs.State.{node_of}
use Rattle.page_owner.proofs.Releasing.{released, released_none}
use Rattle.page_owner.proofs.release.take_release.Goals as goal

pub returns-in-Ok-None-clause-comes : goal.returns-in-Ok-None-clause-comes
returns-in-Ok-None-clause-comes g c = λ ps cs told.
    released_none c.args.parts.now c.args.r.now c.requires.parts.number c.in-Ok-None.field-0 c.in-Ok-None.ensures (node_of c.args.parts.now) ps cs c.args.out.now c.take_none.new.out c.take_none.result
    refl (search rules) c.take_none.ensures.replies c.take_none.ensures.sends c.take_none.ensures.fault

pub returns-in-Ok-Some-clause-comes : goal.returns-in-Ok-Some-clause-comes
returns-in-Ok-Some-clause-comes g c = λ ps cs told.
    released c.args.parts.now c.args.r.now c.requires.parts.number c.in-Ok-Some.field-0 c.in-Ok-Some.ensures (node_of c.release_planned.new.parts) ps cs c.args.out.now c.release_planned.new.out c.release_planned.result
    c.in-Ok-Some.planned (search rules) (λ t there. c.release_planned.ensures.comes t ps cs there told)
