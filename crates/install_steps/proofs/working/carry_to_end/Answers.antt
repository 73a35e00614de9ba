use Rattle.node_parts.specs.State.{node_of}
use Rattle.install_steps.proofs.Started.{carry_is_work, ended_comes, ended_made, failed_comes}
use Rattle.install_steps.proofs.working.carry_to_end.Goals as goal

pub returns-in-Ok-clause-comes : goal.returns-in-Ok-clause-comes
returns-in-Ok-clause-comes g c = λ d cs stored told.
    ended_comes d (node_of c.args.parts.now) (node_of c.carry_rest.new.parts) c.args.plans.items _ c.args.differs cs c.args.out.now c.carry_rest.new.out c.into_iter.ensures.rest c.end.result c.end.ensures.end (c.in-Ok.ensures.comes d cs stored told)

pub returns-in-Ok-clause-made : goal.returns-in-Ok-clause-made
returns-in-Ok-clause-made g c = λ d stored told.
    ended_made c.args.parts.now.me d c.args.plans.items _ c.args.differs c.end.result _ _ c.into_iter.ensures.rest c.end.ensures.end (c.in-Ok.ensures.made d stored told)

pub returns-clause-comes : goal.returns-clause-comes
returns-clause-comes g c = λ d cs stored told.
    failed_comes d (node_of c.args.parts.now) (node_of c.carry_rest.new.parts) c.args.plans.items _ c.args.differs cs c.args.out.now c.carry_rest.new.out c.into_iter.ensures.rest c.in-Err.fault (c.in-Err.ensures.comes d cs stored told)

pub returns-clause-fault : goal.returns-clause-fault
returns-clause-fault g c = carry_is_work c.in-Err.fault c.in-Err.ensures.fault
