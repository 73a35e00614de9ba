use Rattle.std.proofs.Common.{◌<◌, sym, subst}
use Rattle.std.specs.List.{AllByRecursion}
use Rattle.node_rules.specs.NodeState.{NodeState}
use Rattle.node_parts.specs.State.{node_of}
use Rattle.page_owner.specs.Planned.{ArePartsBut}
use Rattle.own_steps.specs.Ends.{HasEntry, IsOwned, dues, pages_in}
use Rattle.own_steps.proofs.EndsReady.{awaits_made, dues_below, plans_below, plans_owned}
use Rattle.own_steps.proofs.ready.prepare_ends.Goals as goal

pub take_memory-requires-clause-below : goal.take_memory-requires-clause-below
take_memory-requires-clause-below c =
    subst (AllByRecursion (λ x. x.page < c.args.parts.now.home.config.pages)) (sym c.as_slice.ensures.value)
    (plans_below (node_of c.args.parts.now) c.args.parts.now.me c.args.tx c.args.parts.now.home.config (dues c.args.commits c.args.parts.now.home c.args.tx) c.in_ok-plans.plans.items c.in_ok-plans.ensures.plans
    (dues_below c.args.commits c.args.parts.now.home c.args.tx c.in_ok-plans.ensures.home))

pub take_memory-requires-clause-own : goal.take_memory-requires-clause-own
take_memory-requires-clause-own c =
    subst (AllByRecursion (IsOwned (node_of c.args.parts.now))) (sym c.as_slice.ensures.value)
    (plans_owned (node_of c.args.parts.now) c.args.parts.now.me c.args.tx (dues c.args.commits c.args.parts.now.home c.args.tx) c.in_ok-plans.plans.items c.in_ok-plans.ensures.plans)

pub give_up_rooms-requires-clause-below : goal.give_up_rooms-requires-clause-below
give_up_rooms-requires-clause-below c =
    subst (AllByRecursion (λ x. x.page < c.take_memory.new.parts.home.config.pages)) (sym c.into_iter.ensures.rest)
    (subst (λ (n : NodeState). AllByRecursion (λ x. x.page < n.home.config.pages) c.in_ok-plans.plans.items) (sym c.take_memory.ensures.node)
    (plans_below (node_of c.args.parts.now) c.args.parts.now.me c.args.tx c.args.parts.now.home.config (dues c.args.commits c.args.parts.now.home c.args.tx) c.in_ok-plans.plans.items c.in_ok-plans.ensures.plans
    (dues_below c.args.commits c.args.parts.now.home c.args.tx c.in_ok-plans.ensures.home)))

pub returns-in-Ok-clause-awaits : goal.returns-in-Ok-clause-awaits
returns-in-Ok-clause-awaits c =
    awaits_made c.args.parts.now c.take_memory.new.parts c.args.tx c.args.commits c.in_ok-plans.plans.items c.in_ok-plans.ensures.home c.in_ok-plans.ensures.plans
    (subst (λ l. ArePartsBut (pages_in l) c.take_memory.new.parts) c.as_slice.ensures.value c.take_memory.ensures.parts) c.take_memory.ensures.node c.take_memory.ensures.view
    (subst (AllByRecursion (HasEntry c.take_memory.new.parts.tables)) c.as_slice.ensures.value c.in-Ok.ensures.rooms)
