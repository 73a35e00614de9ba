use Rattle.std.proofs.Common.{refl, sym, subst}
use Rattle.cluster.specs.contracts.parts.ClusterParts.{the_view}
use Rattle.cluster_parts.specs.Ends.{Ends}
use Rattle.cluster_parts.specs.State.{ClusterView, cluster_of}
use Rattle.cluster.proofs.Delivering.{IsDue, due_empty, due_ends, due_ready}
use Rattle.cluster.proofs.parts.ClusterParts.deliver_head.Goals as goal

pub take_step-requires : goal.take_step-requires
take_step-requires c =
    let due : IsDue (the_view c.self.inside) c.args.event c.args.from c.args.to =
    subst (λ (v : ClusterView). IsDue v c.args.event c.args.from c.args.to) (sym c.self.view_is)
    (record { parts = c.requires.parts; event = c.requires.event; sender = c.requires.sender; receiver = c.requires.receiver; view = c.requires.view })
    in
    record { ready = due_ready (the_view c.self.inside) c.take.new.self c.args.event c.args.from c.args.to due c.in-Ok.ensures.links c.in-Ok.message c.in-Ok.ensures.ok c.in-Ok.ensures.spares }

pub returns-in-Err-clause-ends : goal.returns-in-Err-clause-ends
returns-in-Err-clause-ends c =
    let due : IsDue (the_view c.self.inside) c.args.event c.args.from c.args.to =
    subst (λ (v : ClusterView). IsDue v c.args.event c.args.from c.args.to) (sym c.self.view_is)
    (record { parts = c.requires.parts; event = c.requires.event; sender = c.requires.sender; receiver = c.requires.receiver; view = c.requires.view })
    in
    subst (λ (v : ClusterView). Ends (cluster_of v) c.args.event c.refuse.result (cluster_of c.refuse.new.self)) c.self.view_is
    (due_empty (the_view c.self.inside) c.take.new.self c.args.event c.args.from c.args.to due c.in-Err.ensures.links c.refuse.new.self c.refuse.result (c.in-Err.ensures.empty.0 refl) c.refuse.ensures.comes c.refuse.ensures.title c.refuse.ensures.failing).ends

pub returns-in-Err-clause-parts : goal.returns-in-Err-clause-parts
returns-in-Err-clause-parts c =
    let due : IsDue (the_view c.self.inside) c.args.event c.args.from c.args.to =
    subst (λ (v : ClusterView). IsDue v c.args.event c.args.from c.args.to) (sym c.self.view_is)
    (record { parts = c.requires.parts; event = c.requires.event; sender = c.requires.sender; receiver = c.requires.receiver; view = c.requires.view })
    in
    (due_empty (the_view c.self.inside) c.take.new.self c.args.event c.args.from c.args.to due c.in-Err.ensures.links c.refuse.new.self c.refuse.result (c.in-Err.ensures.empty.0 refl) c.refuse.ensures.comes c.refuse.ensures.title c.refuse.ensures.failing).parts

pub returns-in-Ok-clause-ends : goal.returns-in-Ok-clause-ends
returns-in-Ok-clause-ends c =
    let due : IsDue (the_view c.self.inside) c.args.event c.args.from c.args.to =
    subst (λ (v : ClusterView). IsDue v c.args.event c.args.from c.args.to) (sym c.self.view_is)
    (record { parts = c.requires.parts; event = c.requires.event; sender = c.requires.sender; receiver = c.requires.receiver; view = c.requires.view })
    in
    subst (λ (v : ClusterView). Ends (cluster_of v) c.args.event c.take_step.result (cluster_of c.take_step.new.self)) c.self.view_is
    (due_ends (the_view c.self.inside) c.take.new.self c.args.event c.args.from c.args.to due c.in-Ok.ensures.links c.in-Ok.message c.in-Ok.ensures.ok c.in-Ok.ensures.spares c.take_step.result (cluster_of c.take_step.new.self) c.take_step.ensures.ends)
