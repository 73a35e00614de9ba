use Rattle.std.proofs.Common.{refl, sym, [], Some}
use Rattle.node_parts.specs.Events.{event_of}
use Rattle.cluster_parts.specs.State.{cluster_of}
use Rattle.cluster.proofs.Answering.{absent_came, ends_here, plain_none, plain_ready}
use Rattle.cluster.proofs.parts.ClusterParts.on_node.Goals as goal

pub returns-in-Some-clause-ends : goal.returns-in-Some-clause-ends
returns-in-Some-clause-ends c =
    (absent_came c.args.self.now c.refuse.new.self c.args.event c.args.n [] (Some c.in-Some.reason) c.in-Some.reason c.refuse.result c.requires.parts c.requires.plain.named refl c.in-Some.ensures refl c.refuse.ensures.comes c.refuse.ensures.title c.refuse.ensures.failing).ends

pub returns-in-Some-clause-parts : goal.returns-in-Some-clause-parts
returns-in-Some-clause-parts c =
    (absent_came c.args.self.now c.refuse.new.self c.args.event c.args.n [] (Some c.in-Some.reason) c.in-Some.reason c.refuse.result c.requires.parts c.requires.plain.named refl c.in-Some.ensures refl c.refuse.ensures.comes c.refuse.ensures.title c.refuse.ensures.failing).parts

pub take_step-requires : goal.take_step-requires
take_step-requires c =
    record { ready = plain_ready c.args.self.now c.args.event c.args.n (event_of c.args.asked) c.requires.parts c.requires.plain (sym c.in-None.ensures) }

pub returns-in-None-clause-ends : goal.returns-in-None-clause-ends
returns-in-None-clause-ends c =
    ends_here (cluster_of c.args.self.now) c.args.event c.args.n (event_of c.args.asked) c.take_step.result (cluster_of c.take_step.new.self)
    (plain_none c.args.self.now c.args.event c.args.n (event_of c.args.asked) c.requires.plain (sym c.in-None.ensures)).same c.take_step.ensures.ends
