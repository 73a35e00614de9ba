use Rattle.std.proofs.Common.{rules, ◌≡◌, Err, ap, subst}
use Rattle.disk_model.specs.Memory.{Disk}
use Rattle.trace_model.specs.Seen.{TraceView}
use Rattle.node_parts.specs.Events.{event_of}
use Rattle.node_parts.specs.declared.fault.StepFault.{StepFault}
use Rattle.node_rules.specs.NodeStep.{nodestep}
use Rattle.cluster_rules.specs.Clusters.{Cluster}
use Rattle.cluster_parts.specs.Ends.{StepDiffers}
use Rattle.cluster_parts.specs.State.{cluster_of, disk_of}
use Rattle.cluster_parts.specs.Steps.{IsStepped, before_taking, stopped}
use Rattle.cluster_parts.proofs.Arms.{Aside, differs_ends, differs_parts, halted_ends, halted_parts, made_ends, made_parts}
use Rattle.cluster_parts.proofs.Ready.{can_step}
use Rattle.cluster.proofs.Stepping.{aside_of, finish_memory, finish_room}
use Rattle.cluster.proofs.parts.ClusterParts.run_step.Goals as goal

pub step_node-requires-clause-ready : goal.step_node-requires-clause-ready
step_node-requires-clause-ready c = can_step c.args.self.now c.args.event c.args.n (event_of c.args.asked) c.requires.ready

pub finish-requires-clause-room : goal.finish-requires-clause-room
finish-requires-clause-room c =
    finish_room c.args.self.now c.step_node.new.self c.args.event c.args.n (event_of c.args.asked) c.requires.ready c.args.notes c.step_node.new.out c.in-Ok.field-0 c.requires.prepared c.in-Ok.ensures.beside
    (c.in-Ok.ensures.ran c.requires.ready.state c.requires.ready.handed.up)

pub finish-requires-clause-memory : goal.finish-requires-clause-memory
finish-requires-clause-memory c =
    finish_memory c.args.self.now c.step_node.new.self c.args.event c.args.n (event_of c.args.asked) c.requires.ready c.args.notes c.step_node.new.out c.in-Ok.field-0 c.requires.prepared
    (c.in-Ok.ensures.ran c.requires.ready.state c.requires.ready.handed.up)

pub returns-in-Ok-clause-ends : goal.returns-in-Ok-clause-ends
returns-in-Ok-clause-ends c =
    made_ends c.args.self.now c.args.event c.args.n (event_of c.args.asked) c.requires.ready c.step_node.new.self c.finish.new.self c.in-Ok.field-0 tt c.step_node.new.out
    (c.in-Ok.ensures.ran c.requires.ready.state c.requires.ready.handed.up) c.finish.ensures.cluster

pub returns-in-Ok-clause-parts : goal.returns-in-Ok-clause-parts
returns-in-Ok-clause-parts c =
    let aside : Aside c.args.self.now c.finish.new.self =
    aside_of c.args.self.now c.step_node.new.self c.finish.new.self c.args.n c.in-Ok.ensures.beside c.finish.ensures.title (ap (λ (s : Disk). s.failing) c.finish.ensures.storage) in
    made_parts c.args.self.now c.args.event c.args.n (event_of c.args.asked) c.requires.ready c.step_node.new.self c.finish.new.self c.in-Ok.field-0 tt c.step_node.new.out
    (c.in-Ok.ensures.ran c.requires.ready.state c.requires.ready.handed.up) c.finish.ensures.cluster aside

pub returns-in-Err-Halted-clause-ends : goal.returns-in-Err-Halted-clause-ends
returns-in-Err-Halted-clause-ends c =
    let noted : cluster_of c.halt.new.self ≡ stopped c.args.event c.args.n c.in-Err-Halted.call c.in-Err-Halted.kept (cluster_of c.step_node.new.self) = search rules in
    halted_ends c.args.self.now c.args.event c.args.n (event_of c.args.asked) c.requires.ready c.step_node.new.self c.halt.new.self tt c.step_node.new.out c.in-Err-Halted.call c.in-Err-Halted.kept
    (subst (λ (f : StepFault). IsStepped {T = Unit {0}} c.args.n (nodestep c.requires.ready.state (event_of c.args.asked) (disk_of c.args.self.now.storage)) (Err f) c.args.self.now c.step_node.new.self c.step_node.new.out) c.in-Err-Halted.field-0-is
    (c.in-Err-Halted.ensures.ran c.requires.ready.state c.requires.ready.handed.up)) noted

pub returns-in-Err-Halted-clause-parts : goal.returns-in-Err-Halted-clause-parts
returns-in-Err-Halted-clause-parts c =
    let aside : Aside c.args.self.now c.halt.new.self =
    aside_of c.args.self.now c.step_node.new.self c.halt.new.self c.args.n c.in-Err-Halted.ensures.beside c.halt.ensures.title c.halt.ensures.failing in
    let noted : cluster_of c.halt.new.self ≡ stopped c.args.event c.args.n c.in-Err-Halted.call c.in-Err-Halted.kept (cluster_of c.step_node.new.self) = search rules in
    halted_parts c.args.self.now c.args.event c.args.n (event_of c.args.asked) c.requires.ready c.step_node.new.self c.halt.new.self tt c.step_node.new.out c.in-Err-Halted.call c.in-Err-Halted.kept
    c.in-Err-Halted.ensures.beside noted aside

pub returns-in-Err-Differs-clause-ends : goal.returns-in-Err-Differs-clause-ends
returns-in-Err-Differs-clause-ends c =
    let base : Cluster = before_taking c.args.n (event_of c.args.asked) (cluster_of c.args.self.now) in
    let read : StepDiffers base c.args.event c.in-Err-Differs.page c.in-Err-Differs.expected c.in-Err-Differs.found =
    differs_ends c.args.self.now c.args.event c.args.n (event_of c.args.asked) c.requires.ready c.step_node.new.self c.lose.new.self c.step_node.new.out c.in-Err-Differs.page c.in-Err-Differs.expected c.in-Err-Differs.found
    (subst (λ (f : StepFault). IsStepped {T = Unit {0}} c.args.n (nodestep c.requires.ready.state (event_of c.args.asked) (disk_of c.args.self.now.storage)) (Err f) c.args.self.now c.step_node.new.self c.step_node.new.out) c.in-Err-Differs.field-0-is
    (c.in-Err-Differs.ensures.ran c.requires.ready.state c.requires.ready.handed.up)) in
    search rules

pub returns-in-Err-Differs-clause-parts : goal.returns-in-Err-Differs-clause-parts
returns-in-Err-Differs-clause-parts c =
    let aside : Aside c.args.self.now c.lose.new.self =
    aside_of c.args.self.now c.step_node.new.self c.lose.new.self c.args.n c.in-Err-Differs.ensures.beside (ap (λ (t : TraceView). t.config) c.lose.ensures.trace) c.lose.ensures.failing in
    differs_parts c.args.self.now c.args.event c.args.n (event_of c.args.asked) c.requires.ready c.step_node.new.self c.lose.new.self c.step_node.new.out c.in-Err-Differs.page c.in-Err-Differs.expected c.in-Err-Differs.found
    c.in-Err-Differs.ensures.beside c.lose.ensures.cluster aside
