use Rattle.std.proofs.Common.{refl}
use Rattle.node_parts.specs.Events.{event_of}
use Rattle.cluster_parts.specs.State.{ClusterView, disk_of}
use Rattle.cluster.specs.contracts.parts.ClusterParts.{the_view}
use Rattle.cluster.proofs.NodeSteps.{left_as, stepped_as}
use Rattle.cluster.proofs.parts.ClusterParts.step_node.Goals as goal

pub returns-clause-ran : goal.returns-clause-ran
returns-clause-ran c =
    let u : ClusterView = the_view c.self.inside in
    stepped_as u c.args.self.now c.self.view_is c.args.n (event_of c.args.asked.now) c.requires.ready c.in-Some.node c.step.new.self c.step.new.s c.index_mut-at.result.now c.index_mut-at.ensures.value c.in-Some.is
    c.args.out.now c.step.new.out c.step.result c.requires.empty.0 c.requires.empty.1
    (λ calm. c.step.ensures.ran (disk_of u.storage) u.storage.stops u.storage.failing refl refl refl calm)

pub returns-clause-beside : goal.returns-clause-beside
returns-clause-beside c =
    let u : ClusterView = the_view c.self.inside in
    left_as u c.args.self.now c.self.view_is c.args.n (event_of c.args.asked.now) c.requires.ready c.in-Some.node c.step.new.self c.step.new.s c.index_mut-at.result.now c.index_mut-at.ensures.value c.in-Some.is
    c.step.ensures.sizes (c.step.ensures.others (disk_of u.storage) refl refl) (λ calm. c.step.ensures.calm u.storage.failing calm)
