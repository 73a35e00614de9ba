use Rattle.std.proofs.Common.{◌<◌, ◌≤◌, ◌∙◌, ap, refl, [], ◌∷◌, Some, arith}
use Rattle.pcl_base.specs.declared.reply.Reason.TheVariants as reason
use Rattle.cluster_rules.specs.ClusterStep.{named, refuse}
use Rattle.cluster_parts.specs.State.{ClusterView, cluster_of}
use Rattle.cluster.proofs.Answering.{absent_came, came}
use Rattle.cluster.proofs.Delivering.{none_high, unknown_sender}
use Rattle.cluster.proofs.parts.ClusterParts.on_deliver.Goals as goal

pub returns-then-nodes-from-clause-ends : goal.returns-then-nodes-from-clause-ends
returns-then-nodes-from-clause-ends c =
    let value = c.nodes.ensures.value ∙ ap (λ (v : ClusterView). v.config.nodes) c.self.view_is in
    let test = c.if-nodes-from.true in
    let high : c.args.self.now.config.nodes ≤ c.args.from = omega (arith, value, test) in
    (came c.args.self.now c.refuse.new.self (refuse c.args.event reason.NoNode (cluster_of c.args.self.now)) c.args.event c.refuse.result c.requires.parts
    (unknown_sender c.args.self.now c.args.event c.args.from c.args.to c.requires.event high) c.refuse.ensures.comes c.refuse.ensures.title c.refuse.ensures.failing).ends

pub returns-in-Some-clause-ends : goal.returns-in-Some-clause-ends
returns-in-Some-clause-ends c =
    let value = c.nodes.ensures.value ∙ ap (λ (v : ClusterView). v.config.nodes) c.self.view_is in
    let test = c.if-nodes-from.false in
    let low : c.args.from < c.args.self.now.config.nodes = omega (arith, value, test) in
    (absent_came c.args.self.now c.refuse-in-Some.new.self c.args.event c.args.to (c.args.from ∷ []) (Some c.in-Some.reason) c.in-Some.reason c.refuse-in-Some.result c.requires.parts (ap named c.requires.event)
    (none_high c.args.self.now.config.nodes c.args.from low) c.in-Some.ensures refl c.refuse-in-Some.ensures.comes c.refuse-in-Some.ensures.title c.refuse-in-Some.ensures.failing).ends
