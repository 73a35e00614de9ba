use Rattle.std.proofs.Common.{◌∙◌, sym}
use Rattle.pcl_base.specs.declared.reply.Reason.TheVariants as reason
use Rattle.cluster_rules.specs.ClusterStep.{refuse}
use Rattle.cluster_parts.specs.State.{cluster_of}
use Rattle.cluster.proofs.Answering.{came}
use Rattle.cluster.proofs.Delivering.{outside_step}
use Rattle.cluster.proofs.parts.ClusterParts.deliver.Goals as goal

pub returns-clause-ends : goal.returns-clause-ends
returns-clause-ends c =
    (came c.args.self.now c.refuse.new.self (refuse c.args.event reason.NotInView (cluster_of c.args.self.now)) c.args.event c.refuse.result c.requires.parts
    (outside_step c.args.self.now c.args.event c.args.from c.args.to c.requires.event c.requires.sender c.requires.receiver (sym c.in_view.ensures ∙ c.if-in_view.false)) c.refuse.ensures.comes c.refuse.ensures.title c.refuse.ensures.failing).ends
