use Rattle.pcl_base.specs.declared.reply.Reason.TheVariants as reason
use Rattle.cluster_rules.specs.ClusterStep.{refuse}
use Rattle.cluster_parts.specs.State.{cluster_of}
use Rattle.cluster.proofs.Answering.{came}
use Rattle.cluster.proofs.Installing.{no_view_step}
use Rattle.cluster.proofs.parts.ClusterParts.install.Goals as goal

pub returns-in-Ok-None-clause-ends : goal.returns-in-Ok-None-clause-ends
returns-in-Ok-None-clause-ends c =
    (came c.args.self.now c.refuse.new.self (refuse c.args.event reason.NoView (cluster_of c.args.self.now)) c.args.event c.refuse.result c.requires.parts
    (no_view_step c.args.self.now c.args.event c.args.n c.in-Ok-None.field-0 c.requires.event c.requires.up c.in-Ok-None.ensures c.in-Ok-None.field-0-is) c.refuse.ensures.comes c.refuse.ensures.title c.refuse.ensures.failing).ends
