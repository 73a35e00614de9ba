use Rattle.std.proofs.Common.{◌++◌, ◌∷◌, [], List, ap, ◌∙◌}
use Rattle.pcl_base.specs.declared.trace.Entry.{Entry}
use Rattle.cluster_rules.specs.ClusterStep.{arm}
use Rattle.cluster_parts.specs.State.{ClusterView, cluster_of}
use Rattle.cluster.specs.contracts.parts.ClusterParts.{the_view}
use Rattle.cluster.proofs.Stepping.{armed_cluster}
use Rattle.cluster.proofs.parts.ClusterParts.arm.Goals as goal

pub returns-clause-comes : goal.returns-clause-comes
returns-clause-comes c =
    armed_cluster (the_view c.self.inside) c.arm.new.self c.push.new.self c.args.event c.args.n c.args.call c.args.kept c.arm.ensures
    (c.push.ensures.entries
    ∙ ap (λ (es : List Entry). es ++ c.in_ok-entry.entry ∷ []) c.reserve.ensures.entries
    ∙ ap (λ (x : Entry). c.self.inside.trace.entries ++ x ∷ []) c.in_ok-entry.ensures)
    ∙ ap (λ (x : ClusterView). arm c.args.event c.args.n c.args.call c.args.kept (cluster_of x)) c.self.view_is
