use Rattle.std.proofs.Common.{ap, sym, ◌∙◌}
use Rattle.std.specs.List.{list_any}
use Rattle.pcl_base.specs.declared.reply.Reason.TheVariants as reason
use Rattle.authority_map.specs.Faults.{rule_of}
use Rattle.cluster_rules.specs.Clusters.{is_up}
use Rattle.cluster_rules.specs.ClusterStep.{all_nodes, make_reopened, refuse}
use Rattle.cluster_parts.specs.State.{ClusterView, cluster_of}
use Rattle.cluster.proofs.Answering.{came}
use Rattle.cluster.proofs.Viewing.{last_long, reopen_made, reopen_refused}
use Rattle.cluster.proofs.parts.ClusterParts.on_reopen.Goals as goal

pub reopen-requires : goal.reopen-requires
reopen-requires c = ap (λ (v : ClusterView). v.config.nodes) c.self.view_is ∙ sym (last_long c.args.self.now c.last_view.result.now c.requires.parts c.last_view.ensures)

pub returns-in-Ok-clause-ends : goal.returns-in-Ok-clause-ends
returns-in-Ok-clause-ends c =
    (came c.args.self.now c.make_reopened.new.self
    (make_reopened (list_any (is_up (cluster_of c.args.self.now)) (all_nodes (cluster_of c.args.self.now))) c.args.event c.in-Ok.view (cluster_of c.args.self.now)) c.args.event c.make_reopened.result c.requires.parts
    (reopen_made c.args.self.now c.args.event c.self.inside.config c.last_view.result.now c.in-Ok.view c.requires.event (ap (λ (v : ClusterView). v.config) c.self.view_is) c.last_view.ensures c.in-Ok.ensures.made)
    c.make_reopened.ensures.comes c.make_reopened.ensures.title c.make_reopened.ensures.failing).ends

pub returns-in-Ok-clause-parts : goal.returns-in-Ok-clause-parts
returns-in-Ok-clause-parts c =
    (came c.args.self.now c.make_reopened.new.self
    (make_reopened (list_any (is_up (cluster_of c.args.self.now)) (all_nodes (cluster_of c.args.self.now))) c.args.event c.in-Ok.view (cluster_of c.args.self.now)) c.args.event c.make_reopened.result c.requires.parts
    (reopen_made c.args.self.now c.args.event c.self.inside.config c.last_view.result.now c.in-Ok.view c.requires.event (ap (λ (v : ClusterView). v.config) c.self.view_is) c.last_view.ensures c.in-Ok.ensures.made)
    c.make_reopened.ensures.comes c.make_reopened.ensures.title c.make_reopened.ensures.failing).parts

pub returns-in-Err-BadView-clause-ends : goal.returns-in-Err-BadView-clause-ends
returns-in-Err-BadView-clause-ends c =
    (came c.args.self.now c.refuse.new.self (refuse c.args.event (reason.BadView c.in-Err-BadView.rule) (cluster_of c.args.self.now)) c.args.event c.refuse.result c.requires.parts
    (reopen_refused c.args.self.now c.args.event c.last_view.result.now c.in-Err-BadView.rule c.requires.event c.last_view.ensures (sym (ap rule_of c.in-Err-BadView.field-0-is) ∙ c.in-Err-BadView.ensures.fault))
    c.refuse.ensures.comes c.refuse.ensures.title c.refuse.ensures.failing).ends
