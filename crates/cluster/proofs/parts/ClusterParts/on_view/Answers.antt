use Rattle.std.proofs.Common.{ap, sym, ◌∙◌}
use Rattle.pcl_base.specs.declared.reply.Reason.TheVariants as reason
use Rattle.authority_map.specs.Faults.{rule_of}
use Rattle.cluster_rules.specs.ClusterStep.{drops_up, make_view, refuse}
use Rattle.cluster_parts.specs.State.{ClusterView, cluster_of}
use Rattle.cluster.proofs.Answering.{came}
use Rattle.cluster.proofs.Viewing.{last_long, view_made, view_refused}
use Rattle.cluster.proofs.parts.ClusterParts.on_view.Goals as goal

pub next-requires : goal.next-requires
next-requires c = ap (λ (v : ClusterView). v.config.nodes) c.self.view_is ∙ sym (last_long c.args.self.now c.last_view.result.now c.requires.parts c.last_view.ensures)

pub returns-in-Ok-clause-ends : goal.returns-in-Ok-clause-ends
returns-in-Ok-clause-ends c =
    (came c.args.self.now c.make_view.new.self (make_view (drops_up (cluster_of c.args.self.now) c.in-Ok.view) c.args.event c.in-Ok.view (cluster_of c.args.self.now)) c.args.event c.make_view.result c.requires.parts
    (view_made c.args.self.now c.args.event c.self.inside.config c.last_view.result.now c.in_ok-live.live.items c.args.live.now c.in_ok-owners.owners.items c.args.owners.now c.in-Ok.view c.requires.event
    (ap (λ (v : ClusterView). v.config) c.self.view_is) c.last_view.ensures c.in_ok-live.ensures.items c.in_ok-owners.ensures.items c.in-Ok.ensures.made)
    c.make_view.ensures.comes c.make_view.ensures.title c.make_view.ensures.failing).ends

pub returns-in-Ok-clause-parts : goal.returns-in-Ok-clause-parts
returns-in-Ok-clause-parts c =
    (came c.args.self.now c.make_view.new.self (make_view (drops_up (cluster_of c.args.self.now) c.in-Ok.view) c.args.event c.in-Ok.view (cluster_of c.args.self.now)) c.args.event c.make_view.result c.requires.parts
    (view_made c.args.self.now c.args.event c.self.inside.config c.last_view.result.now c.in_ok-live.live.items c.args.live.now c.in_ok-owners.owners.items c.args.owners.now c.in-Ok.view c.requires.event
    (ap (λ (v : ClusterView). v.config) c.self.view_is) c.last_view.ensures c.in_ok-live.ensures.items c.in_ok-owners.ensures.items c.in-Ok.ensures.made)
    c.make_view.ensures.comes c.make_view.ensures.title c.make_view.ensures.failing).parts

pub returns-in-Err-BadView-clause-ends : goal.returns-in-Err-BadView-clause-ends
returns-in-Err-BadView-clause-ends c =
    (came c.args.self.now c.refuse.new.self (refuse c.args.event (reason.BadView c.in-Err-BadView.rule) (cluster_of c.args.self.now)) c.args.event c.refuse.result c.requires.parts
    (view_refused c.args.self.now c.args.event c.self.inside.config c.last_view.result.now c.in_ok-live.live.items c.args.live.now c.in_ok-owners.owners.items c.args.owners.now c.in-Err-BadView.rule c.requires.event
    (ap (λ (v : ClusterView). v.config) c.self.view_is) c.last_view.ensures c.in_ok-live.ensures.items c.in_ok-owners.ensures.items (sym (ap rule_of c.in-Err-BadView.field-0-is) ∙ c.in-Err-BadView.ensures.fault))
    c.refuse.ensures.comes c.refuse.ensures.title c.refuse.ensures.failing).ends
