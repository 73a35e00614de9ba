use Rattle.std.proofs.Common.{[], ◌∷◌, ◌++◌, List, Option, ap, ◌∙◌}
use Rattle.std.proofs.lemmas.List.{with_items_is}
use Rattle.pcl_base.specs.declared.trace.Entry.{Entry}
use Rattle.run_rules.specs.Views.{View}
use Rattle.node_rules.specs.NodeState.{NodeState}
use Rattle.cluster_rules.specs.Clusters.{answer, last_view}
use Rattle.cluster_rules.specs.ClusterStep.{add_view, start_all}
use Rattle.cluster_parts.specs.State.{ClusterView, cluster_of}
use Rattle.cluster.specs.Starts.{with_started}
use Rattle.cluster.specs.contracts.parts.ClusterParts.{the_view}
use Rattle.cluster.proofs.Viewing.{started_length, view_started, viewed_is}
use Rattle.cluster.proofs.parts.ClusterParts.start_view.Goals as goal

pub returns-clause-comes : goal.returns-clause-comes
returns-clause-comes c =
    let nodes = c.put_started.ensures ∙ ap (λ (l : List (Option NodeState)). with_started l c.args.starts.now c.in_ok-started.started.items) c.as_mut_slice.ensures.value in
    let views = c.push_reserved.ensures.items ∙ ap (λ (l : List View). l ++ c.args.view ∷ []) c.reserve.ensures.items in
    let trace = c.push.ensures.entries
    ∙ ap (λ (l : List Entry). l ++ c.in_ok-entry.entry ∷ []) c.reserve-2.ensures.entries
    ∙ ap (λ (x : Entry). c.self.inside.trace.entries ++ x ∷ []) c.in_ok-entry.ensures
    in
    let last = c.epoch-epoch.ensures.value ∙ ap (λ (x : View). x.epoch) c.last_view.ensures in
    let long = started_length c.self.inside.nodes.items c.put_started.new.nodes c.args.starts.now c.in_ok-started.started.items c.self.inside.nodes.len nodes c.self.inside.nodes.ok.0 in
    ap (λ (l : List (Option NodeState)). record (cluster_of (the_view c.self.inside)) { nodes = l; views = c.push_reserved.new.self.items; trace = c.push.new.self.entries }) (with_items_is c.self.inside.nodes c.put_started.new.nodes long)
    ∙ viewed_is (cluster_of (the_view c.self.inside)) c.args.event c.args.reply c.args.view c.args.starts.now c.in_ok-started.started.items c.put_started.new.nodes c.push_reserved.new.self.items c.push.new.self.entries nodes views trace
    ∙ view_started (cluster_of (the_view c.self.inside)) c.args.event c.args.reply c.args.view c.epoch-epoch.result (last_view (cluster_of c.args.self.now)).epoch c.args.starts.now c.in_ok-started.started.items last c.in_ok-started.ensures
    ∙ ap (λ (v : ClusterView). answer c.args.event c.args.reply (add_view c.args.view (start_all (last_view (cluster_of c.args.self.now)).epoch c.args.starts.now (cluster_of v)))) c.self.view_is
