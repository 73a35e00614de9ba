use Rattle.std.proofs.Common.{List, Option, None, slice_set, ap, ◌∙◌}
use Rattle.std.proofs.lemmas.List.{with_items_is}
use Rattle.node_rules.specs.NodeState.{NodeState}
use Rattle.cluster_rules.specs.Clusters.{lose}
use Rattle.cluster_parts.specs.State.{ClusterView, cluster_of}
use Rattle.cluster.specs.contracts.parts.ClusterParts.{the_view}
use Rattle.cluster.proofs.Stepping.{lost_cluster, put_length}
use Rattle.cluster.proofs.parts.ClusterParts.lose.Goals as goal

pub returns-clause-cluster : goal.returns-clause-cluster
returns-clause-cluster c =
    let v : ClusterView = the_view c.self.inside in
    ap (λ (ns : List (Option NodeState)). cluster_of (record v { nodes = ns; links = c.clear.new.self; storage = c.disarm.new.self }))
    (with_items_is c.self.inside.nodes c.put_at.new.nodes (put_length c.put_at.new.nodes _ v.nodes c.args.n _ None c.put_at.ensures c.as_mut_slice.ensures.value c.self.inside.nodes.ok.0))
    ∙ lost_cluster v c.args.n c.put_at.new.nodes c.clear.new.self c.disarm.new.self
    (c.put_at.ensures ∙ ap (λ (l : List (Option NodeState)). slice_set l c.args.n None) c.as_mut_slice.ensures.value) c.clear.ensures.links c.disarm.ensures
    ∙ ap (λ (x : ClusterView). lose c.args.n (cluster_of x)) c.self.view_is
