use Rattle.std.proofs.Common.{◌∷◌, [], ◌++◌, List, refl, ap, ◌∙◌}
use Rattle.run_rules.specs.Views.{View}
use Rattle.cluster_parts.specs.State.{ClusterView}
use Rattle.cluster.proofs.Opening.{opening_is}
use Rattle.cluster.proofs.parts.ClusterParts.open.Goals as goal

pub returns-clause-cluster : goal.returns-clause-cluster
returns-clause-cluster c =
    let v : ClusterView = record { config = c.args.config.now; nodes = c.in_ok-first_nodes.field-0.items; links = c.in_ok-links.links; storage = c.in_ok-storage.storage; views = c.push.new.self.items; trace = c.new.result } in
    opening_is v c.args.config.now refl c.in_ok-first_nodes.ensures c.in_ok-links.ensures c.in_ok-storage.ensures
    (c.in_ok-push.ensures.items ∙ ap (λ (l : List View). l ++ c.in_ok-first.field-0 ∷ []) c.in_ok-views.ensures.items ∙ ap (λ (v : View). v ∷ []) c.in_ok-first.ensures.first)
    c.new.ensures.entries
