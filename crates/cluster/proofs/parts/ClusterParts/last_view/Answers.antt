use Rattle.std.proofs.Common.{ℕ, ◌-◌, get_or, ap, sym, subst, ◌∙◌}
use Rattle.cluster_rules.specs.Clusters.{last_view}
use Rattle.cluster_laws.specs.Sound.{AreViews}
use Rattle.cluster_parts.specs.State.{ClusterView, cluster_of}
use Rattle.cluster.proofs.Opening.{last_view_at}
use Rattle.cluster.proofs.parts.ClusterParts.last_view.Goals as goal

pub returns : goal.returns
returns c =
    c.index.ensures
    ∙ ap (λ (k : ℕ). get_or c.self.inside.views.items (k - 1) c.index.result.now) (c.len.ensures ∙ c.self.inside.views.ok.0)
    ∙ last_view_at c.self.inside.config c.index.result.now c.self.inside.views.items (subst (λ (x : ClusterView). AreViews x.config x.views) (sym c.self.view_is) c.requires)
    ∙ ap (λ (x : ClusterView). last_view (cluster_of x)) c.self.view_is
