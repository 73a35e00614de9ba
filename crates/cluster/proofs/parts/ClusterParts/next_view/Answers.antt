use Rattle.std.proofs.Common.{◌∙◌, ap}
use Rattle.cluster_parts.specs.State.{ClusterView}
use Rattle.cluster.proofs.Installing.{placed_next}
use Rattle.cluster.proofs.parts.ClusterParts.next_view.Goals as goal

pub returns : goal.returns
returns c =
    placed_next c.args.self.now c.args.n c.epoch-epoch.result c.as_slice.result.now c.copied_at.result c.requires.parts c.epoch-epoch.ensures
    (c.as_slice.ensures.value ∙ ap (λ (v : ClusterView). v.views) c.self.view_is) c.copied_at.ensures
