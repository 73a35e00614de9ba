use Rattle.std.proofs.Common.{◌∙◌, ap}
use Rattle.node_rules.specs.NodeState.{runs_at}
use Rattle.home.specs.Parts.{PartsView}
use Rattle.home.proofs.Committing.{runs_inside}
use Rattle.home.proofs.parts.Parts.logged.Goals as goal

pub ranges_of-requires : goal.ranges_of-requires
ranges_of-requires c =
    runs_inside c.args.self.now.home c.args.tx c.args.page _ _ c.requires.home (c.runs.ensures ∙ ap (λ (v : PartsView). runs_at v.home.written c.args.tx c.args.page) c.self.view_is)
    (c.in-Some.ensures.len ∙ ap (λ (v : PartsView). v.home.pool.size) c.self.view_is)
