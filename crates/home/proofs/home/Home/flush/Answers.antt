use Rattle.std.proofs.Common.{ap, sym, ◌∙◌}
use Rattle.node_rules.specs.NodeState.{HomeState}
use Rattle.node_rules.specs.Work.{write_back}
use Rattle.home.specs.Device.{work_on}
use Rattle.home.proofs.Doing.{ended_leaves, leaves_as}
use Rattle.home.proofs.Kept.{flush_kept}
use Rattle.home.proofs.home.Home.flush.Goals as goal

pub invariant_of-self : goal.invariant_of-self
invariant_of-self g c = flush_kept c.self.inside.parts c.write_back-written.new.self c.args.page c.self.invariant c.write_back-written.ensures.home

pub returns-in-None-clause-made : goal.returns-in-None-clause-made
returns-in-None-clause-made g c =
    let node = c.self.invariant.1.1 ∙ ap (λ (h : HomeState). h.txs.node) c.self.view_is in
    let calls = ap (λ (h : HomeState). (write_back c.args.page (work_on h)).calls) c.self.view_is in
    leaves_as _ _ c.ended.result _ _ _ _ (sym node) (sym calls) (ended_leaves _ c.write_back-written.result _ c.ended.result _ _ _ c.ended.ensures c.write_back-written.ensures.made)
