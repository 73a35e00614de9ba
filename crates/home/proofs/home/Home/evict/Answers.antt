use Rattle.std.proofs.Common.{ap, sym, ◌∙◌}
use Rattle.node_rules.specs.NodeState.{HomeState}
use Rattle.home.specs.Device.{work_on}
use Rattle.home.specs.Answers.{evict_copy}
use Rattle.home.proofs.Doing.{ended_leaves, leaves_as}
use Rattle.home.proofs.Kept.{evict_kept, evict_allowed}
use Rattle.home.proofs.home.Home.evict.Goals as goal

pub invariant_of-self : goal.invariant_of-self
invariant_of-self g c =
    let none = sym c.evict_refusal.ensures ∙ c.in-None.is in
    evict_kept c.self.inside.parts c.evict_copy-written.new.self c.args.page c.self.invariant (evict_allowed c.args.page c.self.inside.parts.home none).1 c.evict_copy-written.ensures.home

pub returns-in-None-clause-made : goal.returns-in-None-clause-made
returns-in-None-clause-made g c =
    let node = c.self.invariant.1.1 ∙ ap (λ (h : HomeState). h.txs.node) c.self.view_is in
    let calls = ap (λ (h : HomeState). (evict_copy c.args.page (work_on h)).calls) c.self.view_is in
    leaves_as _ _ c.ended.result _ _ _ _ (sym node) (sym calls) (ended_leaves _ c.evict_copy-written.result _ c.ended.result _ _ _ c.ended.ensures c.evict_copy-written.ensures.made)
