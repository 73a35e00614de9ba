use Rattle.std.proofs.Common.{◌≡◌, ◌<◌, ◌∙◌, length, ap, sym, subst}
use Rattle.node_rules.specs.NodeState.{HomeState}
use Rattle.node_rules.specs.OwnerRule.{put_change}
use Rattle.home.specs.Device.{work_on}
use Rattle.home.proofs.Changing.{change_kept}
use Rattle.home.proofs.Doing.{ended_leaves, leaves_as}
use Rattle.home.proofs.home.Home.take_change.Goals as goal

pub take_change-written-requires-clause-go : goal.take_change-written-requires-clause-go
take_change-written-requires-clause-go g c k d lt e = (c.self.invariant.0.kept k d lt, c.self.invariant.0.below k d lt)

pub invariant_of-self : goal.invariant_of-self
invariant_of-self g c =
    change_kept c.self.inside.parts c.take_change-written.new.self c.args.page c.args.change.now c.self.invariant
    (subst (λ (h : HomeState). c.args.page < h.config.pages) (sym c.self.view_is) c.requires.page)
    (subst (λ (h : HomeState). length c.args.change.now.image ≡ h.config.size) (sym c.self.view_is) c.requires.image) c.take_change-written.ensures.home

pub returns-clause-made : goal.returns-clause-made
returns-clause-made g c =
    let node = c.self.invariant.1.1 ∙ ap (λ (h : HomeState). h.txs.node) c.self.view_is in
    let calls = ap (λ (h : HomeState). (put_change c.args.page c.args.change.now (work_on h)).calls) c.self.view_is in
    leaves_as _ _ c.ended.result _ _ _ _ (sym node) (sym calls) (ended_leaves _ c.take_change-written.result _ c.ended.result _ _ _ c.ended.ensures c.take_change-written.ensures.made)
