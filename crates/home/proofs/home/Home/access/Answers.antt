use Rattle.std.proofs.Common.{ap, sym, ◌∙◌}
use Rattle.node_rules.specs.NodeState.{HomeState}
use Rattle.node_rules.specs.AccessRule.{access}
use Rattle.home_laws.proofs.Accessed.{access_sound}
use Rattle.home.specs.Asked.{asked}
use Rattle.home.specs.Device.{work_on}
use Rattle.home.proofs.Doing.{after_home, leaves_as}
use Rattle.home.proofs.home.Home.access.Goals as goal

pub invariant_of-self : goal.invariant_of-self
invariant_of-self g c =
    let none = sym c.access_refusal.ensures ∙ c.in-None.is in (
      after_home c.access.result c.self.inside.parts.home c.access.new.self.home _ c.access.ensures.home c.self.invariant.0
          (access_sound (asked c.args.a.now) c.args.owned (work_on c.self.inside.parts.home) c.self.invariant.0 none),
      c.access.ensures.prepared,
    )

pub returns-in-None-clause-made : goal.returns-in-None-clause-made
returns-in-None-clause-made g c =
    let node = c.self.invariant.1.1 ∙ ap (λ (h : HomeState). h.txs.node) c.self.view_is in
    let calls = ap (λ (h : HomeState). (access (asked c.args.a.now) c.args.owned (work_on h)).work.calls) c.self.view_is in
    leaves_as _ _ c.access.result _ _ _ _ (sym node) (sym calls) c.access.ensures.made
