use Rattle.std.proofs.Common.{◌∙◌, ap, sym, subst}
use Rattle.node_rules.specs.BufferRule.{Pool, has_slot}
use Rattle.node_rules.specs.NodeState.{HomeState}
use Rattle.node_rules.specs.Work.{with_pool}
use Rattle.home_laws.specs.Homes.{IsHome}
use Rattle.home_laws.proofs.Leaves.{clean_is_sound_law}
use Rattle.home.specs.Parts.{PartsView, IsPrepared}
use Rattle.home.proofs.Cleaned.{clean_none}
use Rattle.home.proofs.home.Home.clean.Goals as goal

pub invariant_of-self : goal.invariant_of-self
invariant_of-self c =
    let memory = c.self.invariant.1.0 in
    subst (λ (v : PartsView). IsHome v.home × IsPrepared v) (sym c.clean.ensures) (
      clean_is_sound_law c.args.page c.self.inside.parts.home c.self.invariant.0,
      (record { rights = memory.rights; places = memory.places; replies = memory.replies }, c.self.invariant.1.1),
    )

pub returns : goal.returns
returns c =
    let none = ap (λ (h : HomeState). has_slot h.pool c.args.page) (sym c.self.view_is) ∙ (sym c.is_slotted.ensures ∙ c.if-is_slotted.false) in
    ap (λ (b : Pool). with_pool c.args.self.now b) (sym (clean_none c.args.self.now.pool c.args.page none))
