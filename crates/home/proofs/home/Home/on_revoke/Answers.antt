use Rattle.std.proofs.Common.{ap, sym, subst}
use Rattle.node_rules.specs.AccessRule.{Answered}
use Rattle.home_laws.specs.Homes.{IsHome}
use Rattle.home_laws.proofs.Revoked.{on_revoke_sound}
use Rattle.home.proofs.home.Home.on_revoke.Goals as goal

pub invariant_of-self : goal.invariant_of-self
invariant_of-self c =
    let home = ap (λ (a : Answered). a.home) c.on_revoke.ensures.answer in (
      subst IsHome (sym home) (on_revoke_sound c.args.page c.self.inside.parts.home c.self.invariant.0),
      c.on_revoke.ensures.prepared c.self.invariant.1,
    )
