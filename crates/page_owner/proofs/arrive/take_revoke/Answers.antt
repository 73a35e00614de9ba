use Rattle.std.proofs.Common.{ap, sym, subst}
use Rattle.node_rules.specs.AccessRule.{Answered}
use Rattle.node_parts.specs.contracts.parts.Parts.{the_view}
use Rattle.node_parts.specs.State.{PartsView, AreParts}
use Rattle.page_owner.specs.Carry.{SameNode}
use Rattle.page_owner.proofs.Arriving.{revoke_keeps}
use Rattle.page_owner.proofs.Planned.{home_parts}
use Rattle.page_owner.proofs.arrive.take_revoke.Goals as goal

pub returns-clause-parts : goal.returns-clause-parts
returns-clause-parts c =
    home_parts (the_view c.parts.inside) c.on_revoke.new.self
    (subst (SameNode c.parts.inside.home) (sym (ap (λ (a : Answered). a.home) c.on_revoke.ensures)) (revoke_keeps c.args.page c.parts.inside.home))
    (subst AreParts (sym c.parts.view_is) c.requires.parts)

pub returns-clause-same : goal.returns-clause-same
returns-clause-same c =
    subst (λ (v : PartsView). SameNode v.home c.on_revoke.new.self) c.parts.view_is
    (subst (SameNode c.parts.inside.home) (sym (ap (λ (a : Answered). a.home) c.on_revoke.ensures)) (revoke_keeps c.args.page c.parts.inside.home))
