use Rattle.std.proofs.Common.{◌≤◌, sym, subst}
use Rattle.home.proofs.Kept.{begin_kept}
use Rattle.home.proofs.home.Home.begin.Goals as goal

pub invariant_of-self : goal.invariant_of-self
invariant_of-self c =
    begin_kept c.self.inside.parts c.begin.new.self c.begin.result c.self.invariant (subst (λ h. 1 ≤ h.txs.born) (sym c.self.view_is) c.requires) c.begin.ensures.ok
    c.begin.ensures.some c.begin.ensures.err
