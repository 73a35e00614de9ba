use Rattle.std.proofs.Common.{◌∙◌, sym, ap, is_some}
use Rattle.lock_entry.proofs.Lists.{upgrade_here, upgrade_next, upgrade_past}
use Rattle.lock_entry.proofs.settle.first_upgrade.Goals as goal

pub returns : goal.returns
returns c = sym (upgrade_past _ _ _ c.loop-waiter-test.false) ∙ c.loop-waiter.invariant

pub returns-then-is_some : goal.returns-then-is_some
returns-then-is_some c =
    let holds = ap (λ o. is_some o) (sym c.mode_of.ensures) ∙ (sym c.is_some.ensures ∙ c.if-is_some.true) in
    sym (upgrade_here _ _ _ _ c.loop-waiter-test.true holds) ∙ c.loop-waiter.invariant

pub loop-waiter-preserved : goal.loop-waiter-preserved
loop-waiter-preserved c =
    let other = ap (λ o. is_some o) (sym c.mode_of.ensures) ∙ (sym c.is_some.ensures ∙ c.if-is_some.false) in
    upgrade_next _ _ _ _ c.loop-waiter-test.true other ∙ c.loop-waiter.invariant
