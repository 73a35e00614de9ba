use Rattle.std.proofs.Common.{◌+◌, ap, ◌∙◌, false, true, ◌≡◌}
use Rattle.msg_account.proofs.SendLemmas.{entered_one, entered_none, entered_all}
use Rattle.msg_account.proofs.account.first_fault.Goals as goal

pub returns-then-not-branch : goal.returns-then-not-branch
returns-then-not-branch c =
    let missed : c.in_ok-enter.field-0 ≡ false = cc in
    entered_none _ _ _ _ _ _ _ c.loop-entry-test.true c.entry-item.is missed c.in_ok-enter.ensures ∙ c.loop-entry.invariant.1

pub loop-entry-preserved : goal.loop-entry-preserved
loop-entry-preserved c =
    let entered : c.in_ok-enter.field-0 ≡ true = cc in (
      ap (λ i. i + 1) c.loop-entry.invariant.0,
      entered_one _ _ _ _ _ _ _ c.loop-entry-test.true c.entry-item.is entered c.in_ok-enter.ensures ∙ c.loop-entry.invariant.1,
    )

pub returns : goal.returns
returns c = entered_all _ _ _ _ c.loop-entry-test.false ∙ c.loop-entry.invariant.1
