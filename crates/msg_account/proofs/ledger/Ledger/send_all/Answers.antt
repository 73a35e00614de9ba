use Rattle.std.proofs.Common.{ap, ◌∙◌, sym, false, true, ◌≡◌}
use Rattle.run_rules.specs.Account.{all_sends}
use Rattle.msg_account.specs.Kept.{sending}
use Rattle.msg_account.proofs.SendLemmas.{sent_one, sent_none, sent_all}
use Rattle.msg_account.proofs.ledger.Ledger.send_all.Goals as goal

pub returns-then-not-branch : goal.returns-then-not-branch
returns-then-not-branch c =
    let missed : c.in_ok-send.field-0 ≡ false = cc in
    sent_none _ _ _ _ _ _ _ _ _ _ c.loop-sent-test.true c.sent-item.is missed c.in_ok-send.ensures
    ∙ c.loop-sent.invariant
    ∙ ap (λ xs. all_sends c.args.e.now c.args.taken.now c.args.n xs (sending c.args.self.now c.args.once.now)) c.as_slice-sent-items.ensures

pub loop-sent-preserved : goal.loop-sent-preserved
loop-sent-preserved c =
    let caused : c.in_ok-send.field-0 ≡ true = cc in
    sent_one _ _ _ _ _ _ _ _ _ _ c.loop-sent-test.true c.sent-item.is caused c.in_ok-send.ensures ∙ c.loop-sent.invariant

pub returns : goal.returns
returns c =
    c.still_wait.ensures
    ∙ sym (sent_all _ _ _ c.as_slice-sent-items.result.now _ _ c.loop-sent-test.false)
    ∙ c.loop-sent.invariant
    ∙ ap (λ xs. all_sends c.args.e.now c.args.taken.now c.args.n xs (sending c.args.self.now c.args.once.now)) c.as_slice-sent-items.ensures
