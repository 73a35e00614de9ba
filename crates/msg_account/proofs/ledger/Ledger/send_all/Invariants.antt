use Rattle.std.proofs.Common.{◌≡◌, drop}
use Rattle.run_rules.specs.Account.{all_sends}
use Rattle.msg_account.specs.Kept.{sending}
use Rattle.msg_account.proofs.ledger.Ledger.send_all.Given as goal

-- the sends that are left are caused where all are
abbrev pub invariant-loop-sent : goal.invariant-loop-sent
invariant-loop-sent l =
    all_sends l.e l.taken l.n (drop l.sent-index l.sent-items) (sending l.self l.once)
    ≡ all_sends l.e l.taken l.n l.sent-items (sending l.initial.self l.initial.once)
