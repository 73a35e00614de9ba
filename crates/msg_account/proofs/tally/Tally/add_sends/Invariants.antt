use Rattle.std.proofs.Common.{◌≡◌, drop}
use Rattle.msg_account.specs.Counting.{counted, plus, of_sends}
use Rattle.msg_account.proofs.tally.Tally.add_sends.Given as goal

-- what was counted and what is left to be counted are the whole
abbrev pub invariant-loop-sent : goal.invariant-loop-sent
invariant-loop-sent l = plus (counted l.self) (of_sends (drop l.sent-index l.sends)) ≡ plus (counted l.initial.self) (of_sends l.sends)
