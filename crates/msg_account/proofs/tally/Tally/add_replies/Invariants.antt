use Rattle.std.proofs.Common.{◌≡◌, drop}
use Rattle.msg_account.specs.Counting.{counted, plus, of_replies}
use Rattle.msg_account.proofs.tally.Tally.add_replies.Given as goal

-- what was counted and what is left to be counted are the whole
abbrev pub invariant-loop-reply : goal.invariant-loop-reply
invariant-loop-reply l = plus (counted l.self) (of_replies (drop l.reply-index l.replies)) ≡ plus (counted l.initial.self) (of_replies l.replies)
