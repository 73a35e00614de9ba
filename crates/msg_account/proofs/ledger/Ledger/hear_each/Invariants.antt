use Rattle.std.proofs.Common.{◌≡◌, drop}
use Rattle.std.specs.List.{fold}
use Rattle.run_rules.specs.Taking.{hear}
use Rattle.msg_account.proofs.ledger.Ledger.hear_each.Given as goal

-- what was heard and what is left to be heard are the whole
abbrev pub invariant-loop-reply : goal.invariant-loop-reply
invariant-loop-reply l = fold (hear l.event l.n) l.self (drop l.reply-index l.replies) ≡ fold (hear l.event l.n) l.initial.self l.replies
