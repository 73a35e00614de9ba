use Rattle.std.proofs.Common.{◌≡◌, replicate}
use Rattle.msg_account.proofs.ledger.copies.Given as goal

abbrev pub invariant-loop : goal.invariant-loop
invariant-loop l = l.seen.items ≡ replicate l.counter l.view
