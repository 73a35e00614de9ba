use Rattle.std.proofs.Common.{◌≡◌, [], replicate}
use Rattle.msg_account.proofs.ledger.no_wants.Given as goal

abbrev pub invariant-loop : goal.invariant-loop
invariant-loop l = l.wanted.items ≡ replicate l.counter []
