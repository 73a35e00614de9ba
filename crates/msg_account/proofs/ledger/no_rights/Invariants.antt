use Rattle.std.proofs.Common.{◌≡◌, [], replicate}
use Rattle.msg_account.proofs.ledger.no_rights.Given as goal

abbrev pub invariant-loop : goal.invariant-loop
invariant-loop l = l.rights.items ≡ replicate l.counter []
