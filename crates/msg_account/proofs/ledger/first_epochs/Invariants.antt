use Rattle.std.proofs.Common.{◌≡◌, ◌∷◌, [], replicate}
use Rattle.msg_account.proofs.ledger.first_epochs.Given as goal

abbrev pub invariant-loop : goal.invariant-loop
invariant-loop l = l.installed.items ≡ replicate l.counter (1 ∷ [])
