use Rattle.std.proofs.Common.{◌≡◌, ◌+◌, drop}
use Rattle.run_rules.specs.Account.{account_from}
use Rattle.msg_account.proofs.account.first_fault.Given as goal

-- the first fault of what is left is that of the whole
abbrev pub invariant-loop-entry : goal.invariant-loop-entry
invariant-loop-entry l =
    (l.number ≡ l.entry-index) × (account_from (l.number + 1) (drop l.entry-index l.entries) l.ledger ≡ account_from 1 l.entries l.initial.ledger)
