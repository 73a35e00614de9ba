-- The ledger of a trace, entry by entry.
use Rattle.std.proofs.Common.{◌≡◌, refl, ap, sym, ◌∙◌, ℕ, ◌+◌, List, [], ◌∷◌, ◌++◌, Option, Some, None}
use Rattle.pcl_base.specs.declared.trace.Entry.{Entry}
use Rattle.run_rules.specs.Account.{after_entry, go_on, account_from}
use Rattle.run_rules.specs.Ledger.{Ledger, first_ledger}
use Rattle.account_relation.specs.Ledgers.{and_then, ledger_after, LedgersAccount, LedgersGoOn, LedgersAreOne}

accounted : (n : ℕ) (es : List Entry) (l m : Ledger) → ledger_after es l ≡ Some m → account_from n es l ≡ None
unfolding account_from ledger_after
accounted n [] l m e = refl
accounted n (x ∷ es) l m e = by (after_entry x l) (λ k. accounted (n + 1) es k m) e
  where
    by : (o : Option Ledger) → ((k : Ledger) → ledger_after es k ≡ Some m → account_from (n + 1) es k ≡ None) → and_then o (ledger_after es) ≡ Some m → go_on n o (account_from (n + 1) es) ≡ None
    by None rest e = absurd (cc)
    by (Some k) rest e = rest k e

-- the last entry is heard last
joined : (es : List Entry) (x : Entry) (l : Ledger) → ledger_after (es ++ x ∷ []) l ≡ and_then (ledger_after es l) (after_entry x)
unfolding ledger_after
joined [] x l = by (after_entry x l)
  where
    by : (o : Option Ledger) → and_then o (ledger_after []) ≡ o
    by None = refl
    by (Some k) = refl
joined (y ∷ es) x l = by (after_entry y l) (λ k. joined es x k)
  where
    by : (o : Option Ledger) → ((k : Ledger) → ledger_after (es ++ x ∷ []) k ≡ and_then (ledger_after es k) (after_entry x))
        → and_then o (ledger_after (es ++ x ∷ [])) ≡ and_then (and_then o (ledger_after es)) (after_entry x)
    by None rest = refl
    by (Some k) rest = rest k

pub ledgers_account_law : LedgersAccount
ledgers_account_law c trace l leaves = accounted 1 trace (first_ledger c) l leaves

pub ledgers_go_on_law : LedgersGoOn
ledgers_go_on_law c trace e l m leaves after = joined trace e (first_ledger c) ∙ ap (λ o. and_then o (after_entry e)) leaves ∙ after

pub ledgers_are_one_law : LedgersAreOne
ledgers_are_one_law c trace e l m leaves further = sym (joined trace e (first_ledger c) ∙ ap (λ o. and_then o (after_entry e)) leaves) ∙ further
