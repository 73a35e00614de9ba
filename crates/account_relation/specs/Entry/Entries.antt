-- What messages make of an entry, against what the account takes with them: items of those that wait, and rights that are out.
use Rattle.std.specs.Prelude.{ℕ, not, Bool, false, List, [], ◌∷◌, ◌++◌, Option}
use Rattle.std.specs.List.{filter}
use Rattle.pcl_base.specs.declared.lock.Waiter.{Waiter}
use Rattle.pcl_base.specs.declared.tx.TxId.{TxId}
use Rattle.run_rules.specs.Ledger.{Want, Out, wants_page, is_out}
use Rattle.node_rules.specs.LockRule.{LockEntry, ask, end_tx, returned, reported_right, purge}
use Rattle.account_relation.specs.Settle.Settling.{AreWanted, AreOut}

-- A request: its item comes last, and its transaction waits, unless it did or needn't.
abbrev pub AskingIsWanted : Type 0
AskingIsWanted =
    (owner p : ℕ) (e : LockEntry) (ws : List Want) (w : Waiter) → AreWanted owner p ws e.waiting
    → AreWanted owner p (ws ++ record { tx = w.tx; page = p; mode = w.mode } ∷ []) (ask e w).waiting

-- A release: the items of its transaction for the page are gone, and it waits no more.
abbrev pub EndingIsWanted : Type 0
EndingIsWanted =
    (owner p : ℕ) (e : LockEntry) (ws : List Want) (t : TxId) (change : Option ℕ) → AreWanted owner p ws e.waiting
    → AreWanted owner p (filter (λ w. not (wants_page t p w)) ws) (end_tx e t change).waiting

-- A purge leaves those of live nodes that wait with their items.
abbrev pub PurgingIsWanted : Type 0
PurgingIsWanted = (owner p : ℕ) (e : LockEntry) (ws : List Want) (live : List Bool) → AreWanted owner p ws e.waiting → AreWanted owner p ws (purge e live).waiting

-- A right that comes back: the node has none of the page out.
abbrev pub ReturningIsOut : Type 0
ReturningIsOut =
    (p n : ℕ) (e : LockEntry) (outs : List Out) (readers : List TxId) → AreOut p outs e.rights
    → AreOut p (filter (λ r. not (is_out n p r)) outs) (returned e n readers).rights

-- A right that a report lists is out.
abbrev pub ReportingIsOut : Type 0
ReportingIsOut =
    (p n : ℕ) (e : LockEntry) (outs : List Out) → AreOut p outs e.rights
    → AreOut p (outs ++ record { node = n; page = p; revoked = false } ∷ []) (reported_right e n).rights

-- What live nodes have is out.
abbrev pub PurgingIsOut : Type 0
PurgingIsOut = (p : ℕ) (e : LockEntry) (outs : List Out) (live : List Bool) → AreOut p outs e.rights → AreOut p outs (purge e live).rights
