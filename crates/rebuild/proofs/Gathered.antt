-- The lists of a report, put into a table one after another.
use Rattle.std.proofs.Common.{◌≡◌, ℕ, suc, ◌+◌, ◌<◌, ◌≤◌, List, ◌∷◌, length, get_or, drop, drop-cons, ap, sym, ◌∙◌, arith}
use Rattle.std.proofs.Math.ListN.{drop_of_length-le}
use Rattle.pcl_base.specs.declared.message.ReportLock.{ReportLock}
use Rattle.pcl_base.specs.declared.message.ReportRight.{ReportRight}
use Rattle.pcl_base.specs.declared.message.ReportWait.{ReportWait}
use Rattle.node_rules.specs.LockRule.{ask, reported, reported_right}
use Rattle.node_rules.specs.LockTable.{LockTable, entry_at, put_entry}
use Rattle.node_rules.specs.Reports.{gather_locks, gather_rights, gather_waits}

front : {X : Type 0} (xs : List X) (i : ℕ) (d : X) → i < length xs → drop i xs ≡ get_or xs i d ∷ drop (i + 1) xs
front xs i d within =
    let next : suc i ≡ i + 1 = omega arith in
    drop-cons xs i d within ∙ ap (λ k. get_or xs i d ∷ drop k xs) next

-- a table with a lock that is reported
abbrev with_lock : LockTable → ReportLock → LockTable
with_lock t x = put_entry t x.page (reported (entry_at t x.page) x.tx x.mode)

-- one more lock is in the table, and all are
pub locks_step : (xs : List ReportLock) (i : ℕ) (d : ReportLock) (t later : LockTable) → i < length xs
    → later ≡ with_lock t (get_or xs i d) → gather_locks later (drop (i + 1) xs) ≡ gather_locks t (drop i xs)
unfolding gather_locks
locks_step xs i d t later within changed =
    ap (λ u. gather_locks u (drop (i + 1) xs)) changed ∙ sym (ap (gather_locks t) (front xs i d within))

pub locks_end : (xs : List ReportLock) (i : ℕ) (t : LockTable) → length xs ≤ i → t ≡ gather_locks t (drop i xs)
unfolding gather_locks
locks_end xs i t past = sym (ap (gather_locks t) (drop_of_length-le xs past))

-- a table with a right that a node reports
abbrev with_right : ℕ → LockTable → ReportRight → LockTable
with_right n t x = put_entry t x.page (reported_right (entry_at t x.page) n)

-- one more right is in the table, and all are
pub rights_step : (n : ℕ) (xs : List ReportRight) (i : ℕ) (d : ReportRight) (t later : LockTable) → i < length xs
    → later ≡ with_right n t (get_or xs i d) → gather_rights later n (drop (i + 1) xs) ≡ gather_rights t n (drop i xs)
unfolding gather_rights
rights_step n xs i d t later within changed =
    ap (λ u. gather_rights u n (drop (i + 1) xs)) changed ∙ sym (ap (gather_rights t n) (front xs i d within))

pub rights_end : (n : ℕ) (xs : List ReportRight) (i : ℕ) (t : LockTable) → length xs ≤ i → t ≡ gather_rights t n (drop i xs)
unfolding gather_rights
rights_end n xs i t past = sym (ap (gather_rights t n) (drop_of_length-le xs past))

-- a table with a waiting access that is reported
abbrev with_wait : LockTable → ReportWait → LockTable
with_wait t x = put_entry t x.page (ask (entry_at t x.page) (record { tx = x.tx; mode = x.mode; have = x.have }))

-- one more waiting access is in the table, and all are
pub waits_step : (xs : List ReportWait) (i : ℕ) (d : ReportWait) (t later : LockTable) → i < length xs
    → later ≡ with_wait t (get_or xs i d) → gather_waits later (drop (i + 1) xs) ≡ gather_waits t (drop i xs)
unfolding gather_waits
waits_step xs i d t later within changed =
    ap (λ u. gather_waits u (drop (i + 1) xs)) changed ∙ sym (ap (gather_waits t) (front xs i d within))

pub waits_end : (xs : List ReportWait) (i : ℕ) (t : LockTable) → length xs ≤ i → t ≡ gather_waits t (drop i xs)
unfolding gather_waits
waits_end xs i t past = sym (ap (gather_waits t) (drop_of_length-le xs past))
