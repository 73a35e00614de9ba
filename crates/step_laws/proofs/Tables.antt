-- Counts over the entries of all tables.
use Rattle.std.proofs.Common.{◌≡◌, ℕ, ◌+◌, ◌≤◌, ◌==◌, Bool, true, false, List, [], ◌∷◌, Option, Some, None, refl, ap, arith}
use Rattle.node_rules.specs.Words.{pick}
use Rattle.node_rules.specs.LockRule.{LockEntry, idle}
use Rattle.node_rules.specs.LockTable.{LockTable, PageEntry, entry_in, entry_at, entries_with, put_entry}
use Rattle.node_rules.specs.NodeState.{NodeState, table_at, put_table}
use Rattle.step_laws.specs.Most.{sum_of}
use Rattle.step_laws.proofs.Sums.{sum_most, sum_set}

-- a count of all entries of a table
abbrev pub in_table : (LockEntry → ℕ) → Option LockTable → ℕ
in_table f None = 0
in_table f (Some t) = sum_of (λ x. f x.entry) t.entries

-- a count of all entries of a node
abbrev pub in_tables : (LockEntry → ℕ) → NodeState → ℕ
in_tables f n = sum_of (in_table f) n.tables

pub entries_put : (f : LockEntry → ℕ) → f (idle 0) ≡ 0 → (xs : List PageEntry) (p : ℕ) (e : LockEntry)
    → sum_of (λ x. f x.entry) (entries_with xs p e) + f (entry_in xs p) ≡ sum_of (λ x. f x.entry) xs + f e
unfolding entries_with entry_in
entries_put f none [] p e = omega (arith, none)
entries_put f none (x ∷ xs) p e = by (x.page == p) (entries_put f none xs p e)
  where
    by : (b : Bool) → sum_of (λ x. f x.entry) (entries_with xs p e) + f (entry_in xs p) ≡ sum_of (λ x. f x.entry) xs + f e
        → sum_of (λ x. f x.entry) (pick b (record { page = p; entry = e } ∷ xs) (x ∷ entries_with xs p e)) + f (pick b x.entry (entry_in xs p)) ≡ f x.entry + sum_of (λ x. f x.entry) xs + f e
    by true rest = omega arith
    by false rest = omega (arith, rest)

pub table_put : (f : LockEntry → ℕ) (n : NodeState) (q : ℕ) (o : Option LockTable) → in_tables f (put_table n q o) + in_table f (table_at n q) ≤ in_tables f n + in_table f o
table_put f n q o = sum_set (in_table f) None refl n.tables q o

-- an entry in the place of another
pub entry_put : (f : LockEntry → ℕ) → f (idle 0) ≡ 0 → (n : NodeState) (q : ℕ) (t : LockTable) (p : ℕ) (e : LockEntry) → table_at n q ≡ Some t
    → in_tables f (put_table n q (Some (put_entry t p e))) + f (entry_at t p) ≤ in_tables f n + f e
entry_put f none n q t p e there =
    let set = table_put f n q (Some (put_entry t p e)) in
    let old : in_table f (table_at n q) ≡ in_table f (Some t) = ap (in_table f) there in
    let new = entries_put f none t.entries p e in
    omega (arith, set, old, new)

pub table_less : (f g : LockEntry → ℕ) → ((e : LockEntry) → f e ≤ g e) → (o : Option LockTable) → in_table f o ≤ in_table g o
table_less f g each None = omega arith
table_less f g each (Some t) = sum_most (λ (x : PageEntry). f x.entry) (λ x. g x.entry) (λ x. each x.entry) t.entries

pub tables_less : (f g : LockEntry → ℕ) → ((e : LockEntry) → f e ≤ g e) → (n : NodeState) → in_tables f n ≤ in_tables g n
tables_less f g each n = sum_most (in_table f) (in_table g) (table_less f g each) n.tables
