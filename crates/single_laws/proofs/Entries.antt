-- A page's entry while at most one transaction is open: who asks is granted at once, and who ends leaves.
use Rattle.std.proofs.Common.{◌≡◌, refl, sym, ap, ◌∙◌, ℕ, ◌+◌, ◌==◌, ◌&&◌, Bool, true, false, List, [], ◌∷◌, None, Some}
use Rattle.std.specs.Prelude.{Option}
use Rattle.pcl_base.specs.declared.tx.TxId.{TxId}
use Rattle.pcl_base.specs.declared.tx.Mode.{Mode}
use Rattle.pcl_base.specs.declared.tx.Mode.TheVariants.{Shared, Exclusive}
use Rattle.pcl_base.specs.declared.lock.Holder.{Holder}
use Rattle.pcl_base.specs.declared.lock.Decision.TheVariants.{Grant}
use Rattle.node_rules.specs.Words.{pick, covers, is_exclusive}
use Rattle.node_rules.specs.LockRule.{LockEntry, Settled, ask, mode_of, end_tx, takes_change, settle, settle_within, turn, candidate, first_upgrade, gives_right, hold_alone}
use Rattle.node_rules.specs.LockTable.{PageEntry, LockTable, entry_in, entries_with, entry_at, put_entry}
use Rattle.home_laws.proofs.Tests.{tx_same, number_equal, number_same}

-- the transaction holds the page by its lock, if it has one
abbrev pub holder_if : TxId → Option Mode → List Holder
holder_if t None = []
holder_if t (Some m) = record { tx = t; mode = m } ∷ []

-- an entry at a version, of which a transaction may be a holder
abbrev pub held_entry : ℕ → TxId → Option Mode → LockEntry
held_entry v t m = record { version = v; holders = holder_if t m; rights = []; waiting = [] }

-- a request that its lock doesn't cover is granted
abbrev pub granted_alone : ℕ → TxId → Mode → Option ℕ → Settled
granted_alone v t m have = record { decisions = Grant t m false have ∷ []; entry = held_entry v t (Some m) }

pub settled_alone : (v owner : ℕ) (t : TxId) (o : Option Mode) (m : Mode) (have : Option ℕ) → (t.node == owner) ≡ true → covers o m ≡ false
    → settle owner (ask (held_entry v t o) (record { tx = t; mode = m; have = have })) ≡ granted_alone v t m have
unfolding ask settle settle_within turn candidate first_upgrade gives_right hold_alone mode_of
settled_alone v owner t None Shared have node uncovered = simp (tx_same t, node)
settled_alone v owner t None Exclusive have node uncovered = simp (tx_same t)
settled_alone v owner t (Some Shared) Shared have node uncovered = absurd (cc)
settled_alone v owner t (Some Shared) Exclusive have node uncovered = simp (tx_same t)
settled_alone v owner t (Some Exclusive) m have node uncovered = absurd (cc)

-- who waits for nothing is granted nothing
pub settled_idle : (v owner : ℕ) (t : TxId) (o : Option Mode) → settle owner (held_entry v t o) ≡ record { decisions = []; entry = held_entry v t o }
unfolding settle settle_within
settled_idle v owner t o = refl

-- whether a change is taken
abbrev pub is_taken : Option Mode → ℕ → Option ℕ → Bool
is_taken None v change = false
is_taken (Some m) v None = false
is_taken (Some m) v (Some w) = is_exclusive m && w == v + 1

-- the end of the transaction
pub ended_alone : (v : ℕ) (t : TxId) (o : Option Mode) (change : Option ℕ) → end_tx (held_entry v t o) t change ≡ held_entry (pick (is_taken o v change) (v + 1) v) t None
unfolding end_tx takes_change mode_of
ended_alone v t None None = refl
ended_alone v t None (Some w) = refl
ended_alone v t (Some m) None = simp (tx_same t)
ended_alone v t (Some m) (Some w) = simp (tx_same t)

-- ---- the entries of a table

entry_here : (xs : List PageEntry) (p : ℕ) (e : LockEntry) → entry_in (entries_with xs p e) p ≡ e
unfolding entry_in entries_with
entry_here [] p e = ap (λ b. pick b e (entry_in [] p)) (number_same p)
entry_here (x ∷ xs) p e = by (x.page == p) refl (entry_here xs p e)
  where
    by : (b : Bool) → (x.page == p) ≡ b → entry_in (entries_with xs p e) p ≡ e → entry_in (pick b (record { page = p; entry = e } ∷ xs) (x ∷ entries_with xs p e)) p ≡ e
    by true t ih = ap (λ b. pick b e (entry_in xs p)) (number_same p)
    by false t ih = ap (λ b. pick b x.entry (entry_in (entries_with xs p e) p)) t ∙ ih

entry_there : (xs : List PageEntry) (p q : ℕ) (e : LockEntry) → (p == q) ≡ false → entry_in (entries_with xs p e) q ≡ entry_in xs q
unfolding entry_in entries_with
entry_there [] p q e other = ap (λ b. pick b e (entry_in [] q)) other
entry_there (x ∷ xs) p q e other = by (x.page == p) refl (entry_there xs p q e other)
  where
    by : (b : Bool) → (x.page == p) ≡ b → entry_in (entries_with xs p e) q ≡ entry_in xs q
        → entry_in (pick b (record { page = p; entry = e } ∷ xs) (x ∷ entries_with xs p e)) q ≡ pick (x.page == q) x.entry (entry_in xs q)
    by true t ih =
        let differs : (x.page == q) ≡ false = ap (λ n. n == q) (number_equal x.page p t) ∙ other in
        ap (λ b. pick b e (entry_in xs q)) other ∙ sym (ap (λ b. pick b x.entry (entry_in xs q)) differs)
    by false t ih = ap (λ y. pick (x.page == q) x.entry y) ih

-- the entry that was put, and the others
pub put_here : (t : LockTable) (p : ℕ) (e : LockEntry) → entry_at (put_entry t p e) p ≡ e
put_here t p e = entry_here t.entries p e

pub put_there : (t : LockTable) (p q : ℕ) (e : LockEntry) → (p == q) ≡ false → entry_at (put_entry t p e) q ≡ entry_at t q
put_there t p q e other = entry_there t.entries p q e other
