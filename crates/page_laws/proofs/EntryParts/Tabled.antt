-- The looks at a table after each change of it.
use Rattle.std.proofs.Common.{◌≡◌, ℕ, zero, suc, ◌==◌, ◌&&◌, ◌||◌, nat_lt, Bool, true, false, List, [], ◌∷◌, length, map, replicate, slice_set, slice_index_or, refl, sym, ap, subst, ◌∙◌, arith}
use Rattle.std.proofs.lemmas.Bool.Decides.{nat_tests}
use Rattle.node_rules.specs.Words.{pick}
use Rattle.node_rules.specs.LockRule.{LockEntry, idle, purge}
use Rattle.node_rules.specs.LockTable.{PageEntry, open_table, pages_of, entry_in, entry_at, entries_with}
use Rattle.page_laws.specs.Entry.Tables.{NewTablesAreIdle, TablesAreSeen}
use Rattle.page_laws.proofs.EntryParts.Words.{number_equal, number_other}
use Rattle.page_laws.proofs.EntryParts.Looked.{or_none}

-- the entry of a page after another one was put
pub entry_put : (xs : List PageEntry) (p : ℕ) (e : LockEntry) (r : ℕ) → entry_in (entries_with xs p e) r ≡ pick (p == r) e (entry_in xs r)
unfolding entry_in entries_with
entry_put [] p e r = refl
entry_put (x ∷ xs) p e r = by (x.page == p) refl (entry_put xs p e r)
  where
    under : (b : Bool) (y z : LockEntry) → pick b e y ≡ pick b e (pick b z y)
    under true y z = refl
    under false y z = refl

    skip : (d b : Bool) (y : LockEntry) → (d ≡ true → b ≡ false) → pick d x.entry (pick b e y) ≡ pick b e (pick d x.entry y)
    skip true true y f = let bad = f refl in absurd (cc)
    skip true false y f = refl
    skip false b y f = refl

    by : (b : Bool) → (x.page == p) ≡ b → entry_in (entries_with xs p e) r ≡ pick (p == r) e (entry_in xs r)
        → entry_in (pick b (record { page = p; entry = e } ∷ xs) (x ∷ entries_with xs p e)) r ≡ pick (p == r) e (pick (x.page == r) x.entry (entry_in xs r))
    by true f rest = under (p == r) (entry_in xs r) x.entry ∙ ap (λ n. pick (p == r) e (pick (n == r) x.entry (entry_in xs r))) (sym (number_equal x.page p f))
    by false f rest =
        ap (λ y. pick (x.page == r) x.entry y) rest
        ∙ skip (x.page == r) (p == r) (entry_in xs r) (λ g. number_other p r (λ s. let same : (x.page == p) ≡ true = subst (λ n. (x.page == n) ≡ true) (sym s) g in absurd (cc)))

-- marks
pub flag_set : (flags : List Bool) (n m : ℕ) → slice_index_or (slice_set flags n true) m false ≡ slice_index_or flags m false || (n == m && nat_lt n (length flags))
flag_set [] n m = by (n == m)
  where
    by : (b : Bool) → false ≡ b && nat_lt n 0
    by true = grind (arith, nat_tests)
    by false = refl
flag_set (b ∷ flags) zero zero = by b
  where
    by : (c : Bool) → true ≡ c || (true && nat_lt 0 (length (b ∷ flags)))
    by true = refl
    by false = grind (arith, nat_tests)
flag_set (b ∷ flags) zero (suc m) = grind (arith, nat_tests, or_none (slice_index_or flags m false))
flag_set (b ∷ flags) (suc n) zero = grind (arith, nat_tests, or_none b)
flag_set (b ∷ flags) (suc n) (suc m) = flag_set flags n m ∙ ap (λ c. slice_index_or flags m false || c) (by (n == m) refl)
  where
    by : (c : Bool) → (n == m) ≡ c → c && nat_lt n (length flags) ≡ (suc n == suc m) && nat_lt (suc n) (length (b ∷ flags))
    by true f = grind (arith, nat_tests)
    by false f = grind (arith, nat_tests)

-- a new table
idle_in : (ps : List ℕ) (p : ℕ) → entry_in (map (λ p. record { page = p; entry = idle 0 }) ps) p ≡ idle 0
unfolding entry_in
idle_in [] p = refl
idle_in (x ∷ ps) p = by (x == p) (idle_in ps p)
  where
    by : (b : Bool) → entry_in (map (λ p. record { page = p; entry = idle 0 }) ps) p ≡ idle 0 → pick b (idle 0) (entry_in (map (λ p. record { page = p; entry = idle 0 }) ps) p) ≡ idle 0
    by true r = refl
    by false r = r

no_flag : (k n : ℕ) → slice_index_or (replicate k false) n false ≡ false
no_flag zero n = refl
no_flag (suc k) zero = refl
no_flag (suc k) (suc n) = no_flag k n

pub new_tables_are_idle_law : NewTablesAreIdle
unfolding open_table
new_tables_are_idle_law c q p serving = (idle_in (pages_of c q) p, λ n. no_flag c.nodes n)

-- a purge
purged_in : (live : List Bool) (xs : List PageEntry) (p : ℕ) → entry_in (map (λ x. record { page = x.page; entry = purge x.entry live }) xs) p ≡ purge (entry_in xs p) live
unfolding entry_in purge
purged_in live [] p = refl
purged_in live (x ∷ xs) p = by (x.page == p) (purged_in live xs p)
  where
    by : (b : Bool) → entry_in (map (λ x. record { page = x.page; entry = purge x.entry live }) xs) p ≡ purge (entry_in xs p) live
        → pick b (purge x.entry live) (entry_in (map (λ x. record { page = x.page; entry = purge x.entry live }) xs) p) ≡ purge (pick b x.entry (entry_in xs p)) live
    by true r = refl
    by false r = r

pub tables_are_seen_law : TablesAreSeen
tables_are_seen_law t =
    record {
      put = λ p e r. entry_put t.entries p e r;
      version = λ p v r. entry_put t.entries p (record (entry_at t p) { version = v }) r;
      purged = λ live p. purged_in live t.entries p;
      served = λ p. refl;
      marks = λ n m. flag_set t.reported n m;
      marking = λ n p. refl;
    }
