-- What a planned entry comes to: it is put into its table, and its decisions are carried out.
use Rattle.std.proofs.Common.{◌≡◌, ℕ, ◌+◌, ◌<◌, ◌≤◌, ◌==◌, nat_lt, Bool, true, false, List, [], ◌∷◌, length, get_or, set, Option, Some, None, refl, ap, sym, ◌∙◌, subst, arith}
use Rattle.std.proofs.lemmas.Bool.Decides.{nat_tests}
use Rattle.std.proofs.lemmas.List.{get_or-set_same, set-set, set-get_or, get_or_past}
use Rattle.pcl_base.specs.declared.lock.Decision.{Decision}
use Rattle.node_rules.specs.Words.{pick}
use Rattle.node_rules.specs.LockRule.{LockEntry, Settled, settle}
use Rattle.node_rules.specs.LockTable.{LockTable, PageEntry, entry_in, entries_with, entry_at, put_entry}
use Rattle.node_rules.specs.NodeState.{NodeState, number_of, partition, table_of, put_table}
use Rattle.node_rules.specs.Work.{Work, Outcome, Goes, Differs, for_each}
use Rattle.node_rules.specs.OwnerRule.{with_table, carry_out, carry_all, settle_served, settle_in, settle_page, enter_in, enter}
use Rattle.authority.specs.Plans.{settled}

same_number : (p : ℕ) → (p == p) ≡ true
same_number p = grind (arith, nat_tests)

-- the entry that was put at a page is found there
module _ (p : ℕ) (e : LockEntry) where
  found_case : (x : PageEntry) (xs : List PageEntry) (b : Bool) → (x.page == p) ≡ b → entry_in (entries_with xs p e) p ≡ e
      → entry_in (pick b (record { page = p; entry = e } ∷ xs) (x ∷ entries_with xs p e)) p ≡ e
  unfolding entry_in
  found_case x xs true is rest = ap (λ b. pick b e (entry_in xs p)) (same_number p)
  found_case x xs false is rest = ap (λ b. pick b x.entry (entry_in (entries_with xs p e) p)) is ∙ rest

  pub found_put : (xs : List PageEntry) → entry_in (entries_with xs p e) p ≡ e
  unfolding entry_in entries_with
  found_put [] = ap (λ b. pick b e (entry_in [] p)) (same_number p)
  found_put (x ∷ xs) = found_case x xs (x.page == p) refl (found_put xs)

-- what is put later at the same page takes the place of the first
module _ (p : ℕ) (e d : LockEntry) where
  twice_case : (x : PageEntry) (xs : List PageEntry) (b : Bool) → (x.page == p) ≡ b → entries_with (entries_with xs p e) p d ≡ entries_with xs p d
      → entries_with (pick b (record { page = p; entry = e } ∷ xs) (x ∷ entries_with xs p e)) p d ≡ pick b (record { page = p; entry = d } ∷ xs) (x ∷ entries_with xs p d)
  unfolding entries_with
  twice_case x xs true is rest = ap (λ b. pick b (record { page = p; entry = d } ∷ xs) (record { page = p; entry = e } ∷ entries_with xs p d)) (same_number p)
  twice_case x xs false is rest =
      ap (λ b. pick b (record { page = p; entry = d } ∷ entries_with xs p e) (x ∷ entries_with (entries_with xs p e) p d)) is
      ∙ ap (λ l. x ∷ l) rest

  pub put_twice : (xs : List PageEntry) → entries_with (entries_with xs p e) p d ≡ entries_with xs p d
  unfolding entries_with
  put_twice [] = ap (λ b. pick b (record { page = p; entry = d } ∷ []) (record { page = p; entry = e } ∷ record { page = p; entry = d } ∷ [])) (same_number p)
  put_twice (x ∷ xs) = twice_case x xs (x.page == p) refl (put_twice xs)

-- a place with a table is one of the places
pub table_within : (l : List (Option LockTable)) (q : ℕ) (t : LockTable) → get_or l q None ≡ Some t → q < length l
table_within l q t there = by (nat_lt q (length l)) refl
  where
    past : nat_lt q (length l) ≡ false → length l ≤ q
    past out = grind (arith, nat_tests)

    within : nat_lt q (length l) ≡ true → q < length l
    within is = grind (arith, nat_tests)

    by : (b : Bool) → nat_lt q (length l) ≡ b → q < length l
    by true is = within is
    by false out = let none : get_or l q None ≡ None = get_or_past l q None (past out) in absurd (cc)

module _ (p : ℕ) (t : LockTable) (w : Work) (there : table_of w.node p ≡ Some t) where
  abbrev q : ℕ
  q = partition w.node.home.config p

  -- the table that was put is there
  pub table_put : (new : LockTable) → table_of (with_table p new w).node p ≡ Some new
  table_put new = get_or-set_same w.node.tables q (Some new) None (table_within w.node.tables q t there)

  -- a table that is put later takes the place of the first
  pub tables_twice : (x y : LockTable) → with_table p y (with_table p x w) ≡ with_table p y w
  tables_twice x y = ap (λ l. record w { node = record (w.node) { tables = l } }) (set-set w.node.tables q (Some x) (Some y))

  -- the table that is there is put
  pub table_same : with_table p t w ≡ w
  table_same =
      ap (λ l. record w { node = record (w.node) { tables = l } })
      (ap (λ o. set w.node.tables q o) (sym there) ∙ set-get_or w.node.tables q None)

  -- the entry that was settled takes the place of the one that was put
  entered_twice : (e d : LockEntry) → with_table p (put_entry (put_entry t p e) p d) (with_table p (put_entry t p e) w) ≡ with_table p (put_entry t p d) w
  entered_twice e d =
      tables_twice (put_entry t p e) (put_entry (put_entry t p e) p d)
      ∙ ap (λ l. with_table p (record t { entries = l }) w) (put_twice p e d t.entries)

  settled_in : (b : Bool) (e : LockEntry) → settle_served b p (put_entry t p e) (with_table p (put_entry t p e) w) ≡ carry_all p t (settled b (number_of w.node) e) w
  unfolding for_each
  settled_in true e =
      ap (λ x. carry_all p (put_entry t p e) (settle (number_of w.node) x) (with_table p (put_entry t p e) w)) (found_put p e t.entries)
      ∙ ap (λ x. for_each (carry_out p (settle (number_of w.node) e).entry.version) (settle (number_of w.node) e).decisions x) (entered_twice e (settle (number_of w.node) e).entry)
  settled_in false e = refl

  -- an entry that changes is the planned one, and the decisions of the plan are carried out
  pub enter_as_plan : (f : LockEntry → LockEntry) → enter f p w ≡ carry_all p t (settled t.serving (number_of w.node) (f (entry_at t p))) w
  unfolding enter settle_page
  enter_as_plan f =
      ap (λ o. enter_in f p o w) there
      ∙ ap (λ o. settle_in p o (with_table p (put_entry t p (f (entry_at t p))) w)) (table_put (put_entry t p (f (entry_at t p))))
      ∙ settled_in t.serving (f (entry_at t p))

  -- a page that is settled has the planned entry, where its table has one for it
  pub settle_as_plan : put_entry t p (entry_at t p) ≡ t → settle_page p w ≡ carry_all p t (settled t.serving (number_of w.node) (entry_at t p)) w
  unfolding settle_page for_each
  settle_as_plan same = ap (λ o. settle_in p o w) there ∙ by t.serving
    where
      by : (b : Bool) → settle_served b p t w ≡ carry_all p t (settled b (number_of w.node) (entry_at t p)) w
      by true = refl
      by false = ap Goes (sym (ap (λ x. with_table p x w) same ∙ table_same))
