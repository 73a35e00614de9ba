-- The entries of a table that are purged one after another.
use Rattle.std.proofs.Common.{◌≡◌, ℕ, zero, suc, ◌+◌, ◌%◌, ◌<◌, ◌≤◌, ◌==◌, ◌&&◌, ◌||◌, nat_eq, nat_lt, Bool, true, false, cond, Option, Some, None, IsSome, is_some, unwrap_or, List, [], ◌∷◌, map, length, get_or, take, refl, ap, sym, subst, ◌∙◌, arith}
use Rattle.std.proofs.Math.Nat.{add-mod_right, mod-eq_of_lt}
use Rattle.std.proofs.lemmas.Bool.Decides.{nat_tests}
use Rattle.std.proofs.lemmas.List.{take_all}
use Rattle.std.proofs.lemmas.List.Folds.{list_any_more, list_any_at}
use Rattle.std.proofs.lemmas.List.Sorted.{list_any-IsPermutation}
use Rattle.std.proofs.lemmas.Map.{lookup-set_value}
use Rattle.std.proofs.lemmas.Map.Made.{is_some-lookup}
use Rattle.std.specs.Cmp.{IsEquivalence}
use Rattle.std.specs.List.{filter, list_any}
use Rattle.std.specs.List.Sorted.{IsPermutation}
use Rattle.std.specs.Map.{keys_of}
use Rattle.indexmap.specs.IndexMap.{insert_entry}
use Rattle.pcl_base.specs.Limits.{Sizes}
use Rattle.node_rules.specs.Words.{pick, flag_at}
use Rattle.node_rules.specs.LockRule.{LockEntry, idle, purge}
use Rattle.node_rules.specs.LockTable.{pages_from, pages_of}
use Rattle.node_rules.specs.InstallRule.{purge_table}
use Rattle.lock_table.specs.Tables.{TableView, IsPageOf, found, kept_version, entry_of, table_of, with_made, with_entry}
use Rattle.lock_table.proofs.Pages.{row_of}
use Rattle.rebuild.specs.Parts.{is_page}

-- an entry in which only what live nodes have stays, where it is purged
abbrev pub purged_if : Bool → List Bool → LockEntry → LockEntry
purged_if true live e = purge e live
purged_if false live e = e

-- the entries of some pages are purged, and nothing else is changed
pub record ArePurged (live : List Bool) (some : ℕ → Bool) (old new : TableView) : Type 0 where
  pub config : new.config ≡ old.config
  pub partition : new.partition ≡ old.partition
  pub serving : new.serving ≡ old.serving
  pub reported : new.reported ≡ old.reported
  pub entries : (p : ℕ) → entry_of new p ≡ purged_if (some p) live (entry_of old p)

twice_case : {X : Type 0} (p : X → Bool) (x : X) (xs : List X) (b : Bool) → p x ≡ b → filter p (filter p xs) ≡ filter p xs
    → filter p (cond b (x ∷ filter p xs) (filter p xs)) ≡ cond b (x ∷ filter p xs) (filter p xs)
twice_case p x xs true is rest = ap (λ b. cond b (x ∷ filter p (filter p xs)) (filter p (filter p xs))) is ∙ ap (λ l. x ∷ l) rest
twice_case p x xs false is rest = rest

filter_twice : {X : Type 0} (p : X → Bool) (xs : List X) → filter p (filter p xs) ≡ filter p xs
filter_twice p [] = refl
filter_twice p (x ∷ xs) = twice_case p x xs (p x) refl (filter_twice p xs)

-- an entry that is purged stays so
purge_twice : (e : LockEntry) (live : List Bool) → purge (purge e live) live ≡ purge e live
unfolding purge
purge_twice e live = λ i. record {
  version = e.version;
  holders = filter_twice (λ h. flag_at live h.tx.node) e.holders i;
  rights = filter_twice (λ r. flag_at live r.node) e.rights i;
  waiting = filter_twice (λ w. flag_at live w.tx.node) e.waiting i;
}

-- an entry with empty lists is purged
idle_purged : (v : ℕ) (live : List Bool) → purge (idle v) live ≡ idle v
unfolding purge
idle_purged v live = refl

same_number : (m n : ℕ) → nat_eq m n ≡ true → m ≡ n
same_number m n is = grind (arith, nat_tests)

same_either_way : (m n : ℕ) → nat_eq m n ≡ nat_eq n m
same_either_way m n = grind (arith, nat_tests)

-- only the page that is asked for passes
one_page : (p x y : ℕ) → nat_eq p x ≡ true → nat_eq p y ≡ nat_eq x y
one_page p x y is = ap (λ k. nat_eq k y) (same_number p x is)

equals_itself : (n : ℕ) → nat_eq n n ≡ true
equals_itself n = grind (arith, nat_tests)

number_laws : IsEquivalence nat_eq
number_laws = record { refl = equals_itself; symm = same_either_way; congr = one_page }

-- an entry that is there is lent as it is, and purged
pub page_purged : (live : List Bool) (t later : TableView) (page : ℕ) (e w : LockEntry) → IsSome (found t page)
    → Some e ≡ found (with_made t page) page → later ≡ with_entry (with_made t page) page w → w ≡ purge e live
    → later ≡ with_entry t page (purge (entry_of t page) live)
page_purged live t later page e w there lent is changed =
    let same : with_made t page ≡ t = ap (λ b. record t { entries = pick b t.entries (insert_entry nat_eq t.entries page (idle (kept_version t page))) }) there in
    let here : e ≡ entry_of t page = ap (λ o. unwrap_or o (idle (kept_version t page))) (lent ∙ ap (λ u. found u page) same) in
    let value : w ≡ purge (entry_of t page) live = changed ∙ ap (λ a. purge a live) here in
    is ∙ (λ i. with_entry (same i) page (value i))

page_case : (t : TableView) (page x : ℕ) (live : List Bool) (b : Bool) → nat_eq page x ≡ b
    → unwrap_or (cond b (Some (purge (entry_of t page) live)) (found t x)) (idle (kept_version t x)) ≡ purged_if b live (entry_of t x)
page_case t page x live true is = ap (λ p. purge (entry_of t p) live) (same_number page x is)
page_case t page x live false is = refl

-- the entry of one page is purged
one_purged : (live : List Bool) (t later : TableView) (page : ℕ) → IsSome (found t page)
    → later ≡ with_entry t page (purge (entry_of t page) live) → ArePurged live (λ p. nat_eq p page) t later
one_purged live t later page there is = record {
  config = ap (λ (u : TableView). u.config) is;
  partition = ap (λ (u : TableView). u.partition) is;
  serving = ap (λ (u : TableView). u.serving) is;
  reported = ap (λ (u : TableView). u.reported) is;
  entries = λ x. ap (λ u. entry_of u x) is
      ∙ (ap (λ o. unwrap_or o (idle (kept_version t x))) (lookup-set_value number_laws (nat_eq page) (one_page page) x (purge (entry_of t page) live) t.entries there)
      ∙ (page_case t page x live (nat_eq page x) refl
      ∙ ap (λ b. purged_if b live (entry_of t x)) (same_either_way page x)));
}

still_some : (t : TableView) (page x : ℕ) (e : LockEntry) (b : Bool) → nat_eq page x ≡ b → IsSome (found t page)
    → is_some (cond b (Some e) (found t x)) ≡ is_some (found t x)
still_some t page x e true is there = sym (ap (λ p. is_some (found t p)) (sym (same_number page x is)) ∙ there)
still_some t page x e false is there = refl

-- an entry in the place of another makes none and gives none up
pub kept_made : (t later : TableView) (page : ℕ) (e : LockEntry) → IsSome (found t page) → later ≡ with_entry t page e
    → (x : ℕ) → is_some (found later x) ≡ is_some (found t x)
kept_made t later page e there is x =
    ap (λ u. is_some (found u x)) is
    ∙ (ap (λ o. is_some o) (lookup-set_value number_laws (nat_eq page) (one_page page) x e t.entries there)
    ∙ still_some t page x e (nat_eq page x) refl there)

-- whether a page is among the first so many
abbrev pub among_first : Sizes → ℕ → List ℕ → ℕ → ℕ → Bool
among_first c q pages i p = is_page c q p && list_any (nat_eq p) (take i pages)

none_yet : (live : List Bool) (e : LockEntry) (m : Bool) → e ≡ purged_if (m && false) live e
none_yet live e true = refl
none_yet live e false = refl

-- at first no page is purged
pub purged_first : (live : List Bool) (c : Sizes) (q : ℕ) (pages : List ℕ) (t : TableView) → ArePurged live (among_first c q pages 0) t t
purged_first live c q pages t = record {
  config = refl;
  partition = refl;
  serving = refl;
  reported = refl;
  entries = λ x. none_yet live (entry_of t x) (is_page c q x);
}

more_case : (live : List Bool) (e : LockEntry) (m l b : Bool) → (b ≡ true → m ≡ true)
    → purged_if b live (purged_if (m && l) live e) ≡ purged_if (m && (l || b)) live e
more_case live e true true true mine = purge_twice e live
more_case live e true true false mine = refl
more_case live e true false true mine = refl
more_case live e true false false mine = refl
more_case live e false l true mine = let not_mine : false ≡ true = mine refl in absurd (cc)
more_case live e false l false mine = refl

-- one more page is purged
pub purged_step : (live : List Bool) (c : Sizes) (q : ℕ) (pages : List ℕ) (i : ℕ) (d : ℕ) (t now later : TableView) → i < length pages
    → is_page c q (get_or pages i d) ≡ true → IsSome (found now (get_or pages i d))
    → later ≡ with_entry now (get_or pages i d) (purge (entry_of now (get_or pages i d)) live)
    → ArePurged live (among_first c q pages i) t now → ArePurged live (among_first c q pages (i + 1)) t later
purged_step live c q pages i d t now later within mine there is done =
    let step = one_purged live now later (get_or pages i d) there is in
    record {
      config = step.config ∙ done.config;
      partition = step.partition ∙ done.partition;
      serving = step.serving ∙ done.serving;
      reported = step.reported ∙ done.reported;
      entries = λ x. step.entries x
          ∙ (ap (purged_if (nat_eq x (get_or pages i d)) live) (done.entries x)
          ∙ (more_case live (entry_of t x) (is_page c q x) (list_any (nat_eq x) (take i pages)) (nat_eq x (get_or pages i d)) (λ is. ap (is_page c q) (same_number x (get_or pages i d) is) ∙ mine)
          ∙ sym (ap (λ l. purged_if (is_page c q x && l) live (entry_of t x)) (list_any_more (nat_eq x) pages i d within))));
    }

past_case : (live : List Bool) (e : LockEntry) (m l b : Bool) → (b ≡ true → m ≡ false) → purged_if (m && l) live e ≡ purged_if (m && (l || b)) live e
past_case live e true true true other = refl
past_case live e true true false other = refl
past_case live e true false true other = let mine : true ≡ false = other refl in absurd (cc)
past_case live e true false false other = refl
past_case live e false l b other = refl

-- a page of another partition isn't purged
pub purged_past : (live : List Bool) (c : Sizes) (q : ℕ) (pages : List ℕ) (i : ℕ) (d : ℕ) (t now : TableView) → i < length pages
    → is_page c q (get_or pages i d) ≡ false → ArePurged live (among_first c q pages i) t now → ArePurged live (among_first c q pages (i + 1)) t now
purged_past live c q pages i d t now within other done = record {
  config = done.config;
  partition = done.partition;
  serving = done.serving;
  reported = done.reported;
  entries = λ x. done.entries x
      ∙ (past_case live (entry_of t x) (is_page c q x) (list_any (nat_eq x) (take i pages)) (nat_eq x (get_or pages i d)) (λ is. ap (is_page c q) (same_number x (get_or pages i d) is) ∙ other)
      ∙ sym (ap (λ l. purged_if (is_page c q x && l) live (entry_of t x)) (list_any_more (nat_eq x) pages i d within)));
}

both : (a b : Bool) → (a && b) ≡ true → (a ≡ true) × (b ≡ true)
both true b h = (refl, h)
both false b h = absurd (cc)

is_below : (m n : ℕ) → nat_lt m n ≡ true → m < n
is_below m n is = grind (arith, nat_tests)

is_same : (m n : ℕ) → (m == n) ≡ true → m ≡ n
is_same m n is = grind (arith, nat_tests)

-- a page that passes is one of the table's
pub page_of : (c : Sizes) (q p : ℕ) (t : TableView) → is_page c q p ≡ true → c ≡ t.config → q ≡ t.partition → IsPageOf t p
page_of c q p t is config partition =
    let parts = both (nat_lt p c.pages) (p % c.nodes == q) is in
    record {
      below = subst (λ (s : Sizes). p < s.pages) config (is_below p c.pages parts.0);
      own = ap (λ (s : Sizes). p % s.nodes) (sym config) ∙ (is_same (p % c.nodes) q parts.1 ∙ partition);
    }

passes : (c : Sizes) (q p : ℕ) → p < c.pages → p % c.nodes ≡ q → is_page c q p ≡ true
passes c q p below own = λ i. (is_lower p c.pages below i) && (is_equal (p % c.nodes) q own i)
  where
    is_lower : (m n : ℕ) → m < n → nat_lt m n ≡ true
    is_lower m n lower = grind (arith, nat_tests)

    is_equal : (m n : ℕ) → m ≡ n → (m == n) ≡ true
    is_equal m n equal = grind (arith, nat_tests)

-- two functions that agree at the pages of a partition give the same rows
rows_agree : (g h : ℕ → LockEntry) (step end q : ℕ) (n p : ℕ) → p % step ≡ q
    → ((x : ℕ) → x % step ≡ q → x < end → g x ≡ h x) → map (row_of g) (pages_from n step p end) ≡ map (row_of h) (pages_from n step p end)
unfolding pages_from
rows_agree g h step end q zero p own agree = refl
rows_agree g h step end q (suc n) p own agree =
    rows_of (nat_lt p end) refl (rows_agree g h step end q n (p + step) (add-mod_right p step ∙ own) agree)
  where
    rows_of : (b : Bool) → nat_lt p end ≡ b → map (row_of g) (pages_from n step (p + step) end) ≡ map (row_of h) (pages_from n step (p + step) end)
        → map (row_of g) (pick b (p ∷ pages_from n step (p + step) end) []) ≡ map (row_of h) (pick b (p ∷ pages_from n step (p + step) end) [])
    rows_of true is rest = λ i. record { page = p; entry = agree p own (is_below p end is) i } ∷ rest i
    rows_of false is rest = refl

rows_purged : (g : ℕ → LockEntry) (live : List Bool) (ps : List ℕ)
    → map (row_of (λ p. purge (g p) live)) ps ≡ map (λ x. record { page = x.page; entry = purge x.entry live }) (map (row_of g) ps)
rows_purged g live [] = refl
rows_purged g live (p ∷ ps) = ap (λ l. record { page = p; entry = purge (g p) live } ∷ l) (rows_purged g live ps)

none_of : (o : Option LockEntry) → is_some o ≡ false → o ≡ None
none_of None none = refl
none_of (Some x) none = absurd (cc)

end_case : (live : List Bool) (e : LockEntry) (v : ℕ) (m l : Bool) → m ≡ true → (l ≡ false → e ≡ idle v) → purged_if (m && l) live e ≡ purge e live
end_case live e v true true mine empty = refl
end_case live e v true false mine empty =
    let idle_is : e ≡ idle v = empty refl in
    idle_is ∙ (sym (idle_purged v live) ∙ ap (λ a. purge a live) (sym idle_is))
end_case live e v false l mine empty = absurd (cc)

-- a page that is listed has an entry
pub listed_there : (t : TableView) (pages : List ℕ) (i d : ℕ) → i < length pages → IsPermutation (keys_of t.entries) pages
    → IsSome (found t (get_or pages i d))
listed_there t pages i d within all =
    let x = get_or pages i d in
    is_some-lookup (nat_eq x) t.entries
    ∙ (list_any-IsPermutation (nat_eq x) (keys_of t.entries) pages all ∙ list_any_at (nat_eq x) pages i d within (equals_itself x))

-- a page that isn't listed has no entry
unlisted : (t : TableView) (pages : List ℕ) (x : ℕ) → IsPermutation (keys_of t.entries) pages → list_any (nat_eq x) pages ≡ false → entry_of t x ≡ idle (kept_version t x)
unlisted t pages x all none =
    let absent : is_some (found t x) ≡ false = is_some-lookup (nat_eq x) t.entries ∙ (list_any-IsPermutation (nat_eq x) (keys_of t.entries) pages all ∙ none) in
    ap (λ o. unwrap_or o (idle (kept_version t x))) (none_of (found t x) absent)

-- once each page with an entry is purged, the whole table is
pub table_purged : (live : List Bool) (c : Sizes) (pages : List ℕ) (i : ℕ) (t now : TableView) → length pages ≤ i → c ≡ t.config → t.partition < c.nodes
    → IsPermutation (keys_of t.entries) pages → ArePurged live (among_first c t.partition pages i) t now → table_of now ≡ purge_table live (table_of t)
table_purged live c pages i t now past config within all done =
    let g = entry_of t in
    let q = t.partition in
    let each : (x : ℕ) → x % c.nodes ≡ q → x < c.pages → entry_of now x ≡ purge (g x) live = λ x own below.
    done.entries x
    ∙ (ap (λ l. purged_if (is_page c q x && list_any (nat_eq x) l) live (g x)) (take_all i pages past)
    ∙ end_case live (g x) (kept_version t x) (is_page c q x) (list_any (nat_eq x) pages) (passes c q x below own) (unlisted t pages x all)) in
    let rows = rows_agree (entry_of now) (λ x. purge (g x) live) c.nodes c.pages q c.pages q (mod-eq_of_lt within) each in
    (λ k. record { serving = done.serving k; entries = map (row_of (entry_of now)) (pages_of ((done.config ∙ sym config) k) (done.partition k)); reported = done.reported k })
    ∙ (ap (λ l. record { serving = t.serving; entries = l; reported = t.reported }) (rows ∙ rows_purged g live (pages_of c q))
    ∙ ap (λ s. record { serving = t.serving; entries = map (λ x. record { page = x.page; entry = purge x.entry live }) (map (row_of g) (pages_of s q)); reported = t.reported }) config)
