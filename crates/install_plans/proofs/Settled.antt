-- Settling the pages that have an entry is settling all pages of a partition.
use Rattle.std.proofs.Common.{◌≡◌, ◌≢◌, ℕ, zero, suc, ◌+◌, ◌/◌, ◌<◌, ◌≤◌, ◌==◌, ◌&&◌, ◌||◌, not, nat_eq, nat_lt, Bool, true, false, cond, Option, Some, None, is_some, unwrap_or, List, [], ◌∷◌, ◌++◌, map, length, get_or, drop, drop-cons, refl, ap, sym, ◌∙◌, subst, arith}
use Rattle.std.proofs.lemmas.Bool.Decides.{nat_tests}
use Rattle.std.proofs.lemmas.List.{append_assoc, append-nil, nil_from_length}
use Rattle.std.proofs.lemmas.List.Elements.{All-filter, All-from_recursion}
use Rattle.std.proofs.lemmas.Map.Views.{any-filter_same}
use Rattle.std.proofs.Math.ListN.{drop_of_length-le}
use Rattle.std.specs.List.{All, AllByRecursion, filter, list_any}
use Rattle.std.specs.Map.{lookup, set_value}
use Rattle.std.specs.Option.{IfSome}
use Rattle.pcl_base.specs.declared.lock.Decision.{Decision}
use Rattle.node_rules.specs.Words.{pick}
use Rattle.node_rules.specs.LockRule.{LockEntry, Settled, idle, settle, settle_within}
use Rattle.node_rules.specs.LockTable.{LockTable, PageEntry, pages_from, pages_of, entry_in, entries_with, entry_at, put_entry}
use Rattle.install_laws.specs.InstallPlans.{Due, decided, plan_settling, after_decisions}
use Rattle.lock_table.specs.Tables.{TableView, IsPageOf, found, entry_of, table_of, is_idle, kept_version, pages_made, HasOwnEntries}
use Rattle.lock_table.proofs.Pages.{row_of, entry_in_pages}
use Rattle.lock_table.proofs.Listed.{page_listed}
use Rattle.lock_table.proofs.Places.{page_of_place, low_place}
use Rattle.install_laws.proofs.Words.{pages_are_of}
use Rattle.node_rules.specs.NodeState.{partition}
use Rattle.install_plans.specs.Tables.{is_unused, is_wanted, IsTidy}

pub equal : (m n : ℕ) → (m == n) ≡ true → m ≡ n
equal m n e = grind (arith, nat_tests)

pub self : (n : ℕ) → (n == n) ≡ true
self n = grind (arith, nat_tests)

other : (m n : ℕ) → (m == n) ≡ false → m ≡ n → ⊥
other m n e same = grind (arith, nat_tests)

-- whether a list of rows has one for a page
abbrev pub has_row : List PageEntry → ℕ → Bool
has_row xs p = list_any (λ (x : PageEntry). x.page == p) xs

-- the entry of a page that is put there again changes nothing
put_again : (xs : List PageEntry) (p : ℕ) → has_row xs p ≡ true → entries_with xs p (entry_in xs p) ≡ xs
unfolding entry_in entries_with
put_again [] p there = absurd (cc)
put_again (x ∷ xs) p there = by (x.page == p) refl there (put_again xs p)
  where
    by : (b : Bool) → (x.page == p) ≡ b → (b || has_row xs p) ≡ true → (has_row xs p ≡ true → entries_with xs p (entry_in xs p) ≡ xs)
        → pick b (record { page = p; entry = pick b x.entry (entry_in xs p) } ∷ xs) (x ∷ entries_with xs p (pick b x.entry (entry_in xs p))) ≡ x ∷ xs
    by true is here rest = λ i. record { page = sym (equal x.page p is) i; entry = x.entry } ∷ xs
    by false is here rest = ap (λ l. x ∷ l) (rest here)

-- the rows that are there stay
row_kept : (xs : List PageEntry) (p : ℕ) (e : LockEntry) (r : ℕ) → has_row xs r ≡ true → has_row (entries_with xs p e) r ≡ true
unfolding entries_with
row_kept [] p e r there = absurd (cc)
row_kept (x ∷ xs) p e r there = by (x.page == p) refl (row_kept xs p e r)
  where
    later : (b : Bool) → (b || has_row xs r) ≡ true → (has_row xs r ≡ true → has_row (entries_with xs p e) r ≡ true) → (b || has_row (entries_with xs p e) r) ≡ true
    later true here rest = refl
    later false here rest = rest here

    by : (b : Bool) → (x.page == p) ≡ b → (has_row xs r ≡ true → has_row (entries_with xs p e) r ≡ true)
        → has_row (pick b (record { page = p; entry = e } ∷ xs) (x ∷ entries_with xs p e)) r ≡ true
    by true is rest = ap (λ n. (n == r) || has_row xs r) (sym (equal x.page p is)) ∙ there
    by false is rest = later (x.page == r) there rest

-- the entry of a page after another one is put
pub entry_put : (xs : List PageEntry) (p : ℕ) (e : LockEntry) (r : ℕ) → entry_in (entries_with xs p e) r ≡ pick (p == r) e (entry_in xs r)
unfolding entry_in entries_with
entry_put [] p e r = refl
entry_put (x ∷ xs) p e r = by (x.page == p) refl (entry_put xs p e r)
  where
    same : (b : Bool) → (p == r) ≡ b → x.page ≡ p → pick b e (entry_in xs r) ≡ pick b e (pick (x.page == r) x.entry (entry_in xs r))
    same true f g = refl
    same false f g = sym (ap (λ d. pick d x.entry (entry_in xs r)) (ap (λ n. n == r) g ∙ f))

    apart : (d b : Bool) → (x.page == r) ≡ d → (p == r) ≡ b → (x.page ≡ p → ⊥) → pick d x.entry (pick b e (entry_in xs r)) ≡ pick b e (pick d x.entry (entry_in xs r))
    apart true true f g h = absurd (h (equal x.page r f ∙ sym (equal p r g)))
    apart true false f g h = refl
    apart false b f g h = refl

    by : (b : Bool) → (x.page == p) ≡ b → entry_in (entries_with xs p e) r ≡ pick (p == r) e (entry_in xs r)
        → entry_in (pick b (record { page = p; entry = e } ∷ xs) (x ∷ entries_with xs p e)) r ≡ pick (p == r) e (entry_in (x ∷ xs) r)
    by true f rest = same (p == r) refl (equal x.page p f)
    by false f rest = ap (λ y. pick (x.page == r) x.entry y) rest ∙ apart (x.page == r) (p == r) refl refl (other x.page p f)

-- an entry that settles to itself with no decision
abbrev pub IsSettled : ℕ → LockEntry → Type 0
IsSettled me e = settle me e ≡ record { decisions = []; entry = e }

-- the page has a row, and where it is none of some pages its entry is settled
pub record Rests (has : ℕ → Bool) (me : ℕ) (t : LockTable) (p : ℕ) : Type 0 where
  pub row : has_row t.entries p ≡ true
  pub rests : has p ≡ false → IsSettled me (entry_at t p)

module _ (has : ℕ → Bool) (me : ℕ) where
  rests_kept : (p : ℕ) (e : LockEntry) (t : LockTable) (r : ℕ) → has p ≡ true → Rests has me t r → Rests has me (put_entry t p e) r
  rests_kept p e t r is rests = record {
    row = row_kept t.entries p e r rests.row;
    rests = λ none. subst (IsSettled me) (sym (entry_put t.entries p e r ∙ ap (λ b. pick b e (entry_at t r)) (apart (p == r) refl none))) (rests.rests none);
  }
    where
      apart : (b : Bool) → (p == r) ≡ b → has r ≡ false → b ≡ false
      apart true same none = let bad : true ≡ false = sym is ∙ (ap has (equal p r same) ∙ none) in absurd (cc)
      apart false same none = refl

  all_kept : (p : ℕ) (e : LockEntry) (t : LockTable) (ps : List ℕ) → has p ≡ true → AllByRecursion (Rests has me t) ps → AllByRecursion (Rests has me (put_entry t p e)) ps
  all_kept p e t [] is all = tt
  all_kept p e t (r ∷ rs) is all = (rests_kept p e t r is all.0, all_kept p e t rs is all.1)

  -- pages whose entries are settled needn't be visited
  pub settling_skips : (ps : List ℕ) (t : LockTable) → AllByRecursion (Rests has me t) ps → plan_settling me ps t ≡ plan_settling me (filter has ps) t
  unfolding plan_settling
  settling_skips [] t all = refl
  settling_skips (p ∷ ps) t all = by (has p) refl (λ u. settling_skips ps u)
    where
      s : Settled
      s = settle me (entry_at t p)

      by : (b : Bool) → has p ≡ b → ((u : LockTable) → AllByRecursion (Rests has me u) ps → plan_settling me ps u ≡ plan_settling me (filter has ps) u)
          → after_decisions (decided p s) (plan_settling me ps (put_entry t p s.entry)) ≡ plan_settling me (cond b (p ∷ filter has ps) (filter has ps)) t
      by true is rest = ap (after_decisions (decided p s)) (rest (put_entry t p s.entry) (all_kept p s.entry t ps is all.1))
      by false is rest =
          let still = all.0.rests is in
          ap (λ (x : Settled). after_decisions (decided p x) (plan_settling me ps (put_entry t p x.entry))) still
          ∙ (ap (λ l. plan_settling me ps (record t { entries = l })) (put_again t.entries p all.0.row)
          ∙ rest t all.1)

-- an entry in which nobody waits is settled
pub nobody_waits : (me : ℕ) (e : LockEntry) → e.waiting ≡ [] → IsSettled me e
unfolding settle settle_within
nobody_waits me e none = ap (λ ws. settle_within (length ws) me e) none

pub idle_rests : (me v : ℕ) → IsSettled me (idle v)
idle_rests me v = nobody_waits me (idle v) refl

-- a page of the partition has a row in its table
any_row : (g : ℕ → LockEntry) (p : ℕ) (ps : List ℕ) → list_any (nat_eq p) ps ≡ true → has_row (map (row_of g) ps) p ≡ true
any_row g p [] there = absurd (cc)
any_row g p (q ∷ qs) there = by (nat_eq p q) refl there (any_row g p qs)
  where
    flipped : (b : Bool) → nat_eq p q ≡ b → (q == p) ≡ b
    flipped true is = grind (arith, nat_tests)
    flipped false is = grind (arith, nat_tests)

    by : (b : Bool) → nat_eq p q ≡ b → (b || list_any (nat_eq p) qs) ≡ true → (list_any (nat_eq p) qs ≡ true → has_row (map (row_of g) qs) p ≡ true)
        → ((q == p) || has_row (map (row_of g) qs) p) ≡ true
    by true is here rest = ap (λ b. b || has_row (map (row_of g) qs) p) (flipped true is)
    by false is here rest = ap (λ b. b || has_row (map (row_of g) qs) p) (flipped false is) ∙ rest here

-- the entry of a page of the table, in the rules' table
pub entry_own : (t : TableView) (p : ℕ) → 1 ≤ t.config.nodes → IsPageOf t p → entry_at (table_of t) p ≡ entry_of t p
entry_own t p some mine =
    entry_in_pages (entry_of t) t.config.nodes t.config.pages p t.config.pages (p / t.config.nodes) t.partition
    (page_of_place t.config t.partition p mine.own) (low_place t p mine) mine.below some

page_in : (t : TableView) (p : ℕ) → 1 ≤ t.config.nodes → IsPageOf t p → list_any (nat_eq p) (pages_of t.config t.partition) ≡ true
page_in t p some mine =
    page_listed t.config.nodes t.config.pages p t.config.pages (p / t.config.nodes) t.partition
    (page_of_place t.config t.partition p mine.own) (low_place t p mine) mine.below some

pub row_own : (t : TableView) (p : ℕ) → 1 ≤ t.config.nodes → IsPageOf t p → has_row (table_of t).entries p ≡ true
row_own t p some mine = any_row (entry_of t) p (pages_of t.config t.partition) (page_in t p some mine)

pub pages_below : (n step p end : ℕ) → AllByRecursion (λ x. x < end) (pages_from n step p end)
unfolding pages_from
pages_below zero step p end = tt
pages_below (suc n) step p end = by (nat_lt p end) refl (pages_below n step (p + step) end)
  where
    low : nat_lt p end ≡ true → p < end
    low is = grind (arith, nat_tests)

    by : (b : Bool) → nat_lt p end ≡ b → AllByRecursion (λ x. x < end) (pages_from n step (p + step) end) → AllByRecursion (λ x. x < end) (pick b (p ∷ pages_from n step (p + step) end) [])
    by true is rest = (low is, rest)
    by false is rest = tt

both : (t : TableView) (ps : List ℕ) → AllByRecursion (λ p. p < t.config.pages) ps → AllByRecursion (λ p. partition t.config p ≡ t.partition) ps → AllByRecursion (IsPageOf t) ps
both t [] low own = tt
both t (p ∷ ps) low own = (record { below = low.0; own = own.0 }, both t ps low.1 own.1)

-- the pages of its partition are the table's
pub pages_own : (t : TableView) → t.partition < t.config.nodes → AllByRecursion (IsPageOf t) (pages_of t.config t.partition)
pages_own t within =
    both t (pages_of t.config t.partition) (pages_below t.config.pages t.config.nodes t.partition t.config.pages) (pages_are_of t.config t.partition within)

all_rest : (me : ℕ) (t : TableView) (ps : List ℕ) → 1 ≤ t.config.nodes → AllByRecursion (IsPageOf t) ps → AllByRecursion (Rests (λ p. is_some (found t p)) me (table_of t)) ps
all_rest me t [] some all = tt
all_rest me t (p ∷ ps) some all = (record { row = row_own t p some all.0; rests = λ none. rests none }, all_rest me t ps some all.1)
  where
    none_of : (o : Option LockEntry) → is_some o ≡ false → unwrap_or o (idle (kept_version t p)) ≡ idle (kept_version t p)
    none_of None none = refl
    none_of (Some e) none = absurd (cc)

    rests : is_some (found t p) ≡ false → IsSettled me (entry_at (table_of t) p)
    rests none = subst (IsSettled me) (sym (entry_own t p some all.0 ∙ none_of (found t p) none)) (idle_rests me (kept_version t p))

-- settling the pages with an entry settles all
pub made_settled : (me : ℕ) (t : TableView) → t.partition < t.config.nodes → plan_settling me (pages_of t.config t.partition) (table_of t) ≡ plan_settling me (pages_made t) (table_of t)
made_settled me t within =
    settling_skips (λ p. is_some (found t p)) me (pages_of t.config t.partition) (table_of t)
    (all_rest me t (pages_of t.config t.partition) (omega (arith, within)) (pages_own t within))

-- the pages with an entry are the table's
pub made_own : (t : TableView) → t.partition < t.config.nodes → All (IsPageOf t) (pages_made t)
made_own t within = All-filter (λ p. is_some (found t p)) (IsPageOf t) (pages_of t.config t.partition) (All-from_recursion (IsPageOf t) (pages_of t.config t.partition) (pages_own t within))

pub front : {X : Type 0} (xs : List X) (i : ℕ) (d : X) → i < length xs → drop i xs ≡ get_or xs i d ∷ drop (i + 1) xs
front xs i d within =
    let next : suc i ≡ i + 1 = omega arith in
    drop-cons xs i d within ∙ ap (λ k. get_or xs i d ∷ drop k xs) next

-- one more page is settled
module _ (me : ℕ) (ps : List ℕ) (i d : ℕ) (t later : LockTable) (within : i < length ps)
    (put : later ≡ put_entry t (get_or ps i d) (settle me (entry_at t (get_or ps i d))).entry) where
  pub settled_table : (plan_settling me (drop (i + 1) ps) later).table ≡ (plan_settling me (drop i ps) t).table
  unfolding plan_settling
  settled_table =
      ap (λ u. (plan_settling me (drop (i + 1) ps) u).table) put ∙ sym (ap (λ l. (plan_settling me l t).table) (front ps i d within))

  pub settled_decisions : (ds more : List Due) → more ≡ ds ++ decided (get_or ps i d) (settle me (entry_at t (get_or ps i d)))
      → more ++ (plan_settling me (drop (i + 1) ps) later).decisions ≡ ds ++ (plan_settling me (drop i ps) t).decisions
  unfolding plan_settling
  settled_decisions ds more added =
      let here = decided (get_or ps i d) (settle me (entry_at t (get_or ps i d))) in
      let rest = (plan_settling me (drop (i + 1) ps) later).decisions in
      ap (λ l. l ++ rest) added
      ∙ (append_assoc ds here rest
      ∙ ap (λ l. ds ++ l) (ap (λ u. here ++ (plan_settling me (drop (i + 1) ps) u).decisions) put ∙ sym (ap (λ l. (plan_settling me l t).decisions) (front ps i d within))))

-- all pages are settled
pub settled_end : (me : ℕ) (ps : List ℕ) (i : ℕ) (t : LockTable) → length ps ≤ i → t ≡ (plan_settling me (drop i ps) t).table
unfolding plan_settling
settled_end me ps i t past = sym (ap (λ l. (plan_settling me l t).table) (drop_of_length-le ps past))

pub decided_end : (me : ℕ) (ps : List ℕ) (i : ℕ) (t : LockTable) (ds : List Due) → length ps ≤ i → ds ≡ ds ++ (plan_settling me (drop i ps) t).decisions
unfolding plan_settling
decided_end me ps i t ds past = sym (ap (λ l. ds ++ (plan_settling me l t).decisions) (drop_of_length-le ps past) ∙ append-nil ds)

-- the pages with an unused entry are among those that are left
abbrev pub AreLeft : TableView → List ℕ → Type 0
AreLeft t ps = (p : ℕ) → is_unused (found t p) ≡ true → list_any (nat_eq p) ps ≡ true

pub left_first : (t : TableView) → t.partition < t.config.nodes → HasOwnEntries t → AreLeft t (pages_made t)
left_first t within own p unused =
    let there : is_some (found t p) ≡ true = made (found t p) unused in
    any-filter_same (nat_eq p) (λ r. is_some (found t r)) (is_some (found t p)) (λ k same. ap (λ r. is_some (found t r)) (sym (number p k same))) (pages_of t.config t.partition)
    ∙ (ap (λ b. b && list_any (nat_eq p) (pages_of t.config t.partition)) there ∙ page_in t p (omega (arith, within)) (own p there))
  where
    made : (o : Option LockEntry) → is_unused o ≡ true → is_some o ≡ true
    made None unused = absurd (cc)
    made (Some e) unused = refl

    number : (q k : ℕ) → nat_eq q k ≡ true → q ≡ k
    number q k same = grind (arith, nat_tests)

pub left_step : (ps : List ℕ) (i d : ℕ) (t later : TableView) → i < length ps → AreLeft t (drop i ps)
    → is_unused (found later (get_or ps i d)) ≡ false → ((p : ℕ) → p ≢ get_or ps i d → found later p ≡ found t p) → AreLeft later (drop (i + 1) ps)
left_step ps i d t later within left used others p unused = by (nat_eq p (get_or ps i d)) refl
  where
    by : (b : Bool) → nat_eq p (get_or ps i d) ≡ b → list_any (nat_eq p) (drop (i + 1) ps) ≡ true
    by true is =
        let same : p ≡ get_or ps i d = number p (get_or ps i d) is in
        let bad : true ≡ false = sym unused ∙ (ap (λ k. is_unused (found later k)) same ∙ used) in
        absurd (cc)
      where
        number : (q k : ℕ) → nat_eq q k ≡ true → q ≡ k
        number q k same = grind (arith, nat_tests)
    by false is =
        let before : is_unused (found t p) ≡ true = ap is_unused (sym (others p (apart p (get_or ps i d) is))) ∙ unused in
        sym (ap (λ l. list_any (nat_eq p) l) (front ps i d within) ∙ ap (λ b. b || list_any (nat_eq p) (drop (i + 1) ps)) is) ∙ left p before
      where
        apart : (q k : ℕ) → nat_eq q k ≡ false → q ≢ k
        apart q k is same = grind (arith, nat_tests)

pub left_end : (ps : List ℕ) (i : ℕ) (t : TableView) → length ps ≤ i → AreLeft t (drop i ps) → IsTidy t
left_end ps i t past left p = by (is_unused (found t p)) refl
  where
    by : (b : Bool) → is_unused (found t p) ≡ b → b ≡ false
    by false is = refl
    by true is = let bad : false ≡ true = sym (ap (λ l. list_any (nat_eq p) l) (drop_of_length-le ps past)) ∙ left p is in absurd (cc)

-- an entry that is given up where it has empty lists is used
pub used_given_up : (o x : Option LockEntry) → IfSome o (λ e. x ≡ pick (is_idle e) None (Some e)) → (o ≡ None → x ≡ None) → is_unused x ≡ false
used_given_up None x given none = ap is_unused (none refl)
used_given_up (Some e) x given none = ap is_unused given ∙ by (is_idle e) refl
  where
    by : (b : Bool) → is_idle e ≡ b → is_unused (pick b None (Some e)) ≡ false
    by true is = refl
    by false is = is

-- an entry for which nobody waits is settled
pub unwanted : (me : ℕ) (t : TableView) (p : ℕ) → entry_at (table_of t) p ≡ entry_of t p → is_wanted (found t p) ≡ false → IsSettled me (entry_at (table_of t) p)
unwanted me t p here none = subst (IsSettled me) (sym here) (by (found t p) none)
  where
    zero_of : (n : ℕ) → not (n == 0) ≡ false → n ≡ 0
    zero_of n is = grind (arith, nat_tests)

    by : (o : Option LockEntry) → is_wanted o ≡ false → IsSettled me (unwrap_or o (idle (kept_version t p)))
    by None none = idle_rests me (kept_version t p)
    by (Some e) none = nobody_waits me e (nil_from_length e.waiting (zero_of (length e.waiting) none))

-- its table stays
pub unwanted_put : (me : ℕ) (t : TableView) (later : LockTable) (p : ℕ) → 1 ≤ t.config.nodes → IsPageOf t p → entry_at (table_of t) p ≡ entry_of t p → is_wanted (found t p) ≡ false
    → later ≡ table_of t → later ≡ put_entry (table_of t) p (settle me (entry_at (table_of t) p)).entry
unwanted_put me t later p some mine here none same =
    same
    ∙ sym (ap (λ (s : Settled). put_entry (table_of t) p s.entry) (unwanted me t p here none)
    ∙ ap (λ l. let u : LockTable = record (table_of t) { entries = l } in u) (put_again (table_of t).entries p (row_own t p some mine)))

-- and nothing is decided
pub unwanted_decisions : (me : ℕ) (t : TableView) (p : ℕ) (ds : List Due) → entry_at (table_of t) p ≡ entry_of t p → is_wanted (found t p) ≡ false
    → ds ≡ ds ++ decided p (settle me (entry_at (table_of t) p))
unwanted_decisions me t p ds here none =
    sym (ap (λ (s : Settled). ds ++ decided p s) (unwanted me t p here none) ∙ append-nil ds)

-- a decision about a page at a version
abbrev pub due_of : ℕ → ℕ → Decision → Due
due_of p v d = record { page = p; version = v; decision = d }

other_key : (p q k : ℕ) → q ≢ p → nat_eq p k ≡ true → nat_eq q k ≡ false
other_key p q k other same = grind (arith, nat_tests)

set_other_case : (p q : ℕ) (e : LockEntry) (x : ℕ × LockEntry) (es : List (ℕ × LockEntry)) (b : Bool) → q ≢ p → nat_eq p x.0 ≡ b
    → lookup (nat_eq q) (set_value (nat_eq p) es e) ≡ lookup (nat_eq q) es
    → lookup (nat_eq q) (cond b ((x.0, e) ∷ es) (x ∷ set_value (nat_eq p) es e)) ≡ lookup (nat_eq q) (x ∷ es)
set_other_case p q e x es true other is later =
    let elsewhere = other_key p q x.0 other is in
    ap (λ c. cond c (Some e) (lookup (nat_eq q) es)) elsewhere ∙ sym (ap (λ c. cond c (Some x.1) (lookup (nat_eq q) es)) elsewhere)
set_other_case p q e x es false other is later = ap (λ l. cond (nat_eq q x.0) (Some x.1) l) later

-- what is put for a page changes the entry of no other one
pub found_past : (p q : ℕ) (e : LockEntry) (es : List (ℕ × LockEntry)) → q ≢ p → lookup (nat_eq q) (set_value (nat_eq p) es e) ≡ lookup (nat_eq q) es
found_past p q e [] other = refl
found_past p q e (x ∷ es) other = set_other_case p q e x es (nat_eq p x.0) other refl (found_past p q e es other)
