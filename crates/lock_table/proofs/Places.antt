-- A table's entries in the rules' table, and how they change.
use Rattle.std.proofs.Common.{◌≡◌, ◌≢◌, ℕ, zero, suc, ◌+◌, ◌*◌, ◌/◌, ◌%◌, ◌<◌, ◌≤◌, ◌==◌, ◌&&◌, nat_eq, Bool, true, false, cond, if◌then◌else◌, Option, Some, None, IsSome, is_some, unwrap_or, List, [], ◌∷◌, map, length, get_or, set, drop, drop-cons, fold, refl, ap, sym, ◌∙◌, subst, arith}
use Rattle.std.proofs.Math.Nat.{mod-add-div, div-le_self, mod-eq_of_lt, mod-lt, mul-le-mul_left}
use Rattle.std.proofs.lemmas.Grind.{get_or_default_zero}
use Rattle.std.proofs.Math.ListN.{drop_of_length-le}
use Rattle.std.proofs.lemmas.List.{get_or-set_same, get_or-set_other, nil_from_length}
use Rattle.std.proofs.lemmas.Bool.Decides.{nat_tests}
use Rattle.std.specs.Map.{lookup, set_value}
use Rattle.indexmap.specs.IndexMap.{insert_entry}
use Rattle.node_rules.specs.Words.{pick}
use Rattle.pcl_base.specs.Limits.{Sizes, InLimits}
use Rattle.node_rules.specs.LockRule.{LockEntry, idle}
use Rattle.node_rules.specs.LockTable.{LockTable, pages_of, entry_at, put_entry, set_version}
use Rattle.lock_table.specs.Tables.{TableView, IsPageOf, FitsConfig, HasKept, found, kept_version, entry_of, table_of, is_idle, with_entry, with_made}
use Rattle.lock_table.proofs.Pages.{row_of, entry_in_pages, same_rows, put_in_pages}

-- a page is the page of its place
pub page_of_place : (c : Sizes) (q page : ℕ) → page % c.nodes ≡ q → page ≡ q + c.nodes * (page / c.nodes)
page_of_place c q page own = sym (mod-add-div page c.nodes) ∙ ap (λ r. r + c.nodes * (page / c.nodes)) own

-- two pages of a partition have two places
places_apart : (n q x page : ℕ) → x % n ≡ q → page % n ≡ q → x ≢ page → x / n ≢ page / n
places_apart n q x page own_x own other same =
    let rests : x % n ≡ page % n = own_x ∙ sym own in
    other (sym (mod-add-div x n) ∙ ((λ i. rests i + n * same i) ∙ mod-add-div page n))

pub low_place : (t : TableView) (page : ℕ) → IsPageOf t page → page / t.config.nodes < t.config.pages
low_place t page mine = omega (arith, div-le_self page t.config.nodes, mine.below)

-- a lower page has no later place
no_later : (n page pages : ℕ) → 1 ≤ n → page < pages → page / n ≤ pages / n
no_later n page pages some below = from_not (page / n) (pages / n) (λ later. no_more later)
  where
    from_not : (a b : ℕ) → (b < a → ⊥) → a ≤ b
    from_not a b h = grind arith

    no_more : pages / n < page / n → ⊥
    no_more later =
        let up : n * (pages / n + 1) ≤ n * (page / n) = mul-le-mul_left n (omega arith) in
        let rest : pages % n < n = mod-lt pages (omega arith) in
        let split : n * (pages / n + 1) ≡ n * (pages / n) + n = omega arith in
        omega (arith, up, split, mod-add-div pages n, mod-add-div page n, rest)

-- a page of the partition has a place among the versions
pub place_within : (t : TableView) (page : ℕ) → FitsConfig t → IsPageOf t page → page / t.config.nodes < length t.versions
place_within t page fits mine =
    let low = no_later t.config.nodes page t.config.pages fits.limits.some_nodes mine.below in
    omega (arith, fits.versions, low)

-- the entry of a page of the partition, in the rules' table
pub entry_at_of : (t : TableView) (page : ℕ) → FitsConfig t → IsPageOf t page → entry_at (table_of t) page ≡ entry_of t page
entry_at_of t page fits mine =
    entry_in_pages (entry_of t) t.config.nodes t.config.pages page t.config.pages (page / t.config.nodes) t.partition
    (page_of_place t.config t.partition page mine.own) (low_place t page mine) mine.below fits.limits.some_nodes

-- the version of a page with an entry, and of one without
pub version_made : (t : TableView) (page : ℕ) (e : LockEntry) → FitsConfig t → IsPageOf t page → found t page ≡ Some e
    → e.version ≡ (entry_at (table_of t) page).version
version_made t page e fits mine there =
    sym (ap (λ (x : LockEntry). x.version) (entry_at_of t page fits mine) ∙ ap (λ o. (unwrap_or o (idle (kept_version t page))).version) there)

pub version_kept : (t : TableView) (page : ℕ) → FitsConfig t → IsPageOf t page → found t page ≡ None
    → kept_version t page ≡ (entry_at (table_of t) page).version
version_kept t page fits mine none =
    sym (ap (λ (x : LockEntry). x.version) (entry_at_of t page fits mine) ∙ ap (λ o. (unwrap_or o (idle (kept_version t page))).version) none)

-- a table that differs in the entry of one page alone
table_changed : (t later : TableView) (page : ℕ) (e : LockEntry) → FitsConfig t → IsPageOf t page
    → later.config ≡ t.config → later.partition ≡ t.partition → later.serving ≡ t.serving → later.reported ≡ t.reported
    → entry_of later page ≡ e → ((x : ℕ) → x % t.config.nodes ≡ t.partition → x ≢ page → entry_of later x ≡ entry_of t x)
    → table_of later ≡ put_entry (table_of t) page e
table_changed t later page e fits mine config partition serving reported new others =
    let rows = put_in_pages (entry_of t) (entry_of later) e t.config.nodes t.config.pages page t.partition t.config.pages (page / t.config.nodes) t.partition (page_of_place t.config t.partition page mine.own) (low_place t page mine) mine.below fits.limits.some_nodes (mod-eq_of_lt fits.partition) new others in
    (λ i. record { serving = serving i; entries = map (row_of (entry_of later)) (pages_of (config i) (partition i)); reported = reported i })
    ∙ ap (λ l. record { serving = t.serving; entries = l; reported = t.reported }) rows

-- a table that differs in no entry
table_same : (t later : TableView) → FitsConfig t
    → later.config ≡ t.config → later.partition ≡ t.partition → later.serving ≡ t.serving → later.reported ≡ t.reported
    → ((x : ℕ) → x % t.config.nodes ≡ t.partition → entry_of later x ≡ entry_of t x) → table_of later ≡ table_of t
table_same t later fits config partition serving reported same =
    let rows = same_rows (entry_of later) (entry_of t) t.config.nodes t.config.pages t.partition t.config.pages t.partition (mod-eq_of_lt fits.partition) (λ x own above. same x own) in
    (λ i. record { serving = serving i; entries = map (row_of (entry_of later)) (pages_of (config i) (partition i)); reported = reported i })
    ∙ ap (λ l. record { serving = t.serving; entries = l; reported = t.reported }) rows

set_same_case : (p : ℕ) (e : LockEntry) (x : ℕ × LockEntry) (es : List (ℕ × LockEntry)) (b : Bool) → nat_eq p x.0 ≡ b
    → IsSome (cond b (Some x.1) (lookup (nat_eq p) es))
    → (IsSome (lookup (nat_eq p) es) → lookup (nat_eq p) (set_value (nat_eq p) es e) ≡ Some e)
    → lookup (nat_eq p) (cond b ((x.0, e) ∷ es) (x ∷ set_value (nat_eq p) es e)) ≡ Some e
set_same_case p e x es true is there later = ap (λ c. cond c (Some e) (lookup (nat_eq p) es)) is
set_same_case p e x es false is there later =
    ap (λ c. cond c (Some x.1) (lookup (nat_eq p) (set_value (nat_eq p) es e))) is ∙ later there

-- what is set is found
found_set : (p : ℕ) (e : LockEntry) (es : List (ℕ × LockEntry)) → IsSome (lookup (nat_eq p) es)
    → lookup (nat_eq p) (set_value (nat_eq p) es e) ≡ Some e
found_set p e [] there = absurd (cc)
found_set p e (x ∷ es) there = set_same_case p e x es (nat_eq p x.0) refl there (found_set p e es)

other_key : (p q k : ℕ) → q ≢ p → nat_eq p k ≡ true → nat_eq q k ≡ false
other_key p q k other same = grind (arith, nat_tests)

set_other_case : (p q : ℕ) (e : LockEntry) (x : ℕ × LockEntry) (es : List (ℕ × LockEntry)) (b : Bool) → q ≢ p → nat_eq p x.0 ≡ b
    → lookup (nat_eq q) (set_value (nat_eq p) es e) ≡ lookup (nat_eq q) es
    → lookup (nat_eq q) (cond b ((x.0, e) ∷ es) (x ∷ set_value (nat_eq p) es e)) ≡ lookup (nat_eq q) (x ∷ es)
set_other_case p q e x es true other is later =
    let elsewhere = other_key p q x.0 other is in
    ap (λ c. cond c (Some e) (lookup (nat_eq q) es)) elsewhere ∙ sym (ap (λ c. cond c (Some x.1) (lookup (nat_eq q) es)) elsewhere)
set_other_case p q e x es false other is later = ap (λ l. cond (nat_eq q x.0) (Some x.1) l) later

-- what is set elsewhere changes nothing
found_other : (p q : ℕ) (e : LockEntry) (es : List (ℕ × LockEntry)) → q ≢ p
    → lookup (nat_eq q) (set_value (nat_eq p) es e) ≡ lookup (nat_eq q) es
found_other p q e [] other = refl
found_other p q e (x ∷ es) other = set_other_case p q e x es (nat_eq p x.0) other refl (found_other p q e es other)

-- another entry for a page that has one
pub table_put : (t : TableView) (page : ℕ) (e : LockEntry) → FitsConfig t → IsPageOf t page → IsSome (found t page)
    → table_of (with_entry t page e) ≡ put_entry (table_of t) page e
table_put t page e fits mine there =
    table_changed t (with_entry t page e) page e fits mine refl refl refl refl
    (ap (λ o. unwrap_or o (idle (kept_version t page))) (found_set page e t.entries there))
    (λ x own other. ap (λ o. unwrap_or o (idle (kept_version t x))) (found_other page x e t.entries other))

-- another version for a page with an entry
pub table_version : (t : TableView) (page v : ℕ) (e later : LockEntry) → FitsConfig t → IsPageOf t page → Some e ≡ found t page
    → later ≡ record e { version = v } → table_of (with_entry t page later) ≡ set_version (table_of t) page v
table_version t page v e later fits mine there changed =
    let some : IsSome (found t page) = subst IsSome there refl in
    let now : entry_at (table_of t) page ≡ e = entry_at_of t page fits mine ∙ ap (λ o. unwrap_or o (idle (kept_version t page))) (sym there) in
    table_put t page later fits mine some
    ∙ ap (λ x. put_entry (table_of t) page x) (changed ∙ ap (λ (x : LockEntry). record x { version = v }) (sym now))

not_both : (x page : ℕ) → nat_eq x page ≡ false → x ≡ page → ⊥
not_both x page is same = grind (arith, nat_tests)

made_set_case : (p q : ℕ) (e : LockEntry) (es : List (ℕ × LockEntry)) (b : Bool) → nat_eq q p ≡ b → IsSome (lookup (nat_eq p) es)
    → is_some (lookup (nat_eq q) (set_value (nat_eq p) es e)) ≡ is_some (lookup (nat_eq q) es)
made_set_case p q e es true is there =
    let same : q ≡ p = grind (arith, nat_tests) in
    ap (λ k. is_some (lookup (nat_eq k) (set_value (nat_eq p) es e))) same
    ∙ (ap (λ o. is_some o) (found_set p e es there) ∙ (sym there ∙ sym (ap (λ k. is_some (lookup (nat_eq k) es)) same)))
made_set_case p q e es false is there = ap (λ o. is_some o) (found_other p q e es (not_both q p is))

-- the pages with an entry stay the same
pub made_set : (t : TableView) (page q : ℕ) (e later : LockEntry) → Some e ≡ found t page
    → is_some (found (with_entry t page later) q) ≡ is_some (found t q)
made_set t page q e later there =
    made_set_case page q later t.entries (nat_eq q page) refl (subst IsSome there refl)

-- another version for a page without an entry
pub table_keep : (t : TableView) (page v : ℕ) → FitsConfig t → IsPageOf t page → found t page ≡ None
    → table_of (record t { versions = set t.versions (page / t.config.nodes) v }) ≡ set_version (table_of t) page v
table_keep t page v fits mine none =
    let place = page / t.config.nodes in
    let later : TableView = record t { versions = set t.versions place v } in
    let within : place < length t.versions = place_within t page fits mine in
    let now : entry_at (table_of t) page ≡ idle (kept_version t page) = entry_at_of t page fits mine ∙ ap (λ o. unwrap_or o (idle (kept_version t page))) none in
    table_changed t later page (idle v) fits mine refl refl refl refl
    (ap (λ o. unwrap_or o (idle (kept_version later page))) none ∙ ap idle (get_or-set_same t.versions place v 0 within))
    (λ x own other. ap (λ k. unwrap_or (found t x) (idle k)) (get_or-set_other t.versions place (x / t.config.nodes) v 0 (places_apart t.config.nodes t.partition x page own mine.own other)))
    ∙ ap (λ x. put_entry (table_of t) page x) (sym (ap (λ (x : LockEntry). record x { version = v }) now))

both : (a b : Bool) → (a && b) ≡ true → (a ≡ true) × (b ≡ true)
both true b h = (refl, h)
both false b h = absurd (cc)

no_item : {X : Type 0} (xs : List X) → (length xs == 0) ≡ true → xs ≡ []
no_item xs none = nil_from_length xs (zero_of (length xs) none)
  where
    zero_of : (n : ℕ) → (n == 0) ≡ true → n ≡ 0
    zero_of n is = grind (arith, nat_tests)

-- an entry with empty lists is its version
idle_entry : (e : LockEntry) → is_idle e ≡ true → e ≡ idle e.version
idle_entry e empty =
    let first = both (length e.holders == 0 && length e.rights == 0) (length e.waiting == 0) empty in
    let second = both (length e.holders == 0) (length e.rights == 0) first.0 in
    let holders = no_item e.holders second.0 in
    let rights = no_item e.rights second.1 in
    let waiting = no_item e.waiting first.1 in
    λ i. record { version = e.version; holders = holders i; rights = rights i; waiting = waiting i }

same_entry : (t later : TableView) (x page : ℕ) → entry_of later page ≡ entry_of t page → (x ≢ page → entry_of later x ≡ entry_of t x)
    → entry_of later x ≡ entry_of t x
same_entry t later x page here others = by_test (nat_eq x page) refl
  where
    by_test : (b : Bool) → nat_eq x page ≡ b → entry_of later x ≡ entry_of t x
    by_test true is =
        let same : x ≡ page = grind (arith, nat_tests) in
        ap (λ p. entry_of later p) same ∙ (here ∙ sym (ap (λ p. entry_of t p) same))
    by_test false is = others (not_both x page is)

-- an idle entry that is given up leaves the rules' table as it was
pub table_tidied : (t later : TableView) (page v : ℕ) (e : LockEntry) → FitsConfig t → IsPageOf t page → found t page ≡ Some e → is_idle e ≡ true
    → v ≡ e.version → HasKept t later page v → found later page ≡ None → ((x : ℕ) → x ≢ page → found later x ≡ found t x)
    → table_of later ≡ table_of t
table_tidied t later page v e fits mine there empty version kept gone others =
    let place = page / t.config.nodes in
    let within : place < length t.versions = place_within t page fits mine in
    let versions : (x : ℕ) → kept_version later x ≡ get_or (set t.versions place v) (x / t.config.nodes) 0 = (λ x. λ i. get_or (kept.versions i) (x / (kept.config i).nodes) 0) in
    let here : entry_of later page ≡ entry_of t page =
    ap (λ o. unwrap_or o (idle (kept_version later page))) gone
    ∙ (ap idle (versions page ∙ get_or-set_same t.versions place v 0 within ∙ version)
    ∙ (sym (idle_entry e empty) ∙ sym (ap (λ o. unwrap_or o (idle (kept_version t page))) there))) in
    table_same t later fits kept.config kept.partition kept.serving kept.reported
    (λ x own. same_entry t later x page here
    (λ other. (λ i. unwrap_or (others x other i) (idle ((versions x ∙ get_or-set_other t.versions place (x / t.config.nodes) v 0 (places_apart t.config.nodes t.partition x page own mine.own other)) i)))))

-- the premises on a page hold of a later table
pub page_kept : (t later : TableView) (p : ℕ) → later.config ≡ t.config → later.partition ≡ t.partition → IsPageOf t p → IsPageOf later p
page_kept t later p config partition mine = record {
  below = subst (λ (c : Sizes). p < c.pages) (sym config) mine.below;
  own = ap (λ (c : Sizes). p % c.nodes) config ∙ (mine.own ∙ sym partition);
}

-- one more page has its version
pub versions_step : (xs : List (ℕ × ℕ)) (i : ℕ) (d : ℕ × ℕ) (t later : LockTable) → i < length xs
    → later ≡ set_version t (get_or xs i d).0 (get_or xs i d).1
    → fold (λ t x. set_version t x.0 x.1) later (drop (i + 1) xs) ≡ fold (λ t x. set_version t x.0 x.1) t (drop i xs)
versions_step xs i d t later within changed =
    let next : suc i ≡ i + 1 = omega arith in
    let front : drop i xs ≡ get_or xs i d ∷ drop (i + 1) xs = drop-cons xs i d within ∙ ap (λ k. get_or xs i d ∷ drop k xs) next in
    ap (λ a. fold (λ t x. set_version t x.0 x.1) a (drop (i + 1) xs)) changed
    ∙ sym (ap (λ l. fold (λ t x. set_version t x.0 x.1) t l) front)

-- all have theirs
pub versions_end : (xs : List (ℕ × ℕ)) (i : ℕ) (t : LockTable) → length xs ≤ i → t ≡ fold (λ t x. set_version t x.0 x.1) t (drop i xs)
versions_end xs i t past = sym (ap (λ l. fold (λ t x. set_version t x.0 x.1) t l) (drop_of_length-le xs past))

insert_same_case : (p : ℕ) (e : LockEntry) (x : ℕ × LockEntry) (es : List (ℕ × LockEntry)) (b : Bool) → nat_eq p x.0 ≡ b
    → lookup (nat_eq p) (insert_entry nat_eq es p e) ≡ Some e
    → lookup (nat_eq p) (if b then (x.0, e) ∷ es else x ∷ insert_entry nat_eq es p e) ≡ Some e
insert_same_case p e x es true is later = ap (λ c. cond c (Some e) (lookup (nat_eq p) es)) is
insert_same_case p e x es false is later =
    ap (λ c. cond c (Some x.1) (lookup (nat_eq p) (insert_entry nat_eq es p e))) is ∙ later

same_key : (p : ℕ) → nat_eq p p ≡ true
same_key p = grind (arith, nat_tests)

-- what is inserted is found
found_inserted : (p : ℕ) (e : LockEntry) (es : List (ℕ × LockEntry)) → lookup (nat_eq p) (insert_entry nat_eq es p e) ≡ Some e
found_inserted p e [] = ap (λ c. cond c (Some e) None) (same_key p)
found_inserted p e (x ∷ es) = insert_same_case p e x es (nat_eq p x.0) refl (found_inserted p e es)

insert_other_case : (p q : ℕ) (e : LockEntry) (x : ℕ × LockEntry) (es : List (ℕ × LockEntry)) (b : Bool) → q ≢ p → nat_eq p x.0 ≡ b
    → lookup (nat_eq q) (insert_entry nat_eq es p e) ≡ lookup (nat_eq q) es
    → lookup (nat_eq q) (if b then (x.0, e) ∷ es else x ∷ insert_entry nat_eq es p e) ≡ lookup (nat_eq q) (x ∷ es)
insert_other_case p q e x es true other is later =
    let elsewhere = other_key p q x.0 other is in
    ap (λ c. cond c (Some e) (lookup (nat_eq q) es)) elsewhere ∙ sym (ap (λ c. cond c (Some x.1) (lookup (nat_eq q) es)) elsewhere)
insert_other_case p q e x es false other is later = ap (λ l. cond (nat_eq q x.0) (Some x.1) l) later

-- what is inserted elsewhere changes nothing
inserted_other : (p q : ℕ) (e : LockEntry) (es : List (ℕ × LockEntry)) → q ≢ p
    → lookup (nat_eq q) (insert_entry nat_eq es p e) ≡ lookup (nat_eq q) es
inserted_other p q e [] other = ap (λ c. cond c (Some e) None) (other_key p q p other (same_key p))
inserted_other p q e (x ∷ es) other = insert_other_case p q e x es (nat_eq p x.0) other refl (inserted_other p q e es other)

some_made : (p : ℕ) (e : LockEntry) (es : List (ℕ × LockEntry)) (b : Bool) → is_some (lookup (nat_eq p) es) ≡ b
    → IsSome (lookup (nat_eq p) (pick b es (insert_entry nat_eq es p e)))
some_made p e es true some = some
some_made p e es false none = ap (λ o. is_some o) (found_inserted p e es)

other_made : (p q : ℕ) (e : LockEntry) (es : List (ℕ × LockEntry)) (b : Bool) → q ≢ p
    → lookup (nat_eq q) (pick b es (insert_entry nat_eq es p e)) ≡ lookup (nat_eq q) es
other_made p q e es true other = refl
other_made p q e es false other = inserted_other p q e es other

-- what is last written to an entry that was made, if need be, is put into the rules' table
pub table_lent : (t : TableView) (page : ℕ) (e : LockEntry) → FitsConfig t → IsPageOf t page
    → table_of (with_entry (with_made t page) page e) ≡ put_entry (table_of t) page e
table_lent t page e fits mine =
    let made = with_made t page in
    let some : IsSome (found made page) = some_made page (idle (kept_version t page)) t.entries (is_some (found t page)) refl in
    table_changed t (with_entry made page e) page e fits mine refl refl refl refl
    (ap (λ o. unwrap_or o (idle (kept_version t page))) (found_set page e made.entries some))
    (λ x own other. ap (λ o. unwrap_or o (idle (kept_version t x)))
    (found_other page x e made.entries other ∙ other_made page x (idle (kept_version t page)) t.entries (is_some (found t page)) other))

-- what isn't some is none
pub none_of : {X : Type 0} (o : Option X) → is_some o ≡ false → o ≡ None
none_of None none = refl
none_of (Some x) none = absurd (cc)

-- a read of a kept version
pub read_kept : (xs : List ℕ) (page n m r : ℕ) → r ≡ get_or xs (page / n) r → n ≡ m → page / m < length xs → r ≡ get_or xs (page / m) 0
read_kept xs page n m r read same within =
    read ∙ (ap (λ k. get_or xs (page / k) r) same ∙ get_or_default_zero xs (page / m) r within)
