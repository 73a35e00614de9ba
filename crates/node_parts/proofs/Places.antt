-- The places of tables, and how a change of one of them shows.
use Rattle.std.proofs.Common.{◌≡◌, ◌≢◌, ℕ, zero, suc, ◌%◌, ◌<◌, ◌≤◌, ◌==◌, ◌||◌, nat_eq, Bool, true, false, cond, if◌then◌else◌, Option, Some, None, Result, Ok, Err, IsSome, is_some, unwrap_or, List, [], ◌∷◌, map, length, get_or, set, refl, ap, sym, ◌∙◌, subst, arith}
use Rattle.std.proofs.lemmas.Bool.Decides.{nat_tests}
use Rattle.std.proofs.lemmas.List.{map-set, get_or-set_same, get_or-set_other, length-set}
use Rattle.std.proofs.Math.ListN.{get_or-map}
use Rattle.std.proofs.Math.Seq.{map-set_same}
use Rattle.std.proofs.Math.Nat.{mod-lt}
use Rattle.std.specs.Result.{IsOk, OnOk, OnErr}
use Rattle.std.proofs.lemmas.Map.Steps.{set_value_same}
use Rattle.std.specs.Option.{option_map, IfSome}
use Rattle.std.specs.Map.{lookup, set_value}
use Rattle.indexmap.specs.IndexMap.{insert_entry}
use Rattle.node_rules.specs.Words.{pick}
use Rattle.node_rules.specs.LockRule.{LockEntry, idle}
use Rattle.node_rules.specs.LockTable.{pages_of, put_entry}
use Rattle.lock_table.specs.Tables.{TableView, found, kept_version, entry_of, table_of, is_idle, with_made, with_entry}
use Rattle.home.specs.Ends.{listed}
use Rattle.node_parts.specs.Tables.{TablesView, lock_tables, place_at, found_in, made_at, IsTableAt, FitPlaces, is_unused, IsTidyBut, AreTidyBut, with_entry_at}

-- the tables of the rules stay the same where a table does
pub places_same : (places : List (Option TableView)) (q : ℕ) (t later : TableView) → place_at places q ≡ Some t
    → table_of later ≡ table_of t → lock_tables (set places q (Some later)) ≡ lock_tables places
places_same places q t later there same =
    map-set_same (option_map table_of) places q (Some later) None (ap Some same ∙ sym (ap (option_map table_of) there))

-- an entry is put into the table of its place
pub places_put : (places : List (Option TableView)) (q page : ℕ) (e : LockEntry) (t later : TableView) → place_at places q ≡ Some t
    → table_of later ≡ put_entry (table_of t) page e
    → lock_tables (set places q (Some later)) ≡ with_entry_at (lock_tables places) q page e
places_put places q page e t later there put =
    let here : get_or (lock_tables places) q None ≡ Some (table_of t) = get_or-map (option_map table_of) places q None ∙ ap (option_map table_of) there in
    map-set (option_map table_of) places q (Some later)
    ∙ (ap (λ x. set (lock_tables places) q (Some x)) put
    ∙ sym (ap (λ o. set (lock_tables places) q (option_map (λ t. put_entry t page e) o)) here))

-- a table of its place keeps the fit
pub fits_set : (v : TablesView) (q : ℕ) (table : Option TableView) → FitPlaces v → q < v.config.nodes → IfSome table (IsTableAt v.config q)
    → FitPlaces (record v { places = set v.places q table })
fits_set v q table fits within mine =
    record {
      nodes = length-set v.places q table ∙ fits.nodes;
      each = λ r. by_test r (nat_eq r q) refl;
    }
  where
    by_test : (r : ℕ) (b : Bool) → nat_eq r q ≡ b → IfSome (place_at (set v.places q table) r) (IsTableAt v.config r)
    by_test r true is =
        let same : q ≡ r = grind (arith, nat_tests) in
        let low : q < length v.places = omega (arith, within, fits.nodes) in
        subst (λ k. IfSome (place_at (set v.places q table) k) (IsTableAt v.config k)) same
        (subst (λ o. IfSome o (IsTableAt v.config q)) (sym (get_or-set_same v.places q table None low)) mine)
    by_test r false is =
        let other : r ≢ q = λ same. grind (arith, nat_tests) in
        subst (λ o. IfSome o (IsTableAt v.config r)) (sym (get_or-set_other v.places q r table None other)) (fits.each r)

same_key : (p : ℕ) → nat_eq p p ≡ true
same_key p = grind (arith, nat_tests)

other_key : (p q k : ℕ) → q ≢ p → nat_eq p k ≡ true → nat_eq q k ≡ false
other_key p q k other same = grind (arith, nat_tests)

set_same_case : (p : ℕ) (e : LockEntry) (x : ℕ × LockEntry) (es : List (ℕ × LockEntry)) (b : Bool) → nat_eq p x.0 ≡ b
    → IsSome (cond b (Some x.1) (lookup (nat_eq p) es))
    → (IsSome (lookup (nat_eq p) es) → lookup (nat_eq p) (set_value (nat_eq p) es e) ≡ Some e)
    → lookup (nat_eq p) (cond b ((x.0, e) ∷ es) (x ∷ set_value (nat_eq p) es e)) ≡ Some e
set_same_case p e x es true is there later = ap (λ c. cond c (Some e) (lookup (nat_eq p) es)) is
set_same_case p e x es false is there later = ap (λ c. cond c (Some x.1) (lookup (nat_eq p) (set_value (nat_eq p) es e))) is ∙ later there

set_at : (p : ℕ) (e : LockEntry) (es : List (ℕ × LockEntry)) → IsSome (lookup (nat_eq p) es)
    → lookup (nat_eq p) (set_value (nat_eq p) es e) ≡ Some e
set_at p e [] there = absurd (cc)
set_at p e (x ∷ es) there = set_same_case p e x es (nat_eq p x.0) refl there (set_at p e es)

set_other_case : (p q : ℕ) (e : LockEntry) (x : ℕ × LockEntry) (es : List (ℕ × LockEntry)) (b : Bool) → q ≢ p → nat_eq p x.0 ≡ b
    → lookup (nat_eq q) (set_value (nat_eq p) es e) ≡ lookup (nat_eq q) es
    → lookup (nat_eq q) (cond b ((x.0, e) ∷ es) (x ∷ set_value (nat_eq p) es e)) ≡ lookup (nat_eq q) (x ∷ es)
set_other_case p q e x es true other is later =
    let elsewhere = other_key p q x.0 other is in
    ap (λ c. cond c (Some e) (lookup (nat_eq q) es)) elsewhere ∙ sym (ap (λ c. cond c (Some x.1) (lookup (nat_eq q) es)) elsewhere)
set_other_case p q e x es false other is later = ap (λ l. cond (nat_eq q x.0) (Some x.1) l) later

set_past : (p q : ℕ) (e : LockEntry) (es : List (ℕ × LockEntry)) → q ≢ p
    → lookup (nat_eq q) (set_value (nat_eq p) es e) ≡ lookup (nat_eq q) es
set_past p q e [] other = refl
set_past p q e (x ∷ es) other = set_other_case p q e x es (nat_eq p x.0) other refl (set_past p q e es other)

-- what is put for a page is found there, and nothing else changes
pub found_put : (t : TableView) (page : ℕ) (e : LockEntry) → IsSome (found t page) → found (with_entry t page e) page ≡ Some e
found_put t page e there = set_at page e t.entries there

pub found_put_past : (t : TableView) (page p : ℕ) (e : LockEntry) → p ≢ page → found (with_entry t page e) p ≡ found t p
found_put_past t page p e other = set_past page p e t.entries other

insert_same_case : (p : ℕ) (e : LockEntry) (x : ℕ × LockEntry) (es : List (ℕ × LockEntry)) (b : Bool) → nat_eq p x.0 ≡ b
    → lookup (nat_eq p) (insert_entry nat_eq es p e) ≡ Some e
    → lookup (nat_eq p) (if b then (x.0, e) ∷ es else x ∷ insert_entry nat_eq es p e) ≡ Some e
insert_same_case p e x es true is later = ap (λ c. cond c (Some e) (lookup (nat_eq p) es)) is
insert_same_case p e x es false is later = ap (λ c. cond c (Some x.1) (lookup (nat_eq p) (insert_entry nat_eq es p e))) is ∙ later

insert_at : (p : ℕ) (e : LockEntry) (es : List (ℕ × LockEntry)) → lookup (nat_eq p) (insert_entry nat_eq es p e) ≡ Some e
insert_at p e [] = ap (λ c. cond c (Some e) None) (same_key p)
insert_at p e (x ∷ es) = insert_same_case p e x es (nat_eq p x.0) refl (insert_at p e es)

insert_other_case : (p q : ℕ) (e : LockEntry) (x : ℕ × LockEntry) (es : List (ℕ × LockEntry)) (b : Bool) → q ≢ p → nat_eq p x.0 ≡ b
    → lookup (nat_eq q) (insert_entry nat_eq es p e) ≡ lookup (nat_eq q) es
    → lookup (nat_eq q) (if b then (x.0, e) ∷ es else x ∷ insert_entry nat_eq es p e) ≡ lookup (nat_eq q) (x ∷ es)
insert_other_case p q e x es true other is later =
    let elsewhere = other_key p q x.0 other is in
    ap (λ c. cond c (Some e) (lookup (nat_eq q) es)) elsewhere ∙ sym (ap (λ c. cond c (Some x.1) (lookup (nat_eq q) es)) elsewhere)
insert_other_case p q e x es false other is later = ap (λ l. cond (nat_eq q x.0) (Some x.1) l) later

insert_past : (p q : ℕ) (e : LockEntry) (es : List (ℕ × LockEntry)) → q ≢ p
    → lookup (nat_eq q) (insert_entry nat_eq es p e) ≡ lookup (nat_eq q) es
insert_past p q e [] other = ap (λ c. cond c (Some e) None) (other_key p q p other (same_key p))
insert_past p q e (x ∷ es) other = insert_other_case p q e x es (nat_eq p x.0) other refl (insert_past p q e es other)

made_case : (p : ℕ) (e : LockEntry) (es : List (ℕ × LockEntry)) (b : Bool) → is_some (lookup (nat_eq p) es) ≡ b
    → IsSome (lookup (nat_eq p) (pick b es (insert_entry nat_eq es p e)))
made_case p e es true some = some
made_case p e es false none = ap (λ o. is_some o) (insert_at p e es)

past_case : (p q : ℕ) (e : LockEntry) (es : List (ℕ × LockEntry)) (b : Bool) → q ≢ p
    → lookup (nat_eq q) (pick b es (insert_entry nat_eq es p e)) ≡ lookup (nat_eq q) es
past_case p q e es true other = refl
past_case p q e es false other = insert_past p q e es other

-- an entry that was made is found, and nothing else changes
pub found_made : (t : TableView) (page : ℕ) → IsSome (found (with_made t page) page)
found_made t page = made_case page (idle (kept_version t page)) t.entries (is_some (found t page)) refl

pub found_made_past : (t : TableView) (page p : ℕ) → p ≢ page → found (with_made t page) p ≡ found t p
found_made_past t page p other = past_case page p (idle (kept_version t page)) t.entries (is_some (found t page)) other

none_rest : (b : Bool) (x : LockEntry) (l : Option LockEntry) → cond b (Some x) l ≡ None → (b ≡ false) × (l ≡ None)
none_rest true x l none = absurd (cc)
none_rest false x l none = (refl, none)

first_case : (x p : ℕ) (g : ℕ → ℕ) (b : Bool) → nat_eq x p ≡ b → unwrap_or (cond b (Some (idle (g p))) None) (idle (g x)) ≡ idle (g x)
first_case x p g true is = let same : p ≡ x = grind (arith, nat_tests) in ap (λ k. idle (g k)) same
first_case x p g false is = refl

later_case : (b : Bool) (e d : LockEntry) (l m : Option LockEntry) → unwrap_or l d ≡ unwrap_or m d → unwrap_or (cond b (Some e) l) d ≡ unwrap_or (cond b (Some e) m) d
later_case true e d l m same = refl
later_case false e d l m same = same

inserted_same : (x p : ℕ) (g : ℕ → ℕ) (es : List (ℕ × LockEntry)) → lookup (nat_eq p) es ≡ None
    → unwrap_or (lookup (nat_eq x) (insert_entry nat_eq es p (idle (g p)))) (idle (g x)) ≡ unwrap_or (lookup (nat_eq x) es) (idle (g x))
inserted_same x p g [] none = first_case x p g (nat_eq x p) refl
inserted_same x p g (e ∷ es) none =
    let parts = none_rest (nat_eq p e.0) e.1 (lookup (nat_eq p) es) none in
    ap (λ b. unwrap_or (lookup (nat_eq x) (if b then (e.0, idle (g p)) ∷ es else e ∷ insert_entry nat_eq es p (idle (g p)))) (idle (g x))) parts.0
    ∙ later_case (nat_eq x e.0) e.1 (idle (g x)) _ _ (inserted_same x p g es parts.1)

none_of : (o : Option LockEntry) → is_some o ≡ false → o ≡ None
none_of None none = refl
none_of (Some x) none = absurd (cc)

entry_case : (t : TableView) (page x : ℕ) (b : Bool) → is_some (found t page) ≡ b
    → unwrap_or (lookup (nat_eq x) (pick b t.entries (insert_entry nat_eq t.entries page (idle (kept_version t page))))) (idle (kept_version t x)) ≡ entry_of t x
entry_case t page x true there = refl
entry_case t page x false none = inserted_same x page (kept_version t) t.entries (none_of (found t page) none)

-- an entry that is made changes nothing for the rules
pub table_made : (t : TableView) (page : ℕ) → table_of (with_made t page) ≡ table_of t
table_made t page =
    λ i. record { serving = t.serving; entries = map (λ p. record { page = p; entry = entry_case t page p (is_some (found t page)) refl i }) (pages_of t.config t.partition); reported = t.reported }

-- an entry that was made and is lent is as it was made
pub made_again : (t later : TableView) (page : ℕ) (e : LockEntry) → Some e ≡ found (with_made t page) page
    → later ≡ with_entry (with_made t page) page e → later ≡ with_made t page
made_again t later page e lent is =
    is ∙ ap (λ l. record (with_made t page) { entries = l }) (set_value_same (nat_eq page) (with_made t page).entries e (sym lent))

self_test : (p : ℕ) → (p == p) ≡ true
self_test p = grind (arith, nat_tests)

or_true : (b : Bool) → (b || true) ≡ true
or_true true = refl
or_true false = refl

listed_self : (page : ℕ) (ps : List ℕ) → listed (page ∷ ps) page ≡ true
listed_self page ps = ap (λ b. b || listed ps page) (self_test page)

listed_more : (page p : ℕ) (ps : List ℕ) → listed ps p ≡ true → listed (page ∷ ps) p ≡ true
listed_more page p ps there = ap (λ b. (page == p) || b) there ∙ or_true (page == p)

listed_less : (page p : ℕ) (ps : List ℕ) → p ≢ page → listed (page ∷ ps) p ≡ true → listed ps p ≡ true
listed_less page p ps other there = sym (ap (λ b. b || listed ps p) apart) ∙ there
  where
    apart : (page == p) ≡ false
    apart = grind (arith, nat_tests)

-- another table in a place: what is unused in it, and in the others, is listed
pub tidy_set : (ps qs : List ℕ) (v : TablesView) (q : ℕ) (x : Option TableView) → q < length v.places
    → ((r p : ℕ) → r ≢ q → listed ps p ≡ true → p % v.config.nodes ≡ r → listed qs p ≡ true)
    → AreTidyBut ps v → IsTidyBut qs v.config q x → AreTidyBut qs (record v { places = set v.places q x })
tidy_set ps qs v q x low more tidy mine r p unused = by_test (nat_eq r q) refl
  where
    by_test : (b : Bool) → nat_eq r q ≡ b → (listed qs p ≡ true) × (p % v.config.nodes ≡ r)
    by_test true is =
        let same : r ≡ q = grind (arith, nat_tests) in
        let here : is_unused (found_in x p) ≡ true =
        sym (ap (λ o. is_unused (found_in o p)) (get_or-set_same v.places q x None low)) ∙ (sym (ap (λ k. is_unused (found_in (place_at (set v.places q x) k) p)) same) ∙ unused) in
        let listed_here = mine p here in
        (listed_here.0, listed_here.1 ∙ sym same)
    by_test false is =
        let other : r ≢ q = λ same. grind (arith, nat_tests) in
        let before = tidy r p (sym (ap (λ o. is_unused (found_in o p)) (get_or-set_other v.places q r x None other)) ∙ unused) in
        (more r p other before.0 before.1, before.1)

-- room is made for a page's entry
pub tidy_made : (ps : List ℕ) (v : TablesView) (page : ℕ) (t later : TableView) → place_at v.places (page % v.config.nodes) ≡ Some t
    → page % v.config.nodes < length v.places → ((p : ℕ) → p ≢ page → found later p ≡ found t p)
    → AreTidyBut ps v → AreTidyBut (page ∷ ps) (record v { places = set v.places (page % v.config.nodes) (Some later) })
tidy_made ps v page t later there low others tidy =
    tidy_set ps (page ∷ ps) v (page % v.config.nodes) (Some later) low (λ r p other before own. listed_more page p ps before) tidy (λ p unused. by_test p unused (nat_eq p page) refl)
  where
    by_test : (p : ℕ) → is_unused (found later p) ≡ true → (b : Bool) → nat_eq p page ≡ b → (listed (page ∷ ps) p ≡ true) × (p % v.config.nodes ≡ page % v.config.nodes)
    by_test p unused true is =
        let same : p ≡ page = grind (arith, nat_tests) in
        (ap (λ k. listed (page ∷ ps) k) same ∙ listed_self page ps, ap (λ k. k % v.config.nodes) same)
    by_test p unused false is =
        let other : p ≢ page = λ same. grind (arith, nat_tests) in
        let before = tidy (page % v.config.nodes) p (ap (λ o. is_unused (found_in o p)) there ∙ (sym (ap is_unused (others p other)) ∙ unused)) in
        (listed_more page p ps before.0, before.1)

-- a page's entry is in use, or there is none
pub tidy_put : (ps : List ℕ) (v : TablesView) (page : ℕ) (t later : TableView) → place_at v.places (page % v.config.nodes) ≡ Some t
    → page % v.config.nodes < length v.places → ((p : ℕ) → p ≢ page → found later p ≡ found t p) → is_unused (found later page) ≡ false
    → AreTidyBut (page ∷ ps) v → AreTidyBut ps (record v { places = set v.places (page % v.config.nodes) (Some later) })
tidy_put ps v page t later there low others used tidy =
    tidy_set (page ∷ ps) ps v (page % v.config.nodes) (Some later) low
    (λ r p other before own. listed_less page p ps (λ same. other (sym own ∙ ap (λ k. k % v.config.nodes) same)) before) tidy
    (λ p unused. by_test p unused (nat_eq p page) refl)
  where
    by_test : (p : ℕ) → is_unused (found later p) ≡ true → (b : Bool) → nat_eq p page ≡ b → (listed ps p ≡ true) × (p % v.config.nodes ≡ page % v.config.nodes)
    by_test p unused true is =
        let same : p ≡ page = grind (arith, nat_tests) in
        let here : is_unused (found later page) ≡ true = sym (ap (λ k. is_unused (found later k)) same) ∙ unused in
        absurd (cc)
    by_test p unused false is =
        let other : p ≢ page = λ same. grind (arith, nat_tests) in
        let before = tidy (page % v.config.nodes) p (ap (λ o. is_unused (found_in o p)) there ∙ (sym (ap is_unused (others p other)) ∙ unused)) in
        (listed_less page p ps other before.0, before.1)

used_case : (e : LockEntry) (b : Bool) → is_idle e ≡ b → is_unused (pick b None (Some e)) ≡ false
used_case e true is = refl
used_case e false is = is

-- an entry that is tidied is used
pub used_tidied : (e : LockEntry) (o : Option LockEntry) → o ≡ pick (is_idle e) None (Some e) → is_unused o ≡ false
used_tidied e o is = ap is_unused is ∙ used_case e (is_idle e) refl

-- the entries that were made, after a table changed
pub made_here : (v : TablesView) (page : ℕ) (later : TableView) → page % v.config.nodes < length v.places
    → made_at (record v { places = set v.places (page % v.config.nodes) (Some later) }) page ≡ found later page
made_here v page later low =
    ap (λ o. found_in o page) (get_or-set_same v.places (page % v.config.nodes) (Some later) None low)

pub made_past : (v : TablesView) (page p : ℕ) (t later : TableView) → place_at v.places (page % v.config.nodes) ≡ Some t
    → page % v.config.nodes < length v.places → found later p ≡ found t p
    → made_at (record v { places = set v.places (page % v.config.nodes) (Some later) }) p ≡ made_at v p
made_past v page p t later there low same_found = by_test (nat_eq (p % v.config.nodes) (page % v.config.nodes)) refl
  where
    by_test : (b : Bool) → nat_eq (p % v.config.nodes) (page % v.config.nodes) ≡ b
        → made_at (record v { places = set v.places (page % v.config.nodes) (Some later) }) p ≡ made_at v p
    by_test true is =
        let same : p % v.config.nodes ≡ page % v.config.nodes = grind (arith, nat_tests) in
        ap (λ k. found_in (place_at (set v.places (page % v.config.nodes) (Some later)) k) p) same
        ∙ (ap (λ o. found_in o p) (get_or-set_same v.places (page % v.config.nodes) (Some later) None low)
        ∙ (same_found ∙ (sym (ap (λ o. found_in o p) there) ∙ sym (ap (λ k. found_in (place_at v.places k) p) same))))
    by_test false is =
        let other : p % v.config.nodes ≢ page % v.config.nodes = λ same. grind (arith, nat_tests) in
        ap (λ o. found_in o p) (get_or-set_other v.places (page % v.config.nodes) (p % v.config.nodes) (Some later) None other)

pub default_same : {X : Type 0} (xs : List X) (i : ℕ) (d e : X) → i < length xs → get_or xs i d ≡ get_or xs i e
default_same [] i d e within = absurd (omega (arith, within))
default_same (x ∷ xs) zero d e within = refl
default_same (x ∷ xs) (suc i) d e within = default_same xs i d e (omega (arith, within))

low_of : (v : TablesView) (page : ℕ) → FitPlaces v → 1 ≤ v.config.nodes → page % v.config.nodes < length v.places
low_of v page fits some = let rest : page % v.config.nodes < v.config.nodes = mod-lt page (omega (arith, some)) in omega (arith, rest, fits.nodes)

there_of : (v : TablesView) (page : ℕ) (r : Option TableView) (t : TableView) → page % v.config.nodes < length v.places
    → r ≡ get_or v.places (page % v.config.nodes) r → r ≡ Some t → place_at v.places (page % v.config.nodes) ≡ Some t
there_of v page r t low read is = default_same v.places (page % v.config.nodes) None r low ∙ (sym read ∙ is)

-- a page's table that was looked up, and the table that it became
pub record Changed (v now : TablesView) (n page : ℕ) (t : TableView) : Type 0 where
  pub seen : v ≡ now
  pub count : n ≡ v.config.nodes
  pub low : page % v.config.nodes < length v.places
  pub there : place_at v.places (page % v.config.nodes) ≡ Some t

pub changed_of : (v now : TablesView) (n page : ℕ) (r : Option TableView) (t : TableView) → v ≡ now → FitPlaces v → n ≡ v.config.nodes → 1 ≤ v.config.nodes
    → r ≡ get_or v.places (page % n) r → r ≡ Some t → Changed v now n page t
changed_of v now n page r t seen fits count some read is =
    let low = low_of v page fits some in
    let there = there_of v page r t low (read ∙ ap (λ k. get_or v.places (page % k) r) count) is in
    record { seen = seen; count = count; low = low; there = there }

-- the places after the change
abbrev pub after : TablesView → ℕ → ℕ → TableView → TablesView
after v n page later = record v { places = set v.places (page % n) (Some later) }

pub same_tables : (v now : TablesView) (n page : ℕ) (t later : TableView) → Changed v now n page t → table_of later ≡ table_of t
    → lock_tables (after v n page later).places ≡ lock_tables now.places
same_tables v now n page t later c same =
    ap (λ k. lock_tables (after v k page later).places) c.count
    ∙ (places_same v.places (page % v.config.nodes) t later c.there same ∙ ap (λ (x : TablesView). lock_tables x.places) c.seen)

pub put_tables : (v now : TablesView) (n page : ℕ) (e : LockEntry) (t later : TableView) → Changed v now n page t → table_of later ≡ put_entry (table_of t) page e
    → lock_tables (after v n page later).places ≡ with_entry_at (lock_tables now.places) (page % now.config.nodes) page e
put_tables v now n page e t later c put =
    ap (λ k. lock_tables (after v k page later).places) c.count
    ∙ (places_put v.places (page % v.config.nodes) page e t later c.there put
    ∙ ap (λ (x : TablesView). with_entry_at (lock_tables x.places) (page % x.config.nodes) page e) c.seen)

pub made_tidy : (v now : TablesView) (n page : ℕ) (t later : TableView) (ps : List ℕ) → Changed v now n page t → ((p : ℕ) → p ≢ page → found later p ≡ found t p)
    → AreTidyBut ps now → AreTidyBut (page ∷ ps) (after v n page later)
made_tidy v now n page t later ps c others tidy =
    subst (λ k. AreTidyBut (page ∷ ps) (after v k page later)) (sym c.count)
    (tidy_made ps v page t later c.there c.low others (subst (AreTidyBut ps) (sym c.seen) tidy))

pub put_tidy : (v now : TablesView) (n page : ℕ) (t later : TableView) (ps : List ℕ) → Changed v now n page t → ((p : ℕ) → p ≢ page → found later p ≡ found t p)
    → is_unused (found later page) ≡ false → AreTidyBut (page ∷ ps) now → AreTidyBut ps (after v n page later)
put_tidy v now n page t later ps c others used tidy =
    subst (λ k. AreTidyBut ps (after v k page later)) (sym c.count)
    (tidy_put ps v page t later c.there c.low others used (subst (AreTidyBut (page ∷ ps)) (sym c.seen) tidy))

pub made_found : (v now : TablesView) (n page : ℕ) (t later : TableView) → Changed v now n page t → IsSome (found later page) → IsSome (made_at (after v n page later) page)
made_found v now n page t later c some =
    subst (λ k. IsSome (made_at (after v k page later) page)) (sym c.count) (subst IsSome (sym (made_here v page later c.low)) some)

pub made_others : (v now : TablesView) (n page p : ℕ) (t later : TableView) → Changed v now n page t → found later p ≡ found t p
    → made_at (after v n page later) p ≡ made_at now p
made_others v now n page p t later c same =
    ap (λ k. made_at (after v k page later) p) c.count
    ∙ (made_past v page p t later c.there c.low same ∙ ap (λ (x : TablesView). made_at x p) c.seen)

-- the entry that was made for a page is that of its table
pub found_there : (v now : TablesView) (n page : ℕ) (t : TableView) → Changed v now n page t → IsSome (made_at now page) → IsSome (found t page)
found_there v now n page t c some =
    subst (λ o. IsSome (found_in o page)) c.there (subst (λ (x : TablesView). IsSome (made_at x page)) (sym c.seen) some)

pub used_given_up : (o x : Option LockEntry) → IsSome o → IfSome o (λ e. x ≡ pick (is_idle e) None (Some e)) → is_unused x ≡ false
used_given_up None x some given = absurd (cc)
used_given_up (Some e) x some given = used_tidied e x given

pub is_ok : {X E : Type 0} (r : Result X E) (x : X) → r ≡ Ok x → IsOk r
is_ok r x ok = subst IsOk (sym ok) refl

pub on_ok : {X E : Type 0} (P Q : Type 0) (r : Result X E) → (P → Q) → OnOk r P → OnOk r Q
on_ok P Q (Ok x) f p = f p
on_ok P Q (Err e) f p = p

-- room that is made, or wanted memory, changes nothing for the rules
pub same_or_made : {X E : Type 0} (r : Result X E) (t later : TableView) (page : ℕ) → OnOk r (later ≡ with_made t page) → OnErr r (later ≡ t) → table_of later ≡ table_of t
same_or_made (Ok x) t later page made err = ap table_of made ∙ table_made t page
same_or_made (Err e) t later page made err = ap table_of err
