-- Room for the entries of some pages, made page by page.
use Rattle.std.proofs.Common.{◌≡◌, ℕ, zero, suc, ◌+◌, ◌<◌, ◌≤◌, ◌==◌, ◌||◌, ◌%◌, Bool, true, false, List, [], ◌∷◌, ◌++◌, length, take, drop, drop-cons, get_or, Result, Ok, Err, None, refl, ap, sym, subst, ◌∙◌, arith}
use Rattle.std.specs.List.{AllByRecursion}
use Rattle.std.proofs.lemmas.List.{take_more}
use Rattle.home.specs.Ends.{listed}
use Rattle.home_laws.proofs.Words.{equal, self_test}
use Rattle.std.specs.Prelude.{OnErr, OnOk}
use Rattle.std.specs.Option.{option_map}
use Rattle.pcl_base.specs.Limits.{Sizes}
use Rattle.node_rules.specs.NodeState.{NodeState, table_of}
use Rattle.lock_table.specs.Tables.{table_of as seen}
use Rattle.node_parts.specs.State.{AreParts, IsNode, PartsView, node_of}
use Rattle.node_parts.specs.Tables.{AreTidyBut, TablesView, found_in, is_unused, lock_tables, place_at, table_for}
use Rattle.page_owner.specs.Planned.{ArePartsBut, SameView}
use Rattle.page_owner.proofs.Planned.{table_of_page}
use Rattle.own_steps.specs.Ends.{HasEntry, IsOwned, pages_in}
use Rattle.own_steps.specs.declared.page_end.PageEnd.{PageEnd}
use Rattle.own_steps.proofs.Dues.{taken_all}

-- what all items have
pub all_at : {X : Type 0} (P : X → Type 0) (xs : List X) (i : ℕ) (d : X) → i < length xs → AllByRecursion P xs → P (get_or xs i d)
all_at P [] i d within all = absurd (omega (arith, within))
all_at P (x ∷ xs) zero d within all = all.0
all_at P (x ∷ xs) (suc i) d within all = all_at P xs i d (omega (arith, within)) all.1

all_both : {X : Type 0} (P : X → Type 0) (xs ys : List X) → AllByRecursion P xs → AllByRecursion P ys → AllByRecursion P (xs ++ ys)
all_both P [] ys first second = second
all_both P (x ∷ xs) ys first second = (first.0, all_both P xs ys first.1 second)

all_more : {X : Type 0} (P Q : X → Type 0) (xs : List X) → ((x : X) → P x → Q x) → AllByRecursion P xs → AllByRecursion Q xs
all_more P Q [] f all = tt
all_more P Q (x ∷ xs) f all = (f x all.0, all_more P Q xs f all.1)

pub all_over : {X : Type 0} (P : X → Type 0) (xs : List X) (i : ℕ) → length xs ≤ i → AllByRecursion P (take i xs) → AllByRecursion P xs
all_over P xs i over all = subst (AllByRecursion P) (taken_all xs i over) all

-- the item of a list that a loop is at
pub item_has : {X : Type 0} (P : X → Type 0) (xs : List X) (i : ℕ) (x : X) → x ≡ get_or xs i x → i < length xs → AllByRecursion P xs → P x
item_has P xs i x is within all = subst P (sym is) (all_at P xs i x within all)

pub item_front : {X : Type 0} (xs : List X) (i : ℕ) (x : X) → x ≡ get_or xs i x → i < length xs → x ∷ drop (i + 1) xs ≡ drop i xs
item_front xs i x is within =
    let next : i + 1 ≡ suc i = omega arith in
    (λ k. is k ∷ drop (next k) xs) ∙ sym (drop-cons xs i x within)

pub item_below : (u v : NodeState) (xs : List PageEnd) (i : ℕ) (x : PageEnd) → x ≡ get_or xs i x → i < length xs → u ≡ v → AllByRecursion (λ y. y.page < v.home.config.pages) xs → x.page < u.home.config.pages
item_below u v xs i x is within same all = subst (λ (n : NodeState). x.page < n.home.config.pages) (sym same) (item_has (λ y. y.page < v.home.config.pages) xs i x is within all)

pub item_owned : (u v : NodeState) (xs : List PageEnd) (i : ℕ) (x : PageEnd) → x ≡ get_or xs i x → i < length xs → u ≡ v → AllByRecursion (IsOwned v) xs → IsOwned u x
item_owned u v xs i x is within same all = subst (λ n. IsOwned n x) (sym same) (item_has (IsOwned v) xs i x is within all)

-- room for one page more
pub all_next : (u v : TablesView) (xs : List PageEnd) (i : ℕ) (x : PageEnd) → x ≡ get_or xs i x → i < length xs → ((y : PageEnd) → HasEntry u y → HasEntry v y) → AllByRecursion (HasEntry u) (take i xs) → HasEntry v x
    → AllByRecursion (HasEntry v) (take (i + 1) xs)
all_next u v xs i x is within others all here =
    subst (AllByRecursion (HasEntry v)) (sym (take_more xs i x within))
    (all_both (HasEntry v) (take i xs) (get_or xs i x ∷ []) (all_more (HasEntry u) (HasEntry v) (take i xs) others all) (subst (HasEntry v) is here, tt))

-- pages in a list
either_true : (a b : Bool) → (a || b) ≡ true → (a ≡ true → b ≡ true) → b ≡ true
either_true true b e f = f refl
either_true false b e f = e

or_right : (a b : Bool) → b ≡ true → (a || b) ≡ true
or_right true b e = refl
or_right false b e = e

or_left : (a b : Bool) → a ≡ true → (a || b) ≡ true
or_left true b e = refl
or_left false b e = absurd (cc)

pub among_pages : (xs : List PageEnd) (i : ℕ) (d : PageEnd) → i < length xs → listed (pages_in xs) (get_or xs i d).page ≡ true
among_pages [] i d within = absurd (omega (arith, within))
among_pages (x ∷ xs) zero d within = or_left (x.page == x.page) (listed (pages_in xs) x.page) (self_test x.page)
among_pages (x ∷ xs) (suc i) d within = or_right (x.page == (get_or xs i d).page) (listed (pages_in xs) (get_or xs i d).page) (among_pages xs i d (omega (arith, within)))

-- more pages may have entries with empty lists
pub tidy_more : (ps qs : List ℕ) (v : TablesView) → ((r : ℕ) → listed ps r ≡ true → listed qs r ≡ true) → AreTidyBut ps v → AreTidyBut qs v
tidy_more ps qs v more tidy q r unused = (more r (tidy q r unused).0, (tidy q r unused).1)

pub but_more : (ps qs : List ℕ) (v : PartsView) → ((r : ℕ) → listed ps r ≡ true → listed qs r ≡ true) → ArePartsBut ps v → ArePartsBut qs v
but_more ps qs v more is = record { node = is.node; number = is.number; config = is.config; tidy = tidy_more ps qs v.tables more is.tidy }

pub tidy_but : (v : PartsView) (ps : List ℕ) → AreParts v → ArePartsBut ps v
tidy_but v ps is = record { node = is.node; number = is.number; config = is.config; tidy = tidy_more [] ps v.tables (λ r e. absurd (cc)) is.tidy }

pub all_tidy_but : (v : PartsView) (xs : List PageEnd) → AreParts v → ArePartsBut (pages_in xs) v
all_tidy_but v xs is = tidy_but v (pages_in xs) is

pub made_among : (v : PartsView) (xs : List PageEnd) (i : ℕ) (x : PageEnd) → x ≡ get_or xs i x → i < length xs → ArePartsBut (x.page ∷ pages_in xs) v → ArePartsBut (pages_in xs) v
made_among v xs i x is within but =
    but_more (x.page ∷ pages_in xs) (pages_in xs) v
    (λ r there. either_true (x.page == r) (listed (pages_in xs) r) there
    (λ same. subst (λ p. listed (pages_in xs) p ≡ true) (ap (λ y. y.page) (sym is) ∙ equal x.page r same) (among_pages xs i x within))) but

-- room that was made for a page, or wasn't
pub made_parts : {X E : Type 0} (r : Result X E) (v : PartsView) (p : ℕ) (tables : TablesView) → lock_tables tables.places ≡ lock_tables v.tables.places → tables.config ≡ v.tables.config
    → OnOk r ((ps : List ℕ) → AreTidyBut ps v.tables → AreTidyBut (p ∷ ps) tables) → OnErr r (tables ≡ v.tables) → (ps : List ℕ) → ArePartsBut ps v → ArePartsBut (p ∷ ps) (record v { tables = tables })
made_parts {X = X} {E = E} r v p tables same config ok err ps is = record {
  node = subst (λ l. IsNode (record (node_of v) { tables = l })) (sym same) is.node;
  number = is.number;
  config = config ∙ is.config;
  tidy = by r ok err;
}
  where
    by : (r : Result X E) → OnOk r ((ps : List ℕ) → AreTidyBut ps v.tables → AreTidyBut (p ∷ ps) tables) → OnErr r (tables ≡ v.tables) → AreTidyBut (p ∷ ps) tables
    by (Ok x) ok err = ok ps is.tidy
    by (Err e) ok err = subst (AreTidyBut (p ∷ ps)) (sym err) (tidy_more ps (p ∷ ps) v.tables (λ q there. or_right (p == q) (listed ps q) there) is.tidy)

-- a room that was given up
pub gave_parts : (xs ys : List PageEnd) (x : PageEnd) (u v : PartsView) → xs ≡ x ∷ ys → ArePartsBut (pages_in xs) u → ((ps : List ℕ) → ArePartsBut (x.page ∷ ps) u → ArePartsBut ps v) → ArePartsBut (pages_in ys) v
gave_parts xs ys x u v is but given = given (pages_in ys) (subst (λ l. ArePartsBut (pages_in l) u) is but)

pub gave_below : (xs ys : List PageEnd) (x : PageEnd) (u v : NodeState) → xs ≡ x ∷ ys → v ≡ u → AllByRecursion (λ y. y.page < u.home.config.pages) xs → AllByRecursion (λ y. y.page < v.home.config.pages) ys
gave_below xs ys x u v is same all =
    subst (λ (n : NodeState). AllByRecursion (λ y. y.page < n.home.config.pages) ys) (sym same) (subst (AllByRecursion (λ y. y.page < u.home.config.pages)) is all).1

-- a page without a table, as the tables are seen
pub no_table : (v : PartsView) (p q : ℕ) → v.tables.config ≡ v.home.config → q ≡ p % v.home.config.nodes → place_at v.tables.places q ≡ None → table_of (node_of v) p ≡ None
no_table v p q config at none =
    table_of_page v p config
    ∙ ap (λ k. option_map seen (place_at v.tables.places k)) (ap (λ (c : Sizes). p % c.nodes) config ∙ sym at)
    ∙ ap (option_map seen) none

-- a page without a table has no entry with empty lists
pub none_tidy : (v : TablesView) (p : ℕ) (ps : List ℕ) → table_for v p ≡ None → AreTidyBut (p ∷ ps) v → AreTidyBut ps v
none_tidy v p ps none tidy q r unused =
    (either_true (p == r) (listed ps r) had.0 (λ same. let bad : false ≡ true = never same in absurd (cc)), had.1)
  where
    had : (listed (p ∷ ps) r ≡ true) × (r % v.config.nodes ≡ q)
    had = tidy q r unused

    never : (p == r) ≡ true → false ≡ true
    never same =
        ap (λ o. is_unused (found_in o r)) (sym (ap (λ k. place_at v.places k) (sym had.1 ∙ ap (λ k. k % v.config.nodes) (sym (equal p r same))) ∙ none)) ∙ unused

-- the number, epoch and view of later parts
pub view_then : (a b c : PartsView) → SameView a b → SameView b c → SameView a c
view_then a b c first second = record { me = second.me ∙ first.me; epoch = second.epoch ∙ first.epoch; view = second.view ∙ first.view }
