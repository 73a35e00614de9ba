-- Sums over lock tables, and how a change of one entry or table shows in them.
use Rattle.std.proofs.Common.{◌≡◌, ℕ, zero, suc, ◌+◌, ◌-◌, ◌*◌, ◌^◌, ◌<◌, ◌≤◌, ◌==◌, nat_lt, Bool, true, false, List, [], ◌∷◌, map, length, get_or, set, replicate, Option, Some, None, refl, ap, sym, subst, ◌∙◌, arith}
use Rattle.std.proofs.lemmas.Bool.Decides.{nat_tests}
use Rattle.std.specs.List.{AllByRecursion}
use Rattle.std.specs.Option.{IfSome, option_map}
use Rattle.pcl_base.specs.Limits.{InLimits, Sizes}
use Rattle.node_rules.specs.Words.{pick}
use Rattle.node_rules.specs.LockRule.{LockEntry}
use Rattle.node_rules.specs.LockTable.{LockTable, PageEntry, entries_with, entry_at, entry_in, pages_from, pages_of, put_entry}
use Rattle.lock_table.specs.Tables.{TableView, entry_of, table_of}
use Rattle.step_laws.specs.Most.{sum_of}
use Rattle.node_parts.specs.Counts.{AreCounted, AreShort, IsListed, IsShort, lists_in, lists_of}
use Rattle.node_parts.specs.Tables.{IsTableAt, TablesView, lock_tables, place_at, with_entry_at}

-- another item in a list
sum_set : {X : Type 0} (f : X → ℕ) (d : X) (xs : List X) (i : ℕ) (y : X) → i < length xs → sum_of f (set xs i y) + f (get_or xs i d) ≡ sum_of f xs + f y
sum_set f d [] i y low = absurd (omega (arith, low))
sum_set f d (x ∷ xs) zero y low = omega arith
sum_set f d (x ∷ xs) (suc i) y low = let rest = sum_set f d xs i y (omega (arith, low)) in omega (arith, rest)

sum_part : {X : Type 0} (f : X → ℕ) (d : X) (xs : List X) (i : ℕ) → i < length xs → f (get_or xs i d) ≤ sum_of f xs
sum_part f d [] i low = absurd (omega (arith, low))
sum_part f d (x ∷ xs) zero low = omega arith
sum_part f d (x ∷ xs) (suc i) low = let rest = sum_part f d xs i (omega (arith, low)) in omega (arith, rest)

-- another entry of a page
with_case : (b : Bool) (x : PageEntry) (xs ys : List PageEntry) (p : ℕ) (e old : LockEntry)
    → sum_of (λ x. lists_of x.entry) ys + lists_of old ≡ sum_of (λ x. lists_of x.entry) xs + lists_of e
    → sum_of (λ x. lists_of x.entry) (pick b (record { page = p; entry = e } ∷ xs) (x ∷ ys)) + lists_of (pick b x.entry old)
    ≡ sum_of (λ x. lists_of x.entry) (x ∷ xs) + lists_of e
with_case true x xs ys p e old rest = omega arith
with_case false x xs ys p e old rest = omega (arith, rest)

sum_with : (xs : List PageEntry) (p : ℕ) (e : LockEntry)
    → sum_of (λ x. lists_of x.entry) (entries_with xs p e) + lists_of (entry_in xs p) ≡ sum_of (λ x. lists_of x.entry) xs + lists_of e
unfolding entries_with entry_in
sum_with [] p e = omega arith
sum_with (x ∷ xs) p e = with_case (x.page == p) x xs (entries_with xs p e) p e (entry_in xs p) (sum_with xs p e)

part_case : (b : Bool) (x : PageEntry) (xs : List PageEntry) (old : LockEntry) → lists_of old ≤ sum_of (λ x. lists_of x.entry) xs
    → lists_of (pick b x.entry old) ≤ sum_of (λ x. lists_of x.entry) (x ∷ xs)
part_case true x xs old rest = omega arith
part_case false x xs old rest = omega (arith, rest)

part_with : (xs : List PageEntry) (p : ℕ) → lists_of (entry_in xs p) ≤ sum_of (λ x. lists_of x.entry) xs
unfolding entry_in
part_with [] p = omega arith
part_with (x ∷ xs) p = part_case (x.page == p) x xs (entry_in xs p) (part_with xs p)

short_case : (b : Bool) (x : PageEntry) (xs ys : List PageEntry) (p : ℕ) (e : LockEntry) → lists_of e ≤ 2 ^ 65 → IsShort x → AllByRecursion IsShort xs
    → AllByRecursion IsShort ys → AllByRecursion IsShort (pick b (record { page = p; entry = e } ∷ xs) (x ∷ ys))
short_case true x xs ys p e few here before later = (few, before)
short_case false x xs ys p e few here before later = (here, later)

short_with : (xs : List PageEntry) (p : ℕ) (e : LockEntry) → lists_of e ≤ 2 ^ 65 → AllByRecursion IsShort xs → AllByRecursion IsShort (entries_with xs p e)
unfolding entries_with
short_with [] p e few short = (few, tt)
short_with (x ∷ xs) p e few short = short_case (x.page == p) x xs (entries_with xs p e) p e few short.0 short.1 (short_with xs p e few short.1)

-- another table in a list
short_set : (ts : List (Option LockTable)) (q : ℕ) (t : Option LockTable) → AreShort t → AllByRecursion AreShort ts → AllByRecursion AreShort (set ts q t)
short_set [] q t few short = tt
short_set (x ∷ ts) zero t few short = (few, short.1)
short_set (x ∷ ts) (suc q) t few short = (short.0, short_set ts q t few short.1)

short_at : (ts : List (Option LockTable)) (q : ℕ) → AllByRecursion AreShort ts → AreShort (get_or ts q None)
short_at [] q short = tt
short_at (x ∷ ts) zero short = short.0
short_at (x ∷ ts) (suc q) short = short_at ts q short.1

-- short lists have a sum that fits
entries_most : (xs : List PageEntry) → AllByRecursion IsShort xs → sum_of (λ x. lists_of x.entry) xs ≤ length xs * 2 ^ 65
entries_most [] short = omega arith
entries_most (x ∷ xs) short =
    let here : lists_of x.entry ≤ 2 ^ 65 = short.0 in
    let rest = entries_most xs short.1 in
    omega (arith, here, rest)

few_case : (b : Bool) (n p : ℕ) (ps : List ℕ) → length ps ≤ n → length (pick b (p ∷ ps) []) ≤ suc n
few_case true n p ps rest = omega (arith, rest)
few_case false n p ps rest = omega arith

pages_few : (n step p end : ℕ) → length (pages_from n step p end) ≤ n
unfolding pages_from
pages_few zero step p end = omega arith
pages_few (suc n) step p end = few_case (nat_lt p end) n p (pages_from n step (p + step) end) (pages_few n step (p + step) end)

pub length_map : {X Y : Type 0} (f : X → Y) (xs : List X) → length (map f xs) ≡ length xs
length_map f [] = refl
length_map f (x ∷ xs) = ap suc (length_map f xs)

table_most : (o : Option TableView) → IfSome o (λ t. t.config.pages ≤ 65536) → AreShort (option_map table_of o) → lists_in (option_map table_of o) ≤ 65536 * 2 ^ 65
table_most None few short = omega arith
table_most (Some t) few short =
    let all = entries_most (table_of t).entries short in
    let long = length_map (λ p. let x : PageEntry = record { page = p; entry = entry_of t p } in x) (pages_of t.config t.partition) in
    let pages = pages_few t.config.pages t.config.nodes t.partition t.config.pages in
    omega (arith, few, all, long, pages)

tables_most : (places : List (Option TableView)) → ((q : ℕ) → IfSome (place_at places q) (λ t. t.config.pages ≤ 65536)) → AllByRecursion AreShort (lock_tables places)
    → sum_of lists_in (lock_tables places) ≤ length places * (65536 * 2 ^ 65)
tables_most [] few short = omega arith
tables_most (o ∷ places) few short =
    let here = table_most o (few 0) short.0 in
    let rest = tables_most places (λ q. few (suc q)) short.1 in
    omega (arith, here, rest)

few_of : (c : Sizes) (q : ℕ) (o : Option TableView) → c.pages ≤ 65536 → IfSome o (IsTableAt c q) → IfSome o (λ t. t.config.pages ≤ 65536)
few_of c q None few at = tt
few_of c q (Some t) few at = subst (λ (x : Sizes). x.pages ≤ 65536) (sym at.config) few

pub place_most : (c : Sizes) (q : ℕ) (o : Option TableView) → InLimits c → IfSome o (IsTableAt c q) → AreShort (option_map table_of o)
    → lists_in (option_map table_of o) ≤ 65536 * 2 ^ 65
place_most c q o limits at short = table_most o (few_of c q o limits.most_pages at) short

pub counted_most : (count : ℕ) (v : TablesView) → AreCounted count v → count ≤ 16 * (65536 * 2 ^ 65)
counted_most count v is =
    let all = tables_most v.places (λ q. few_of v.config q (place_at v.places q) is.limits.most_pages (is.fits.each q)) is.listed.short in
    let sum = is.listed.sum in
    let places = is.fits.nodes in
    let nodes = is.limits.most_nodes in
    omega (arith, all, sum, places, nodes)

-- another table in a place
pub before_most : (ts : List (Option LockTable)) (q count : ℕ) → IsListed count ts → q < length ts → lists_in (get_or ts q None) ≤ count
before_most ts q count is low =
    let part = sum_part lists_in None ts q low in
    let sum = is.sum in
    omega (arith, part, sum)

pub listed_set : (ts : List (Option LockTable)) (q count before now : ℕ) (t : Option LockTable) → IsListed count ts → q < length ts
    → before ≡ lists_in (get_or ts q None) → now ≡ lists_in t → AreShort t → IsListed (count - before + now) (set ts q t)
listed_set ts q count before now t is low old new short =
    record { sum = omega (arith, all, part, sum, old, new); short = short_set ts q t short is.short }
  where
    all : sum_of lists_in (set ts q t) + lists_in (get_or ts q None) ≡ sum_of lists_in ts + lists_in t
    all = sum_set lists_in None ts q t low

    part : lists_in (get_or ts q None) ≤ sum_of lists_in ts
    part = sum_part lists_in None ts q low

    sum : count ≡ sum_of lists_in ts
    sum = is.sum

-- another entry of a page in the table of a place
pub entry_most : (ts : List (Option LockTable)) (q p count : ℕ) (t : LockTable) → IsListed count ts → q < length ts → get_or ts q None ≡ Some t
    → lists_of (entry_at t p) ≤ count
entry_most ts q p count t is low there =
    let part = part_with t.entries p in
    let table : lists_in (get_or ts q None) ≡ lists_in (Some t) = ap lists_in there in
    let whole = before_most ts q count is low in
    omega (arith, part, table, whole)

pub listed_put : (ts : List (Option LockTable)) (q p count before now : ℕ) (e : LockEntry) (t : LockTable) → IsListed count ts → q < length ts
    → get_or ts q None ≡ Some t → before ≡ lists_of (entry_at t p) → now ≡ lists_of e → now ≤ 2 ^ 65 → IsListed (count - before + now) (with_entry_at ts q p e)
listed_put ts q p count before now e t is low there old new few =
    subst (IsListed (count - before + now)) (sym changed)
    (record { sum = omega (arith, all, one, table, part, whole, sum, old, new); short = short_set ts q (Some (put_entry t p e)) short is.short })
  where
    changed : with_entry_at ts q p e ≡ set ts q (Some (put_entry t p e))
    changed = ap (λ o. set ts q (option_map (λ x. put_entry x p e) o)) there

    all : sum_of lists_in (set ts q (Some (put_entry t p e))) + lists_in (get_or ts q None) ≡ sum_of lists_in ts + lists_in (Some (put_entry t p e))
    all = sum_set lists_in None ts q (Some (put_entry t p e)) low

    one : lists_in (Some (put_entry t p e)) + lists_of (entry_at t p) ≡ lists_in (Some t) + lists_of e
    one = sum_with t.entries p e

    table : lists_in (get_or ts q None) ≡ lists_in (Some t)
    table = ap lists_in there

    part : lists_of (entry_at t p) ≤ lists_in (Some t)
    part = part_with t.entries p

    whole : lists_in (get_or ts q None) ≤ sum_of lists_in ts
    whole = sum_part lists_in None ts q low

    sum : count ≡ sum_of lists_in ts
    sum = is.sum

    short : AreShort (Some (put_entry t p e))
    short = short_with t.entries p e (omega (arith, few, new)) (subst AreShort there (short_at ts q is.short))

-- no tables
pub listed_none : (n : ℕ) → IsListed 0 (lock_tables (replicate n None))
listed_none n = record { sum = none n; short = short n }
  where
    none : (n : ℕ) → 0 ≡ sum_of lists_in (lock_tables (replicate n None))
    none zero = refl
    none (suc n) = let rest = none n in omega (arith, rest)

    short : (n : ℕ) → AllByRecursion AreShort (lock_tables (replicate n None))
    short zero = tt
    short (suc n) = (tt, short n)

-- the pages of a partition don't depend on how many could be counted
enough : (n m step p end : ℕ) → 1 ≤ step → end ≤ p + n → end ≤ p + m → pages_from n step p end ≡ pages_from m step p end
unfolding pages_from
enough zero zero step p end some a b = refl
enough zero (suc m) step p end some a b =
    let past : nat_lt p end ≡ false = grind (arith, nat_tests) in
    sym (ap (λ b. pick b (p ∷ pages_from m step (p + step) end) []) past)
enough (suc n) zero step p end some a b =
    let past : nat_lt p end ≡ false = grind (arith, nat_tests) in
    ap (λ b. pick b (p ∷ pages_from n step (p + step) end) []) past
enough (suc n) (suc m) step p end some a b =
    ap (λ l. pick (nat_lt p end) (p ∷ l) []) (enough n m step (p + step) end some (omega (arith, some, a)) (omega (arith, some, b)))

next_page : (n step p end : ℕ) → 1 ≤ step → p < end → end ≤ p + n → pages_from n step p end ≡ p ∷ pages_from n step (p + step) end
unfolding pages_from
next_page zero step p end some below a = absurd (omega (arith, below, a))
next_page (suc n) step p end some below a =
    let more : nat_lt p end ≡ true = grind (arith, nat_tests) in
    ap (λ b. pick b (p ∷ pages_from n step (p + step) end) []) more
    ∙ ap (λ l. p ∷ l) (enough n (suc n) step (p + step) end some (omega (arith, some, a)) (omega (arith, some, a)))

no_page : (n step p end : ℕ) → end ≤ p → pages_from n step p end ≡ []
unfolding pages_from
no_page zero step p end past = refl
no_page (suc n) step p end past =
    let no_more : nat_lt p end ≡ false = grind (arith, nat_tests) in
    ap (λ b. pick b (p ∷ pages_from n step (p + step) end) []) no_more

-- what the entries of pages of a table have, and that they are short
abbrev pub counts_for : TableView → List ℕ → ℕ
counts_for t ps = sum_of (λ p. lists_of (entry_of t p)) ps

abbrev pub ShortFor : TableView → List ℕ → Type 0
ShortFor t ps = AllByRecursion (λ p. lists_of (entry_of t p) ≤ 2 ^ 65) ps

-- the same of a table's pages from one on
abbrev pub left_from : TableView → Sizes → ℕ → ℕ
left_from t c p = counts_for t (pages_from c.pages c.nodes p c.pages)

abbrev pub ShortFrom : TableView → Sizes → ℕ → Type 0
ShortFrom t c p = ShortFor t (pages_from c.pages c.nodes p c.pages)

pub page_left : (t : TableView) (c : Sizes) (p count later all x : ℕ) → 1 ≤ c.nodes → p < c.pages → later ≡ count + x → x ≡ lists_of (entry_of t p)
    → count + left_from t c p ≡ all → later + left_from t c (p + c.nodes) ≡ all
page_left t c p count later all x some below made is before =
    let next : left_from t c p ≡ lists_of (entry_of t p) + left_from t c (p + c.nodes) = ap (counts_for t) (next_page c.pages c.nodes p c.pages some below (omega arith)) in
    omega (arith, next, made, is, before)

pub page_short : (t : TableView) (c : Sizes) (p x : ℕ) → 1 ≤ c.nodes → p < c.pages → x ≡ lists_of (entry_of t p) → x ≤ 2 ^ 65
    → ShortFrom t c (p + c.nodes) → ShortFrom t c p
page_short t c p x some below is few rest =
    subst (ShortFor t) (sym (next_page c.pages c.nodes p c.pages some below (omega arith))) (subst (λ n. n ≤ 2 ^ 65) is few, rest)

pub none_left : (t : TableView) (c : Sizes) (p : ℕ) → c.pages ≤ p → left_from t c p ≡ 0
none_left t c p past = ap (counts_for t) (no_page c.pages c.nodes p c.pages past)

pub none_short : (t : TableView) (c : Sizes) (p : ℕ) → c.pages ≤ p → ShortFrom t c p
none_short t c p past = subst (ShortFor t) (sym (no_page c.pages c.nodes p c.pages past)) tt

sum_map : {X Y : Type 0} (f : Y → ℕ) (g : X → Y) (xs : List X) → sum_of f (map g xs) ≡ sum_of (λ x. f (g x)) xs
sum_map f g [] = refl
sum_map f g (x ∷ xs) = ap (λ n. f (g x) + n) (sum_map f g xs)

short_map : (t : TableView) (ps : List ℕ) → ShortFor t ps → AllByRecursion IsShort (map (λ p. record { page = p; entry = entry_of t p }) ps)
short_map t [] short = tt
short_map t (p ∷ ps) short = (short.0, short_map t ps short.1)

-- those of all its pages are the table's
pub table_sum : (t : TableView) (c : Sizes) (q : ℕ) → IsTableAt c q t → left_from t c q ≡ lists_in (Some (table_of t))
table_sum t c q at =
    ap (λ c. left_from t c q) (sym at.config) ∙ (ap (λ q. counts_for t (pages_of t.config q)) (sym at.partition)
    ∙ sym (sum_map (λ (x : PageEntry). lists_of x.entry) (λ p. record { page = p; entry = entry_of t p }) (pages_of t.config t.partition)))

pub table_short : (t : TableView) (c : Sizes) (q : ℕ) → IsTableAt c q t → ShortFrom t c q → AreShort (Some (table_of t))
table_short t c q at short =
    short_map t (pages_of t.config t.partition)
    (subst (λ q. ShortFor t (pages_of t.config q)) (sym at.partition) (subst (λ c. ShortFrom t c q) (sym at.config) short))
