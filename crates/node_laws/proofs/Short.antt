-- How long the lists of a sound node are at most.
use Rattle.std.proofs.Common.{◌≡◌, refl, ap, ℕ, zero, suc, ◌+◌, ◌*◌, ◌<◌, ◌≤◌, ◌==◌, not, cond, Bool, true, false, List, [], ◌∷◌, length, map, Some, None, arith}
use Rattle.std.specs.List.{AllByRecursion, filter}
use Rattle.std.proofs.lemmas.Bool.Decides.{nat_tests}
use Rattle.pcl_base.specs.Limits.{Sizes, InLimits}
use Rattle.pcl_base.specs.declared.lock.Held.{Held}
use Rattle.node_rules.specs.Words.{pick}
use Rattle.node_rules.specs.OpenTxs.{OpenTx, lock_on}
use Rattle.node_rules.specs.Shelf.{Right, right_on}
use Rattle.node_rules.specs.NodeState.{HomeState}
use Rattle.home_laws.specs.Homes.{IsHome, AreOnce}
use Rattle.home_laws.specs.EndNeeds.{AreApart}
use Rattle.home_laws.proofs.Slots.{fewer}
use Rattle.step_laws.specs.Most.{sum_of}
use Rattle.node_laws.specs.Nodes.{AreRights}
use Rattle.node_laws.proofs.Transactions.{IsOpenTx, open_are}

-- how often a number is in a list
abbrev times : ℕ → List ℕ → ℕ
times p ps = length (filter (λ q. q == p) ps)

-- the numbers but one
abbrev others : ℕ → List ℕ → List ℕ
others p ps = filter (λ q. not (q == p)) ps

once_at_most : (p : ℕ) (ps : List ℕ) → AreApart ps → times p ps ≤ 1
once_at_most p [] apart = omega arith
once_at_most p (x ∷ ps) apart = by (x == p) refl apart.0 (once_at_most p ps apart.1)
  where
    by : (b : Bool) → (x == p) ≡ b → times x ps ≡ 0 → times p ps ≤ 1 → length (cond b (x ∷ filter (λ q. q == p) ps) (filter (λ q. q == p) ps)) ≤ 1
    by true e none rest =
        let same : x ≡ p = grind (arith, nat_tests, e) in
        let here : times x ps ≡ times p ps = ap (λ n. times n ps) same in
        omega (arith, none, here)
    by false e none rest = rest

split_long : (p : ℕ) (ps : List ℕ) → length ps ≡ length (others p ps) + times p ps
split_long p [] = refl
split_long p (x ∷ ps) = by (x == p) (split_long p ps)
  where
    by : (b : Bool) → length ps ≡ length (others p ps) + times p ps
        → suc (length ps) ≡ length (cond (not b) (x ∷ others p ps) (others p ps)) + length (cond b (x ∷ filter (λ q. q == p) ps) (filter (λ q. q == p) ps))
    by true rest = omega (arith, rest)
    by false rest = omega (arith, rest)

others_apart : (p : ℕ) (ps : List ℕ) → AreApart ps → AreApart (others p ps)
others_apart p [] apart = tt
others_apart p (x ∷ ps) apart = by (x == p) (others_apart p ps apart.1)
  where
    by : (b : Bool) → AreApart (others p ps) → AreApart (cond (not b) (x ∷ others p ps) (others p ps))
    by true rest = rest
    by false rest =
        let none = apart.0 in
        let less = fewer (λ q. q == x) (λ q. not (q == p)) ps in
        (omega (arith, none, less), rest)

others_below : (n : ℕ) (ps : List ℕ) → AllByRecursion (λ p. p < suc n) ps → AllByRecursion (λ p. p < n) (others n ps)
others_below n [] all = tt
others_below n (x ∷ ps) all = by (x == n) refl (others_below n ps all.1)
  where
    by : (b : Bool) → (x == n) ≡ b → AllByRecursion (λ p. p < n) (others n ps) → AllByRecursion (λ p. p < n) (cond (not b) (x ∷ others n ps) (others n ps))
    by true e rest = rest
    by false e rest = let low = all.0 in (grind (arith, nat_tests, e, low), rest)

-- different numbers below n are n at most
few_numbers : (n : ℕ) (ps : List ℕ) → AllByRecursion (λ p. p < n) ps → AreApart ps → length ps ≤ n
few_numbers zero [] all apart = omega arith
few_numbers zero (p ∷ ps) all apart = let low = all.0 in absurd (omega (arith, low))
few_numbers (suc n) ps all apart =
    let once = once_at_most n ps apart in
    let split = split_long n ps in
    let rest = few_numbers n (others n ps) (others_below n ps all) (others_apart n ps apart) in
    omega (arith, once, split, rest)

-- the pages of a transaction's locks are different
no_lock : (hs : List Held) (p : ℕ) → lock_on hs p ≡ None → times p (map (λ l. l.page) hs) ≡ 0
unfolding lock_on
no_lock [] p none = refl
no_lock (l ∷ hs) p none = by (l.page == p) none (no_lock hs p)
  where
    by : (b : Bool) → pick b (Some l) (lock_on hs p) ≡ None → (lock_on hs p ≡ None → times p (map (λ l. l.page) hs) ≡ 0)
        → length (cond b (l.page ∷ filter (λ q. q == p) (map (λ l. l.page) hs)) (filter (λ q. q == p) (map (λ l. l.page) hs))) ≡ 0
    by true e rest = absurd (cc)
    by false e rest = rest e

locks_apart : (hs : List Held) → AreOnce hs → AreApart (map (λ l. l.page) hs)
locks_apart [] once = tt
locks_apart (l ∷ hs) once = (no_lock hs l.page once.0, locks_apart hs once.1)

no_right : (rs : List Right) (p : ℕ) → right_on rs p ≡ None → times p (map (λ r. r.page) rs) ≡ 0
unfolding right_on
no_right [] p none = refl
no_right (r ∷ rs) p none = by (r.page == p) none (no_right rs p)
  where
    by : (b : Bool) → pick b (Some r) (right_on rs p) ≡ None → (right_on rs p ≡ None → times p (map (λ r. r.page) rs) ≡ 0)
        → length (cond b (r.page ∷ filter (λ q. q == p) (map (λ r. r.page) rs)) (filter (λ q. q == p) (map (λ r. r.page) rs))) ≡ 0
    by true e rest = absurd (cc)
    by false e rest = rest e

rights_apart : (c : Sizes) (rs : List Right) → AreRights c rs → AreApart (map (λ r. r.page) rs)
rights_apart c [] are = tt
rights_apart c (r ∷ rs) are = (no_right rs r.page are.2, rights_apart c rs are.3)

map_long : {X Y : Type 0} (f : X → Y) (xs : List X) → length (map f xs) ≡ length xs
map_long f [] = refl
map_long f (x ∷ xs) = ap suc (map_long f xs)

all_mapped : {X : Type 0} (f : X → ℕ) (n : ℕ) (xs : List X) → AllByRecursion (λ x. f x < n) xs → AllByRecursion (λ p. p < n) (map f xs)
all_mapped f n [] all = tt
all_mapped f n (x ∷ xs) all = (all.0, all_mapped f n xs all.1)

rights_below : (c : Sizes) (rs : List Right) → AreRights c rs → AllByRecursion (λ r. r.page < c.pages) rs
rights_below c [] are = tt
rights_below c (r ∷ rs) are = (are.0, rights_below c rs are.3)

-- the rights on a shelf are no more than the pages of the database
pub rights_few : (c : Sizes) (rs : List Right) → AreRights c rs → length rs ≤ c.pages
rights_few c rs are =
    let few = few_numbers c.pages (map (λ (r : Right). r.page) rs) (all_mapped (λ (r : Right). r.page) c.pages rs (rights_below c rs are)) (rights_apart c rs are) in
    let same = map_long (λ (r : Right). r.page) rs in
    omega (arith, few, same)

locks_few : (n : ℕ) (hs : List Held) → AllByRecursion (λ l. l.page < n) hs → AreOnce hs → length hs ≤ n
locks_few n hs below once =
    let few = few_numbers n (map (λ (l : Held). l.page) hs) (all_mapped (λ (l : Held). l.page) n hs below) (locks_apart hs once) in
    let same = map_long (λ (l : Held). l.page) hs in
    omega (arith, few, same)

sum_few : (h : HomeState) → InLimits h.config → (xs : List OpenTx) → AllByRecursion (IsOpenTx h) xs → sum_of (λ x. length x.pages) xs ≤ length xs * 65536
sum_few h limits [] all = omega arith
sum_few h limits (x ∷ xs) all =
    let few = locks_few h.config.pages x.pages all.0.pages all.0.once in
    let most = limits.most_pages in
    let rest = sum_few h limits xs all.1 in
    omega (arith, few, most, rest)

-- a sound home has fewer locks than 2 to the 27th
pub all_locks_few : (h : HomeState) → InLimits h.config → IsHome h → sum_of (λ x. length x.pages) h.txs.txs ≤ 67108864
all_locks_few h limits is =
    let all = sum_few h limits h.txs.txs (open_are h is) in
    let few = is.txs.few in
    omega (arith, all, few)
