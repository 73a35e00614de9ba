-- The pages of a partition, and weights of pages by their partition.
use Rattle.std.proofs.Common.{◌≡◌, ℕ, zero, suc, ◌+◌, ◌*◌, ◌%◌, ◌<◌, ◌≤◌, ◌==◌, nat_le, nat_lt, Bool, true, false, List, [], ◌∷◌, Option, Some, None, refl, ap, ◌∙◌, arith}
use Rattle.std.proofs.lemmas.Bool.Decides.{nat_tests}
use Rattle.std.proofs.lemmas.Nat.{mod-mul-add}
use Rattle.std.specs.List.{AllByRecursion}
use Rattle.pcl_base.specs.Limits.{Sizes}
use Rattle.pcl_base.specs.declared.lock.Pending.{Pending}
use Rattle.node_rules.specs.Words.{pick}
use Rattle.node_rules.specs.LockTable.{pages_from, pages_of}
use Rattle.node_rules.specs.OpenTxs.{OpenTx}
use Rattle.node_rules.specs.Shelf.{Right}
use Rattle.node_rules.specs.NodeState.{HomeState, partition}
use Rattle.pcl_base.specs.declared.lock.Held.{Held}
use Rattle.step_laws.specs.Most.{sum_of}
use Rattle.step_laws.proofs.Sums.{sum_both}
use Rattle.step_laws.proofs.Homes.{weight_of, waits_by, locks_by, shelf_by, stock}

-- 1 for a page of a partition
abbrev pub only : Sizes → ℕ → ℕ → ℕ
only c q p = pick (partition c p == q) 1 0

-- 1 for a page of this partition or a later one
abbrev pub later : Sizes → ℕ → ℕ → ℕ
later c q p = pick (nat_le q (partition c p)) 1 0

split_at : (r q : ℕ) → pick (r == q) 1 0 + pick (nat_le (q + 1) r) 1 0 ≤ pick (nat_le q r) 1 0
split_at r q = by (r == q) refl (nat_le (q + 1) r) refl (nat_le q r) refl
  where
    by : (a : Bool) → (r == q) ≡ a → (b : Bool) → nat_le (q + 1) r ≡ b → (e : Bool) → nat_le q r ≡ e → pick a 1 0 + pick b 1 0 ≤ pick e 1 0
    by true f true g e h = grind (arith, nat_tests)
    by true f false g true h = omega arith
    by true f false g false h = grind (arith, nat_tests)
    by false f true g true h = omega arith
    by false f true g false h = grind (arith, nat_tests)
    by false f false g e h = omega arith

pub later_split : (c : Sizes) (q p : ℕ) → only c q p + later c (q + 1) p ≤ later c q p
later_split c q p = split_at (partition c p) q

pub later_less : (c : Sizes) (q p : ℕ) → later c (q + 1) p ≤ later c q p
later_less c q p = let both = later_split c q p in omega (arith, both)

later_none : (c : Sizes) (q p : ℕ) → partition c p ≡ q → later c (q + 1) p ≡ 0
later_none c q p same = by (nat_le (q + 1) (partition c p)) refl
  where
    by : (b : Bool) → nat_le (q + 1) (partition c p) ≡ b → (let n : ℕ = pick b 1 0 in n) ≡ 0
    by true e = grind (arith, nat_tests)
    by false e = refl

-- each page of a partition is of that partition
pages_in : (n w q p a end : ℕ) → q < w → p ≡ a * w + q → AllByRecursion (λ x. x % w ≡ q) (pages_from n w p end)
unfolding pages_from
pages_in zero w q p a end low is = tt
pages_in (suc n) w q p a end low is = by (nat_lt p end) (pages_in n w q (p + w) (suc a) end low next)
  where
    next : p + w ≡ suc a * w + q
    next = grind arith

    here : p % w ≡ q
    here = ap (λ x. x % w) is ∙ mod-mul-add a w q low

    by : (b : Bool) → AllByRecursion (λ x. x % w ≡ q) (pages_from n w (p + w) end) → AllByRecursion (λ x. x % w ≡ q) (pick b (p ∷ pages_from n w (p + w) end) [])
    by true rest = (here, rest)
    by false rest = tt

all_weaker : {X : Type 0} (P Q : X → Type 0) → ((x : X) → P x → Q x) → (xs : List X) → AllByRecursion P xs → AllByRecursion Q xs
all_weaker P Q f [] all = tt
all_weaker P Q f (x ∷ xs) all = (f x all.0, all_weaker P Q f xs all.1)

-- the pages of a partition weigh nothing among later ones
pub pages_none : (c : Sizes) (q : ℕ) → q < c.nodes → AllByRecursion (λ p. later c (q + 1) p ≡ 0) (pages_of c q)
pages_none c q low =
    all_weaker (λ p. p % c.nodes ≡ q) (λ p. later c (q + 1) p ≡ 0) (later_none c q) (pages_of c q) (pages_in c.pages c.nodes q q 0 c.pages low (omega arith))

-- counts by two weights that are together at most a third
module _ (f g h : ℕ → ℕ) (each : (p : ℕ) → f p + g p ≤ h p) where
  wait_both : (o : Option Pending) → weight_of f o + weight_of g o ≤ weight_of h o
  wait_both None = omega arith
  wait_both (Some w) = each w.page

  pub waits_both : (xs : List OpenTx) → waits_by f xs + waits_by g xs ≤ waits_by h xs
  waits_both xs = sum_both (λ (x : OpenTx). weight_of f x.waiting) (λ x. weight_of g x.waiting) (λ x. weight_of h x.waiting) (λ x. wait_both x.waiting) xs

  held_both : (ls : List Held) → sum_of (λ l. f l.page) ls + sum_of (λ l. g l.page) ls ≤ sum_of (λ l. h l.page) ls
  held_both ls = sum_both (λ (l : Held). f l.page) (λ l. g l.page) (λ l. h l.page) (λ l. each l.page) ls

  locks_both : (xs : List OpenTx) → locks_by f xs + locks_by g xs ≤ locks_by h xs
  locks_both xs = sum_both (λ (x : OpenTx). sum_of (λ l. f l.page) x.pages) (λ x. sum_of (λ l. g l.page) x.pages) (λ x. sum_of (λ l. h l.page) x.pages) (λ x. held_both x.pages) xs

  shelf_both : (rs : List Right) → shelf_by f rs + shelf_by g rs ≤ shelf_by h rs
  shelf_both rs = sum_both (λ (r : Right). f r.page) (λ r. g r.page) (λ r. h r.page) (λ r. each r.page) rs

  pub stock_both : (x : HomeState) → stock f x + stock g x ≤ stock h x
  stock_both x =
      let waits = waits_both x.txs.txs in
      let locks = locks_both x.txs.txs in
      let shelf = shelf_both x.shelf in
      omega (arith, waits, locks, shelf)
