-- Small facts on lists, and on the pages of a partition.
use Rattle.std.proofs.Common.{◌≡◌, ℕ, ◌<◌, Option, Some, None, List, [], ◌∷◌, map, sym, subst}
use Rattle.std.proofs.lemmas.List.Elements.{All-nil, All-cons, All-head, All-tail, All-from_recursion, All-weaker}
use Rattle.std.specs.List.{All, AllByRecursion}
use Rattle.std.specs.Option.{IfSome}
use Rattle.pcl_base.specs.Limits.{Sizes}
use Rattle.node_rules.specs.LockTable.{pages_of}
use Rattle.lock_table.specs.Tables.{TableView, IsPageOf}
use Rattle.text_rules.specs.MessageBytes.{IsPageOf as IsOwn}
use Rattle.node_rules.specs.NodeState.{partition}
use Rattle.install_laws.proofs.Words.{pages_are_of}
use Rattle.partition_redo.specs.Chains.{PlannedView}
use Rattle.partition_redo.proofs.Leading.{by_recursion}
use Rattle.install_plans.specs.Plans.{RedoesOwn, listed_by}
use Rattle.install_plans.proofs.Settled.{pages_below, pages_own}

-- what holds of the images of all items holds of all items
pub all_unmapped : {X Y : Type 0} (P : Y → Type 0) (f : X → Y) (xs : List X) → All P (map f xs) → All (λ x. P (f x)) xs
all_unmapped P f [] all = All-nil (λ x. P (f x))
all_unmapped P f (x ∷ xs) all = All-cons (λ x. P (f x)) x xs (All-head P (f x) (map f xs) all) (all_unmapped P f xs (All-tail P (f x) (map f xs) all))

-- the pages of a partition are below P
pub pages_low : (c : Sizes) (q : ℕ) (ps : List ℕ) → ps ≡ pages_of c q → All (λ p. p < c.pages) ps
pages_low c q ps is = subst (All (λ p. p < c.pages)) (sym is) (All-from_recursion (λ p. p < c.pages) (pages_of c q) (pages_below c.pages c.nodes q c.pages))

-- so are those of a table
pub own_low : (c : Sizes) (t : TableView) (ps : List ℕ) → c ≡ t.config → All (IsPageOf t) ps → All (λ p. p < c.pages) ps
own_low c t ps same all = All-weaker (IsPageOf t) (λ p. p < c.pages) (λ p mine. subst (λ (s : Sizes). p < s.pages) (sym same) mine.below) ps all

-- the pages of its partition are the table's
pub table_pages : (c : Sizes) (t : TableView) (ps : List ℕ) → c ≡ t.config → t.partition < c.nodes → ps ≡ pages_of c t.partition → All (IsPageOf t) ps
table_pages c t ps same within is =
    subst (All (IsPageOf t)) (sym is)
    (subst (λ (s : Sizes). All (IsPageOf t) (pages_of s t.partition)) (sym same)
    (All-from_recursion (IsPageOf t) (pages_of t.config t.partition) (pages_own t (subst (λ (s : Sizes). t.partition < s.nodes) same within))))

-- each image has it, where each item's image does
pub each_unmapped : {X Y : Type 0} (P : Y → Type 0) (f : X → Y) (xs : List X) → AllByRecursion P (map f xs) → AllByRecursion (λ x. P (f x)) xs
each_unmapped P f [] all = tt
each_unmapped P f (x ∷ xs) all = (all.0, each_unmapped P f xs all.1)

-- a redo that lists pages of a partition
pub redoes_own : (c : Sizes) (q : ℕ) (r : Option PlannedView) (ps : List ℕ) → listed_by r ≡ ps → AllByRecursion (IsOwn c q) ps → IfSome r (RedoesOwn c q)
redoes_own c q None ps listed all = tt
redoes_own c q (Some r) ps listed all = each_unmapped (IsOwn c q) (λ x. x.page) r.chains (subst (AllByRecursion (IsOwn c q)) (sym listed) all)

-- the pages of a partition are its own
pub pages_named : (c : Sizes) (q : ℕ) (ps : List ℕ) → q < c.nodes → ps ≡ pages_of c q → AllByRecursion (IsOwn c q) ps
pages_named c q ps within is =
    subst (AllByRecursion (IsOwn c q)) (sym is) (both (pages_of c q) (pages_below c.pages c.nodes q c.pages) (pages_are_of c q within))
  where
    both : (rs : List ℕ) → AllByRecursion (λ p. p < c.pages) rs → AllByRecursion (λ p. partition c p ≡ q) rs → AllByRecursion (IsOwn c q) rs
    both [] low own = tt
    both (r ∷ rs) low own = ((low.0, own.0), both rs low.1 own.1)

-- and so are those of its table
pub table_named : (c : Sizes) (t : TableView) (ps : List ℕ) → c ≡ t.config → All (IsPageOf t) ps → AllByRecursion (IsOwn c t.partition) ps
table_named c t ps same all = each (λ p mine. subst (λ (s : Sizes). IsOwn s t.partition p) (sym same) (mine.below, mine.own)) ps (by_recursion (IsPageOf t) ps all)
  where
    each : ((p : ℕ) → IsPageOf t p → IsOwn c t.partition p) → (rs : List ℕ) → AllByRecursion (IsPageOf t) rs → AllByRecursion (IsOwn c t.partition) rs
    each f [] every = tt
    each f (r ∷ rs) every = (f r every.0, each f rs every.1)
