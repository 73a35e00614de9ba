-- A commit: the pages of exclusive locks and those that were written, and what its steps need.
use Rattle.std.proofs.Common.{◌≡◌, ℕ, zero, suc, ◌+◌, ◌-◌, ◌^◌, ◌<◌, ◌≤◌, ◌==◌, ◌||◌, Bool, true, false, List, [], ◌∷◌, ◌++◌, length, drop, get_or, map, Option, Some, None, is_some, refl, ap, sym, subst, ◌∙◌, arith}
use Rattle.std.proofs.Math.Seq.{drop-cons}
use Rattle.std.proofs.Math.ListN.{drop_of_length-le}
use Rattle.std.proofs.lemmas.List.{append-nil}
use Rattle.std.specs.Ordering.{nat_cmp}
use Rattle.std.specs.List.{list_any, fold, All, AllByRecursion}
use Rattle.std.specs.List.Sorted.{IsPermutation, IsSorted}
use Rattle.pcl_base.specs.declared.tx.TxId.{TxId}
use Rattle.pcl_base.specs.declared.lock.Held.{Held}
use Rattle.node_rules.specs.OpenTxs.{held_by, locks_of, pending_of}
use Rattle.node_rules.specs.BufferRule.{Pool, find, publish}
use Rattle.node_rules.specs.AccessRule.{version_or}
use Rattle.node_rules.specs.NodeState.{HomeState, Run, runs_at}
use Rattle.node_rules.specs.EndRule.{pages_written, at_version_end}
use Rattle.home_laws.specs.Homes.{IsHome, AreRuns, AreWrittenRuns, is_exclusive_lock}
use Rattle.home_laws.specs.EndNeeds.{IsBelowLast, IsPublishable, MayPublish}
use Rattle.home_laws.proofs.Words.{equal, self_test}
use Rattle.home_laws.proofs.Opens.{locks_once}
use Rattle.home_laws.proofs.Serials.{one_if}
use Rattle.home_laws.proofs.Unpins.{times}
use Rattle.home_laws.proofs.Written.{times_more, of_each}
use Rattle.home_laws.proofs.EndNeeds.{times_held, written_is, may_publish_start}
use Rattle.home_laws.proofs.EndSteps.{may_publish_next}
use Rattle.home_laws.proofs.Rising.{times_exclusive}
use Rattle.home.specs.Commits.{exclusive_pages}

-- a page that is listed passes what all pages pass
pub all_at : (P : ℕ → Type 0) (p : ℕ) (qs : List ℕ) → 1 ≤ times p qs → AllByRecursion P qs → P p
all_at P p [] there all = absurd (omega (arith, there))
all_at P p (q ∷ qs) there all = by_page (q == p) refl (λ later. all_at P p qs later all.1)
  where
    by_page : (b : Bool) → (q == p) ≡ b → (1 ≤ times p qs → P p) → P p
    by_page true e rest = subst P (equal q p e) all.0
    by_page false e rest =
        let count = times_more q p qs in
        let zero : one_if (q == p) ≡ 0 = ap one_if e in
        rest (omega (arith, there, count, zero))

-- a list whose pages are all in another
pub all_moves : (P : ℕ → Type 0) (ps qs : List ℕ) → ((r : ℕ) → times r ps ≡ times r qs) → AllByRecursion P qs → AllByRecursion P ps
all_moves P ps qs same all = of_each P ps (λ q there. all_at P q qs (let count = same q in omega (arith, there, count)) all)

any_there : (f : ℕ → Bool) (p : ℕ) (qs : List ℕ) → f p ≡ true → 1 ≤ times p qs → list_any f qs ≡ true
any_there f p [] passes there = absurd (omega (arith, there))
any_there f p (q ∷ qs) passes there = by_page (q == p) refl (λ later. any_there f p qs passes later)
  where
    or_true : (b : Bool) → (b || true) ≡ true
    or_true true = refl
    or_true false = refl

    by_page : (b : Bool) → (q == p) ≡ b → (1 ≤ times p qs → list_any f qs ≡ true) → (f q || list_any f qs) ≡ true
    by_page true e rest = ap (λ n. f n || list_any f qs) (equal q p e) ∙ ap (λ b. b || list_any f qs) passes
    by_page false e rest =
        let count = times_more q p qs in
        let zero : one_if (q == p) ≡ 0 = ap one_if e in
        ap (λ b. f q || b) (rest (omega (arith, there, count, zero))) ∙ or_true (f q)

any_moves : (f : ℕ → Bool) (ps qs : List ℕ) → ((r : ℕ) → 1 ≤ times r ps → 1 ≤ times r qs) → list_any f ps ≡ true → list_any f qs ≡ true
any_moves f [] qs more e = absurd (cc)
any_moves f (p ∷ ps) qs more e = by_test (f p) refl e (any_moves f ps qs (λ r later. let count = times_more p r ps in more r (omega (arith, later, count))))
  where
    by_test : (b : Bool) → f p ≡ b → (b || list_any f ps) ≡ true → (list_any f ps ≡ true → list_any f qs ≡ true) → list_any f qs ≡ true
    by_test true passes g rest =
        let count = times_more p p ps in
        let self : one_if (p == p) ≡ 1 = ap one_if (self_test p) in
        any_there f p qs passes (more p (omega (arith, count, self)))
    by_test false fails g rest = rest g

-- two lists with the same pages have one that passes, or none has
pub any_alike : (f : ℕ → Bool) (ps qs : List ℕ) → ((r : ℕ) → times r ps ≡ times r qs) → list_any f ps ≡ list_any f qs
any_alike f ps qs same =
    alike (list_any f ps) (list_any f qs) (any_moves f ps qs (λ r there. let count = same r in omega (arith, there, count)))
    (any_moves f qs ps (λ r there. let count = same r in omega (arith, there, count)))
  where
    alike : (a b : Bool) → (a ≡ true → b ≡ true) → (b ≡ true → a ≡ true) → a ≡ b
    alike true b f g = sym (f refl)
    alike false true f g = g refl
    alike false false f g = refl

-- the pages of exclusive locks are those that were written
pub same_pages : (h : HomeState) (t : TxId) (r : ℕ) → IsHome h → pending_of h.txs t ≡ None → times r (exclusive_pages (locks_of h.txs t)) ≡ times r (pages_written h t)
same_pages h t r is waits = times_exclusive (locks_of h.txs t) r (locks_once h.txs t is.txs.once) ∙ sym (times_held h t r is waits)

pub end_is : (h : HomeState) (t : TxId) → IsHome h → pending_of h.txs t ≡ None → list_any (λ p. version_or (find h.pool p) == 2 ^ 64 - 1) (exclusive_pages (locks_of h.txs t)) ≡ at_version_end h t
unfolding at_version_end
end_is h t is waits = any_alike (λ p. version_or (find h.pool p) == 2 ^ 64 - 1) (exclusive_pages (locks_of h.txs t)) (pages_written h t) (λ r. same_pages h t r is waits)

pub below_is : (h : HomeState) (t : TxId) → IsHome h → pending_of h.txs t ≡ None → AllByRecursion (IsBelowLast h.pool) (exclusive_pages (locks_of h.txs t)) → AllByRecursion (IsBelowLast h.pool) (pages_written h t)
below_is h t is waits all = all_moves (IsBelowLast h.pool) (pages_written h t) (exclusive_pages (locks_of h.txs t)) (λ r. sym (same_pages h t r is waits)) all

-- what all items have, at each place
pub at_places : {X : Type 0} (P : X → Type 0) (xs : List X) → AllByRecursion P xs → All P xs
at_places P [] all k d within = absurd (omega (arith, within))
at_places P (x ∷ xs) all zero d within = all.0
at_places P (x ∷ xs) all (suc k) d within = at_places P xs all.1 k d (omega (arith, within))

-- runs of a page lie within it
abbrev pub LiesIn : ℕ → Run → Type 0
LiesIn size r = (r.from ≤ r.to) × (r.to ≤ size)

lie_in : (size low : ℕ) (rs : List Run) → AreRuns size low rs → AllByRecursion (LiesIn size) rs
lie_in size low [] are = tt
lie_in size low (r ∷ rs) are = let some : r.from < r.to = are.1 in ((omega (arith, some), are.2), lie_in size (r.to + 1) rs are.3)

written_lie : (size : ℕ) (b : Bool) (rs : List Run) → AreWrittenRuns size b rs → AllByRecursion (LiesIn size) rs
written_lie size true [] are = tt
written_lie size true (r ∷ rs) are = lie_in size 0 (r ∷ rs) are
written_lie size false rs are = subst (AllByRecursion (LiesIn size)) (sym are) tt

pub runs_lie : (h : HomeState) (t : TxId) (p : ℕ) → IsHome h → AllByRecursion (LiesIn h.pool.size) (runs_at h.written t p)
runs_lie h t p is = subst (λ n. AllByRecursion (LiesIn n) (runs_at h.written t p)) (sym is.sizes.1) (written_lie h.config.size (is_exclusive_lock (held_by h.txs t p)) (runs_at h.written t p) (is.runs t p))

-- the pages from a place on
pages_next : (ps : List ℕ) (i d : ℕ) → i < length ps → drop i ps ≡ get_or ps i d ∷ drop (i + 1) ps
pages_next ps i d within = let more : suc i ≡ i + 1 = omega arith in drop-cons ps i d within ∙ ap (λ n. get_or ps i d ∷ drop n ps) more

pub publish_next : (t : TxId) (ps : List ℕ) (i d : ℕ) (b c : Pool) (dirty : Bool) → i < length ps → c ≡ publish b t (get_or ps i d) dirty → MayPublish t (drop i ps) b → MayPublish t (drop (i + 1) ps) c
publish_next t ps i d b c dirty within changed may =
    subst (MayPublish t (drop (i + 1) ps)) (sym changed) (may_publish_next t (get_or ps i d) (drop (i + 1) ps) b dirty (subst (λ l. MayPublish t l b) (pages_next ps i d within) may))

pub fold_rest : {X : Type 0} (f : X → ℕ → X) (ps : List ℕ) (i d : ℕ) (x y : X) → i < length ps → y ≡ f x (get_or ps i d) → fold f y (drop (i + 1) ps) ≡ fold f x (drop i ps)
fold_rest f ps i d x y within changed = ap (λ z. fold f z (drop (i + 1) ps)) changed ∙ ap (fold f x) (sym (pages_next ps i d within))

pub map_over : {X Y : Type 0} (f : X → Y) (xs : List X) (i : ℕ) (ys all : List Y) → length xs ≤ i → ys ++ map f (drop i xs) ≡ all → ys ≡ all
map_over f xs i ys all over rest = sym (append-nil ys) ∙ (ap (λ l. ys ++ map f l) (sym (drop_of_length-le xs over)) ∙ rest)

-- the runs of a page lie within its bytes
pub runs_inside : (h : HomeState) (t : TxId) (p : ℕ) (runs : List Run) (page : List ℕ) → IsHome h → runs ≡ runs_at h.written t p → length page ≡ h.pool.size → All (LiesIn (length page)) runs
runs_inside h t p runs page is same long =
    subst (All (LiesIn (length page))) (sym same)
    (subst (λ n. All (LiesIn n) (runs_at h.written t p)) (sym long) (at_places (LiesIn h.pool.size) (runs_at h.written t p) (runs_lie h t p is)))

-- the pages of a commit may be published
pub publishable_pages : (h : HomeState) (t : TxId) (ps : List ℕ) → IsHome h → pending_of h.txs t ≡ None → AllByRecursion (IsBelowLast h.pool) (pages_written h t) → ps ≡ pages_written h t → All (IsPublishable t h.pool) ps
publishable_pages h t ps is waits below same =
    subst (All (IsPublishable t h.pool)) (sym same) (at_places (IsPublishable t h.pool) (pages_written h t) (may_publish_start h t is waits below).each)

pub may_publish_here : (h g : HomeState) (t : TxId) (ps : List ℕ) → g ≡ h → IsHome h → pending_of h.txs t ≡ None → AllByRecursion (IsBelowLast h.pool) (pages_written h t) → ps ≡ pages_written h t → MayPublish t ps g.pool
may_publish_here h g t ps home is waits below same =
    subst (λ (k : HomeState). MayPublish t ps k.pool) (sym home) (subst (λ l. MayPublish t l h.pool) (sym same) (may_publish_start h t is waits below))

-- the pages of exclusive locks, sorted
pub pages_are : (h : HomeState) (t : TxId) (ls : List Held) (qs ps : List ℕ) → IsHome h → pending_of h.txs t ≡ None → ls ≡ locks_of h.txs t → qs ≡ exclusive_pages ls → IsSorted nat_cmp ps → IsPermutation qs ps → ps ≡ pages_written h t
pages_are h t ls qs ps is waits locks pages sorted same =
    written_is h t ps is waits sorted (subst (λ l. IsPermutation l ps) (pages ∙ ap exclusive_pages locks) same)

-- without an access that waits
pub none_is : {X : Type 0} (o : Option X) → is_some o ≡ false → o ≡ None
none_is None e = refl
none_is (Some x) e = absurd (cc)
