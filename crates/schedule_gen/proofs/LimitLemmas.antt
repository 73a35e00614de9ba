-- What is kept stays within its limits.
use Rattle.std.proofs.Common.{◌≡◌, ℕ, zero, suc, ◌+◌, ◌<◌, ◌≤◌, ◌==◌, ◌%◌, Bool, true, false, not, List, [], ◌∷◌, ◌++◌, length, filter, map, slice_index, refl, sym, ap, subst, ◌∙◌, arith, length-append}
use Rattle.std.proofs.lemmas.List.{length-map}
use Rattle.std.specs.List.{AllByRecursion}
use Rattle.std.specs.List.{list_any}
use Rattle.pcl_base.specs.Limits.{Sizes, InLimits}
use Rattle.pcl_base.specs.declared.event.Event.TheVariants.{View}
use Rattle.text_rules.specs.ScheduleLine.{HasNode, HasLine}
use Rattle.text_rules.specs.Generator.{Making, numbers_below, first_making, drawn, new_owner, new_owners, flags_of}
use Rattle.schedule_gen.specs.Limits.{IsRising, IsWithin}
use Rattle.schedule_gen.specs.Owners.{AreRenewed}
use Rattle.std.proofs.Math.Nat.{mod-lt}

pub all_append : {X : Type 0} (P : X → Type 0) (xs ys : List X) → AllByRecursion P xs → AllByRecursion P ys → AllByRecursion P (xs ++ ys)
all_append P [] ys first second = second
all_append P (x ∷ xs) ys first second = (first.0, all_append P xs ys first.1 second)

pub all_map : {X : Type 0} (P Q : X → Type 0) (xs : List X) → ((x : X) → P x → Q x) → AllByRecursion P xs → AllByRecursion Q xs
all_map P Q [] h all = tt
all_map P Q (x ∷ xs) h all = (h x all.0, all_map P Q xs h all.1)

pub all_at : (P : ℕ → Type 0) (xs : List ℕ) (i : ℕ) → i < length xs → AllByRecursion P xs → P (slice_index xs i)
all_at P [] i inside all = elim inside [ ]
all_at P (x ∷ xs) zero inside all = all.0
all_at P (x ∷ xs) (suc i) inside all = all_at P xs i (omega (arith, inside)) all.1

-- what holds of all holds of those that pass a test
passing : {X : Type 0} (P : X → Type 0) (test : X → Bool) (x : X) (xs : List X) (b : Bool) → test x ≡ b → P x → AllByRecursion P (filter test xs) → AllByRecursion P (filter test (x ∷ xs))
passing P test x xs true is first rest = rw is (first, rest)
passing P test x xs false is first rest = rw is rest

pub all_filter : {X : Type 0} (P : X → Type 0) (test : X → Bool) (xs : List X) → AllByRecursion P xs → AllByRecursion P (filter test xs)
all_filter P test [] all = tt
all_filter P test (x ∷ xs) all = passing P test x xs (test x) refl all.0 (all_filter P test xs all.1)

-- 0, 1, .., n - 1 are n numbers below n, and rise
pub length_numbers : (n : ℕ) → length (numbers_below n) ≡ n
length_numbers zero = refl
length_numbers (suc n) = length-append (numbers_below n) (n ∷ []) ∙ omega (arith, length_numbers n)

pub all_numbers : (n k : ℕ) → n ≤ k → AllByRecursion (λ x. x < k) (numbers_below n)
all_numbers zero k most = tt
all_numbers (suc n) k most = all_append (λ x. x < k) (numbers_below n) (n ∷ []) (all_numbers n k (omega (arith, most))) (most, tt)

rising_one_more : (ns : List ℕ) (n : ℕ) → IsRising ns → AllByRecursion (λ x. x < n) ns → IsRising (ns ++ n ∷ [])
rising_one_more [] n rises all = (tt, tt)
rising_one_more (m ∷ ns) n rises all = (all_append (λ x. m < x) ns (n ∷ []) rises.0 (all.0, tt), rising_one_more ns n rises.1 all.1)

pub rising_numbers : (n : ℕ) → IsRising (numbers_below n)
rising_numbers zero = tt
rising_numbers (suc n) = rising_one_more (numbers_below n) n (rising_numbers n) (all_numbers n n (omega arith))

-- those that pass a test rise too
rising_passing : (test : ℕ → Bool) (n : ℕ) (ns : List ℕ) (b : Bool) → test n ≡ b → AllByRecursion (λ m. n < m) ns → IsRising (filter test ns) → IsRising (filter test (n ∷ ns))
rising_passing test n ns true is all rises = rw is (all_filter (λ m. n < m) test ns all, rises)
rising_passing test n ns false is all rises = rw is rises

pub rising_filter : (test : ℕ → Bool) (ns : List ℕ) → IsRising ns → IsRising (filter test ns)
rising_filter test [] rises = tt
rising_filter test (n ∷ ns) rises = rising_passing test n ns (test n) refl rises.0 (rising_filter test ns rises.1)

-- all but n
abbrev pub others : ℕ → List ℕ → List ℕ
others n ns = filter (λ x. not (x == n)) ns

-- without a number that is below all, none is lost
other_than : (n m : ℕ) → n < m → (m == n) ≡ false
other_than n m less = grind (arith, less)

none_lost : (n : ℕ) (ns : List ℕ) → AllByRecursion (λ m. n < m) ns → length (others n ns) ≡ length ns
none_lost n [] all = refl
none_lost n (m ∷ ns) all = rw (other_than n m all.0) (ap suc (none_lost n ns all.1))

-- one number at most is lost
one_lost : (n m : ℕ) (ns : List ℕ) (b : Bool) → (m == n) ≡ b → (m ≡ n → AllByRecursion (λ k. n < k) ns) → length ns ≤ length (others n ns) + 1 → length (m ∷ ns) ≤ length (others n (m ∷ ns)) + 1
one_lost n m ns true is all rest = rw is (omega (arith, none_lost n ns (all (grind (arith, is)))))
one_lost n m ns false is all rest = rw is (omega (arith, rest))

pub few_lost : (n : ℕ) (ns : List ℕ) → IsRising ns → length ns ≤ length (others n ns) + 1
few_lost n [] rises = omega arith
few_lost n (m ∷ ns) rises = one_lost n m ns (m == n) refl (λ e. subst (λ k. AllByRecursion (λ x. k < x) ns) e rises.0) (few_lost n ns rises.1)

-- the owners stay as many, and nodes
owners_case : (k lost o : ℕ) (os : List ℕ) (s : Making) (b : Bool) → 1 ≤ length s.live → AllByRecursion (λ n. n < k) s.live → o < k → ((t : Making) → t.live ≡ s.live → AllByRecursion (λ n. n < k) (new_owners lost os t).value) → AllByRecursion (λ n. n < k) ((new_owner b o s).value ∷ (new_owners lost os (new_owner b o s).next).value)
owners_case k lost o os s true some live first rest =
    (all_at (λ n. n < k) s.live (drawn s.draws % length s.live) (mod-lt (drawn s.draws) some) live, rest (record s { draws = drawn s.draws }) refl)
owners_case k lost o os s false some live first rest = (first, rest s refl)

pub owners_within : (k lost : ℕ) (os : List ℕ) (s : Making) → 1 ≤ length s.live → AllByRecursion (λ n. n < k) s.live → AllByRecursion (λ n. n < k) os → AllByRecursion (λ n. n < k) (new_owners lost os s).value
owners_within k lost [] s some live all = tt
owners_within k lost (o ∷ os) s some live all =
    owners_case k lost o os s (o == lost) some live all.0 (λ t same. owners_within k lost os t (subst (λ l. 1 ≤ length l) (sym same) some) (subst (AllByRecursion (λ n. n < k)) (sym same) live) all.1)

pub as_many_owners : (lost : ℕ) (os : List ℕ) (s : Making) → length (new_owners lost os s).value ≡ length os
as_many_owners lost [] s = refl
as_many_owners lost (o ∷ os) s = ap suc (as_many_owners lost os (new_owner (o == lost) o s).next)

-- at first
pub first_within : (c : Sizes) (seed : ℕ) → InLimits c → IsWithin (first_making c seed)
first_within c seed limits =
    let count = length_numbers c.nodes in
    let serials : length (map (λ (n : ℕ). 0) (numbers_below c.nodes)) ≡ c.nodes = length-map (numbers_below c.nodes) (λ (n : ℕ). 0) ∙ count in
    record {
      some_live = rw count limits.some_nodes;
      rising = rising_numbers c.nodes;
      live = rw serials (all_numbers c.nodes c.nodes (omega arith));
      owned = count ∙ sym serials;
      owners = rw serials (all_numbers c.nodes c.nodes (omega arith));
      few = rw serials limits.most_nodes;
    }

-- the flags of the nodes are as many
pub as_many_flags : (n : ℕ) (live : List ℕ) → length (flags_of n live) ≡ n
as_many_flags n live = length-map (numbers_below n) (λ (k : ℕ). list_any (λ x. x == k) live) ∙ length_numbers n

-- where a node is below k, k isn't 0
pub some_nodes : (ns : List ℕ) (k : ℕ) → 1 ≤ length ns → AllByRecursion (λ n. n < k) ns → 1 ≤ k
some_nodes [] k some all = elim some [ ]
some_nodes (n ∷ ns) k some all = omega (arith, all.0)

-- once a node was lost, and its partitions have new owners
pub lost_within : (lost draws : ℕ) (owners : List ℕ) (s : Making) → IsWithin s → 2 ≤ length s.live → AreRenewed lost s.draws draws (others lost s.live) s.owners owners → IsWithin (record { draws = draws; live = others lost s.live; owners = owners; serials = s.serials })
lost_within lost draws owners s within some renewed =
    let after : Making = record s { live = others lost s.live } in
    let left : 1 ≤ length (others lost s.live) = omega (arith, some, few_lost lost s.live within.rising) in
    let live : AllByRecursion (λ n. n < length s.serials) (others lost s.live) = all_filter (λ n. n < length s.serials) (λ x. not (x == lost)) s.live within.live in
    let told : (new_owners lost s.owners after).value ≡ owners = renewed.value after refl refl in
    record {
      some_live = left;
      rising = rising_filter (λ x. not (x == lost)) s.live within.rising;
      live = live;
      owned = sym (ap length told) ∙ as_many_owners lost s.owners after ∙ within.owned;
      owners = subst (AllByRecursion (λ n. n < length s.serials)) told (owners_within (length s.serials) lost s.owners after left live within.owners);
      few = within.few;
    }

-- the view of what is kept has a line
pub view_has_line : (s : Making) → IsWithin s → HasLine (View (flags_of (length s.serials) s.live) s.owners)
view_has_line s within =
    let many = as_many_flags (length s.serials) s.live in
    let some = some_nodes s.live (length s.serials) within.some_live within.live in (
      omega (arith, many, some),
      omega (arith, many, within.few),
      omega (arith, within.owned, some),
      omega (arith, within.owned, within.few),
      all_map (λ n. n < length s.serials) HasNode s.owners (λ n less. omega (arith, less, within.few)) within.owners,
    )
