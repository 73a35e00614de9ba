-- The links of a sweep: how they are gone through, and what is left of them once a node is lost.
use Rattle.std.proofs.Common.{◌≡◌, ℕ, zero, suc, ◌+◌, ◌<◌, ◌≤◌, ◌==◌, Bool, true, false, not, List, [], ◌∷◌, ◌++◌, Some, None, ◌⊎◌, inl, inr, length, filter, map, drop, get_or, add-one, refl, sym, ap, subst, ◌∙◌, arith}
use Rattle.std.specs.List.{AllByRecursion, flat_map}
use Rattle.text_rules.specs.Generator.{deliveries}
use Rattle.pcl_base.specs.declared.event.Event.TheVariants.{Deliver}
use Rattle.schedule_gen.specs.Links.{SweepsView, first_of, rest_of, links_from, links_of, delivered, repeated, IsLink, avoids}
use Rattle.schedule_gen.proofs.LimitLemmas.{all_append, all_filter, others}
use Rattle.std.proofs.lemmas.List.{map-append}
use Rattle.std.proofs.lemmas.List.Elements.{filter-append}

-- nothing is due of no sweep, and of no link
nothing : {X : Type 0} (k : ℕ) → drop {A = X} k [] ≡ []
nothing zero = refl
nothing (suc k) = refl

pub no_sweep_due : {X : Type 0} (n k : ℕ) (xs : List X) → n ≡ 0 → drop k (repeated n xs) ≡ []
no_sweep_due zero k xs none = nothing k
no_sweep_due (suc n) k xs none = absurd (cc)

pub no_link_due : {X : Type 0} (n k : ℕ) (xs : List X) → length xs ≡ 0 → drop k (repeated n xs) ≡ []
no_link_due zero k xs none = nothing k
no_link_due (suc n) k [] none = no_link_due n k [] none
no_link_due (suc n) k (x ∷ xs) none = absurd (cc)

-- the link that is due first is the one behind those on which there was a delivery
first_behind : {X : Type 0} (k : ℕ) (xs ys : List X) (x : X) → k < length xs → x ≡ get_or xs k x → first_of (drop k (xs ++ ys)) ≡ Some x
first_behind k [] ys x inside is = elim inside [ ]
first_behind zero (z ∷ xs) ys x inside is = ap Some (sym is)
first_behind (suc k) (z ∷ xs) ys x inside is = first_behind k xs ys x (omega (arith, inside)) is

pub first_due : {X : Type 0} (n k : ℕ) (xs : List X) (x : X) → (n ≡ 0 → ⊥) → k < length xs → x ≡ get_or xs k x → Some x ≡ first_of (drop k (repeated n xs))
first_due zero k xs x some inside is = absurd (some refl)
first_due (suc n) k xs x some inside is = sym (first_behind k xs (repeated n xs) x inside is)

-- the others are those behind it
rest_due : {X : Type 0} (k : ℕ) (xs : List X) → rest_of (drop k xs) ≡ drop (suc k) xs
rest_due zero [] = refl
rest_due zero (x ∷ xs) = refl
rest_due (suc k) [] = refl
rest_due (suc k) (x ∷ xs) = rest_due k xs

pub going_on : {X : Type 0} (k : ℕ) (xs : List X) → drop (k + 1) xs ≡ rest_of (drop k xs)
going_on k xs = rw add-one (sym (rest_due k xs))

-- behind the last link of a sweep the next sweep begins
behind_all : {X : Type 0} (k : ℕ) (xs ys : List X) → k ≡ length xs → drop k (xs ++ ys) ≡ ys
behind_all zero [] ys is = refl
behind_all zero (x ∷ xs) ys is = absurd (cc)
behind_all (suc k) [] ys is = absurd (cc)
behind_all (suc k) (x ∷ xs) ys is = behind_all k xs ys (omega (arith, is))

pub next_sweep : {X : Type 0} (n m k : ℕ) (xs : List X) → n ≡ suc m → suc k ≡ length xs → repeated m xs ≡ rest_of (drop k (repeated n xs))
next_sweep n m k xs is last = rw is (sym (rest_due k (xs ++ repeated m xs) ∙ behind_all (suc k) xs (repeated m xs) last))

-- the deliveries of a sweep are those on its links
delivered_from : (x : ℕ) (ys : List ℕ) → delivered (map (λ (y : ℕ). (x, y)) ys) ≡ map (λ y. Deliver x y) ys
delivered_from x [] = refl
delivered_from x (y ∷ ys) = ap (λ l. Deliver x y ∷ l) (delivered_from x ys)

delivered_all : (xs live : List ℕ) → delivered (flat_map (λ x. links_from x live) xs) ≡ flat_map (λ x. map (λ y. Deliver x y) (filter (λ y. not (x == y)) live)) xs
delivered_all [] live = refl
delivered_all (x ∷ xs) live =
    map-append (λ (link : ℕ × ℕ). Deliver link.0 link.1) (links_from x live) (flat_map (λ z. links_from z live) xs)
    ∙ (ap (λ l. l ++ delivered (flat_map (λ z. links_from z live) xs)) (delivered_from x (filter (λ y. not (x == y)) live))
    ∙ ap (λ l. map (λ y. Deliver x y) (filter (λ y. not (x == y)) live) ++ l) (delivered_all xs live))

pub are_delivered : (live : List ℕ) → delivered (links_of live) ≡ deliveries live
are_delivered live = delivered_all live live

-- links lead from node to node
all_from : (x : ℕ) (ys : List ℕ) → x ≤ 15 → AllByRecursion (λ n. n ≤ 15) ys → AllByRecursion IsLink (map (λ (y : ℕ). (x, y)) ys)
all_from x [] most all = tt
all_from x (y ∷ ys) most all = ((most, all.0), all_from x ys most all.1)

all_to : (xs live : List ℕ) → AllByRecursion (λ n. n ≤ 15) xs → AllByRecursion (λ n. n ≤ 15) live → AllByRecursion IsLink (flat_map (λ x. links_from x live) xs)
all_to [] live all nodes = tt
all_to (x ∷ xs) live all nodes = all_append IsLink (links_from x live) (flat_map (λ x. links_from x live) xs) (all_from x (filter (λ y. not (x == y)) live) all.0 (all_filter (λ n. n ≤ 15) (λ y. not (x == y)) live nodes)) (all_to xs live all.1 nodes)

pub are_links : (live : List ℕ) → AllByRecursion (λ n. n ≤ 15) live → AllByRecursion IsLink (links_of live)
are_links live nodes = all_to live live nodes nodes

-- without the links of a lost node there are those between the others
kept_case : (lost x y : ℕ) (ys : List ℕ) (same gone : Bool) → (x == y) ≡ same → (y == lost) ≡ gone → (x == lost) ≡ false
    → filter (avoids lost) (links_from x ys) ≡ links_from x (others lost ys) → filter (avoids lost) (links_from x (y ∷ ys)) ≡ links_from x (others lost (y ∷ ys))
kept_case lost x y ys true true same gone other rest = simp (same, gone) rest
kept_case lost x y ys true false same gone other rest = simp (same, gone) rest
kept_case lost x y ys false true same gone other rest = simp (same, gone, other) rest
kept_case lost x y ys false false same gone other rest = simp (same, gone, other) (ap (λ l. (x, y) ∷ l) rest)

kept_links : (lost x : ℕ) (ys : List ℕ) → (x == lost) ≡ false → filter (avoids lost) (links_from x ys) ≡ links_from x (others lost ys)
kept_links lost x [] other = refl
kept_links lost x (y ∷ ys) other = kept_case lost x y ys (x == y) (y == lost) refl refl other (kept_links lost x ys other)

lost_links : (lost x : ℕ) (ys : List ℕ) → (x == lost) ≡ true → filter (avoids lost) (map (λ (y : ℕ). (x, y)) ys) ≡ []
lost_links lost x [] is = refl
lost_links lost x (y ∷ ys) is = rw is (lost_links lost x ys is)

all_kept_case : (lost x : ℕ) (xs live : List ℕ) (gone : Bool) → (x == lost) ≡ gone
    → filter (avoids lost) (flat_map (λ z. links_from z live) xs) ≡ flat_map (λ z. links_from z (others lost live)) (others lost xs)
    → filter (avoids lost) (links_from x live) ++ filter (avoids lost) (flat_map (λ z. links_from z live) xs) ≡ flat_map (λ z. links_from z (others lost live)) (others lost (x ∷ xs))
all_kept_case lost x xs live true gone rest = rw (lost_links lost x (filter (λ y. not (x == y)) live) gone) (rw gone rest)
all_kept_case lost x xs live false gone rest = rw (kept_links lost x live gone) (rw gone (ap (λ l. links_from x (others lost live) ++ l) rest))

all_kept : (lost : ℕ) (xs live : List ℕ) → filter (avoids lost) (flat_map (λ z. links_from z live) xs) ≡ flat_map (λ z. links_from z (others lost live)) (others lost xs)
all_kept lost [] live = refl
all_kept lost (x ∷ xs) live = filter-append (avoids lost) (links_from x live) (flat_map (λ z. links_from z live) xs) ∙ all_kept_case lost x xs live (x == lost) refl (all_kept lost xs live)

pub links_left : (lost : ℕ) (live : List ℕ) → filter (avoids lost) (links_of live) ≡ links_of (others lost live)
links_left lost live = all_kept lost live live

-- where none is due there is no first one, and nothing changes
pub none_first : (s : SweepsView) → s.due ≡ [] → None ≡ first_of s.due
none_first s none = rw none refl

pub none_left : (s : SweepsView) → s.due ≡ [] → s ≡ record s { due = rest_of s.due }
none_left s none = ap (λ d. record s { due = d }) (none ∙ sym (ap rest_of none))

-- what is known of an item at a place
pub all_get : {X : Type 0} (P : X → Type 0) (xs : List X) (k : ℕ) (x : X) → k < length xs → x ≡ get_or xs k x → AllByRecursion P xs → P x
all_get P [] k x inside is all = elim inside [ ]
all_get P (z ∷ xs) zero x inside is all = subst P (sym is) all.0
all_get P (z ∷ xs) (suc k) x inside is all = all_get P xs k x (omega (arith, inside)) is all.1

pub is_inside : (k n : ℕ) → 1 ≤ n → (k ≡ 0) ⊎ (k < n) → k < n
is_inside k n some (inl none) = omega (arith, none, some)
is_inside k n some (inr less) = less
