-- Lists from which the first item that passes a test is taken, or in which it is changed.
use Rattle.std.proofs.Common.{◌≡◌, ℕ, ◌+◌, ◌<◌, List, [], ◌∷◌, refl, ap, ◌∙◌, sym, length, Bool, true, false, ◌||◌, not, cond, nat_lt, Some, None, get_or, slice_set, suc, zero, take, drop, map, ◌++◌, ◌&&◌, reverse, arith}
use Rattle.std.proofs.lemmas.Grind.{reverse_onto}
use Rattle.std.proofs.lemmas.Bool.Decides.{nat_tests}
use Rattle.std.specs.List.{list_all, list_any, position, position_or_len, remove}
use Rattle.run_rules.specs.Words.{pick}
use Rattle.run_rules.specs.Causes.{without_first, change_first}

next_is : (k : ℕ) → 1 + k ≡ suc k
next_is k = omega arith

left_case : {X : Type 0} (p : X → Bool) (x : X) (xs : List X) (b : Bool) → remove xs (position_or_len p xs) ≡ without_first p xs
    → remove (x ∷ xs) (cond (not b) (1 + position_or_len p xs) 0) ≡ pick b xs (x ∷ without_first p xs)
left_case p x xs true h = refl
left_case p x xs false h = ap (remove (x ∷ xs)) (next_is (position_or_len p xs)) ∙ ap (λ ys. x ∷ ys) h

changed_case : {X : Type 0} (p : X → Bool) (f : X → X) (d x : X) (xs : List X) (b : Bool)
    → slice_set xs (position_or_len p xs) (f (get_or xs (position_or_len p xs) d)) ≡ change_first p f xs
    → slice_set (x ∷ xs) (cond (not b) (1 + position_or_len p xs) 0) (f (get_or (x ∷ xs) (cond (not b) (1 + position_or_len p xs) 0) d)) ≡ pick b (f x ∷ xs) (x ∷ change_first p f xs)
changed_case p f d x xs true h = refl
changed_case p f d x xs false h =
    ap (λ k. slice_set (x ∷ xs) k (f (get_or (x ∷ xs) k d))) (next_is (position_or_len p xs)) ∙ ap (λ ys. x ∷ ys) h

changed_at : {X : Type 0} (p : X → Bool) (f : X → X) (d : X) (xs : List X)
    → slice_set xs (position_or_len p xs) (f (get_or xs (position_or_len p xs) d)) ≡ change_first p f xs
unfolding change_first
changed_at p f d [] = refl
changed_at p f d (x ∷ xs) = changed_case p f d x xs (p x) (changed_at p f d xs)

left_at : {X : Type 0} (p : X → Bool) (xs : List X) → remove xs (position_or_len p xs) ≡ without_first p xs
unfolding without_first
left_at p [] = refl
left_at p (x ∷ xs) = left_case p x xs (p x) (left_at p xs)

next_below : (a b : ℕ) → nat_lt a b ≡ nat_lt (1 + a) (suc b)
next_below a b = grind (arith, nat_tests)

none_below : (b : ℕ) → true ≡ nat_lt 0 (suc b)
none_below b = grind (arith, nat_tests)

any_case : {X : Type 0} (p : X → Bool) (x : X) (xs : List X) (b : Bool) → list_any p xs ≡ nat_lt (position_or_len p xs) (length xs)
    → (b || list_any p xs) ≡ nat_lt (cond (not b) (1 + position_or_len p xs) 0) (length (x ∷ xs))
any_case p x xs true h = none_below (length xs)
any_case p x xs false h = h ∙ next_below (position_or_len p xs) (length xs)

any_at : {X : Type 0} (p : X → Bool) (xs : List X) → list_any p xs ≡ nat_lt (position_or_len p xs) (length xs)
any_at p [] = refl
any_at p (x ∷ xs) = any_case p x xs (p x) (any_at p xs)

none_case : {X : Type 0} (p : X → Bool) (x : X) (xs : List X) (b : Bool) → (list_any p xs ≡ false → xs ≡ without_first p xs)
    → (b || list_any p xs) ≡ false → x ∷ xs ≡ pick b xs (x ∷ without_first p xs)
none_case p x xs true h none = absurd (cc)
none_case p x xs false h none = ap (λ ys. x ∷ ys) (h none)

-- where none passes, none is taken
without_none : {X : Type 0} (p : X → Bool) (xs : List X) → list_any p xs ≡ false → xs ≡ without_first p xs
unfolding without_first
without_none p [] none = refl
without_none p (x ∷ xs) none = none_case p x xs (p x) (without_none p xs) none

some_case : (b : Bool) (k i : ℕ) → cond b (Some k) None ≡ Some i → (b ≡ true) × (k ≡ i)
some_case true k i h = (refl, cc)
some_case false k i h = absurd (cc)

no_case : (b : Bool) (k : ℕ) → cond b (Some k) None ≡ None → b ≡ false
no_case true k h = absurd (cc)
no_case false k h = refl

-- what a place tells: some item passes, and it is the first one
pub found_any : {X : Type 0} (p : X → Bool) (xs : List X) (i : ℕ) → position p xs ≡ Some i → true ≡ list_any p xs
found_any p xs i h = sym (any_at p xs ∙ (some_case (nat_lt (position_or_len p xs) (length xs)) (position_or_len p xs) i h).0)

pub found_left : {X : Type 0} (p : X → Bool) (xs : List X) (i : ℕ) → position p xs ≡ Some i → remove xs i ≡ without_first p xs
found_left p xs i h = ap (remove xs) (sym (some_case (nat_lt (position_or_len p xs) (length xs)) (position_or_len p xs) i h).1) ∙ left_at p xs

-- what none tells
pub none_any : {X : Type 0} (p : X → Bool) (xs : List X) → position p xs ≡ None → false ≡ list_any p xs
none_any p xs h = sym (any_at p xs ∙ no_case (nat_lt (position_or_len p xs) (length xs)) (position_or_len p xs) h)

pub none_left : {X : Type 0} (p : X → Bool) (xs : List X) → position p xs ≡ None → xs ≡ without_first p xs
none_left p xs h = without_none p xs (sym (none_any p xs h))

pub found_changed : {X : Type 0} (p : X → Bool) (f : X → X) (d : X) (xs : List X) (i : ℕ) → position p xs ≡ Some i
    → slice_set xs i (f (get_or xs i d)) ≡ change_first p f xs
found_changed p f d xs i h =
    ap (λ k. slice_set xs k (f (get_or xs k d))) (sym (some_case (nat_lt (position_or_len p xs) (length xs)) (position_or_len p xs) i h).1)
    ∙ changed_at p f d xs

-- one item more of a list is worked off
pub done_one : {X : Type 0} (f : X → X) (d : X) (xs : List X) (i : ℕ) → i < length xs
    → take (suc i) (slice_set xs i (f (get_or xs i d))) ++ map f (drop (suc i) (slice_set xs i (f (get_or xs i d)))) ≡ take i xs ++ map f (drop i xs)
done_one f d [] i within = absurd (omega (arith, within))
done_one f d (x ∷ xs) zero within = refl
done_one f d (x ∷ xs) (suc i) within = ap (λ ys. x ∷ ys) (done_one f d xs i (omega (arith, within)))

swapped : (a b r : Bool) → (a && (b && r)) ≡ (b && (a && r))
swapped true b r = refl
swapped false true r = refl
swapped false false r = refl

all_push : {X : Type 0} (p : X → Bool) (xs : List X) (y : X) → list_all p (xs ++ y ∷ []) ≡ (p y && list_all p xs)
all_push p [] y = refl
all_push p (x ∷ xs) y = ap (λ r. p x && r) (all_push p xs y) ∙ swapped (p x) (p y) (list_all p xs)

-- a list passes where it does backwards
pub all_reverse : {X : Type 0} (p : X → Bool) (xs : List X) → list_all p xs ≡ list_all p (reverse xs)
all_reverse p [] = refl
all_reverse p (x ∷ xs) =
    ap (λ r. p x && r) (all_reverse p xs) ∙ sym (all_push p (reverse xs) x) ∙ sym (ap (list_all p) (reverse_onto xs x []))
