-- Lists of a view: how they are made, and that they stay sound.
use Rattle.std.proofs.Common.{◌≡◌, ℕ, zero, suc, ◌+◌, Bool, ◌==◌, ◌&&◌, not, List, [], ◌∷◌, length, map, refl, ap, arith}
use Rattle.std.specs.List.{list_all, range_with_len, zip}
use Rattle.run_rules.specs.Words.{pick}
use Rattle.run_rules.specs.Views.{count_from, since_after, born_after, same_numbers}

pub count-range : (a n : ℕ) → range_with_len a n ≡ count_from a n
unfolding count_from
count-range a zero = refl
count-range a (suc n) = ap (λ l. a ∷ l) (count-range (a + 1) n)

pub since-zip : (e : ℕ) (old new since : List ℕ) → map (λ (x : (ℕ × ℕ) × ℕ). pick (x.0.0 == x.0.1) x.1 e) (zip (zip old new) since) ≡ since_after e old new since
unfolding since_after
since-zip e [] new since = refl
since-zip e (o ∷ old) [] since = refl
since-zip e (o ∷ old) (n ∷ new) [] = refl
since-zip e (o ∷ old) (n ∷ new) (s ∷ since) = ap (λ l. pick (o == n) s e ∷ l) (since-zip e old new since)

pub born-zip : (e : ℕ) (old new : List Bool) (born : List ℕ) → map (λ (x : (Bool × Bool) × ℕ). pick (x.0.1 && not x.0.0) e x.1) (zip (zip old new) born) ≡ born_after e old new born
unfolding born_after
born-zip e [] new born = refl
born-zip e (o ∷ old) [] born = refl
born-zip e (o ∷ old) (n ∷ new) [] = refl
born-zip e (o ∷ old) (n ∷ new) (b ∷ born) = ap (λ l. pick (n && not o) e b ∷ l) (born-zip e old new born)

-- whether computed numbers are those of a list
pub since-same : (e : ℕ) (old new since found : List ℕ) → length old ≡ length found → length new ≡ length found → length since ≡ length found
    → list_all (λ (x : ((ℕ × ℕ) × ℕ) × ℕ). pick (x.0.0.0 == x.0.0.1) x.0.1 e == x.1) (zip (zip (zip old new) since) found) ≡ same_numbers (since_after e old new since) found
unfolding since_after same_numbers
since-same e [] [] [] [] a b c = refl
since-same e (o ∷ old) (n ∷ new) (s ∷ since) (f ∷ found) a b c =
    ap (λ t. (pick (o == n) s e == f) && t) (since-same e old new since found (omega (arith, a)) (omega (arith, b)) (omega (arith, c)))
since-same e _ _ _ _ a b c = absurd (omega (arith, a, b, c))

pub born-same : (e : ℕ) (old new : List Bool) (born found : List ℕ) → length old ≡ length found → length new ≡ length found → length born ≡ length found
    → list_all (λ (x : ((Bool × Bool) × ℕ) × ℕ). pick (x.0.0.1 && not x.0.0.0) e x.0.1 == x.1) (zip (zip (zip old new) born) found) ≡ same_numbers (born_after e old new born) found
unfolding born_after same_numbers
born-same e [] [] [] [] a b c = refl
born-same e (o ∷ old) (n ∷ new) (s ∷ born) (f ∷ found) a b c =
    ap (λ t. (pick (n && not o) e s == f) && t) (born-same e old new born found (omega (arith, a)) (omega (arith, b)) (omega (arith, c)))
born-same e _ _ _ _ a b c = absurd (omega (arith, a, b, c))

pub length-since : (e : ℕ) (old new since : List ℕ) → length old ≡ length new → length since ≡ length new → length (since_after e old new since) ≡ length new
unfolding since_after
length-since e [] [] [] a b = refl
length-since e (o ∷ old) (n ∷ new) (s ∷ since) a b = omega (arith, length-since e old new since (omega (arith, a)) (omega (arith, b)))
length-since e _ _ _ a b = absurd (omega (arith, a, b))

pub length-born : (e : ℕ) (old new : List Bool) (born : List ℕ) → length old ≡ length new → length born ≡ length new → length (born_after e old new born) ≡ length new
unfolding born_after
length-born e [] [] [] a b = refl
length-born e (o ∷ old) (n ∷ new) (s ∷ born) a b = omega (arith, length-born e old new born (omega (arith, a)) (omega (arith, b)))
length-born e _ _ _ a b = absurd (omega (arith, a, b))
