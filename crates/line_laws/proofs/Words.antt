-- Words at the front of a line: what follows them, and that a byte which stops a number ends it.
use Rattle.std.proofs.Common.{◌≡◌, ℕ, suc, ◌≤◌, ◌==◌, ◌&&◌, Bool, true, false, List, [], ◌∷◌, ◌++◌, length, take, drop, refl, sym, ap, ◌∙◌, Some, arith}
use Rattle.std.specs.Cmp.Lexicographic.{pointwise}
use Rattle.std.proofs.lemmas.Bool.{and_parts, eqb-true}
use Rattle.text_rules.specs.LineForms.{shared, shared_with}
use Rattle.text_rules.specs.ReadLine.{after_word, where_true}

-- whether the bytes begin with a word
abbrev pub begins : List ℕ → List ℕ → Bool
begins w bs = pointwise ◌==◌ (take (length w) bs) w

-- a byte that is equal to itself
eq_same : (n : ℕ) → (n == n) ≡ true
eq_same n = grind arith

-- a word is shared whole, or not
pub shared_word : (w rest : List ℕ) → shared w (w ++ rest) ≡ length w
shared_word [] rest = refl
shared_word (x ∷ w) rest =
    let e = shared_word w rest in
    ap (λ b. shared_with b (shared w (w ++ rest))) (eq_same x) ∙ omega (arith, e)

pub shared-le-word : (w bs : List ℕ) → shared w bs ≤ length w
shared-le-word [] bs = omega arith
shared-le-word (x ∷ w) [] = omega arith
shared-le-word (x ∷ w) (b ∷ bs) = by (x == b) (shared-le-word w bs)
  where
    by : (t : Bool) → shared w bs ≤ length w → shared_with t (shared w bs) ≤ suc (length w)
    by true h = omega (arith, h)
    by false h = omega (arith, h)

pub shared-le-bytes : (w bs : List ℕ) → shared w bs ≤ length bs
shared-le-bytes [] bs = omega arith
shared-le-bytes (x ∷ w) [] = omega arith
shared-le-bytes (x ∷ w) (b ∷ bs) = by (x == b) (shared-le-bytes w bs)
  where
    by : (t : Bool) → shared w bs ≤ length bs → shared_with t (shared w bs) ≤ suc (length bs)
    by true h = omega (arith, h)
    by false h = omega (arith, h)

-- where all of the word is shared, the bytes are the word and what follows
pub word_shared : (w bs : List ℕ) → shared w bs ≡ length w → bs ≡ w ++ drop (length w) bs
word_shared [] bs e = refl
word_shared (x ∷ w) [] e = absurd (omega (arith, e))
word_shared (x ∷ w) (b ∷ bs) e = by (x == b) refl e (λ f. word_shared w bs f)
  where
    by : (t : Bool) → (x == b) ≡ t → shared_with t (shared w bs) ≡ suc (length w) → (shared w bs ≡ length w → bs ≡ w ++ drop (length w) bs)
        → b ∷ bs ≡ x ∷ (w ++ drop (length w) bs)
    by true same f go = let same_byte = eqb-true x b same in let rest = go (omega (arith, f)) in (λ i. sym same_byte i ∷ rest i)
    by false same f go = absurd (omega (arith, f))

-- the same as a test
pub begins_word : (w rest : List ℕ) → begins w (w ++ rest) ≡ true
begins_word [] rest = refl
begins_word (x ∷ w) rest = ap (λ t. t && begins w (w ++ rest)) (eq_same x) ∙ begins_word w rest

pub word_begins : (w bs : List ℕ) → begins w bs ≡ true → bs ≡ w ++ drop (length w) bs
word_begins [] bs e = refl
word_begins (x ∷ w) [] e = absurd (let bad : false ≡ true = e in cc)
word_begins (x ∷ w) (b ∷ bs) e =
    let parts = and_parts (b == x) (begins w bs) e in
    let same_byte = eqb-true b x parts.0 in
    let rest = word_begins w bs parts.1 in
    (λ i. same_byte i ∷ rest i)

-- reading a word
pub after_word_is : (w rest : List ℕ) → after_word w (w ++ rest) ≡ Some rest
after_word_is w rest =
    ap (λ t. where_true t (drop (length w) (w ++ rest))) (begins_word w rest) ∙ ap Some (drop_word w)
  where
    drop_word : (w : List ℕ) → drop (length w) (w ++ rest) ≡ rest
    drop_word [] = refl
    drop_word (x ∷ w) = drop_word w

pub word_after : (w bs rest : List ℕ) → after_word w bs ≡ Some rest → bs ≡ w ++ rest
word_after w bs rest e = by (begins w bs) refl e
  where
    by : (t : Bool) → begins w bs ≡ t → where_true t (drop (length w) bs) ≡ Some rest → bs ≡ w ++ rest
    by true h f = word_begins w bs h ∙ ap (λ r. w ++ r) (some_same f)
      where
        some_same : Some (drop (length w) bs) ≡ Some rest → drop (length w) bs ≡ rest
        some_same g = cc
    by false h f = absurd (cc)
