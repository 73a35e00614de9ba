-- The bytes of a write up to which a line follows them are a front of a line.
use Rattle.std.proofs.Common.{◌≡◌, ℕ, zero, suc, ◌+◌, ◌%◌, ◌≤◌, ◌==◌, ◌&&◌, Bool, true, false, cond, nat_le, min, List, [], ◌∷◌, ◌++◌, length, length-take, length-append, take, get_or, codes, refl, sym, ap, ◌∙◌, arith, append-nil}
use Rattle.std.specs.List.{prefix_len, list_all}
use Rattle.std.proofs.lemmas.Bool.{eqb-true}
use Rattle.std.proofs.lemmas.List.Folds.{list_all-append}
use Rattle.std.proofs.lemmas.List.Sums.{prefix_len-le-length}
use Rattle.text_rules.specs.LineForms.{reach_of_bytes}
use Rattle.text_rules.specs.ReadLine.{bytes_of, bytes_or_none, is_hex_digit}
use Rattle.line_laws.proofs.FieldByField.{is_read}
use Rattle.line_laws.proofs.BytesRead.{digits_read}
use Rattle.line_laws.proofs.FormLeast.{bytes_by}

-- bytes that make a front a line
abbrev pub IsBegun : (List ℕ → Bool) → List ℕ → Type 0
IsBegun next front = (more : List ℕ) × (next (front ++ more) ≡ true)

-- the bytes of a write
front_all : (p : ℕ → Bool) (n : ℕ) (xs : List ℕ) → n ≤ prefix_len p xs → list_all p (take n xs) ≡ true
front_all p zero xs le = refl
front_all p (suc n) [] le = refl
front_all p (suc n) (x ∷ xs) le = by (p x) refl le (λ less. front_all p n xs less)
  where
    by : (t : Bool) → p x ≡ t → suc n ≤ cond t (1 + prefix_len p xs) 0 → (n ≤ prefix_len p xs → list_all p (take n xs) ≡ true) → (p x && list_all p (take n xs)) ≡ true
    by true e less go = ap (λ t. t && list_all p (take n xs)) e ∙ go (omega (arith, less))
    by false e less go = absurd (omega (arith, less))

text_read : (text : List ℕ) → list_all is_hex_digit text ≡ true → 2 ≤ length text → length text ≤ 8192 → (length text % 2 == 0) ≡ true → is_read (bytes_of text) ≡ true
unfolding bytes_of
text_read text digits some most even =
    let other : (length text == 1 && get_or text 0 0 == 45) ≡ false = grind (arith, some) in
    let long : (nat_le 2 (length text) && nat_le (length text) 8192) ≡ true = grind (arith, some, most) in
    ap (λ t. is_read (bytes_or_none t text)) other
    ∙ (digits_read text ∙ (ap (λ t. (t && list_all is_hex_digit text) && (length text % 2 == 0)) long ∙ (ap (λ t. t && (length text % 2 == 0)) digits ∙ even)))

dash_read : is_read (bytes_of (codes "-")) ≡ true
unfolding bytes_of
dash_read = refl

digits_more : (n : ℕ) (xs : List ℕ) → n ≤ prefix_len is_hex_digit xs → n ≤ 8192 → IsBegun (λ bs. is_read (bytes_of bs)) (take n xs)
digits_more zero xs le few = (codes "-", dash_read)
digits_more (suc m) xs le few = by (suc m % 2 == 0) refl
  where
    len : length (take (suc m) xs) ≡ suc m
    len = let within = prefix_len-le-length is_hex_digit xs in length-take (suc m) xs ∙ omega (arith, within, le)

    even_len : (n : ℕ) → n ≡ suc m → (suc m % 2 == 0) ≡ true → (n % 2 == 0) ≡ true
    even_len n same e = ap (λ k. k % 2 == 0) same ∙ e

    odd_len : (n : ℕ) → n ≡ suc m + 1 → (suc m % 2 == 0) ≡ false → (n % 2 == 0) ≡ true
    odd_len n same e = grind (arith, same, e)

    two : (suc m % 2 == 0) ≡ true → 2 ≤ suc m
    two e = grind (arith, e)

    few_odd : (suc m % 2 == 0) ≡ false → suc m + 1 ≤ 8192
    few_odd e = grind (arith, e, few)

    by : (t : Bool) → (suc m % 2 == 0) ≡ t → IsBegun (λ bs. is_read (bytes_of bs)) (take (suc m) xs)
    by true e =
        let some = two e in (
          [],
          ap (λ l. is_read (bytes_of l)) (append-nil (take (suc m) xs))
              ∙ text_read (take (suc m) xs) (front_all is_hex_digit (suc m) xs le) (omega (arith, len, some)) (omega (arith, len, few)) (even_len (length (take (suc m) xs)) len e),
        )
    by false e =
        let text : List ℕ = take (suc m) xs ++ codes "0" in
        let length_is : length text ≡ suc m + 1 = length-append (take (suc m) xs) (codes "0") ∙ omega (arith, len) in
        let most = few_odd e in
        let digits : list_all is_hex_digit text ≡ true =
        list_all-append is_hex_digit (take (suc m) xs) (codes "0") ∙ ap (λ t. t && true) (front_all is_hex_digit (suc m) xs le) in
        (codes "0", text_read text digits (omega (arith, length_is)) (omega (arith, length_is, most)) (odd_len (length text) length_is e))

bytes_more_by : (x : ℕ) (xs : List ℕ) (t : Bool) → (45 == x) ≡ t → IsBegun (λ bs. is_read (bytes_of bs)) (take (bytes_by t (x ∷ xs)).count (x ∷ xs))
bytes_more_by x xs true e = ([], ap (λ b. is_read (bytes_of (b ∷ []))) (sym (eqb-true 45 x e)) ∙ dash_read)
bytes_more_by x xs false e = digits_more (min 8192 (prefix_len is_hex_digit (x ∷ xs))) (x ∷ xs) (omega arith) (omega arith)

pub bytes_more : (xs : List ℕ) → IsBegun (λ bs. is_read (bytes_of bs)) (take (reach_of_bytes xs).count xs)
bytes_more [] = (codes "-", dash_read)
bytes_more (x ∷ xs) = bytes_more_by x xs (45 == x) refl
