-- The bytes of a write, by how far they follow them and as they are read.
use Rattle.std.proofs.Common.{◌≡◌, ℕ, suc, ◌+◌, ◌*◌, ◌%◌, ◌≤◌, ◌==◌, ◌&&◌, Bool, true, false, cond, nat_le, min, List, [], ◌∷◌, length, refl, sym, ap, ◌∙◌, Result, Ok, Err, arith}
use Rattle.std.specs.List.{prefix_len, list_all}
use Rattle.std.proofs.lemmas.Bool.{and_parts, eqb-true}
use Rattle.std.proofs.lemmas.List.Sums.{prefix_len-le-length}
use Rattle.hex.specs.Hex.{decode_of, decode_pairs, pair_value, value_at, digit_or_error}
use Rattle.hex.specs.declared.error.FromHexError.{FromHexError}
use Rattle.hex.proofs.Pairs.{cons_byte, decode_pairs-ok_pair}
use Rattle.text_rules.specs.FieldBytes.{pick}
use Rattle.text_rules.specs.BadLine.{is_all}
use Rattle.text_rules.specs.LineForms.{reach_of_bytes, shared_with}
use Rattle.text_rules.specs.ReadLine.{◌>>=◌, where_true, value_of, is_hex_digit, are_digits, pairs_of, bytes_or_none, bytes_of}
use Rattle.line_laws.proofs.FieldByField.{is_read}
use Rattle.line_laws.proofs.Printed.{digit_of}

-- whether digits decode
abbrev pub is_decoded : Result (List ℕ) FromHexError → Bool
is_decoded r = is_read (value_of r)

cons_decoded : (v : ℕ) (r : Result (List ℕ) FromHexError) → is_decoded (cons_byte v r) ≡ is_decoded r
cons_decoded v (Ok bytes) = refl
cons_decoded v (Err e) = refl

-- digits decode in pairs
pairs_decoded : (i : ℕ) (text : List ℕ) → list_all is_hex_digit text ≡ true → is_decoded (decode_pairs i text) ≡ (length text % 2 == 0)
unfolding decode_pairs
pairs_decoded i [] digits = refl
pairs_decoded i (a ∷ []) digits = refl
pairs_decoded i (a ∷ b ∷ rest) digits =
    let first = and_parts (is_hex_digit a) (list_all is_hex_digit (b ∷ rest)) digits in
    let second = and_parts (is_hex_digit b) (list_all is_hex_digit rest) first.1 in
    let da = digit_of a first.0 in
    let db = digit_of b second.0 in
    let ha : value_at a i ≡ Ok da.value = ap (digit_or_error a i) da.read in
    let hb : value_at b (i + 1) ≡ Ok db.value = ap (digit_or_error b (i + 1)) db.read in
    let v : ℕ = da.value * 16 + db.value in
    let pair : pair_value a b i ≡ Ok v = rw (ha, hb) refl in
    let even : (length rest % 2 == 0) ≡ (suc (suc (length rest)) % 2 == 0) = grind arith in
    ap is_decoded (decode_pairs-ok_pair i a b v rest pair)
    ∙ (cons_decoded v (decode_pairs (i + 2) rest) ∙ (pairs_decoded (i + 2) rest second.1 ∙ even))

text_decoded : (text : List ℕ) → list_all is_hex_digit text ≡ true → is_decoded (decode_of text) ≡ (length text % 2 == 0)
text_decoded text digits = by (length text % 2 == 1) refl (pairs_decoded 0 text digits)
  where
    by : (t : Bool) → (length text % 2 == 1) ≡ t → is_decoded (decode_pairs 0 text) ≡ (length text % 2 == 0)
        → is_decoded (cond t (Err FromHexError.OddLength) (decode_pairs 0 text)) ≡ (length text % 2 == 0)
    by true odd go = grind (arith, odd)
    by false odd go = go

-- all digits, and the digits at the front
pub all_front : (p : ℕ → Bool) (bs : List ℕ) → list_all p bs ≡ (prefix_len p bs == length bs)
all_front p [] = refl
all_front p (b ∷ bs) = by (p b) (all_front p bs)
  where
    by : (t : Bool) → list_all p bs ≡ (prefix_len p bs == length bs) → (t && list_all p bs) ≡ (cond t (1 + prefix_len p bs) 0 == suc (length bs))
    by true e = e ∙ grind arith
    by false e = grind arith

-- the digits of some bytes
pub digits_read : (text : List ℕ) → is_read (pairs_of text) ≡ (are_digits text && (length text % 2 == 0))
digits_read text = by (are_digits text) refl
  where
    by : (t : Bool) → are_digits text ≡ t → is_read (where_true t text >>= (λ digits. value_of (decode_of digits))) ≡ (t && (length text % 2 == 0))
    by true h =
        let parts = and_parts (nat_le 2 (length text) && nat_le (length text) 8192) (list_all is_hex_digit text) h in
        text_decoded text parts.1
    by false h = refl

digits_reach : (len front m : ℕ) → front ≤ len → m ≡ min 8192 front
    → (nat_le 2 len && nat_le len 8192 && (front == len) && (len % 2 == 0)) ≡ ((m == len) && (nat_le 1 m && (m % 2 == 0)))
digits_reach len front m le e = grind (arith, le, e)

-- a dash, with nothing or with more behind it
dash_reach : (bs : List ℕ) → is_read (bytes_or_none (suc (length bs) == 1 && (45 == 45)) (45 ∷ bs)) ≡ ((1 == suc (length bs)) && true)
dash_reach bs = by (suc (length bs) == 1) refl
  where
    by : (t : Bool) → (suc (length bs) == 1) ≡ t → is_read (bytes_or_none (t && true) (45 ∷ bs)) ≡ ((1 == suc (length bs)) && true)
    by true h = grind (arith, h)
    by false h = digits_read (45 ∷ bs) ∙ grind (arith, h)

-- other bytes
other_reach : (b : ℕ) (bs : List ℕ) → (b == 45) ≡ false → is_read (bytes_or_none (suc (length bs) == 1 && (b == 45)) (b ∷ bs)) ≡ is_all (suc (length bs)) (reach_of_bytes (b ∷ bs))
other_reach b bs other =
    let none : (suc (length bs) == 1 && (b == 45)) ≡ false = grind (arith, other) in
    let no_dash : (45 == b) ≡ false = grind (arith, other) in
    let front : ℕ = prefix_len is_hex_digit (b ∷ bs) in
    let len : ℕ = suc (length bs) in
    let le : front ≤ len = prefix_len-le-length is_hex_digit (b ∷ bs) in
    ap (λ t. is_read (bytes_or_none t (b ∷ bs))) none
    ∙ (digits_read (b ∷ bs)
    ∙ (ap (λ t. nat_le 2 len && nat_le len 8192 && t && (len % 2 == 0)) (all_front is_hex_digit (b ∷ bs))
    ∙ (digits_reach len front (min 8192 front) le refl
    ∙ sym (ap (λ t. is_all len (pick (shared_with t 0 == 1) (record { count = 1; is_whole = true }) (record { count = min 8192 front; is_whole = nat_le 1 (min 8192 front) && (min 8192 front % 2 == 0) }))) no_dash))))

pub bytes_reach : (bs : List ℕ) → is_read (bytes_of bs) ≡ is_all (length bs) (reach_of_bytes bs)
unfolding bytes_of
bytes_reach [] = refl
bytes_reach (b ∷ bs) = by (b == 45) refl
  where
    by : (t : Bool) → (b == 45) ≡ t → is_read (bytes_or_none (suc (length bs) == 1 && (b == 45)) (b ∷ bs)) ≡ is_all (suc (length bs)) (reach_of_bytes (b ∷ bs))
    by true h =
        let same = eqb-true b 45 h in
        ap (λ x. is_read (bytes_or_none (suc (length bs) == 1 && (x == 45)) (x ∷ bs))) same
        ∙ (dash_reach bs ∙ ap (λ x. is_all (suc (length bs)) (reach_of_bytes (x ∷ bs))) (sym same))
    by false h = other_reach b bs h
