-- Fields of a line, printed and read: each way gives back what the other took.
use Rattle.std.proofs.Common.{◌≡◌, ℕ, ◌+◌, ◌<◌, ◌≤◌, ◌&&◌, Bool, true, false, cond, nat_le, List, [], ◌∷◌, ◌++◌, length, take, drop, get_or, codes, refl, sym, ap, ◌∙◌, subst, inl, inr, Option, Some, None, arith, append_assoc}
use Rattle.std.specs.List.{prefix_len}
use Rattle.std.specs.Char.{is_ascii_digit}
use Rattle.std.specs.Fmt.{decimal}
use Rattle.std.specs.Str.Parse.{AllDigits, digits_value}
use Rattle.std.proofs.lemmas.Bool.{and_parts, cases_lt}
use Rattle.std.proofs.lemmas.List.{take-append-drop, take_at, drop_at}
use Rattle.std.proofs.lemmas.Fmt.{digits_decimal, digits_value-decimal, decimal_nonempty, length-decimal-le, first_decimal, decimal_digit}
use Rattle.std.proofs.lemmas.Str.Parse.{numerals_by_value, tells_digits, digit_from_value}
use Rattle.pcl_base.specs.declared.tx.TxId.{TxId}
use Rattle.text_rules.specs.ScheduleLine.{tx_text, spaced, HasTx}
use Rattle.text_rules.specs.ReadLine.{◌>>=◌, where_true, after_word, at_end, is_numeral, number_at, spaced_at, pointed_at, tx_at}
use Rattle.line_laws.proofs.Digits.{digits_at_front}
use Rattle.line_laws.proofs.Printed.{numeral_back}
use Rattle.line_laws.proofs.Words.{word_after, after_word_is}
use Rattle.line_laws.proofs.PieceByPiece.{digits_in, is_number, number_read}

-- what a value that was read came from
pub bind_some : {A B : Type 0} (o : Option A) (f : A → Option B) (y : B) → (o >>= f) ≡ Some y → (x : A) × (o ≡ Some x) × (f x ≡ Some y)
bind_some None f y h = absurd (cc)
bind_some (Some x) f y h = (x, refl, h)

pub some_same : {A : Type 0} (x y : A) → Some x ≡ Some y → x ≡ y
some_same x y h = cc

pub where_some : {A : Type 0} (t : Bool) (x y : A) → where_true t x ≡ Some y → (t ≡ true) × (x ≡ y)
where_some true x y h = (refl, some_same x y h)
where_some false x y h = absurd (cc)

pub at_end_some : {A : Type 0} (x y : A) (bs : List ℕ) → at_end x bs ≡ Some y → (x ≡ y) × (bs ≡ [])
at_end_some x y [] h = (some_same x y h, refl)
at_end_some x y (b ∷ bs) h = absurd (cc)

-- a number that was read
pub record NumberRead (low high : ℕ) (bs : List ℕ) (p : ℕ × List ℕ) : Type 0 where
  pub text : bs ≡ decimal p.0 ++ p.1
  pub least : low ≤ p.0
  pub most : p.0 ≤ high

pub number_back : (low high : ℕ) (bs : List ℕ) (p : ℕ × List ℕ) → number_at low high bs ≡ Some p → NumberRead low high bs p
number_back low high bs p h =
    let d : ℕ = digits_in bs in
    let ds : List ℕ = take d bs in
    let v : ℕ = digits_value 10 ds in
    let found = bind_some (where_true (is_number low high bs) v) (λ v. Some (v, drop d bs)) p (sym (number_read low high bs) ∙ h) in
    let tested = where_some (is_number low high bs) v found.0 found.1 in
    let parts = and_parts (is_numeral ds && nat_le low v) (nat_le v high) tested.0 in
    let inner = and_parts (is_numeral ds) (nat_le low v) parts.0 in
    let whole : decimal v ≡ ds = numeral_back ds (digits_at_front bs) inner.0 in
    let pair : (v, drop d bs) ≡ p = (λ i. (tested.1 i, drop d bs)) ∙ some_same (found.0, drop d bs) p found.2 in
    let text : bs ≡ decimal v ++ drop d bs = sym (take-append-drop d bs) ∙ ap (λ l. l ++ drop d bs) (sym whole) in
    let least : low ≤ v = grind (arith, inner.1) in
    let most : v ≤ high = grind (arith, parts.1) in
    subst (NumberRead low high bs) pair (record { text = text; least = least; most = most })

-- what ends a number
abbrev pub Ends : List ℕ → Type 0
Ends bs = get_or bs 0 0 < 48

ends_digits : (bs : List ℕ) → Ends bs → prefix_len is_ascii_digit bs ≡ 0
ends_digits [] ends = refl
ends_digits (b ∷ bs) ends =
    let e : is_ascii_digit b ≡ false = grind (arith, ends) in
    ap (λ t. cond t (1 + prefix_len is_ascii_digit bs) 0) e

digits_then : (ds rest : List ℕ) → AllDigits 10 ds → Ends rest → prefix_len is_ascii_digit (ds ++ rest) ≡ length ds
digits_then [] rest all ends = ends_digits rest ends
digits_then (c ∷ cs) rest all ends =
    let range = digit_from_value c all.0 in
    let e : is_ascii_digit c ≡ true = grind (arith, range.0, range.1) in
    let more = digits_then cs rest all.1 ends in
    ap (λ t. cond t (1 + prefix_len is_ascii_digit (cs ++ rest)) 0) e ∙ omega (arith, more)

-- a number that was printed
decimal_numeral : (v : ℕ) → v < 10000000000 → is_numeral (decimal v) ≡ true
decimal_numeral v small =
    let some = decimal_nonempty v (omega (arith, small)) in
    let few = length-decimal-le 10 v (omega arith) small (omega (arith, small)) in
    elim (cases_lt 0 v) [
      | inl above ↦ let first = first_decimal v above (omega (arith, small)) in grind (arith, some, few, first)
      | inr none ↦ let e : v ≡ 0 = omega (arith, none) in ap (λ n. is_numeral (decimal n)) e ∙ ap is_numeral (decimal_digit 0 (omega arith))
    ]

pub number_forth : (low high v : ℕ) (rest : List ℕ) → low ≤ v → v ≤ high → high < 10000000000 → Ends rest
    → number_at low high (decimal v ++ rest) ≡ Some (v, rest)
number_forth low high v rest least most small ends =
    let ds : List ℕ = decimal v in
    let below : v < 10000000000 = omega (arith, most, small) in
    let all = digits_decimal (numerals_by_value (AllDigits 10) tells_digits) v (omega (arith, below)) in
    let value : digits_value 10 ds ≡ v = digits_value-decimal (numerals_by_value (AllDigits 10) tells_digits) v (omega (arith, below)) in
    let len : digits_in (ds ++ rest) ≡ length ds = digits_then ds rest all ends in
    let front : take (digits_in (ds ++ rest)) (ds ++ rest) ≡ ds = take_at ds rest (digits_in (ds ++ rest)) (sym len) in
    let back : drop (digits_in (ds ++ rest)) (ds ++ rest) ≡ rest = drop_at ds rest (digits_in (ds ++ rest)) (sym len) in
    let least_test : nat_le low v ≡ true = grind (arith, least) in
    let most_test : nat_le v high ≡ true = grind (arith, most) in
    let test : (is_numeral ds && nat_le low v && nat_le v high) ≡ true =
    ap (λ t. t && nat_le low v && nat_le v high) (decimal_numeral v below)
    ∙ (ap (λ t. t && nat_le v high) least_test ∙ most_test) in
    number_read low high (ds ++ rest)
    ∙ (ap (λ l. where_true (is_numeral l && nat_le low (digits_value 10 l) && nat_le (digits_value 10 l) high) (digits_value 10 l) >>= (λ n. Some (n, drop (digits_in (ds ++ rest)) (ds ++ rest)))) front
    ∙ (ap (λ l. where_true (is_numeral ds && nat_le low (digits_value 10 ds) && nat_le (digits_value 10 ds) high) (digits_value 10 ds) >>= (λ n. Some (n, l))) back
    ∙ (ap (λ n. where_true (is_numeral ds && nat_le low n && nat_le n high) n >>= (λ n. Some (n, rest))) value
    ∙ ap (λ t. where_true t v >>= (λ n. Some (n, rest))) test)))

-- a number behind a space or a point
pub spaced_back : (low high : ℕ) (bs : List ℕ) (p : ℕ × List ℕ) → spaced_at low high bs ≡ Some p
    → (bs ≡ spaced p.0 ++ p.1) × (low ≤ p.0) × (p.0 ≤ high)
unfolding spaced_at
spaced_back low high bs p h =
    let found = bind_some (after_word (codes " ") bs) (number_at low high) p h in
    let number = number_back low high found.0 p found.2 in
    (word_after (codes " ") bs found.0 found.1 ∙ ap (λ l. 32 ∷ l) number.text, number.least, number.most)

pointed_back : (bs : List ℕ) (p : ℕ × List ℕ) → pointed_at bs ≡ Some p → (bs ≡ 46 ∷ (decimal p.0 ++ p.1)) × (1 ≤ p.0) × (p.0 ≤ 4294967295)
unfolding pointed_at
pointed_back bs p h =
    let found = bind_some (after_word (codes ".") bs) (number_at 1 4294967295) p h in
    let number = number_back 1 4294967295 found.0 p found.2 in
    (word_after (codes ".") bs found.0 found.1 ∙ ap (λ l. 46 ∷ l) number.text, number.least, number.most)

pub spaced_forth : (low high v : ℕ) (rest : List ℕ) → low ≤ v → v ≤ high → high < 10000000000 → Ends rest → spaced_at low high (spaced v ++ rest) ≡ Some (v, rest)
unfolding spaced_at
spaced_forth low high v rest least most small ends =
    ap (λ o. o >>= number_at low high) (after_word_is (codes " ") (decimal v ++ rest)) ∙ number_forth low high v rest least most small ends

pointed_forth : (v : ℕ) (rest : List ℕ) → 1 ≤ v → v ≤ 4294967295 → Ends rest → pointed_at (46 ∷ (decimal v ++ rest)) ≡ Some (v, rest)
unfolding pointed_at
pointed_forth v rest least most ends =
    ap (λ o. o >>= number_at 1 4294967295) (after_word_is (codes ".") (decimal v ++ rest)) ∙ number_forth 1 4294967295 v rest least most (omega arith) ends

-- a transaction
tx_parts : (t : TxId) (r : List ℕ) → tx_text t ++ r ≡ decimal t.node ++ (46 ∷ (decimal t.born ++ (46 ∷ (decimal t.serial ++ r))))
tx_parts t r = simp append_assoc

pub tx_back : (bs : List ℕ) (p : TxId × List ℕ) → tx_at bs ≡ Some p → (bs ≡ tx_text p.0 ++ p.1) × HasTx p.0
unfolding tx_at
tx_back bs p h =
    let node = bind_some (number_at 0 15 bs) (λ node. pointed_at node.1 >>= (λ born. pointed_at born.1 >>= (λ serial. Some (record { node = node.0; born = born.0; serial = serial.0 }, serial.1)))) p h in
    let born = bind_some (pointed_at (node.0).1) (λ born. pointed_at born.1 >>= (λ serial. Some (record { node = (node.0).0; born = born.0; serial = serial.0 }, serial.1))) p node.2 in
    let serial = bind_some (pointed_at (born.0).1) (λ serial. Some (record { node = (node.0).0; born = (born.0).0; serial = serial.0 }, serial.1)) p born.2 in
    let t : TxId = record { node = (node.0).0; born = (born.0).0; serial = (serial.0).0 } in
    let same : (t, (serial.0).1) ≡ p = some_same (t, (serial.0).1) p serial.2 in
    let a = number_back 0 15 bs node.0 node.1 in
    let b = pointed_back (node.0).1 born.0 born.1 in
    let d = pointed_back (born.0).1 serial.0 serial.1 in
    let text : bs ≡ tx_text t ++ (serial.0).1 =
    a.text ∙ (ap (λ l. decimal (node.0).0 ++ l) b.0 ∙ (ap (λ l. decimal (node.0).0 ++ (46 ∷ (decimal (born.0).0 ++ l))) d.0 ∙ sym (tx_parts t (serial.0).1))) in
    let has : HasTx t = record { node = a.most; first_born = b.1; last_born = b.2; first_serial = d.1; last_serial = d.2 } in
    subst (λ (q : TxId × List ℕ). (bs ≡ tx_text q.0 ++ q.1) × HasTx q.0) same (text, has)

pub tx_forth : (t : TxId) (rest : List ℕ) → HasTx t → Ends rest → tx_at (tx_text t ++ rest) ≡ Some (t, rest)
unfolding tx_at
tx_forth t rest has ends =
    ap (λ l. number_at 0 15 l >>= (λ node. pointed_at node.1 >>= (λ born. pointed_at born.1 >>= (λ serial. Some (record { node = node.0; born = born.0; serial = serial.0 }, serial.1))))) (tx_parts t rest)
    ∙ (ap (λ o. o >>= (λ node. pointed_at node.1 >>= (λ born. pointed_at born.1 >>= (λ serial. Some (record { node = node.0; born = born.0; serial = serial.0 }, serial.1)))))
    (number_forth 0 15 t.node (46 ∷ (decimal t.born ++ (46 ∷ (decimal t.serial ++ rest)))) (omega arith) has.node (omega arith) (omega arith))
    ∙ (ap (λ o. o >>= (λ born. pointed_at born.1 >>= (λ serial. Some (record { node = t.node; born = born.0; serial = serial.0 }, serial.1))))
    (pointed_forth t.born (46 ∷ (decimal t.serial ++ rest)) has.first_born has.last_born (omega arith))
    ∙ ap (λ o. o >>= (λ serial. Some (record { node = t.node; born = t.born; serial = serial.0 }, serial.1)))
    (pointed_forth t.serial rest has.first_serial has.last_serial ends)))
