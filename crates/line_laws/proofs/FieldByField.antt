-- A line is one of a form, by how far it follows it, exactly where reading it field by field comes to its end.
use Rattle.std.proofs.Common.{◌≡◌, ℕ, ◌+◌, ◌<◌, ◌≤◌, ◌==◌, ◌&&◌, Bool, true, false, List, [], ◌∷◌, length, drop, length-drop, refl, sym, ap, ◌∙◌, is_some, Option, Some, None, arith}
use Rattle.text_rules.specs.FieldBytes.{pick}
use Rattle.text_rules.specs.LineForms.{Piece, Word, Number, Bytes, Flags, Owners, Reach, and_then, and_then_if, shared}
use Rattle.text_rules.specs.BadLine.{is_all}
use Rattle.text_rules.specs.ReadLine.{after_word, where_true, number_at, bytes_of}
use Rattle.text_rules.specs.ReadEvent.{flags_at, owners_of}
use Rattle.std.proofs.lemmas.Bool.{eqb-true}
use Rattle.line_laws.proofs.Words.{begins, shared_word, word_shared, word_begins, after_word_is}

-- what follows a field that is read
abbrev pub if_read : {X : Type 0} → Option (X × List ℕ) → (List ℕ → Bool) → Bool
if_read (Some x) next = next x.1
if_read None next = false

abbrev pub if_rest : Option (List ℕ) → (List ℕ → Bool) → Bool
if_rest (Some rest) next = next rest
if_rest None next = false

abbrev pub is_read : {X : Type 0} → Option X → Bool
is_read o = is_some o

-- whether reading field by field comes to the end of the bytes
abbrev pub reads : List Piece → List ℕ → Bool
reads [] bs = is_all (length bs) (record { count = 0; is_whole = true })
reads (Word w ∷ ps) bs = if_rest (after_word w bs) (reads ps)
reads (Number low high ∷ ps) bs = if_read (number_at low high bs) (reads ps)
reads (Bytes ∷ ps) bs = is_read (bytes_of bs)
reads (Flags ∷ ps) bs = if_read (flags_at bs) (reads ps)
reads (Owners ∷ ps) bs = is_read (owners_of bs)

-- the pieces end numbers and flags before them: no line of theirs begins with a digit
abbrev pub EndsDigits : List Piece → Type 0
EndsDigits [] = Unit {0}
EndsDigits (Word [] ∷ ps) = ⊥
EndsDigits (Word (b ∷ w) ∷ ps) = b < 48
EndsDigits (_ ∷ ps) = ⊥

abbrev pub IsLast : List Piece → Type 0
IsLast [] = Unit {0}
IsLast (p ∷ ps) = ⊥

-- a form: numbers and flags are followed by what ends them, and bytes and owners by nothing
abbrev pub IsForm : List Piece → Type 0
IsForm [] = Unit {0}
IsForm (Word w ∷ ps) = IsForm ps
IsForm (Number low high ∷ ps) = (low ≤ 1) × (low ≤ high) × (high < 10000000000) × EndsDigits ps × IsForm ps
IsForm (Bytes ∷ ps) = IsLast ps
IsForm (Flags ∷ ps) = EndsDigits ps × IsForm ps
IsForm (Owners ∷ ps) = IsLast ps

-- no line of the pieces begins with a digit
pub no_digit : (ps : List Piece) (b : ℕ) (bs : List ℕ) → EndsDigits ps → 48 ≤ b → reads ps (b ∷ bs) ≡ false
no_digit [] b bs ends digit = grind arith
no_digit (Word [] ∷ ps) b bs ends digit = absurd ends
no_digit (Word (w ∷ word) ∷ ps) b bs ends digit =
    let e : (b == w) ≡ false = grind (arith, digit, ends) in
    rw e refl
no_digit (Number low high ∷ ps) b bs ends digit = absurd ends
no_digit (Bytes ∷ ps) b bs ends digit = absurd ends
no_digit (Flags ∷ ps) b bs ends digit = absurd ends
no_digit (Owners ∷ ps) b bs ends digit = absurd ends

-- a reach and what follows it
step_by : (r : Reach) (bs : List ℕ) (further : ℕ → Reach) (t : Bool) → r.is_whole ≡ t → r.count ≤ length bs
    → is_all (length bs) (and_then_if t r further) ≡ pick t (is_all (length (drop r.count bs)) (further r.count)) false
step_by r bs further true whole most =
    let rest = length-drop r.count bs in
    let e : (r.count + (further r.count).count == length bs) ≡ ((further r.count).count == length (drop r.count bs)) = grind (arith, rest, most) in
    ap (λ t. t && (further r.count).is_whole) e
step_by r bs further false whole most = grind (arith, whole)

pub step_is : (r : Reach) (bs : List ℕ) (further : ℕ → Reach) → r.count ≤ length bs
    → is_all (length bs) (and_then r further) ≡ pick r.is_whole (is_all (length (drop r.count bs)) (further r.count)) false
step_is r bs further most = step_by r bs further r.is_whole refl most

-- a word
after_word_by : (w bs : List ℕ) (t : Bool) → (shared w bs == length w) ≡ t → after_word w bs ≡ where_true t (drop (shared w bs) bs)
after_word_by w bs true h =
    let e = eqb-true (shared w bs) (length w) h in
    ap (after_word w) (word_shared w bs e) ∙ (after_word_is w (drop (length w) bs) ∙ ap (λ n. Some (drop n bs)) (sym e))
after_word_by w bs false h = by (begins w bs) refl
  where
    by : (t : Bool) → begins w bs ≡ t → where_true t (drop (length w) bs) ≡ None
    by true b =
        let e = word_begins w bs b in
        let same : shared w bs ≡ length w = ap (shared w) e ∙ shared_word w (drop (length w) bs) in
        absurd (let bad : true ≡ false = sym (grind (arith, same)) ∙ h in cc)
    by false b = refl

pub word_reach : (w bs : List ℕ) (next : List ℕ → Bool)
    → if_rest (after_word w bs) next ≡ pick (shared w bs == length w) (next (drop (shared w bs) bs)) false
word_reach w bs next = by (shared w bs == length w) refl
  where
    by : (t : Bool) → (shared w bs == length w) ≡ t → if_rest (after_word w bs) next ≡ pick t (next (drop (shared w bs) bs)) false
    by true h = ap (λ o. if_rest o next) (after_word_by w bs true h)
    by false h = ap (λ o. if_rest o next) (after_word_by w bs false h)

-- a reach that nothing follows
pub last_is : (r : Reach) (bs : List ℕ) → is_all (length bs) (and_then r (λ n. record { count = 0; is_whole = true })) ≡ is_all (length bs) r
last_is r bs = by r.is_whole refl
  where
    by : (t : Bool) → r.is_whole ≡ t → is_all (length bs) (and_then_if t r (λ n. record { count = 0; is_whole = true })) ≡ ((r.count == length bs) && r.is_whole)
    by true h = grind (arith, h)
    by false h = refl
