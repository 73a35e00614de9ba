-- The forms of lines, piece by piece, and how far the bytes of a line follow a form.
use Rattle.std.specs.Prelude.{ℕ, zero, suc, ◌+◌, ◌%◌, ◌==◌, ◌&&◌, ◌||◌, Bool, true, false, min, nat_le, nat_lt, List, [], ◌∷◌, length, take, drop, codes, slice_index}
use Rattle.std.specs.List.{prefix_len}
use Rattle.std.specs.Char.{is_ascii_digit}
use Rattle.std.specs.Str.Parse.{digits_value}
use Rattle.text_rules.specs.FieldBytes.{pick}
use Rattle.text_rules.specs.ReadLine.{is_hex_digit}

-- a piece of a line: these bytes, a number within two limits, the bytes of a write, flags of nodes,
-- or owners
pub data Piece : Type 0 where
  Word : List ℕ → Piece
  Number : ℕ → ℕ → Piece
  Bytes : Piece
  Flags : Piece
  Owners : Piece

-- how many bytes from the front are a front of the piece, and whether the piece may end there
pub record Reach : Type 0 where
  pub count : ℕ
  pub is_whole : Bool

-- how many bytes from the front two lists share
abbrev pub shared_with : Bool → ℕ → ℕ
shared_with true n = n + 1
shared_with false n = 0

abbrev pub shared : List ℕ → List ℕ → ℕ
shared [] bytes = 0
shared (w ∷ word) [] = 0
shared (w ∷ word) (b ∷ bytes) = shared_with (w == b) (shared word bytes)

-- whether these digits are a number up to a limit, with no zero at the front of others
abbrev pub is_numeral : ℕ → List ℕ → Bool
is_numeral high digits = (length digits == 1 || nat_lt 48 (slice_index digits 0)) && nat_le (digits_value 10 digits) high

-- the longest front of n digits that is such a number, 0 where none is
abbrev pub longest : ℕ → ℕ → List ℕ → ℕ
longest high zero digits = 0
longest high (suc n) digits = pick (is_numeral high (take (n + 1) digits)) (n + 1) (longest high n digits)

-- a number from a limit of 0 or 1 up to another one
abbrev pub reach_of_number : ℕ → ℕ → List ℕ → Reach
reach_of_number low high bytes =
    let n = longest high (min 20 (prefix_len is_ascii_digit bytes)) bytes in
    pick (nat_le low (digits_value 10 (take n bytes)))
    (record { count = n; is_whole = nat_le 1 n })
    (record { count = 0; is_whole = false })

-- the bytes of a write: `-` or pairs of digits
abbrev pub reach_of_bytes : List ℕ → Reach
reach_of_bytes bytes =
    let n = min 8192 (prefix_len is_hex_digit bytes) in
    pick (shared (codes "-") bytes == 1)
    (record { count = 1; is_whole = true })
    (record { count = n; is_whole = nat_le 1 n && (n % 2 == 0) })

-- 1 to 16 flags
abbrev pub reach_of_flags : List ℕ → Reach
reach_of_flags bytes =
    let n = min 16 (prefix_len (λ b. (b == 48) || (b == 49)) bytes) in record { count = n; is_whole = nat_le 1 n }

-- a reach behind n bytes
abbrev pub behind : ℕ → Reach → Reach
behind n r = record r { count = n + r.count }

-- one reach and then another, where the first is whole
abbrev pub and_then_if : Bool → Reach → (ℕ → Reach) → Reach
and_then_if true r further = behind r.count (further r.count)
and_then_if false r further = r

abbrev pub and_then : Reach → (ℕ → Reach) → Reach
and_then r further = and_then_if r.is_whole r further

-- another owner after a comma, or none
abbrev pub or_none : Reach → Reach
or_none r = pick (r.count == 0) (record { count = 0; is_whole = true }) r

-- up to n more owners, each after a comma
abbrev pub reach_of_more : ℕ → List ℕ → Reach
reach_of_more zero bytes = record { count = 0; is_whole = true }
reach_of_more (suc n) bytes =
    or_none
    (and_then (record { count = shared (codes ",") bytes; is_whole = shared (codes ",") bytes == 1 })
    (λ k. and_then (reach_of_number 0 15 (drop k bytes)) (λ m. reach_of_more n (drop (k + m) bytes))))

-- 1 to 16 owners
abbrev pub reach_of_owners : List ℕ → Reach
reach_of_owners bytes = and_then (reach_of_number 0 15 bytes) (λ n. reach_of_more 15 (drop n bytes))

-- how far the bytes follow a piece
abbrev pub reach_of_piece : Piece → List ℕ → Reach
reach_of_piece (Word word) bytes = let n = shared word bytes in record { count = n; is_whole = n == length word }
reach_of_piece (Number low high) bytes = reach_of_number low high bytes
reach_of_piece Bytes bytes = reach_of_bytes bytes
reach_of_piece Flags bytes = reach_of_flags bytes
reach_of_piece Owners bytes = reach_of_owners bytes

-- how far the bytes follow the pieces of a form
abbrev pub reach_of : List Piece → List ℕ → Reach
reach_of [] bytes = record { count = 0; is_whole = true }
reach_of (p ∷ ps) bytes = and_then (reach_of_piece p bytes) (λ n. reach_of ps (drop n bytes))
