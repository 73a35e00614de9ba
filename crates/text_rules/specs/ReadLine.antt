-- Reading a line of a schedule field by field from the left.
use Rattle.std.specs.Prelude.{ℕ, ◌==◌, ◌&&◌, ◌||◌, Bool, true, false, not, nat_le, List, [], ◌∷◌, length, take, drop, slice_index, codes, Option, Some, None, Result, Ok, Err}
use Rattle.std.specs.List.{prefix_len, list_all}
use Rattle.std.specs.Cmp.Lexicographic.{pointwise}
use Rattle.std.specs.Char.{is_ascii_digit}
use Rattle.std.specs.Str.Parse.{digits_value}
use Rattle.hex.specs.Hex.{decode_of}
use Rattle.pcl_base.specs.declared.tx.TxId.{TxId}
use Rattle.pcl_base.specs.declared.event.Header.{Header}
use Rattle.pcl_base.specs.declared.event.Event.{Event}
use Rattle.pcl_base.specs.declared.event.Event.TheVariants.{Begin, Read, Write, Commit}

-- what follows, where there is a value
infixl 10 ◌>>=◌
abbrev pub ◌>>=◌ : {A B : Type 0} → Option A → (A → Option B) → Option B
(Some x) >>= f = f x
None >>= f = None

-- x where the test holds
abbrev pub where_true : {X : Type 0} → Bool → X → Option X
where_true true x = Some x
where_true false x = None

-- the value of a result
abbrev pub value_of : {X E : Type 0} → Result X E → Option X
value_of (Ok x) = Some x
value_of (Err e) = None

-- one to ten digits, the first of them a 0 only where it is the only one
abbrev pub is_numeral : List ℕ → Bool
is_numeral ds = nat_le 1 (length ds) && nat_le (length ds) 10 && (length ds == 1 || not (slice_index ds 0 == 48))

-- the number of these digits, within two limits
abbrev pub number_of : ℕ → ℕ → List ℕ → Option ℕ
number_of low high ds =
    where_true (is_numeral ds && nat_le low (digits_value 10 ds) && nat_le (digits_value 10 ds) high) (digits_value 10 ds)

-- the number at the front, with the bytes after it
abbrev pub number_before : ℕ → ℕ → ℕ → List ℕ → Option (ℕ × List ℕ)
number_before n low high bs = do
  value ← number_of low high (take n bs)
  Some (value, drop n bs)

unfoldable pub number_at : ℕ → ℕ → List ℕ → Option (ℕ × List ℕ)
number_at low high bs = number_before (prefix_len is_ascii_digit bs) low high bs

-- the bytes after a word
abbrev pub after_word : List ℕ → List ℕ → Option (List ℕ)
after_word w bs = where_true (pointwise ◌==◌ (take (length w) bs) w) (drop (length w) bs)

-- a value with nothing after it
abbrev pub at_end : {X : Type 0} → X → List ℕ → Option X
at_end x [] = Some x
at_end x (b ∷ bs) = None

-- a number after a space
unfoldable pub spaced_at : ℕ → ℕ → List ℕ → Option (ℕ × List ℕ)
spaced_at low high bs = do
  rest ← after_word (codes " ") bs
  number_at low high rest

-- a number after a point
unfoldable pub pointed_at : List ℕ → Option (ℕ × List ℕ)
pointed_at bs = do
  rest ← after_word (codes ".") bs
  number_at 1 4294967295 rest

unfoldable pub tx_at : List ℕ → Option (TxId × List ℕ)
tx_at bs = do
  node ← number_at 0 15 bs
  born ← pointed_at node.1
  serial ← pointed_at born.1
  Some (record { node = node.0; born = born.0; serial = serial.0 }, serial.1)

-- a digit of bytes in lower case
abbrev pub is_hex_digit : ℕ → Bool
is_hex_digit c = nat_le 48 c && nat_le c 57 || nat_le 97 c && nat_le c 102

-- 2 to 8,192 digits
abbrev pub are_digits : List ℕ → Bool
are_digits text = nat_le 2 (length text) && nat_le (length text) 8192 && list_all is_hex_digit text

-- 1 to 4,096 bytes as pairs of digits
abbrev pub pairs_of : List ℕ → Option (List ℕ)
pairs_of text = do
  digits ← where_true (are_digits text) text
  value_of (decode_of digits)

-- bytes as pairs of digits, or `-` for none
abbrev pub bytes_or_none : Bool → List ℕ → Option (List ℕ)
bytes_or_none true text = Some []
bytes_or_none false text = pairs_of text

unfoldable pub bytes_of : List ℕ → Option (List ℕ)
bytes_of text = bytes_or_none (length text == 1 && slice_index text 0 == 45) text

-- the event of a line after its word
unfoldable pub begin_of : List ℕ → Option Event
begin_of bs = do
  node ← number_at 0 15 bs
  at_end (Begin node.0) node.1

unfoldable pub read_of : List ℕ → Option Event
read_of bs = do
  tx ← tx_at bs
  page ← spaced_at 0 65535 tx.1
  at_end (Read tx.0 page.0) page.1

unfoldable pub write_of : List ℕ → Option Event
write_of bs = do
  tx ← tx_at bs
  page ← spaced_at 0 65535 tx.1
  place ← spaced_at 0 4095 page.1
  text ← after_word (codes " ") place.1
  bytes ← bytes_of text
  Some (Write tx.0 page.0 place.0 bytes)

unfoldable pub commit_of : List ℕ → Option Event
commit_of bs = do
  tx ← tx_at bs
  at_end (Commit tx.0) tx.1

-- the event of what stands after the word, else that of another word
abbrev pub event_after : Option (List ℕ) → (List ℕ → Option Event) → Option Event → Option Event
event_after (Some rest) read other = read rest
event_after None read other = other

-- the numbers of a first line
unfoldable pub header_of : List ℕ → Option Header
header_of bs = do
  rest ← after_word (codes "pcl 1") bs
  nodes ← spaced_at 0 65536 rest
  pages ← spaced_at 0 65536 nodes.1
  size ← spaced_at 0 65536 pages.1
  frames ← spaced_at 0 65536 size.1
  at_end (record { nodes = nodes.0; pages = pages.0; size = size.0; frames = frames.0 }) frames.1
