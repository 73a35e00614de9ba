-- Log records of both formats, and logs: whole records followed by a torn rest.
use Rattle.std.specs.Prelude.{◌≡◌, ℕ, zero, suc, ◌+◌, ◌-◌, ◌<◌, ◌≤◌, ◌&&◌, ◌||◌, Bool, true, false, nat_le, nat_lt, List, [], ◌∷◌, ◌++◌, length, map, Result, Ok, Err, ⊤}
use Rattle.std.specs.Int.{w8, w16, w32, w64, to_be_bytes}
use Rattle.std.specs.List.{concat}
use Rattle.pcl_base.specs.Limits.{Sizes}
use Rattle.pcl_base.specs.declared.log.Record.{Record}
use Rattle.pcl_base.specs.declared.log.Logged.{Logged}
use Rattle.pcl_base.specs.declared.log.Part.{Part}
use Rattle.pcl_base.specs.declared.log.Part.TheVariants.{Image, Ranges}
use Rattle.pcl_base.specs.declared.log.ChangedRange.{ChangedRange}
use Rattle.text_rules.specs.FieldBytes.{Reader, Stop, BadField, pick, give, ◌>>=◌, allowed, piece, number, number_from, at_least, within}

-- the format of a part: whole pages are format 1, changed ranges are format 2
abbrev pub is_whole : Part → Bool
is_whole (Image bytes) = true
is_whole (Ranges ranges) = false

-- the byte after the length: the node, and 128 more in format 2
abbrev pub mark_of : List Logged → ℕ → ℕ
mark_of [] node = node
mark_of (x ∷ xs) node = pick (is_whole x.part) node (128 + node)

-- a changed range: its place, its length and its bytes
abbrev pub range_bytes : ChangedRange → List ℕ
range_bytes r = to_be_bytes w16 r.place ++ to_be_bytes w16 (length r.bytes) ++ r.bytes

-- the whole page, or the number of ranges and the ranges
abbrev pub part_bytes : Part → List ℕ
part_bytes (Image bytes) = bytes
part_bytes (Ranges ranges) = to_be_bytes w16 (length ranges) ++ concat (map range_bytes ranges)

-- a changed page: its number, the version that the commit made, and its part
abbrev pub logged_bytes : Logged → List ℕ
logged_bytes x = to_be_bytes w32 x.page ++ to_be_bytes w64 x.version ++ part_bytes x.part

-- a record behind its length: the transaction, the number of pages and the pages
abbrev pub body_bytes : Record → List ℕ
body_bytes r =
    mark_of r.changes r.tx.node
    ∷ (to_be_bytes w32 r.tx.born ++ to_be_bytes w32 r.tx.serial ++ to_be_bytes w32 (length r.changes) ++ concat (map logged_bytes r.changes))

-- the bytes of a record: the length of all of them and the body
abbrev pub record_bytes : Record → List ℕ
record_bytes r = to_be_bytes w32 (4 + length (body_bytes r)) ++ body_bytes r

-- ranges begin at `low` or later, rise apart from one another, and end within a page of `size` bytes
abbrev pub AreRanges : ℕ → ℕ → List ChangedRange → Type 0
AreRanges size low [] = ⊤
AreRanges size low (r ∷ rs) =
    (low ≤ r.place) × (1 ≤ length r.bytes) × (r.place + length r.bytes ≤ size) × AreRanges size (r.place + length r.bytes + 1) rs

-- the part of a page of `size` bytes in a record of format 1 (true) or 2
abbrev pub IsPart : ℕ → Bool → Part → Type 0
IsPart size whole (Image bytes) = (whole ≡ true) × (length bytes ≡ size)
IsPart size whole (Ranges ranges) = (whole ≡ false) × (1 ≤ length ranges) × AreRanges size 0 ranges

-- changed pages rise by number from `low` on, and all parts are of one format
abbrev pub AreChanges : Sizes → Bool → ℕ → List Logged → Type 0
AreChanges c whole low [] = ⊤
AreChanges c whole low (x ∷ xs) =
    (low ≤ x.page) × (x.page < c.pages) × (1 ≤ x.version) × IsPart c.size whole x.part × AreChanges c whole (x.page + 1) xs

-- a record has at least one change
abbrev pub AreSomeChanges : Sizes → List Logged → Type 0
AreSomeChanges c [] = ⊥
AreSomeChanges c (x ∷ xs) = AreChanges c (is_whole x.part) 0 (x ∷ xs)

-- the records that have bytes
pub record IsRecord (c : Sizes) (r : Record) : Type 0 where
  pub node : r.tx.node < c.nodes
  pub born : 1 ≤ r.tx.born
  pub serial : 1 ≤ r.tx.serial
  pub changes : AreSomeChanges c r.changes

-- the relation between a record and its bytes
pub record HasBytes (c : Sizes) (r : Record) (bytes : List ℕ) : Type 0 where
  pub is_record : IsRecord c r
  pub same : bytes ≡ record_bytes r

-- n ranges of a page of `size` bytes, the first at `low` or later
abbrev pub ranges_field : ℕ → ℕ → ℕ → Reader (List ChangedRange)
ranges_field size low zero = give []
ranges_field size low (suc n) = do
  place ← number_from low size w16
  count ← number_from 1 (size - place) w16
  bytes ← piece count
  rest ← ranges_field size (place + count + 1) n
  give (record { place = place; bytes = bytes } ∷ rest)

-- the part of a page of `size` bytes in a record of format 1 (true) or 2
abbrev pub part_field : ℕ → Bool → Reader Part
part_field size true = do
  bytes ← piece size
  give (Image bytes)
part_field size false = do
  count ← at_least 1 w16
  ranges ← ranges_field size 0 count
  give (Ranges ranges)

-- n changed pages, the first of them numbered `low` or higher
abbrev pub changes_field : Sizes → Bool → ℕ → ℕ → Reader (List Logged)
changes_field c whole low zero = give []
changes_field c whole low (suc n) = do
  page ← number_from low (c.pages - 1) w32
  version ← at_least 1 w64
  part ← part_field c.size whole
  rest ← changes_field c whole (page + 1) n
  give (record { page = page; version = version; part = part } ∷ rest)

-- the mark of a record: below N in format 1, from 128 to 127 + N in format 2
abbrev pub is_mark : ℕ → ℕ → Bool
is_mark nodes mark = nat_lt mark nodes || (nat_le 128 mark && nat_lt mark (128 + nodes))

-- the node that a mark names
abbrev pub node_of_mark : ℕ → ℕ
node_of_mark mark = pick (nat_lt mark 128) mark (mark - 128)

-- a record without its length
abbrev pub body_field : Sizes → Reader Record
body_field c = do
  mark ← allowed BadField (is_mark c.nodes) (number w8)
  born ← at_least 1 w32
  serial ← at_least 1 w32
  count ← at_least 1 w32
  changes ← changes_field c (nat_lt mark 128) 0 count
  give (record { tx = record { node = node_of_mark mark; born = born; serial = serial }; changes = changes })

-- a record: its length, and so many bytes less four that are its body, all of them
abbrev pub record_field : Sizes → Reader Record
record_field c = do
  count ← number w32
  bytes ← piece (count - 4)
  within (body_field c) bytes

-- the whole records of a log and its torn rest
pub record Log : Type 0 where
  pub records : List Record
  pub rest : List ℕ

-- a record before the rest of a log
abbrev pub before : Record → Log → Log
before r log = record log { records = r ∷ log.records }

-- what a record at the front of `bytes` leaves is a log again; without one all is torn rest
abbrev pub log_at : List ℕ → (List ℕ → Log) → Result (Record × List ℕ) Stop → Log
log_at bytes further (Ok p) = before p.0 (further p.1)
log_at bytes further (Err s) = record { records = []; rest = bytes }

-- a log of at most n records
abbrev pub log_up_to : Sizes → ℕ → List ℕ → Log
log_up_to c zero bytes = record { records = []; rest = bytes }
log_up_to c (suc n) bytes = log_at bytes (log_up_to c n) (record_field c bytes)

-- the log that these bytes are
abbrev pub log_of : Sizes → List ℕ → Log
log_of c bytes = log_up_to c (length bytes) bytes

-- the whole records of a log, in order
abbrev pub records_of : Sizes → List ℕ → List Record
records_of c bytes = (log_of c bytes).records

-- the length of the whole records of a log
abbrev pub whole_len : Sizes → List ℕ → ℕ
whole_len c bytes = length bytes - length (log_of c bytes).rest
