-- A shelf by its fields.
use Rattle.std.specs.Prelude.{◌≡◌, ℕ, ◌+◌, ◌≤◌, Bool, true, false, List, map, length, Vec, vec_capacity}
use Rattle.std.specs.Global.{Global}
use Rattle.std.specs.List.{All}
use Rattle.std.specs.Map.{values_of}
use Rattle.pcl_base.specs.declared.tx.TxId.{TxId}
use Rattle.node_rules.specs.Shelf.{Right}
use Rattle.read_right.specs.declared.right.ReadRight.{ReadRight}
use Rattle.read_right.specs.ShelfView.{Mark}

-- the right and the mark of an entry
abbrev pub right_of : ℕ × ReadRight → Right
right_of e = record { page = e.0; version = e.1.version; readers = e.1.readers.items }

abbrev pub mark_of : ℕ × ReadRight → Mark
mark_of e = record { page = e.0; ready = e.1.ready }

abbrev pub rights_of : List (ℕ × ReadRight) → List Right
rights_of es = map right_of es

abbrev pub marks_of : List (ℕ × ReadRight) → List Mark
marks_of es = map mark_of es

abbrev pub one_if : Bool → ℕ
one_if true = 1
one_if false = 0

-- a right has at most `longest` readers, and a ready one has room for one more of these
pub record HasRoom (longest : ℕ) (r : ReadRight) : Type 0 where
  pub short : length r.readers.items + one_if r.ready ≤ longest
  pub room : length r.readers.items + one_if r.ready ≤ vec_capacity r.readers

-- what holds of every shelf: each right has its room; each list in stock is empty and has room for as
-- many readers as a right may have once the rest of the stock is used up
pub record IsSound (es : List (ℕ × ReadRight)) (stock : List (Vec TxId Global)) (longest room spare : ℕ) : Type 0 where
  pub rights : All (HasRoom longest) (values_of es)
  pub empty : All (λ v. length v.items ≡ 0) stock
  pub wide : All (λ v. room ≤ vec_capacity v) stock
  pub enough : longest + length stock ≤ room
  pub places : length stock ≤ spare
