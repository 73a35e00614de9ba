-- Changed ranges of a page: which they are, and what they make of the page.
use Rattle.std.specs.Prelude.{ℕ, ◌+◌, ◌==◌, Bool, true, false, List, [], ◌∷◌, ◌++◌, length, take, drop}
use Rattle.pcl_base.specs.declared.log.ChangedRange.{ChangedRange}
use Rattle.text_rules.specs.FieldBytes.{pick}

-- the byte at a place before ranges that begin behind it: it is the start of the first of them
-- where that is its neighbour, else a range of its own
abbrev pub with_byte : ℕ → ℕ → List ChangedRange → List ChangedRange
with_byte place byte [] = record { place = place; bytes = byte ∷ [] } ∷ []
with_byte place byte (r ∷ rs) =
    pick (r.place == place + 1)
    (record { place = place; bytes = byte ∷ r.bytes } ∷ rs)
    (record { place = place; bytes = byte ∷ [] } ∷ r ∷ rs)

-- the ranges with the byte where it was written, without it where it wasn't
abbrev pub with_written : Bool → ℕ → ℕ → List ChangedRange → List ChangedRange
with_written true place byte rs = with_byte place byte rs
with_written false place byte rs = rs

-- the maximal runs of written places from a place on, with the bytes that stand there
abbrev pub ranges_from : (ℕ → Bool) → ℕ → List ℕ → List ChangedRange
ranges_from is_written place [] = []
ranges_from is_written place (b ∷ bs) = with_written (is_written place) place b (ranges_from is_written (place + 1) bs)

-- the changed ranges of a page: the maximal runs of written places, with its bytes
abbrev pub ranges_of : (ℕ → Bool) → List ℕ → List ChangedRange
ranges_of is_written page = ranges_from is_written 0 page

-- the bytes with a piece put over them from a place on
abbrev pub put : ℕ → List ℕ → List ℕ → List ℕ
put place piece bytes = take place bytes ++ piece ++ drop (place + length piece) bytes

-- the page with changed ranges put over it, one after the other
abbrev pub put_ranges : List ChangedRange → List ℕ → List ℕ
put_ranges [] page = page
put_ranges (r ∷ rs) page = put_ranges rs (put r.place r.bytes page)
