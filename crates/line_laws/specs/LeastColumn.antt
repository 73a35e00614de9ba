-- The column of a bad line by its forms, and by the grammar alone.
use Rattle.std.specs.Prelude.{◌≡◌, ℕ, Bool, List, Some}
use Rattle.text_rules.specs.BadLine.{IsEventLine, IsHeaderLine, Why, IsBadAt, bad_at, event_forms, header_forms}

-- A line is bad by its forms at a column exactly where that is the least one up to which no line of the
-- grammar goes, or the one behind the line where the whole of it is a front of one; and why is the same.
pub record ColumnsAreLeast : Type 0 where
  pub event_least : (newline : Bool) (line : List ℕ) (column : ℕ) (why : Why)
      → bad_at newline event_forms line ≡ Some (column, why) → IsBadAt IsEventLine newline line column why
  pub event_found : (newline : Bool) (line : List ℕ) (column : ℕ) (why : Why) → IsBadAt IsEventLine newline line column why
      → bad_at newline event_forms line ≡ Some (column, why)
  pub header_least : (newline : Bool) (line : List ℕ) (column : ℕ) (why : Why)
      → bad_at newline header_forms line ≡ Some (column, why) → IsBadAt IsHeaderLine newline line column why
  pub header_found : (newline : Bool) (line : List ℕ) (column : ℕ) (why : Why) → IsBadAt IsHeaderLine newline line column why
      → bad_at newline header_forms line ≡ Some (column, why)
