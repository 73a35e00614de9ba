-- The head of an entry.
use Rattle.std.specs.Prelude.{◌≡◌, ℕ, suc, ◌+◌, ◌-◌, Bool, List, ◌∷◌, Ok}
use Rattle.std.specs.Int.{w32, w64}
use Rattle.pcl_base.specs.Limits.{Sizes}
use Rattle.pcl_base.specs.declared.log.Part.{Part}
use Rattle.text_rules.specs.FieldBytes.{Reader, give, after, ◌>>=◌, at_least, number_from}
use Rattle.text_rules.specs.LogRecord.{part_field, changes_field}
use Rattle.redo_log.specs.declared.entries.Head.{Head}

-- the page, numbered `low` or higher, and the version of an entry
abbrev pub head_field : Sizes → ℕ → Reader Head
head_field c low = do
  page ← number_from low (c.pages - 1) w32
  version ← at_least 1 w64
  give (record { page = page; version = version })

-- an entry of a record at the front of some bytes, and what is left behind it
pub record IsEntry (c : Sizes) (w : Bool) (low : ℕ) (a : List ℕ) (h : Head) (b : List ℕ) : Type 0 where
  pub behind : List ℕ
  pub part : Part
  pub head : head_field c low a ≡ Ok (h, behind)
  pub is : part_field c.size w behind ≡ Ok (part, b)
  pub changes : (n : ℕ) → changes_field c w low (suc n) a ≡ after (changes_field c w (h.page + 1) n b) (λ xs. give (record { page = h.page; version = h.version; part = part } ∷ xs))
