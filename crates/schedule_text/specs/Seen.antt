-- What the readers answer, without where it lies in memory.
use Rattle.std.specs.Prelude.{◌≡◌, ℕ, ◌==◌, Bool, true, false, List, ◌++◌, codes, Option, Some, None}
use Rattle.std.specs.Borrow.{Bor}
use Rattle.std.specs.Fmt.{decimal}
use Rattle.text_rules.specs.FieldBytes.{pick}
use Rattle.std.specs.Option.{option_map}

-- a value with the bytes after it
abbrev pub field : {X : Type 0} → Option (X × Bor (List ℕ)) → Option (X × List ℕ)
field o = option_map (λ x. (x.0, x.1.now)) o

-- what was read was appended, or nothing could be read
abbrev pub read_on : Bool → List ℕ → List ℕ → Option (List ℕ) → Type 0
read_on true before now more = Some now ≡ option_map (λ xs. before ++ xs) more
read_on false before now more = more ≡ None

-- the owner of a partition, after a comma where it isn't the first
abbrev pub owner_text : ℕ → ℕ → List ℕ
owner_text partition owner = pick (partition == 0) (decimal owner) (codes "," ++ decimal owner)
