-- Words that the rules share: choosing by a test, and tests of transactions and modes.
use Rattle.std.specs.Prelude.{ℕ, ◌||◌, Bool, true, false, List, [], ◌∷◌, Option, Some, None, slice_index_or}
use Rattle.pcl_base.specs.declared.tx.TxId.{TxId}
use Rattle.pcl_base.specs.declared.tx.Mode.{Mode}
use Rattle.pcl_base.specs.declared.tx.Mode.TheVariants.{Shared, Exclusive}
pub use Rattle.run_rules.specs.Words.{pick, same_tx}

-- whether a mode is the exclusive one
abbrev pub is_exclusive : Mode → Bool
is_exclusive Shared = false
is_exclusive Exclusive = true

-- whether two modes are the same
abbrev pub same_mode : Mode → Mode → Bool
same_mode Shared m = pick (is_exclusive m) false true
same_mode Exclusive m = is_exclusive m

-- whether a lock that is held, if there is one, allows what a mode asks for
abbrev pub covers : Option Mode → Mode → Bool
covers None asked = false
covers (Some Shared) asked = pick (is_exclusive asked) false true
covers (Some Exclusive) asked = true

-- whether a transaction is in a list
unfoldable pub among : List TxId → TxId → Bool
among [] t = false
among (u ∷ us) t = same_tx u t || among us t

-- the flag at place n of a list, which isn't set past its end
abbrev pub flag_at : List Bool → ℕ → Bool
flag_at flags n = slice_index_or flags n false

-- the first of two that is there
abbrev pub or_else : {X : Type 0} → Option X → Option X → Option X
or_else None y = y
or_else (Some x) y = Some x

-- the first item
abbrev pub head_of : {X : Type 0} → List X → Option X
head_of [] = None
head_of (x ∷ xs) = Some x
