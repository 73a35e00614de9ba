-- New owners, told of the draws and the live nodes alone.
use Rattle.std.specs.Prelude.{◌≡◌, ℕ, List}
use Rattle.text_rules.specs.Generator.{Making, new_owners}

-- whatever else is kept, these are the owners after a node was lost, and the draws after it
pub record AreRenewed (lost : ℕ) (draws draws' : ℕ) (live owners owners' : List ℕ) : Type 0 where
  pub value : (s : Making) → s.draws ≡ draws → s.live ≡ live → (new_owners lost owners s).value ≡ owners'
  pub next : (s : Making) → s.draws ≡ draws → s.live ≡ live → (new_owners lost owners s).next ≡ record s { draws = draws' }
