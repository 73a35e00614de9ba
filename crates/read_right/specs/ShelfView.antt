-- What a shelf of rights is: the rights, which of them are ready, and its spare.
use Rattle.std.specs.Prelude.{ℕ, ◌==◌, Bool, false, List, [], ◌∷◌}
use Rattle.node_rules.specs.Words.{pick}
use Rattle.node_rules.specs.Shelf.{Right}

-- whether the next reader under a page's right needs no memory
pub record Mark : Type 0 where
  pub page : ℕ
  pub ready : Bool

-- the rights in the order of acceptance, a mark for each, and how many more may be accepted without memory
pub record ShelfView : Type 0 where
  pub rights : List Right
  pub marks : List Mark
  pub spare : ℕ

unfoldable pub ready_in : List Mark → ℕ → Bool
ready_in [] p = false
ready_in (m ∷ ms) p = pick (m.page == p) m.ready (ready_in ms p)

-- whether a page's right is there and ready
abbrev pub is_ready : ShelfView → ℕ → Bool
is_ready s p = ready_in s.marks p
