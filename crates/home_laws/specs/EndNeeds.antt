-- What the buffer has where the steps of an end are done one after the other.
use Rattle.std.specs.Prelude.{◌≡◌, ℕ, ◌<◌, ◌≤◌, ◌==◌, true, List, [], ◌∷◌, length, is_some, IfSome, ⊤}
use Rattle.std.specs.List.{filter, AllByRecursion}
use Rattle.pcl_base.specs.declared.tx.TxId.{TxId}
use Rattle.node_rules.specs.BufferRule.{Pool, slot_at, find, copy_at, has_private, private_bytes}
use Rattle.home_laws.specs.Homes.{pins_of}

-- the copy of a page, where there is one, is below the last version
abbrev pub IsBelowLast : Pool → ℕ → Type 0
IsBelowLast b p = IfSome (find b p) (λ v. v < 18446744073709551615)

-- a page with a private copy that was filled, and with a copy below the last version
pub record IsPublishable (t : TxId) (b : Pool) (p : ℕ) : Type 0 where
  pub private : has_private b t p ≡ true
  pub bytes : is_some (private_bytes b t p) ≡ true
  pub copy : is_some (copy_at b p) ≡ true
  pub below_last : IsBelowLast b p

-- each page is there once
abbrev pub AreApart : List ℕ → Type 0
AreApart [] = ⊤
AreApart (p ∷ ps) = (length (filter (λ q. q == p) ps) ≡ 0) × AreApart ps

-- the private copies of these pages may be published one after the other
pub record MayPublish (t : TxId) (ps : List ℕ) (b : Pool) : Type 0 where
  pub each : AllByRecursion (IsPublishable t b) ps
  pub apart : AreApart ps

-- these pages may be unpinned one after the other: a page has at most one slot, which has a pin for
-- each time that the page is in the list
pub record MayUnpin (ps : List ℕ) (b : Pool) : Type 0 where
  pub one_slot : (p : ℕ) → length (filter (λ s. s.page == p) b.slots) ≤ 1
  pub pins : (p : ℕ) → length (filter (λ q. q == p) ps) ≤ pins_of (slot_at b p)
