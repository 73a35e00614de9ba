-- What the steps of an access and of a grant need of a home.
use Rattle.std.specs.Prelude.{◌≡◌, ℕ, ◌+◌, ◌<◌, ◌≤◌, ◌==◌, Bool, true, false, List, length, Option, Some, None, is_some}
use Rattle.std.specs.List.{All, filter}
use Rattle.pcl_base.specs.declared.tx.TxId.{TxId}
use Rattle.node_rules.specs.BufferRule.{Slot, free_frames, can_go, slot_at, copy_at, has_slot, pinned, has_private, is_kept}
use Rattle.node_rules.specs.NodeState.{HomeState, runs_at}
use Rattle.home_laws.specs.Homes.{AreRuns, pins_of}

-- a frame can be made free for a page: one is, or the slot of another page can go, and each such slot
-- has content and is of a page of the database
pub record MayMakeRoom (keep : ℕ) (h : HomeState) : Type 0 where
  pub enough : 1 ≤ free_frames h.pool + can_go h.pool keep
  pub size : h.pool.size ≡ h.config.size
  pub one_slot : (p : ℕ) → length (filter (λ s. s.page == p) h.pool.slots) ≤ 1
  pub kept : All (λ s. (s.page == keep) ≡ false → is_kept s ≡ true) h.pool.slots
  pub below : All (λ s. s.page < h.config.pages) h.pool.slots

-- a slot that can go for a page: it is of another one, has a copy, and no pin
pub record MayGo (keep : ℕ) (h : HomeState) (s : Slot) : Type 0 where
  pub page : s.page < h.config.pages
  pub apart : (s.page == keep) ≡ false
  pub slot : slot_at h.pool s.page ≡ Some s
  pub copy : is_some (copy_at h.pool s.page) ≡ true
  pub unpinned : pinned h.pool s.page ≡ false

-- a slot of a page can be taken
abbrev pub MayTakeSlot : ℕ → HomeState → Type 0
MayTakeSlot p h = has_slot h.pool p ≡ false → MayMakeRoom p h

-- a private copy of a page can be taken, where the access is a write
abbrev pub MayTakePrivate : TxId → ℕ → Bool → HomeState → Type 0
MayTakePrivate t p write h = write ≡ true → has_private h.pool t p ≡ false → MayMakeRoom p h

-- a page has a slot, which can be pinned once more
pub record MayPin (p : ℕ) (h : HomeState) : Type 0 where
  pub slot : has_slot h.pool p ≡ true
  pub few : pins_of (slot_at h.pool p) ≤ 1024

-- a page can be written by a transaction: it has a copy and a private one, and the bytes are some and
-- end within it
pub record MayWrite (t : TxId) (p : ℕ) (write : ℕ × List ℕ) (h : HomeState) : Type 0 where
  pub copy : is_some (copy_at h.pool p) ≡ true
  pub private : has_private h.pool t p ≡ true
  pub some : 1 ≤ length write.1
  pub inside : write.0 + length write.1 ≤ h.config.size
  pub size : h.pool.size ≡ h.config.size
  pub runs : AreRuns h.config.size 0 (runs_at h.written t p)

-- a page can be read, or written
abbrev pub MayDo : TxId → ℕ → Option (ℕ × List ℕ) → HomeState → Type 0
MayDo t p None h = is_some (copy_at h.pool p) ≡ true
MayDo t p (Some write) h = MayWrite t p write h
