-- What the parts of a home are: the home itself, and the memory that is kept for later grants.
use Rattle.std.specs.Prelude.{◌≡◌, ℕ, ◌+◌, ◌<◌, ◌≤◌, ◌==◌, true, false, is_some, List, length, Vec, vec_capacity}
use Rattle.std.specs.Global.{Global}
use Rattle.std.specs.List.{All}
use Rattle.pcl_base.specs.Limits.{Sizes}
use Rattle.node_rules.specs.OpenTxs.{OpenTxs}
use Rattle.node_rules.specs.BufferRule.{Pool, is_kept, need, free_frames, can_go, has_private, slot_at}
use Rattle.node_rules.specs.NodeState.{HomeState}
use Rattle.node_rules.specs.AccessRule.{Access}
use Rattle.buffer_pool.specs.Buffer.{IsBuffer}
use Rattle.home_laws.specs.Homes.{pins_of}
use Rattle.tx_table.specs.Counts.{wait_count}
use Rattle.read_right.specs.ShelfView.{Mark, ShelfView}
use Rattle.home.specs.Places.{PlacesView}

-- the home, the node's number, the marks of the rights that are ready for a reader, and for how many more rights, written
-- pages and replies the memory is there
pub record PartsView : Type 0 where
  pub home : HomeState
  pub node : ℕ
  pub marks : List Mark
  pub rights : ℕ
  pub places : ℕ
  pub replies : ℕ

-- the view of the parts
abbrev pub parts_of : Sizes → ℕ → OpenTxs → ShelfView → Pool → PlacesView → ℕ → PartsView
parts_of c me txs shelf pool places replies =
    record {
      home = record { config = c; txs = txs; shelf = shelf.rights; pool = pool; written = places.places };
      node = me;
      marks = shelf.marks;
      rights = shelf.spare;
      places = places.spare;
      replies = replies;
    }

-- a stored page has room for its head and the bytes of a page, and each list in stock is empty and has
-- room for these bytes
pub record HasPages (size raw : ℕ) (replies : List (Vec ℕ Global)) : Type 0 where
  pub stored : raw ≡ size + 16
  pub empty : All (λ v. length v.items ≡ 0) replies
  pub wide : All (λ v. size ≤ vec_capacity v) replies

-- the memory for so many grants is there
pub record HasMemory (grants : ℕ) (v : PartsView) : Type 0 where
  pub rights : grants ≤ v.rights
  pub places : grants ≤ v.places
  pub replies : grants ≤ v.replies

-- the memory for the grant of each access that waits is there, and the number is that of the home
abbrev pub IsPrepared : PartsView → Type 0
IsPrepared v = HasMemory (wait_count v.home.txs.txs) v × (v.node ≡ v.home.txs.node)

-- each slot that may go for a page has a copy, and its page is one of the database
abbrev pub GoWell : ℕ → Sizes → Pool → Type 0
GoWell keep c b = All (λ s. (s.page == keep) ≡ false → (is_kept s ≡ true) × (s.page < c.pages)) b.slots

-- no memory that is kept gets less, and all else stays
pub record KeepsMemory (old new : PartsView) : Type 0 where
  pub node : new.node ≡ old.node
  pub marks : new.marks ≡ old.marks
  pub rights : old.rights ≤ new.rights
  pub places : old.places ≤ new.places
  pub replies : old.replies ≤ new.replies

-- what taking the frames of an access needs of the buffer
pub record MayTakeFrames (a : Access) (c : Sizes) (b : Pool) : Type 0 where
  pub sound : IsBuffer b
  pub size : b.size ≡ c.size
  pub page : a.page < c.pages
  pub fits : need b a.tx a.page (is_some a.write) ≤ free_frames b + can_go b a.page
  pub none : has_private b a.tx a.page ≡ false
  pub go : GoWell a.page c b
  pub below : All (λ s. s.page < c.pages) b.slots
  pub few : pins_of (slot_at b a.page) ≤ 1024
