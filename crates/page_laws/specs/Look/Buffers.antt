-- The copies of a home: written, let go, made clean, and the frames of an access.
use Rattle.std.specs.Prelude.{◌≡◌, ℕ, ◌==◌, ◌||◌, Bool, true, false, slice_set, Some, None, is_some}
use Rattle.pcl_base.specs.declared.tx.TxId.{TxId}
use Rattle.text_rules.specs.StoredPage.{PageAt, stored_bytes}
use Rattle.node_rules.specs.Words.{pick}
use Rattle.node_rules.specs.OpenTxs.{OpenTxs, held_by, pending_of, waits_on}
use Rattle.node_rules.specs.BufferRule.{Copy, copy_at, cleaned, dirty, clean, evict}
use Rattle.node_rules.specs.NodeState.{HomeState}
use Rattle.node_rules.specs.Work.{HomeWork, with_pool, write_back}
use Rattle.node_rules.specs.AccessRule.{Access, on_pool, take_frames}
use Rattle.home_laws.specs.Homes.{IsHome}
use Rattle.home_laws.specs.Refused.{access_refusal}
use Rattle.page_laws.specs.Look.Parts.{SameBesideCopies, SameCopies}

-- a copy became clean
pub record IsCleaned (p : ℕ) (h g : HomeState) : Type 0 where
  pub rest : SameBesideCopies h g
  pub copies : (q : ℕ) → copy_at g.pool q ≡ pick (p == q) (cleaned (copy_at h.pool q)) (copy_at h.pool q)

abbrev pub CleaningIsSeen : Type 0
CleaningIsSeen = (p : ℕ) (h : HomeState) → IsCleaned p h (with_pool h (clean h.pool p))

-- a copy as it is stored
abbrev pub stored_copy : Copy → PageAt
stored_copy c = record { version = c.version; bytes = c.bytes }

-- a dirty copy was written, and a clean one wasn't
pub record IsStored (p : ℕ) (w x : HomeWork) : Type 0 where
  pub written : (c : Copy) → copy_at w.home.pool p ≡ Some c → c.dirty ≡ true → x.pages ≡ slice_set w.pages p (stored_bytes p (stored_copy c))
  pub unwritten : dirty w.home.pool p ≡ false → x.pages ≡ w.pages

-- a page's copy was written back and is clean
pub record IsWrittenBack (p : ℕ) (w x : HomeWork) : Type 0 where
  pub home : IsCleaned p w.home x.home
  pub stored : IsStored p w x

abbrev pub WritingBackIsSeen : Type 0
WritingBackIsSeen = (p : ℕ) (w : HomeWork) → IsWrittenBack p w (write_back p w)

-- a page's copy left, written back where it was dirty
pub record HasLeft (p : ℕ) (w x : HomeWork) : Type 0 where
  pub rest : SameBesideCopies w.home x.home
  pub copies : (q : ℕ) → copy_at x.home.pool q ≡ pick (p == q) None (copy_at w.home.pool q)
  pub stored : IsStored p w x

abbrev pub LeavingIsSeen : Type 0
LeavingIsSeen = (p : ℕ) (w : HomeWork) → HasLeft p w (on_pool (λ b. evict b p) (write_back p w))

-- whether a transaction holds a page or waits for it
abbrev pub is_used_by : OpenTxs → ℕ → TxId → Bool
is_used_by s p u = is_some (held_by s u p) || waits_on (pending_of s u) p

-- nothing that is seen changes
pub record IsAlike (w x : HomeWork) : Type 0 where
  pub rest : SameBesideCopies w.home x.home
  pub copies : SameCopies w.home x.home
  pub pages : x.pages ≡ w.pages

-- copies of pages other than p that no transaction uses leave, one after the other, and nothing else that is seen
-- changes
pub data LetsGo (p : ℕ) : HomeWork → HomeWork → Type 0 where
  all : (w x : HomeWork) → IsAlike w x → LetsGo p w x
  one : (w m x : HomeWork) (q : ℕ) → (p == q) ≡ false → ((u : TxId) → is_used_by w.home.txs q u ≡ false) → HasLeft q w m → LetsGo p m x → LetsGo p w x

-- the frames of an access that isn't refused
abbrev pub FramesAreSeen : Type 0
FramesAreSeen =
    (a : Access) (w : HomeWork) → IsHome w.home → access_refusal a w.home ≡ None → LetsGo a.page w (take_frames a w)
