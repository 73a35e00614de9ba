-- What an access and what comes to one that waits make of a home.
use Rattle.std.specs.Prelude.{◌≡◌, ℕ, ◌+◌, ◌==◌, ◌||◌, Bool, true, false, List, length, Option, Some, None, is_some}
use Rattle.pcl_base.specs.declared.tx.TxId.{TxId}
use Rattle.pcl_base.specs.declared.tx.Mode.TheVariants.{Shared}
use Rattle.pcl_base.specs.declared.lock.Held.{Held}
use Rattle.pcl_base.specs.declared.lock.Kind.TheVariants as kind
use Rattle.pcl_base.specs.declared.reply.Reply.TheVariants as reply
use Rattle.text_rules.specs.ChangedRanges.{put}
use Rattle.node_rules.specs.Words.{pick, same_tx, among}
use Rattle.node_rules.specs.OpenTxs.{OpenTxs, is_open, held_by, pending_of, waits_on, add}
use Rattle.node_rules.specs.Shelf.{Right, right_on}
use Rattle.node_rules.specs.BufferRule.{copy_at, find, has_private, private_bytes, bytes_of_copy}
use Rattle.node_rules.specs.NodeState.{HomeState, cover, runs_at}
use Rattle.node_rules.specs.Work.{HomeWork}
use Rattle.node_rules.specs.AccessRule.{Access, Accessed, Granted, bytes_or, bytes_read, version_or, mode_of_write, perform, under_right, waiting, next_of, is_held, is_allowed, take_frames, access, now_done}
use Rattle.home_laws.specs.Homes.{IsHome}
use Rattle.home_laws.specs.Refused.{access_refusal}
use Rattle.page_laws.specs.Look.Parts.{is_place, SameLife, SameLocks, SamePrivates, SameRights, SameCopies}
use Rattle.page_laws.specs.Look.Buffers.{IsAlike}

-- a granted read: it answers the version of the copy, and what its transaction sees of the page
pub record IsRead (t : TxId) (p : ℕ) (w : HomeWork) (g : Granted) : Type 0 where
  pub reply : g.reply ≡ reply.Value t p (version_or (find w.home.pool p)) (bytes_read w.home.pool t p)
  pub work : IsAlike w g.work

abbrev pub ReadingIsSeen : Type 0
ReadingIsSeen = (t : TxId) (p : ℕ) (w : HomeWork) → IsRead t p w (perform t p None w)

-- what a writer has of a page: its private copy where it was filled, else the page's copy
abbrev pub bytes_before : HomeState → TxId → ℕ → List ℕ
bytes_before h t p = bytes_or (private_bytes h.pool t p) (bytes_of_copy (copy_at h.pool p))

-- a granted write: its bytes are in the private copy, and its places are noted
pub record IsWritten (t : TxId) (p : ℕ) (write : ℕ × List ℕ) (w : HomeWork) (g : Granted) : Type 0 where
  pub reply : g.reply ≡ reply.Done t p (version_or (find w.home.pool p))
  pub life : SameLife w.home g.work.home
  pub locks : SameLocks w.home g.work.home
  pub rights : SameRights w.home g.work.home
  pub copies : SameCopies w.home g.work.home
  pub pages : g.work.pages ≡ w.pages
  pub bytes : private_bytes g.work.home.pool t p ≡ Some (put write.0 write.1 (bytes_before w.home t p))
  pub runs : runs_at g.work.home.written t p ≡ cover (runs_at w.home.written t p) write.0 (write.0 + length write.1)
  pub other_bytes : (u : TxId) (q : ℕ) → is_place t p u q ≡ false → private_bytes g.work.home.pool u q ≡ private_bytes w.home.pool u q
  pub other_runs : (u : TxId) (q : ℕ) → is_place t p u q ≡ false → runs_at g.work.home.written u q ≡ runs_at w.home.written u q

abbrev pub WritingIsSeen : Type 0
WritingIsSeen =
    (t : TxId) (p : ℕ) (write : ℕ × List ℕ) (w : HomeWork) → has_private w.home.pool t p ≡ true → IsWritten t p write w (perform t p (Some write) w)

-- a transaction that gets a lock: it holds the page so, and waits for it no more
pub record HasLock (t : TxId) (l : Held) (s new : OpenTxs) : Type 0 where
  pub here : held_by new t l.page ≡ Some l
  pub waits : pending_of new t ≡ pick (waits_on (pending_of s t) l.page) None (pending_of s t)
  pub other_held : (u : TxId) (q : ℕ) → is_place t l.page u q ≡ false → held_by new u q ≡ held_by s u q
  pub other_waits : (u : TxId) → same_tx u t ≡ false → pending_of new u ≡ pending_of s u
  pub alive : (u : TxId) → is_open new u ≡ is_open s u
  pub named : (new.node ≡ s.node) × (new.born ≡ s.born) × (new.last ≡ s.last)

abbrev pub LockingIsSeen : Type 0
LockingIsSeen = (s : OpenTxs) (t : TxId) (l : Held) → is_open s t ≡ true → HasLock t l s (add s t l)

-- a right with one reader more
pub record HasReader (t : TxId) (p : ℕ) (before after : Option Right) : Type 0 where
  pub right : Right
  pub old : Right
  pub there : before ≡ Some old
  pub now : after ≡ Some right
  pub version : right.version ≡ old.version
  pub readers : (u : TxId) → among right.readers u ≡ among old.readers u || same_tx t u

-- a read under the right of the node
pub record IsUnderRight (t : TxId) (p : ℕ) (h g : HomeState) : Type 0 where
  pub config : g.config ≡ h.config
  pub lock : HasLock t (record { page = p; mode = Shared; kind = kind.Right }) h.txs g.txs
  pub right : HasReader t p (right_on h.shelf p) (right_on g.shelf p)
  pub other_rights : (q : ℕ) → (p == q) ≡ false → right_on g.shelf q ≡ right_on h.shelf q
  pub privates : SamePrivates h g
  pub copies : SameCopies h g

abbrev pub ReadingUnderIsSeen : Type 0
ReadingUnderIsSeen =
    (t : TxId) (p : ℕ) (h : HomeState) → is_open h.txs t ≡ true → is_some (right_on h.shelf p) ≡ true → IsUnderRight t p h (under_right t p h)

-- a transaction waits for an access
pub record IsWaiting (a : Access) (h g : HomeState) : Type 0 where
  pub life : SameLife h g
  pub held : (u : TxId) (q : ℕ) → held_by g.txs u q ≡ held_by h.txs u q
  pub waits : pending_of g.txs a.tx ≡ Some (record { page = a.page; mode = mode_of_write a.write; write = a.write })
  pub other_waits : (u : TxId) → same_tx u a.tx ≡ false → pending_of g.txs u ≡ pending_of h.txs u
  pub privates : SamePrivates h g
  pub rights : SameRights h g
  pub copies : SameCopies h g

abbrev pub WaitingIsSeen : Type 0
WaitingIsSeen = (a : Access) (h : HomeState) → is_open h.txs a.tx ≡ true → IsWaiting a h (waiting a h)

-- An access that isn't refused takes its frames; then it is done, where its transaction holds the page so; or it
-- is a read under the right of the node; or its transaction waits.
pub record IsOneOf (a : Access) (owned : Bool) (w taken : HomeWork) (x : Accessed) : Type 0 where
  pub held : is_held a w.home ≡ true → x ≡ now_done (perform a.tx a.page a.write taken)
  pub allowed : is_held a w.home ≡ false → is_allowed a owned w.home ≡ true
      → x ≡ now_done (perform a.tx a.page None (record taken { home = under_right a.tx a.page taken.home }))
  pub waits : is_held a w.home ≡ false → is_allowed a owned w.home ≡ false
      → x ≡ record { next = next_of a owned (find w.home.pool a.page); work = record taken { home = waiting a taken.home } }

abbrev pub AccessIsSeen : Type 0
AccessIsSeen =
    (a : Access) (owned : Bool) (w : HomeWork) → IsHome w.home → access_refusal a w.home ≡ None → IsOneOf a owned w (take_frames a w) (access a owned w)
