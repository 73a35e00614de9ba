-- What a grant, a right and a revocation make of a home.
use Rattle.std.specs.Prelude.{◌≡◌, ℕ, ◌==◌, ◌&&◌, not, Bool, true, false, List, [], Option, Some, None, is_some, Ok}
use Rattle.std.specs.Prelude.{option_map}
use Rattle.std.specs.List.{filter}
use Rattle.pcl_base.specs.declared.tx.TxId.{TxId}
use Rattle.pcl_base.specs.declared.lock.Held.{Held}
use Rattle.pcl_base.specs.declared.lock.Kind.{Kind}
use Rattle.pcl_base.specs.declared.lock.Kind.TheVariants as kind
use Rattle.pcl_base.specs.declared.message.Grant.{Grant}
use Rattle.text_rules.specs.StoredPage.{PageAt, stored_page}
use Rattle.run_rules.specs.Disk.{raw_page}
use Rattle.node_rules.specs.Words.{pick, same_tx, among}
use Rattle.node_rules.specs.CopyRule.{is_version}
use Rattle.node_rules.specs.OpenTxs.{held_by, pending_of, waits_as, add}
use Rattle.node_rules.specs.Shelf.{Right, right_on, readers_of, accept, end_reader}
use Rattle.node_rules.specs.BufferRule.{copy_at, find, has_slot}
use Rattle.node_rules.specs.NodeState.{HomeState}
use Rattle.node_rules.specs.Work.{HomeWork, Goes}
use Rattle.node_rules.specs.AccessRule.{Granted, Arrived, clean_copy, bring, perform, write_of, granted, image_of, kind_of, shelf_after, readers_after, arrived, on_grant, spend_right, on_revoke}
use Rattle.home_laws.specs.Homes.{IsHome, is_right_lock}
use Rattle.page_laws.specs.Look.Parts.{SameLife, SamePrivates, SameCopies, SameBesideCopies}

-- where the granted copy comes from: the image, or what is stored at the granted version
abbrev pub IsSource : ℕ → ℕ → Option (List ℕ) → HomeWork → PageAt → Type 0
IsSource p version (Some bytes) w at = at ≡ record { version = version; bytes = bytes }
IsSource p version None w at = (stored_page p (raw_page w.pages p) ≡ Ok at) × (at.version ≡ version)

-- A page whose slot came to a granted version: nothing changed where it had it, else it has a clean copy. The
-- granted version is that of its copy then.
pub data IsBroughtTo (p version : ℕ) (image : Option (List ℕ)) (w x : HomeWork) : Type 0 where
  current : is_version (find w.home.pool p) version ≡ true → x ≡ w → IsBroughtTo p version image w x
  comes : (at : PageAt) → is_version (find w.home.pool p) version ≡ false → IsSource p version image w at → SameBesideCopies w.home x.home
      → ((q : ℕ) → copy_at x.home.pool q ≡ pick (p == q) (Some (clean_copy at)) (copy_at w.home.pool q)) → x.pages ≡ w.pages → IsBroughtTo p version image w x

abbrev pub BringingIsSeen : Type 0
BringingIsSeen =
    (p version : ℕ) (image : Option (List ℕ)) (w x : HomeWork) → has_slot w.home.pool p ≡ true → bring p version image w ≡ Goes x
    → IsBroughtTo p version image w x

-- a page that has the granted version, or whose copy can come
pub data CanCome (p version : ℕ) (image : Option (List ℕ)) (w : HomeWork) : Type 0 where
  has_it : is_version (find w.home.pool p) version ≡ true → CanCome p version image w
  comes_from : (at : PageAt) → IsSource p version image w at → CanCome p version image w

-- a page that was brought
pub record HasCome (p version : ℕ) (image : Option (List ℕ)) (w : HomeWork) : Type 0 where
  pub work : HomeWork
  pub goes : bring p version image w ≡ Goes work

abbrev pub BringingGoes : Type 0
BringingGoes = (p version : ℕ) (image : Option (List ℕ)) (w : HomeWork) → CanCome p version image w → HasCome p version image w

-- a work whose transaction has its lock
abbrev pub with_lock_of : TxId → Held → HomeWork → HomeWork
with_lock_of t l w = record w { home = record (w.home) { txs = add w.home.txs t l } }

-- a grant was carried out: the page was brought, the transaction has its lock, and its access is done
pub record IsCarriedOut (t : TxId) (l : Held) (version : ℕ) (image : Option (List ℕ)) (w : HomeWork) (g : Granted) : Type 0 where
  pub work : HomeWork
  pub brought : bring l.page version image w ≡ Goes work
  pub done : g ≡ perform t l.page (write_of (pending_of w.home.txs t)) (with_lock_of t l work)

abbrev pub GrantIsSeen : Type 0
GrantIsSeen =
    (t : TxId) (l : Held) (version : ℕ) (image : Option (List ℕ)) (w : HomeWork) (g : Granted) → granted t l version image w ≡ Goes g
    → IsCarriedOut t l version image w g

-- a work with another shelf
abbrev pub with_shelf : List Right → HomeWork → HomeWork
with_shelf shelf w = record w { home = record (w.home) { shelf = shelf } }

-- the lock that a grant gives
abbrev pub lock_granted : Grant → Bool → Held
lock_granted g owned = record { page = g.page; mode = g.mode; kind = kind_of owned g.right }

-- A grant that arrives: its right is accepted; where its transaction waits for it, the readers change and it is
-- carried out.
pub record HasArrived (g : Grant) (owned : Bool) (w : HomeWork) (x : Arrived) : Type 0 where
  pub unawaited : waits_as (pending_of w.home.txs g.tx) g.page g.mode ≡ false → x ≡ record { reply = None; work = with_shelf (shelf_after g w.home.shelf) w }
  pub awaited : waits_as (pending_of w.home.txs g.tx) g.page g.mode ≡ true
      → (y : Granted) × (granted g.tx (lock_granted g owned) g.version (image_of g.copy) (with_shelf (readers_after g (shelf_after g w.home.shelf)) w) ≡ Goes y)
      × (x ≡ arrived y)

abbrev pub ArrivalIsSeen : Type 0
ArrivalIsSeen = (g : Grant) (owned : Bool) (w : HomeWork) (x : Arrived) → on_grant g owned w ≡ Goes x → HasArrived g owned w x

-- a right without a reader
abbrev pub right_without : TxId → Right → Right
right_without t r = record r { readers = filter (λ u. not (same_tx u t)) r.readers }

-- rights that are accepted where none is there, and from which a reader goes
pub record ShelfIsSeen (rs : List Right) (p : ℕ) : Type 0 where
  pub accepted : (v : ℕ) → right_on rs p ≡ None → right_on (accept rs p v) p ≡ Some (record { page = p; version = v; readers = [] })
  pub kept : (v : ℕ) → is_some (right_on rs p) ≡ true → accept rs p v ≡ rs
  pub ended : (t : TxId) → right_on (end_reader rs p t) p ≡ option_map (right_without t) (right_on rs p)
  pub others : (v q : ℕ) → (p == q) ≡ false → right_on (accept rs p v) q ≡ right_on rs q
  pub others_end : (t : TxId) (q : ℕ) → (p == q) ≡ false → right_on (end_reader rs p t) q ≡ right_on rs q

abbrev pub ShelvesAreSeen : Type 0
ShelvesAreSeen = (rs : List Right) (p : ℕ) → ShelfIsSeen rs p

-- a lock of another kind
abbrev pub of_kind : Kind → Held → Held
of_kind k l = record l { kind = k }

-- A right that was spent: it is gone, the locks of its readers on the page are of another kind, and each lock that was
-- under it was a reader's.
pub record IsSpent (k : Kind) (p : ℕ) (h g : HomeState) : Type 0 where
  pub life : SameLife h g
  pub held : (u : TxId) (q : ℕ)
      → held_by g.txs u q ≡ pick (q == p && among (readers_of (right_on h.shelf p)) u) (option_map (of_kind k) (held_by h.txs u q)) (held_by h.txs u q)
  pub waits : (u : TxId) → pending_of g.txs u ≡ pending_of h.txs u
  pub right : (q : ℕ) → right_on g.shelf q ≡ pick (p == q) None (right_on h.shelf q)
  pub named : (u : TxId) → is_right_lock (held_by h.txs u p) ≡ true → among (readers_of (right_on h.shelf p)) u ≡ true
  pub privates : SamePrivates h g
  pub copies : SameCopies h g

abbrev pub SpendingIsSeen : Type 0
SpendingIsSeen = (k : Kind) (p : ℕ) (h : HomeState) → IsHome h → IsSpent k p h (spend_right k p h)

-- a revocation is answered with the readers of the right, which is spent; without a right nothing changes
pub record IsRevoked (p : ℕ) (h : HomeState) : Type 0 where
  pub absent : right_on h.shelf p ≡ None → on_revoke p h ≡ record { answer = None; home = h }
  pub there : (r : Right) → right_on h.shelf p ≡ Some r
      → on_revoke p h ≡ record { answer = Some (record { page = p; readers = r.readers }); home = spend_right kind.Registered p h }

abbrev pub RevokingIsSeen : Type 0
RevokingIsSeen = (p : ℕ) (h : HomeState) → IsRevoked p h
