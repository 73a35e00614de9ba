-- Where a transaction stands at its home node with one page.
use Rattle.std.specs.Prelude.{◌≡◌, ℕ, ◌==◌, ◌&&◌, ◌||◌, nat_lt, Bool, true, false, List, [], Option, Some, None, ⊤}
use Rattle.pcl_base.specs.declared.lock.Held.{Held}
use Rattle.pcl_base.specs.declared.lock.Kind.{Kind}
use Rattle.pcl_base.specs.declared.lock.Kind.TheVariants as kind
use Rattle.pcl_base.specs.declared.lock.Pending.{Pending}
use Rattle.pcl_base.specs.declared.tx.Mode.{Mode}
use Rattle.pcl_base.specs.declared.tx.Mode.TheVariants.{Shared, Exclusive}
use Rattle.pcl_base.specs.declared.tx.TxId.{TxId}
use Rattle.run_rules.specs.Views.{View}
use Rattle.node_rules.specs.Words.{pick}
use Rattle.node_rules.specs.BufferRule.{private_bytes}
use Rattle.node_rules.specs.EndRule.{is_own_kind}
use Rattle.node_rules.specs.NodeState.{NodeState, Run, runs_at, number_of, partition}
use Rattle.node_rules.specs.InstallRule.{owned_before}
use Rattle.node_rules.specs.OpenTxs.{is_open, held_by, pending_of}
use Rattle.page_protocol.specs.State.{Home, Fresh, Asking, Holding, HoldingAsks, Reading, ReadingAsks, IsFresh, IsClosed}

-- the mode for which an access waits, where it is one of this page
abbrev pub wait_on : Option Pending → ℕ → Option Mode
wait_on None p = None
wait_on (Some w) p = pick (w.page == p) (Some w.mode) None

-- who holds the page shared, by the kind of the lock, waits for it exclusively or not
abbrev pub shared_stand : Kind → Option Mode → Home
shared_stand kind.Right None = Reading
shared_stand kind.Right (Some m) = ReadingAsks
shared_stand _ None = Holding Shared
shared_stand _ (Some m) = HoldingAsks

-- who holds the page
abbrev pub held_stand : Mode → Kind → Option Mode → Home
held_stand Exclusive k w = Holding Exclusive
held_stand Shared k w = shared_stand k w

-- where an open transaction stands that told this version with its request
abbrev pub stand_of : Option Held → Option Mode → Option ℕ → Home
stand_of None None have = Fresh
stand_of None (Some m) have = Asking m have
stand_of (Some l) w have = held_stand l.mode l.kind w

-- An open transaction. What it told is left open: a node forgets it.
abbrev pub IsOpenAs : Option Held → Option Mode → Home → Type 0
IsOpenAs held wait h = (have : Option ℕ) × (h ≡ stand_of held wait have)

-- A transaction that is open, that wasn't begun yet, and any other. Of one that was begun and is open no
-- more a node knows nothing: whether its release is on its way the links tell.
abbrev pub Stands : Bool → Bool → Option Held → Option Mode → Home → Type 0
Stands true unborn held wait h = IsOpenAs held wait h
Stands false true held wait h = IsFresh h
Stands false false held wait h = IsClosed h

-- Whether a transaction of a node is still to be begun. A node in no view has no life yet: its life begins
-- with the next epoch, and the birth that its state has may be that of an earlier life.
abbrev pub is_unborn : Option View → NodeState → TxId → Bool
is_unborn None s t = nat_lt s.epoch t.born
is_unborn (Some v) s t =
    nat_lt s.home.txs.born t.born || (t.born == s.home.txs.born && nat_lt s.home.txs.last t.serial)

-- A transaction at its home node, which may be down; `last` is the last epoch, and later lives are to come.
abbrev pub StandsIn : ℕ → Option NodeState → TxId → ℕ → Home → Type 0
StandsIn last None t p h = Stands false (nat_lt last t.born) None None h
StandsIn last (Some s) t p h =
    Stands (is_open s.home.txs t) (is_unborn s.view s t) (held_by s.home.txs t p) (wait_on (pending_of s.home.txs t) p) h

-- A lock has kind `Own` exactly where the node owns the page in its view.
abbrev pub KindFits : Bool → Option Held → Type 0
KindFits owned None = ⊤
KindFits owned (Some l) = is_own_kind l.kind ≡ owned

-- the same at a node
abbrev pub KindIn : Option NodeState → TxId → ℕ → Type 0
KindIn None t p = ⊤
KindIn (Some s) t p = KindFits (owned_before s.view (partition s.home.config p) (number_of s)) (held_by s.home.txs t p)

-- the private copy that a writer has
abbrev pub image_of : Home → List ℕ → Option (List ℕ)
image_of (Holding Exclusive) image = Some image
image_of _ image = None

-- it is the node's
abbrev pub ImageIn : Option NodeState → TxId → ℕ → Home → List ℕ → Type 0
ImageIn None t p h image = ⊤
ImageIn (Some s) t p h image = private_bytes s.home.pool t p ≡ image_of h image

-- the places that a transaction wrote at its node
abbrev pub runs_in : Option NodeState → TxId → ℕ → List Run
runs_in None t p = []
runs_in (Some s) t p = runs_at s.home.written t p
