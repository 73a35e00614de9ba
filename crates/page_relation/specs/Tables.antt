-- What the tables of a partition have of one page, and which eras there are.
use Rattle.std.specs.Prelude.{◌≡◌, ◌≢◌, ℕ, ◌<◌, ◌≤◌, Bool, true, false, Option, Some, None, ⊤}
use Rattle.std.specs.List.{AllByRecursion}
use Rattle.pcl_base.specs.declared.lock.Waiter.{Waiter}
use Rattle.pcl_base.specs.declared.tx.Mode.{Mode}
use Rattle.pcl_base.specs.declared.tx.TxId.{TxId}
use Rattle.run_rules.specs.Views.{View, since_of}
use Rattle.node_rules.specs.Words.{pick}
use Rattle.node_rules.specs.LockRule.{LockEntry, mode_of, has_right}
use Rattle.node_rules.specs.LockTable.{LockTable, entry_at, marked}
use Rattle.node_rules.specs.NodeState.{NodeState, table_at, is_serving}
use Rattle.cluster_rules.specs.Clusters.{Cluster, last_view}
use Rattle.page_protocol.specs.State.{Right, NoRight, Home, Page}
use Rattle.page_laws.specs.Entry.Decisions.{NoWriterWaits}
use Rattle.cluster_laws.specs.Era.Eras.{era_in, era_at, owner_at}
use Rattle.page_relation.specs.Messages.{HasAsked, CountsFor}

-- who waits at a table of era e has asked
abbrev pub WaiterIs : (ℕ → ℕ) → (TxId → Home) → ℕ → Waiter → Type 0
WaiterIs reached home e w = HasAsked (reached w.tx.node) e (home w.tx) w.have

-- The entry of the table that serves, at node n for era e. It may have a right more than are out: one that
-- a node reported before it was lost.
pub record IsServed (served : Bool) (owner era entry : ℕ) (listed : TxId → ℕ → Option Mode) (right : ℕ → Right) (reached : ℕ → ℕ) (home : TxId → Home) (n e : ℕ) (x : LockEntry) : Type 0 where
  pub serves : served ≡ true
  pub here : n ≡ owner
  pub now : e ≡ era
  pub version : x.version ≡ entry
  pub holders : (t : TxId) → mode_of x.holders t ≡ listed t era
  pub rights : (m : ℕ) → right m ≢ NoRight → has_right x.rights m ≡ true
  pub waiting : AllByRecursion (WaiterIs reached home era) x.waiting
  pub writers : NoWriterWaits x

-- The entry of a table that is being rebuilt, for a later era e: it has what the era lists of the nodes
-- whose reports have come, which the table marks, and nothing of the others.
pub record IsRebuilt (era : ℕ) (listed : TxId → ℕ → Option Mode) (right : ℕ → Right) (reached : ℕ → ℕ) (home : TxId → Home) (e : ℕ) (t : LockTable) (x : LockEntry) : Type 0 where
  pub later : era < e
  pub reaches : (m : ℕ) → marked t m ≡ true → e ≤ reached m
  pub holders : (u : TxId) → mode_of x.holders u ≡ pick (marked t u.node) (listed u e) None
  pub rights : (m : ℕ) → marked t m ≡ true → CountsFor e (right m) → has_right x.rights m ≡ true
  pub waiting : AllByRecursion (WaiterIs reached home e) x.waiting
  pub writers : NoWriterWaits x

-- a table, served or being rebuilt
abbrev pub TableIs : Page → ℕ → ℕ → ℕ → Bool → LockTable → Type 0
TableIs a p n e true t = IsServed a.served a.owner a.era a.entry a.listed a.right a.reached a.home n e (entry_at t p)
TableIs a p n e false t = IsRebuilt a.era a.listed a.right a.reached a.home e t (entry_at t p)

-- the table of a node, where it has one
abbrev pub TableIn : Page → ℕ → ℕ → ℕ → Option LockTable → Type 0
TableIn a p n e None = ⊤
TableIn a p n e (Some t) = TableIs a p n e t.serving t

-- the table of partition q at a node, where it is up
abbrev pub TableOf : Page → ℕ → ℕ → ℕ → Option NodeState → Type 0
TableOf a p q n None = ⊤
TableOf a p q n (Some s) = TableIn a p n (era_in s.view q) (table_at s q)

-- whether a node serves a partition
abbrev pub serves_in : Option NodeState → ℕ → Bool
serves_in None q = false
serves_in (Some s) q = is_serving (table_at s q)

-- the era that serves, or served last, is that of some view, with its owner
pub record EraIs (c : Cluster) (q era owner : ℕ) : Type 0 where
  pub epoch : ℕ
  pub low : 1 ≤ epoch
  pub made : epoch ≤ (last_view c).epoch
  pub era_there : era_at c q epoch ≡ era
  pub owner_there : owner_at c q epoch ≡ owner

-- The era that a node has reached is that of its view, and isn't below the one that serves: a table serves
-- only once each live node has reported. A node in no view, and one that is down, has reached no era of a
-- later epoch than its own, or than the last; what it has reached it has forgotten, so this is a bound. The
-- era that serves is then not above the node's next one either.
abbrev pub ReachedBy : Cluster → ℕ → ℕ → NodeState → Option View → ℕ → Type 0
ReachedBy c q era s None r = (r ≤ era_at c q s.epoch) × (era ≤ era_at c q s.epoch)
ReachedBy c q era s (Some v) r = (r ≡ since_of v q) × (era ≤ r)

-- the same of a node that may be down
abbrev pub ReachedIn : Cluster → ℕ → ℕ → Option NodeState → ℕ → Type 0
ReachedIn c q era None r = r ≤ era_at c q (last_view c).epoch
ReachedIn c q era (Some s) r = ReachedBy c q era s s.view r
