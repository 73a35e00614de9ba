-- The relation of a cluster and a state of the machine of one page.
use Rattle.std.specs.Prelude.{◌≡◌, ℕ, ◌^◌, ◌<◌, ◌==◌, ◌&&◌, Bool, true, List, Option, Some, None, length}
use Rattle.std.specs.List.{AllByRecursion}
use Rattle.pcl_base.specs.declared.message.Message.{Message}
use Rattle.pcl_base.specs.declared.tx.Mode.TheVariants.{Exclusive}
use Rattle.pcl_base.specs.declared.tx.TxId.{TxId}
use Rattle.run_rules.specs.Now.{now}
use Rattle.node_rules.specs.NodeState.{partition}
use Rattle.cluster_rules.specs.Clusters.{Cluster, node_at, last_view}
use Rattle.page_protocol.specs.Bytes.{Copy}
use Rattle.page_protocol.specs.State.{Right, NoRight, Flying, Shelf, Returning, Dead, Holding, Page, current}
use Rattle.cluster_laws.specs.Era.Eras.{era_at}
use Rattle.cluster_laws.specs.Link.Coming.{coming}
use Rattle.cluster_laws.specs.Link.Orders.{AreOrdered}
use Rattle.page_laws.specs.Storage.Looks.{IsStored}
use Rattle.page_laws.specs.Moment.Looks.{HasPage, accesses_in}
use Rattle.page_laws.specs.Written.Written.{DiffersWithin}
use Rattle.page_relation.specs.Looks.{slot_of, dirty_of, shelf_of}
use Rattle.page_relation.specs.Homes.{StandsIn, KindIn, ImageIn, runs_in}
use Rattle.page_relation.specs.Messages.{SaysSo, AreOnce}
use Rattle.page_relation.specs.Tables.{TableOf, serves_in, EraIs, ReachedIn}

-- The copies of the page at the nodes. A dirty one stands at the owner that serves alone.
pub record CopiesAre (c : Cluster) (p : ℕ) (slot : ℕ → Option Copy) (owner : ℕ) (dirty : Bool) : Type 0 where
  pub slot_same : (n : ℕ) → slot_of c n p ≡ slot n
  pub dirty_same : (n : ℕ) → dirty_of c n p ≡ (dirty && n == owner)

-- The transactions, at their home nodes. Scripts are those of the trace. Where a transaction stands is a
-- relation: what it told with its request, and what became of it after its end, the node has forgotten.
pub record HomesAre (c : Cluster) (p : ℕ) (page : Copy) (a : Page) : Type 0 where
  pub stands : (t : TxId) → StandsIn (last_view c).epoch (node_at c t.node) t p (a.home t)
  pub kinds : (t : TxId) → KindIn (node_at c t.node) t p
  pub scripts : (t : TxId) → a.script t ≡ accesses_in t p c.trace
  pub images : (t : TxId) → ImageIn (node_at c t.node) t p (a.home t) (a.image t)
  pub written : (t : TxId) → a.home t ≡ Holding Exclusive → DiffersWithin (runs_in (node_at c t.node) t p) page.bytes (a.image t)

-- the version of a right on its node's shelf
abbrev pub on_shelf : Right → Option ℕ
on_shelf NoRight = None
on_shelf (Flying g) = None
on_shelf (Shelf v) = Some v
on_shelf (Returning upto readers) = None
on_shelf Dead = None

-- The nodes: their rights and the eras that they have reached. Whether a right that is on no shelf is on
-- its way, was given back or was lost is known to the links and to the machine alone.
pub record NodesAre (c : Cluster) (p q era : ℕ) (right : ℕ → Right) (reached : ℕ → ℕ) : Type 0 where
  pub shelves : (n : ℕ) → shelf_of c n p ≡ on_shelf (right n)
  pub eras : (n : ℕ) → ReachedIn c q era (node_at c n) (reached n)

-- The tables. Of an era that no node has a table of, `listed` is free but for what reports say.
pub record TablesAre (c : Cluster) (p q : ℕ) (a : Page) : Type 0 where
  pub tables : (n : ℕ) → TableOf a p q n (node_at c n)
  pub serving : a.served ≡ true → serves_in (node_at c a.owner) q ≡ true
  pub era : EraIs c q a.era a.owner

-- what each message says that counts
abbrev pub MessageIs : Cluster → ℕ → ℕ → Page → ℕ → ℕ → Message → Type 0
MessageIs c p q a from to m =
    SaysSo a.era a.hist a.reached a.listed a.right a.home a.sent p from to (era_at c q m.epoch) m.body

-- The links: what is on its way and counts agrees with the machine, in its order, and what is taken once
-- is there once. Nothing is asked the other way round: a release, a right or a grant may have been lost.
pub record LinksAre (c : Cluster) (p q : ℕ) (a : Page) : Type 0 where
  pub say : (from to : ℕ) → AllByRecursion (MessageIs c p q a from to) (coming c p from to)
  pub ordered : (from to : ℕ) → AreOrdered 0 (coming c p from to)
  pub once : (from to : ℕ) → AreOnce (coming c p from to)

-- What is true of the page. The current version and bytes are those of *now*; the history before and the
-- committed scripts are the machine's alone. No commit is made at the last version.
pub record HistoryIs (c : Cluster) (p : ℕ) (hist : ℕ → List ℕ) (cur : Copy) : Type 0 where
  pub now_same : HasPage (now c.config c.trace) p cur
  pub below : cur.version < 2 ^ 64
  pub sizes : (v : ℕ) → length (hist v) ≡ c.config.size

-- A cluster and a state of the machine of page p are related.
pub record IsPageOf (c : Cluster) (p : ℕ) (a : Page) : Type 0 where
  pub history : HistoryIs c p a.hist (current a)
  pub stored : IsStored c.config c.disk p a.disk a.log
  pub copies : CopiesAre c p a.slot a.owner a.dirty
  pub homes : HomesAre c p (current a) a
  pub nodes : NodesAre c p (partition c.config p) a.era a.right a.reached
  pub tables : TablesAre c p (partition c.config p) a
  pub links : LinksAre c p (partition c.config p) a
