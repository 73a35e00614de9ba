-- A step of the machine at the home of a transaction alone, and a work that has the state after it.
use Rattle.std.specs.Prelude.{◌≡◌, ℕ, ◌==◌, false, List, Option, Some}
use Rattle.pcl_base.specs.declared.event.Event.{Event}
use Rattle.pcl_base.specs.declared.tx.Mode.TheVariants.{Exclusive}
use Rattle.pcl_base.specs.declared.tx.TxId.{TxId}
use Rattle.run_rules.specs.Now.{now}
use Rattle.node_rules.specs.NodeState.{partition, table_at}
use Rattle.node_rules.specs.Work.{Work}
use Rattle.cluster_rules.specs.Clusters.{Cluster, last_view}
use Rattle.cluster_rules.specs.ClusterStep.{is_taken}
use Rattle.page_laws.specs.Moment.Looks.{accesses_in}
use Rattle.page_protocol.specs.Bytes.{Access}
use Rattle.page_protocol.specs.State.{Home, Holding, Ended, Page, current}
use Rattle.page_relation.specs.Homes.{StandsIn, KindIn, ImageIn, runs_in}
use Rattle.page_relation.specs.Messages.{HasAsked}
use Rattle.page_laws.specs.Written.Written.{DiffersWithin}
use Rattle.page_relation.specs.Work.Keeping.{IsWorkOf}
use Rattle.page_relation.specs.Work.Landing.{Acts, trace_of, disk_of}
use Rattle.page_relation.specs.Work.Unseen.{SameStanding, SameCopy, SameRight, SameTable, SameStored, SameSends}

-- the state with other homes, scripts and private copies
abbrev pub altered : Page → (TxId → Home) → (TxId → List Access) → (TxId → List ℕ) → Page
altered a homes scripts images = record a { home = homes; script = scripts; image = images }

-- What may become of a home: who has asked has asked, and an end stays.
pub record MayBecome (old new : Home) : Type 0 where
  pub asked : (reached e : ℕ) (have : Option ℕ) → HasAsked reached e old have → HasAsked reached e new have
  pub ended : (change : Option ℕ) (e : ℕ) → old ≡ Ended change e → new ≡ Ended change e

-- A work in which the transactions of the acting node stand so, with these accesses and private copies, and in which
-- nothing else changed that is seen of the page.
pub record IsAltered (c : Cluster) (e : Event) (n p : ℕ) (w x : Work) (a : Page) (homes : TxId → Home) (scripts : TxId → List Access) (images : TxId → List ℕ) : Type 0 where
  pub may : (t : TxId) → MayBecome (a.home t) (homes t)
  pub standing : SameStanding w.node x.node
  pub copy : SameCopy p w.node.home x.node.home
  pub right : SameRight p w.node.home x.node.home
  pub table : SameTable p (table_at w.node (partition c.config p)) (table_at x.node (partition c.config p))
  pub stored : SameStored c.config p (disk_of c n w) (disk_of c n x)
  pub now_same : now c.config (trace_of c e n x) ≡ now c.config (trace_of c e n w)
  pub taken : is_taken x.replies ≡ is_taken w.replies
  pub sends : SameSends c.config p w.sends x.sends
  pub away : (t : TxId) → (t.node == n) ≡ false → (homes t ≡ a.home t) × (images t ≡ a.image t)
  pub stands : (t : TxId) → t.node ≡ n → StandsIn (last_view c).epoch (Some w.node) t p (a.home t) → StandsIn (last_view c).epoch (Some x.node) t p (homes t)
  pub kinds : (t : TxId) → t.node ≡ n → KindIn (Some w.node) t p → KindIn (Some x.node) t p
  pub told : (t : TxId) → scripts t ≡ accesses_in t p (trace_of c e n x)
  pub private : (t : TxId) → t.node ≡ n → ImageIn (Some w.node) t p (a.home t) (a.image t) → ImageIn (Some x.node) t p (homes t) (images t)
  pub written : (t : TxId) → t.node ≡ n → homes t ≡ Holding Exclusive → (a.home t ≡ Holding Exclusive → DiffersWithin (runs_in (Some w.node) t p) (current a).bytes (a.image t))
      → DiffersWithin (runs_in (Some x.node) t p) (current a).bytes (images t)

-- Such a work has the state.
abbrev pub AlteredIsRelated : Type 0
AlteredIsRelated =
    (c : Cluster) (e : Event) (n p : ℕ) (w x : Work) (a : Page) (homes : TxId → Home) (scripts : TxId → List Access) (images : TxId → List ℕ) → Acts c n
    → IsAltered c e n p w x a homes scripts images → IsWorkOf c e n p w a → IsWorkOf c e n p x (altered a homes scripts images)
