-- What is needed of several pages at once, and of the cluster beside its pages.
use Rattle.std.specs.Prelude.{◌≡◌, ℕ, ◌<◌, true, List, Option, Some, None, ⊤, IfSome}
use Rattle.std.specs.List.{AllByRecursion}
use Rattle.pcl_base.specs.declared.lock.Pending.{Pending}
use Rattle.pcl_base.specs.declared.message.Body.{Body}
use Rattle.pcl_base.specs.declared.message.Body.TheVariants as body
use Rattle.pcl_base.specs.declared.message.Message.{Message}
use Rattle.pcl_base.specs.declared.message.ReportLock.{ReportLock}
use Rattle.pcl_base.specs.declared.message.ReportWait.{ReportWait}
use Rattle.pcl_base.specs.declared.tx.TxId.{TxId}
use Rattle.run_rules.specs.Views.{View, is_live, since_of, born_of, owner_of}
use Rattle.node_rules.specs.NodeState.{NodeState, partition}
use Rattle.node_rules.specs.OpenTxs.{pending_of}
use Rattle.cluster_rules.specs.Clusters.{Cluster, node_at, view_of_epoch}
use Rattle.cluster_rules.specs.Links.{link_at}
use Rattle.cluster_laws.specs.Sound.{IsCluster}
use Rattle.page_protocol.specs.State.{Page}
use Rattle.page_protocol.specs.Steps.{Reached}
use Rattle.cluster_laws.specs.Call.CallLaws.{HaveWholeLogs}
use Rattle.cluster_laws.specs.Link.EpochLaws.{IsInOrder}
use Rattle.page_laws.specs.Moment.Looks.{asked_last}
use Rattle.page_relation.specs.Relation.{IsPageOf}

-- An access that waits is the last one that its transaction asked for, so a script gets its bytes.
abbrev pub WaitsAsAsked : Cluster → TxId → Option NodeState → Type 0
WaitsAsAsked c t None = ⊤
WaitsAsAsked c t (Some s) = IfSome (pending_of s.home.txs t) (λ (w : Pending). w.write ≡ asked_last t c.trace)

-- a transaction of a node in its life in a view
pub record IsOf (v : View) (n : ℕ) (t : TxId) : Type 0 where
  pub node : t.node ≡ n
  pub born : t.born ≡ born_of v n

-- Who sends what to whom, in the view of the message's epoch: requests, releases, answers and reports go to
-- the owner, grants and revocations come from it; a report is of a partition whose owner is new; and
-- transactions are those of the home's life.
abbrev pub PartiesAre : Cluster → View → ℕ → ℕ → ℕ → Body → Type 0
PartiesAre c v a b e (body.Request r) = (owner_of v (partition c.config r.page) ≡ b) × IsOf v a r.tx
PartiesAre c v a b e (body.Grant g) = (owner_of v (partition c.config g.page) ≡ a) × IsOf v b g.tx
PartiesAre c v a b e (body.Release r) = (owner_of v (partition c.config r.page) ≡ b) × IsOf v a r.tx
PartiesAre c v a b e (body.Revoke page) = owner_of v (partition c.config page) ≡ a
PartiesAre c v a b e (body.Return r) = (owner_of v (partition c.config r.page) ≡ b) × AllByRecursion (IsOf v a) r.readers
PartiesAre c v a b e (body.Report r) =
    (owner_of v r.partition ≡ b) × (since_of v r.partition ≡ e) × AllByRecursion (λ (x : ReportLock). IsOf v a x.tx) r.locks
    × AllByRecursion (λ (x : ReportWait). IsOf v a x.tx) r.waits

-- a message on the link from a to b, of the epoch of a view in which its sender is live
pub record IsParty (c : Cluster) (a b : ℕ) (m : Message) : Type 0 where
  pub view : View
  pub made : view_of_epoch c.views m.epoch ≡ Some view
  pub live : is_live view.live a ≡ true
  pub parties : PartiesAre c view a b m.epoch m.body

-- Each page is related to a state that the machine of one page reaches. Histories, commits and grants that
-- were sent are of one page each: pages share nothing but the cluster.
pub record HasPages (blank : List ℕ) (c : Cluster) : Type 0 where
  pub page : ℕ → Page
  pub reached : (p : ℕ) → p < c.config.pages → Reached blank (page p)
  pub related : (p : ℕ) → p < c.config.pages → IsPageOf c p (page p)

-- What holds of every cluster of a run.
pub record IsRelated (blank : List ℕ) (c : Cluster) : Type 0 where
  pub cluster : IsCluster c
  pub asked : (t : TxId) → WaitsAsAsked c t (node_at c t.node)
  pub logs : HaveWholeLogs c
  pub order : IsInOrder c
  pub parties : (a b : ℕ) → AllByRecursion (IsParty c a b) (link_at c.links a b)
  pub pages : HasPages blank c
