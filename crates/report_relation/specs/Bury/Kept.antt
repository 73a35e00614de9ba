-- What a partition that the acting node keeps needs of the machine before an install works it off.
use Rattle.std.specs.Prelude.{◌≡◌, ℕ, ◌<◌, ◌≤◌, ◌==◌, true, false, List, Some}
use Rattle.std.specs.List.{AllByRecursion}
use Rattle.pcl_base.specs.declared.event.Event.{Event}
use Rattle.pcl_base.specs.declared.message.Message.{Message}
use Rattle.run_rules.specs.Views.{View, born_of, is_live, since_of}
use Rattle.node_rules.specs.InstallRule.{purge_table, purge_work}
use Rattle.node_rules.specs.LockRule.{has_right}
use Rattle.node_rules.specs.LockTable.{LockTable, entry_at, marked}
use Rattle.node_rules.specs.NodeState.{partition, table_at}
use Rattle.node_rules.specs.Work.{Work}
use Rattle.cluster_rules.specs.Clusters.{Cluster, node_at, view_of_epoch}
use Rattle.cluster_laws.specs.Era.Eras.{born_at, era_in}
use Rattle.kept_relation.specs.Clearing.{IsClear}
use Rattle.kept_relation.specs.Emptying.{AreDead, dead_below, nobody}
use Rattle.kept_relation.specs.Known.{dead_of, gone_in}
use Rattle.kept_relation.specs.Purging.{AreSpared, FitsRebuilt, HasNoTable}
use Rattle.cluster_laws.specs.Link.Coming.{coming}
use Rattle.page_protocol.specs.State.{Page}
use Rattle.page_protocol.specs.Steps.{Reached}
use Rattle.page_relation.specs.Messages.{is_answer}
use Rattle.page_laws.specs.Storage.Looks.{is_among}
use Rattle.page_relation.specs.Work.Events.{IsEntered}
use Rattle.page_relation.specs.Work.Keeping.{IsWorkOf, Leads}
use Rattle.page_relation.specs.Work.Landing.{land, Acts}
use Rattle.report_relation.specs.Bury.Past.{HoldersLive, IsOwner, OthersLive}
use Rattle.report_relation.specs.Bury.Whole.{IsAwaited, IsKnown, ReadersAreBorn, UsersAreBorn}

-- an answer is of a life of its sender that began before an epoch
abbrev pub AnswerIsOld : Cluster → ℕ → ℕ → Message → Type 0
AnswerIsOld c from epoch m = is_answer m.body ≡ true → born_at c from m.epoch < epoch

-- What is known of a partition of which the acting node keeps the table, from an earlier view to the one that it installs:
-- holders and rights in the table are of the earlier view's lives and nodes, as the holders in other tables are of theirs; who
-- used the page, or has it on a shelf, was born before the new view, and so was who answers of the nodes that it doesn't list.
pub record IsKept (c : Cluster) (e : Event) (n p : ℕ) (old v : View) (w : Work) (t : LockTable) : Type 0 where
  pub owner : IsOwner c e n p v w
  pub earlier : view_of_epoch c.views old.epoch ≡ Some old
  pub rises : old.epoch ≤ v.epoch
  pub there : table_at w.node (partition c.config p) ≡ Some t
  pub holders : HoldersLive old t p
  pub rights : (m : ℕ) → has_right (entry_at t p).rights m ≡ true → is_live old.live m ≡ true
  pub others : OthersLive c n p
  pub users : UsersAreBorn c e n p w v.epoch
  pub readers : ReadersAreBorn c e n p w v.epoch
  pub behind : (to : ℕ) → AllByRecursion (λ (m : Message). m.epoch ≤ v.epoch) (coming (land c e n w) p n to)
  pub answers : (from to : ℕ) → is_live v.live from ≡ false → AllByRecursion (AnswerIsOld c from v.epoch) (coming (land c e n w) p from to)

-- Where it serves, the machine comes to a state of the same work that is clear of the nodes that the new view drops.
abbrev pub KeptIsClear : Type 0
KeptIsClear =
    (c : Cluster) (e : Event) (n p k : ℕ) (old v : View) (lost : List ℕ) (t : LockTable) (blank : List ℕ) (w : Work) (a : Page) → Acts c n → partition c.config p < c.config.nodes
    → IsKept c e n p old v w t → t.serving ≡ true → ((m : ℕ) → gone_in (is_live old.live) v m ≡ true → is_among lost m ≡ true) → ((m : ℕ) → is_live old.live m ≡ true → m < k)
    → Reached blank a → IsWorkOf c e n p w a → IsEntered a
    → Leads c e n p (λ x b. IsEntered b × IsClear c e n p v lost k (dead_of (is_live old.live) v) (gone_in (is_live old.live) v) x b) a w

-- what a table needs that is still being rebuilt
pub record IsClearEarly (c : Cluster) (e : Event) (n p k : ℕ) (old v : View) (t : LockTable) (w : Work) (a : Page) : Type 0 where
  pub are : AreDead a (era_in w.node.view (partition c.config p)) (dead_of (is_live old.live) v) (gone_in (is_live old.live) v)
  pub fits : FitsRebuilt v.live a (era_in w.node.view (partition c.config p)) t (dead_below k (dead_of (is_live old.live) v))
  pub alone : (m : ℕ) → (m == n) ≡ false → HasNoTable (partition c.config p) (era_in w.node.view (partition c.config p)) (node_at c m)
  pub spared : AreSpared c e n p w a (era_in w.node.view (partition c.config p)) (dead_below k (dead_of (is_live old.live) v)) nobody

-- Where it is being rebuilt, the machine comes to a state of the same work that has that.
abbrev pub KeptIsClearEarly : Type 0
KeptIsClearEarly =
    (c : Cluster) (e : Event) (n p k : ℕ) (old v : View) (t : LockTable) (blank : List ℕ) (w : Work) (a : Page) → Acts c n → partition c.config p < c.config.nodes
    → IsKept c e n p old v w t → t.serving ≡ false → ((m : ℕ) → is_live old.live m ≡ true → m < k) → Reached blank a → IsWorkOf c e n p w a → IsEntered a
    → Leads c e n p (λ x b. IsEntered b × IsClearEarly c e n p k old v t x b) a w

-- After the purge the holders are of lives in the new view, where nodes of both views go on with their lives.
abbrev pub PurgedAreLiving : Type 0
PurgedAreLiving =
    (old v : View) (t : LockTable) (p : ℕ) → ((m : ℕ) → is_live old.live m ≡ true → is_live v.live m ≡ true → born_of v m ≡ born_of old m) → HoldersLive old t p
    → HoldersLive v (purge_table v.live t) p

-- Where none of its reports is missing then, it is known whole once it is purged.
abbrev pub PurgedIsKnown : Type 0
PurgedIsKnown =
    (c : Cluster) (e : Event) (n p : ℕ) (old v : View) (t : LockTable) (w : Work) → Acts c n → IsKept c e n p old v w t
    → ((m : ℕ) → is_live old.live m ≡ true → is_live v.live m ≡ true → born_of v m ≡ born_of old m) → marked t n ≡ true
    → UsersAreBorn c e n p w (since_of v (partition c.config p)) → ReadersAreBorn c e n p w (since_of v (partition c.config p))
    → ((from : ℕ) → AllByRecursion (IsAwaited c n (partition c.config p) t (since_of v (partition c.config p)) from) (coming (land c e n w) p from n))
    → IsKnown c e n p v (purge_work (partition c.config p) v w) (purge_table v.live t)
