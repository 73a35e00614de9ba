-- The purge of a table at an install, and the relation after it.
use Rattle.std.specs.Prelude.{◌≡◌, ℕ, ◌==◌, Bool, true, false, List, Option, Some, None, ⊤}
use Rattle.std.specs.List.{AllByRecursion}
use Rattle.pcl_base.specs.declared.event.Event.{Event}
use Rattle.pcl_base.specs.declared.message.Body.{Body}
use Rattle.pcl_base.specs.declared.message.Body.TheVariants as body
use Rattle.pcl_base.specs.declared.message.Message.{Message}
use Rattle.pcl_base.specs.declared.tx.TxId.{TxId}
use Rattle.run_rules.specs.Views.{View}
use Rattle.node_rules.specs.InstallRule.{purge_work}
use Rattle.node_rules.specs.LockTable.{LockTable, marked}
use Rattle.node_rules.specs.NodeState.{NodeState, partition, table_at}
use Rattle.node_rules.specs.Words.{flag_at}
use Rattle.node_rules.specs.Work.{Work}
use Rattle.cluster_rules.specs.Clusters.{Cluster, node_at}
use Rattle.cluster_laws.specs.Era.Eras.{era_at, era_in}
use Rattle.cluster_laws.specs.Link.Coming.{coming}
use Rattle.page_protocol.specs.State.{NoRight, Page, IsShelf}
use Rattle.page_relation.specs.Messages.{CountsFor}
use Rattle.page_relation.specs.Work.Events.{IsEntered}
use Rattle.page_relation.specs.Work.Keeping.{IsWorkOf, Leads}
use Rattle.page_relation.specs.Work.Landing.{land, Acts}
use Rattle.kept_relation.specs.Emptying.{emptied, dead_below, gone_below, nobody, AreDead, AreGone}

-- A message of an era from a node to another still says what is so after the purge of era e: nothing that comes and
-- counts is a release or a report of a dead transaction to that era, an answer of a node that is gone, or a grant to one.
abbrev pub IsSpared : Page → ℕ → (TxId → Bool) → (ℕ → Bool) → ℕ → ℕ → ℕ → Body → Type 0
IsSpared a e dead gone from to f (body.Request r) = ⊤
IsSpared a e dead gone from to f (body.Grant g) = f ≡ a.era → gone to ≡ false
IsSpared a e dead gone from to f (body.Release r) = f ≡ e → dead r.tx ≡ false
IsSpared a e dead gone from to f (body.Revoke page) = ⊤
IsSpared a e dead gone from to f (body.Return r) = f ≡ a.era → gone from ≡ false
IsSpared a e dead gone from to f (body.Report r) = f ≡ e → (t : TxId) → t.node ≡ from → dead t ≡ false

abbrev pub SparedIn : Cluster → ℕ → Page → ℕ → (TxId → Bool) → (ℕ → Bool) → ℕ → ℕ → Message → Type 0
SparedIn d q a e dead gone from to m = IsSpared a e dead gone from to (era_at d q m.epoch) m.body

-- the same of all that comes of the page
abbrev pub AreSpared : Cluster → Event → ℕ → ℕ → Work → Page → ℕ → (TxId → Bool) → (ℕ → Bool) → Type 0
AreSpared c v n p w a e dead gone =
    (from to : ℕ) → AllByRecursion (SparedIn (land c v n w) (partition c.config p) a e dead gone from to) (coming (land c v n w) p from to)

-- Whom the purge of a table that serves leaves: none of a live node is dead, all of others that are listed are, and all
-- rights of others are of nodes that are gone.
pub record FitsServed (live : List Bool) (a : Page) (dead : TxId → Bool) (gone : ℕ → Bool) : Type 0 where
  pub spared : (t : TxId) → flag_at live t.node ≡ true → dead t ≡ false
  pub listed : (t : TxId) → flag_at live t.node ≡ false → dead t ≡ false → a.listed t a.era ≡ None
  pub rights : (m : ℕ) → flag_at live m ≡ false → gone m ≡ false → a.right m ≡ NoRight

-- The same of a table that is being rebuilt for era e; no right of another node counts for it.
pub record FitsRebuilt (live : List Bool) (a : Page) (e : ℕ) (t : LockTable) (dead : TxId → Bool) : Type 0 where
  pub spared : (u : TxId) → flag_at live u.node ≡ true → dead u ≡ false
  pub listed : (u : TxId) → flag_at live u.node ≡ false → dead u ≡ false → marked t u.node ≡ true → a.listed u e ≡ None
  pub rights : (m : ℕ) → marked t m ≡ true → CountsFor e (a.right m) → flag_at live m ≡ true

-- no table of era e at a node
abbrev pub HasNoTable : ℕ → ℕ → Option NodeState → Type 0
HasNoTable q e None = ⊤
HasNoTable q e (Some s) = (t : LockTable) → table_at s q ≡ Some t → era_in s.view q ≡ e → ⊥

-- The purge of a table that serves keeps the relation, with the state of the machine without the dead.
abbrev pub PurgingIsRelated : Type 0
PurgingIsRelated =
    (c : Cluster) (e : Event) (n p : ℕ) (t : LockTable) (v : View) (w : Work) (a : Page) (dead : TxId → Bool) (gone : ℕ → Bool) → Acts c n
    → table_at w.node (partition c.config p) ≡ Some t → t.serving ≡ true → ((m : ℕ) → gone m ≡ true → IsShelf (a.right m) → ⊥)
    → FitsServed v.live a dead gone → AreSpared c e n p w a a.era dead gone → IsWorkOf c e n p w a → IsWorkOf c e n p (purge_work (partition c.config p) v w) (emptied a a.era dead gone)

-- So does that of a table that is being rebuilt.
abbrev pub PurgingEarlyIsRelated : Type 0
PurgingEarlyIsRelated =
    (c : Cluster) (e : Event) (n p : ℕ) (t : LockTable) (v : View) (w : Work) (a : Page) (dead : TxId → Bool) → Acts c n
    → table_at w.node (partition c.config p) ≡ Some t → t.serving ≡ false
    → FitsRebuilt v.live a (era_in w.node.view (partition c.config p)) t dead
    → ((m : ℕ) → (m == n) ≡ false → HasNoTable (partition c.config p) (era_in w.node.view (partition c.config p)) (node_at c m))
    → AreSpared c e n p w a (era_in w.node.view (partition c.config p)) dead nobody → IsWorkOf c e n p w a
    → IsWorkOf c e n p (purge_work (partition c.config p) v w) (emptied a (era_in w.node.view (partition c.config p)) dead nobody)

-- Where moreover the dead are closed, no later era lists them, and no log of a node that is gone has the next change, the
-- machine comes there.
abbrev pub PurgingLeads : Type 0
PurgingLeads =
    (c : Cluster) (e : Event) (n p k : ℕ) (t : LockTable) (v : View) (w : Work) (a : Page) (dead : TxId → Bool) (gone : ℕ → Bool) → Acts c n
    → table_at w.node (partition c.config p) ≡ Some t → t.serving ≡ true → AreDead a a.era dead gone → AreGone a gone
    → FitsServed v.live a (dead_below k dead) (gone_below k gone) → AreSpared c e n p w a a.era (dead_below k dead) (gone_below k gone) → IsWorkOf c e n p w a
    → IsEntered a → Leads c e n p (λ x b. IsEntered b) a (purge_work (partition c.config p) v w)

abbrev pub PurgingEarlyLeads : Type 0
PurgingEarlyLeads =
    (c : Cluster) (e : Event) (n p k : ℕ) (t : LockTable) (v : View) (w : Work) (a : Page) (dead : TxId → Bool) (gone : ℕ → Bool) → Acts c n
    → table_at w.node (partition c.config p) ≡ Some t → t.serving ≡ false → AreDead a (era_in w.node.view (partition c.config p)) dead gone
    → FitsRebuilt v.live a (era_in w.node.view (partition c.config p)) t (dead_below k dead)
    → ((m : ℕ) → (m == n) ≡ false → HasNoTable (partition c.config p) (era_in w.node.view (partition c.config p)) (node_at c m))
    → AreSpared c e n p w a (era_in w.node.view (partition c.config p)) (dead_below k dead) nobody → IsWorkOf c e n p w a → IsEntered a
    → Leads c e n p (λ x b. IsEntered b) a (purge_work (partition c.config p) v w)
