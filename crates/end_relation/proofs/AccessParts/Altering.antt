-- A state of the machine in which transactions stand elsewhere, or have accessed more: what is said of tables and
-- messages stays.
use Rattle.std.proofs.Common.{ℕ, Bool, true, false, List, Option, Some, None}
use Rattle.pcl_base.specs.declared.lock.Waiter.{Waiter}
use Rattle.pcl_base.specs.declared.message.Body.{Body}
use Rattle.pcl_base.specs.declared.message.Body.TheVariants as body
use Rattle.pcl_base.specs.declared.message.Report.{Report}
use Rattle.pcl_base.specs.declared.message.ReportWait.{ReportWait}
use Rattle.pcl_base.specs.declared.tx.TxId.{TxId}
use Rattle.node_rules.specs.LockTable.{LockTable, entry_at}
use Rattle.node_rules.specs.NodeState.{NodeState, table_at}
use Rattle.node_laws.proofs.Lists.{all_weaker}
use Rattle.cluster_rules.specs.Clusters.{Cluster, node_at, version_of_change}
use Rattle.cluster_laws.specs.Era.Eras.{era_at, era_in}
use Rattle.cluster_laws.specs.Link.Coming.{coming}
use Rattle.page_protocol.specs.Bytes.{Access}
use Rattle.page_protocol.specs.State.{Home, Page}
use Rattle.page_relation.specs.Messages.{WaitIs, ReportIs, SaysSo}
use Rattle.page_relation.specs.Relation.{TablesAre, LinksAre, MessageIs}
use Rattle.page_relation.specs.Tables.{WaiterIs, TableIs, TableIn, TableOf}
use Rattle.end_relation.specs.Access.Altered.{altered, MayBecome}

module _ (a : Page) (homes : TxId → Home) (scripts : TxId → List Access) (images : TxId → List ℕ) (may : (t : TxId) → MayBecome (a.home t) (homes t)) where
  abbrev next : Page
  next = altered a homes scripts images

  -- the tables
  waiter_after : (e : ℕ) (w : Waiter) → WaiterIs a.reached a.home e w → WaiterIs a.reached homes e w
  waiter_after e w is = (may w.tx).asked (a.reached w.tx.node) e w.have is

  served_after : (p m e : ℕ) (t : LockTable) → TableIs a p m e true t → TableIs next p m e true t
  served_after p m e t is =
      record {
        serves = is.serves;
        here = is.here;
        now = is.now;
        version = is.version;
        holders = is.holders;
        rights = is.rights;
        waiting = all_weaker (WaiterIs a.reached a.home a.era) (WaiterIs a.reached homes a.era) (waiter_after a.era) (entry_at t p).waiting is.waiting;
        writers = is.writers;
      }

  rebuilt_after : (p m e : ℕ) (t : LockTable) → TableIs a p m e false t → TableIs next p m e false t
  rebuilt_after p m e t is =
      record {
        later = is.later;
        reaches = is.reaches;
        holders = is.holders;
        rights = is.rights;
        waiting = all_weaker (WaiterIs a.reached a.home e) (WaiterIs a.reached homes e) (waiter_after e) (entry_at t p).waiting is.waiting;
        writers = is.writers;
      }

  table_after : (p m e : ℕ) (o : Option LockTable) → TableIn a p m e o → TableIn next p m e o
  table_after p m e None is = tt
  table_after p m e (Some t) is = by t.serving is
    where
      by : (b : Bool) → TableIs a p m e b t → TableIs next p m e b t
      by true old = served_after p m e t old
      by false old = rebuilt_after p m e t old

  node_after : (p q m : ℕ) (o : Option NodeState) → TableOf a p q m o → TableOf next p q m o
  node_after p q m None is = tt
  node_after p q m (Some s) is = table_after p m (era_in s.view q) (table_at s q) is

  pub tables_altered : (d : Cluster) (p q : ℕ) → TablesAre d p q a → TablesAre d p q next
  tables_altered d p q is = record { tables = λ m. node_after p q m (node_at d m) (is.tables m); serving = is.serving; era = is.era }

  -- the messages
  report_after : (p from e : ℕ) (r : Report) → ReportIs a.era a.reached a.listed a.right a.home p from e r → ReportIs a.era a.reached a.listed a.right homes p from e r
  report_after p from e r is =
      record {
        later = is.later;
        reaches = is.reaches;
        locks = is.locks;
        rights = is.rights;
        waits =
            all_weaker (WaitIs a.reached a.home p e) (WaitIs a.reached homes p e) (λ (w : ReportWait) old at. (may w.tx).asked (a.reached w.tx.node) e w.have (old at)) r.waits is.waits;
      }

  says_after : (p from to e : ℕ) (b : Body) → SaysSo a.era a.hist a.reached a.listed a.right a.home a.sent p from to e b
      → SaysSo a.era a.hist a.reached a.listed a.right homes a.sent p from to e b
  says_after p from to e (body.Request r) is = (may r.tx).asked (a.reached r.tx.node) e r.have is
  says_after p from to e (body.Grant g) is = is
  says_after p from to e (body.Release r) is = ((may r.tx).ended (version_of_change r.change) e is.0, is.1)
  says_after p from to e (body.Revoke page) is = is
  says_after p from to e (body.Return r) is = is
  says_after p from to e (body.Report r) is = report_after p from e r is

  pub links_altered : (d : Cluster) (p q : ℕ) → LinksAre d p q a → LinksAre d p q next
  links_altered d p q is =
      record {
        say = λ from to.
            all_weaker (MessageIs d p q a from to) (MessageIs d p q next from to) (λ m old. says_after p from to (era_at d q m.epoch) m.body old) (coming d p from to) (is.say from to);
        ordered = is.ordered;
        once = is.once;
      }
