-- Homes of transactions that went on.
use Rattle.std.proofs.Common.{ℕ, Bool, true, false, List, Option, Some, None}
use Rattle.pcl_base.specs.declared.lock.Waiter.{Waiter}
use Rattle.pcl_base.specs.declared.message.Body.{Body}
use Rattle.pcl_base.specs.declared.message.Body.TheVariants as body
use Rattle.pcl_base.specs.declared.message.Report.{Report}
use Rattle.pcl_base.specs.declared.message.ReportWait.{ReportWait}
use Rattle.pcl_base.specs.declared.tx.TxId.{TxId}
use Rattle.node_rules.specs.LockTable.{LockTable, entry_at}
use Rattle.node_rules.specs.NodeState.{NodeState, table_at}
use Rattle.node_laws.proofs.Lists.{all_weaker}
use Rattle.cluster_rules.specs.Clusters.{Cluster, node_at, version_of_change}
use Rattle.cluster_laws.specs.Era.Eras.{era_at, era_in}
use Rattle.cluster_laws.specs.Link.Coming.{coming}
use Rattle.page_protocol.specs.Bytes.{Access, Copy}
use Rattle.page_protocol.specs.State.{Home, Page}
use Rattle.page_relation.specs.Messages.{HasAsked, WaitIs, ReportIs, SaysSo}
use Rattle.page_relation.specs.Relation.{LinksAre, TablesAre, MessageIs}
use Rattle.page_relation.specs.Tables.{WaiterIs, TableIs, TableIn, TableOf}
use Rattle.settle_relation.specs.Grant.Going.{GoesOn, gone_on, TablesGoOn, LinksGoOn}

module _ (a : Page) (home : TxId → Home) (slot : ℕ → Option Copy) (script : TxId → List Access) (image : TxId → List ℕ) (on : (t : TxId) → GoesOn (a.home t) (home t)) where
  abbrev next : Page
  next = gone_on a home slot script image

  asked_on : (r e : ℕ) (t : TxId) (have : Option ℕ) → HasAsked r e (a.home t) have → HasAsked r e (home t) have
  asked_on r e t have is = record { begun = λ f. is.begun ((on t).begun f); told = λ same. (on t).told have (is.told same) }

  waiter_on : (e : ℕ) (w : Waiter) → WaiterIs a.reached a.home e w → WaiterIs a.reached home e w
  waiter_on e w is = asked_on (a.reached w.tx.node) e w.tx w.have is

  table_on : (p n e : ℕ) (b : Bool) (t : LockTable) → TableIs a p n e b t → TableIs next p n e b t
  table_on p n e true t is =
      record {
        serves = is.serves;
        here = is.here;
        now = is.now;
        version = is.version;
        holders = is.holders;
        rights = is.rights;
        waiting = all_weaker (WaiterIs a.reached a.home a.era) (WaiterIs a.reached home a.era) (λ w old. waiter_on a.era w old) (entry_at t p).waiting is.waiting;
        writers = is.writers;
      }
  table_on p n e false t is =
      record {
        later = is.later;
        reaches = is.reaches;
        holders = is.holders;
        rights = is.rights;
        waiting = all_weaker (WaiterIs a.reached a.home e) (WaiterIs a.reached home e) (λ w old. waiter_on e w old) (entry_at t p).waiting is.waiting;
        writers = is.writers;
      }

  table_in_on : (p n e : ℕ) (o : Option LockTable) → TableIn a p n e o → TableIn next p n e o
  table_in_on p n e None is = tt
  table_in_on p n e (Some t) is = table_on p n e t.serving t is

  node_on : (p q n : ℕ) (o : Option NodeState) → TableOf a p q n o → TableOf next p q n o
  node_on p q n None is = tt
  node_on p q n (Some s) is = table_in_on p n (era_in s.view q) (table_at s q) is

  pub tables_on : (d : Cluster) (p q : ℕ) → TablesAre d p q a → TablesAre d p q next
  tables_on d p q is = record { tables = λ n. node_on p q n (node_at d n) (is.tables n); serving = is.serving; era = is.era }

  wait_on : (p e : ℕ) (w : ReportWait) → WaitIs a.reached a.home p e w → WaitIs a.reached home p e w
  wait_on p e w is at = asked_on (a.reached w.tx.node) e w.tx w.have (is at)

  report_on : (p from e : ℕ) (r : Report) → ReportIs a.era a.reached a.listed a.right a.home p from e r → ReportIs a.era a.reached a.listed a.right home p from e r
  report_on p from e r is =
      record {
        later = is.later;
        reaches = is.reaches;
        locks = is.locks;
        rights = is.rights;
        waits = all_weaker (WaitIs a.reached a.home p e) (WaitIs a.reached home p e) (λ w old. wait_on p e w old) r.waits is.waits;
      }

  says_on : (p from to e : ℕ) (b : Body) → SaysSo a.era a.hist a.reached a.listed a.right a.home a.sent p from to e b
      → SaysSo a.era a.hist a.reached a.listed a.right home a.sent p from to e b
  says_on p from to e (body.Request r) is = asked_on (a.reached r.tx.node) e r.tx r.have is
  says_on p from to e (body.Grant g) is = is
  says_on p from to e (body.Release r) is = ((on r.tx).ended (version_of_change r.change) e is.0, is.1)
  says_on p from to e (body.Revoke page) is = is
  says_on p from to e (body.Return r) is = is
  says_on p from to e (body.Report r) is = report_on p from e r is

  pub links_on : (d : Cluster) (p q : ℕ) → LinksAre d p q a → LinksAre d p q next
  links_on d p q is =
      record {
        say = λ from to.
            all_weaker (MessageIs d p q a from to) (MessageIs d p q next from to) (λ m old. says_on p from to (era_at d q m.epoch) m.body old) (coming d p from to) (is.say from to);
        ordered = is.ordered;
        once = is.once;
      }

pub tables_go_on_law : TablesGoOn
tables_go_on_law d p q a home slot script image on is = tables_on a home slot script image on d p q is

pub links_go_on_law : LinksGoOn
links_go_on_law d p q a home slot script image on is = links_on a home slot script image on d p q is

-- a home that stays
pub stays_on : (h : Home) → GoesOn h h
stays_on h = record { begun = λ f. f; told = λ have is. is; ended = λ change e is. is }
