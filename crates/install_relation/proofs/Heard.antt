-- A node goes on to a later era: what tables say stays, where those of the node that wait have reached their era.
use Rattle.std.proofs.Common.{◌≡◌, refl, ap, sym, subst, ◌∙◌, ℕ, ◌≤◌, ◌<◌, Bool, true, false, Option, Some, None, arith}
use Rattle.std.specs.List.{AllByRecursion}
use Rattle.pcl_base.specs.declared.lock.Waiter.{Waiter}
use Rattle.pcl_base.specs.declared.tx.Mode.{Mode}
use Rattle.pcl_base.specs.declared.tx.TxId.{TxId}
use Rattle.node_rules.specs.LockTable.{LockTable, entry_at, marked}
use Rattle.node_rules.specs.NodeState.{NodeState, partition, table_at}
use Rattle.node_rules.specs.Words as rules
use Rattle.node_laws.proofs.Lists.{all_weaker}
use Rattle.cluster_rules.specs.Clusters.{Cluster, node_at}
use Rattle.cluster_laws.specs.Era.Eras.{era_in}
use Rattle.page_protocol.specs.Eras.{with_report}
use Rattle.page_protocol.specs.State.{Page, updn}
use Rattle.page_relation.specs.Tables.{WaiterIs, TableIs, TableIn, TableOf}
use Rattle.kept_relation.specs.Turn.Telling.{homes_told, reported_on}
use Rattle.kept_relation.proofs.TurnParts.Narrowing.{all_weaker_both}
use Rattle.kept_relation.proofs.TurnParts.Reaching.{reached_up}
use Rattle.kept_relation.proofs.TurnParts.Telling.{asked_on, listed_on}
use Rattle.install_relation.specs.Knowing.{IsHeardAt}

module _ (a : Page) (n next : ℕ) (low : a.era ≤ a.reached n) (below : a.reached n < next) where
  -- a table
  table_heard : (p m k : ℕ) (o : Option LockTable) → ((t : LockTable) → o ≡ Some t → AllByRecursion (λ (x : Waiter). x.tx.node ≡ n → k ≤ a.reached n) (entry_at t p).waiting)
      → TableIn a p m k o → TableIn (reported_on a n next) p m k o
  table_heard p m k None heard is = tt
  table_heard p m k (Some t) heard is = by t.serving is
    where
      by : (b : Bool) → TableIs a p m k b t → TableIs (reported_on a n next) p m k b t
      by true i =
          record {
            serves = i.serves;
            here = i.here;
            now = i.now;
            version = i.version;
            holders = λ u. i.holders u ∙ sym (listed_on a n next low below u a.era (λ at. low));
            rights = i.rights;
            waiting =
                all_weaker (WaiterIs a.reached a.home a.era) (WaiterIs (updn a.reached n next) (homes_told a n) a.era)
                (λ x. asked_on a n next low below x.tx a.era x.have (λ at. omega (arith, low, below))) (entry_at t p).waiting i.waiting;
            writers = i.writers;
          }
      by false i =
          record {
            later = i.later;
            reaches = λ y on. (let one = i.reaches y on in let two = reached_up a.reached n next y (omega (arith, below)) in omega (arith, one, two));
            holders = λ u. i.holders u ∙ marks u (marked t u.node) refl;
            rights = i.rights;
            waiting =
                all_weaker_both (λ (x : Waiter). x.tx.node ≡ n → k ≤ a.reached n) (WaiterIs a.reached a.home k) (WaiterIs (updn a.reached n next) (homes_told a n) k)
                (λ x le. asked_on a n next low below x.tx k x.have (λ at. (let upto = le at in omega (arith, upto, below)))) (entry_at t p).waiting (heard t refl) i.waiting;
            writers = i.writers;
          }
        where
          marks : (u : TxId) (b : Bool) → marked t u.node ≡ b → rules.pick (marked t u.node) (a.listed u k) None ≡ rules.pick (marked t u.node) (with_report a.reached a.home a.listed n next u k) None
          marks u true on =
              ap (λ (o : Option Mode). rules.pick (marked t u.node) o None)
              (sym (listed_on a n next low below u k (λ at. subst (λ (y : ℕ). k ≤ a.reached y) at (i.reaches u.node on))))
          marks u false off =
              ap (λ (b : Bool). rules.pick b (a.listed u k) None) off
              ∙ sym (ap (λ (b : Bool). rules.pick b (with_report a.reached a.home a.listed n next u k) None) off)

  pub table_of_heard : (c : Cluster) (p m : ℕ) (o : Option NodeState) → IsHeardAt c n p (a.reached n) → node_at c m ≡ o → TableOf a p (partition c.config p) m o
      → TableOf (reported_on a n next) p (partition c.config p) m o
  table_of_heard c p m None heard at is = tt
  table_of_heard c p m (Some x) heard at is = table_heard p m (era_in x.view (partition c.config p)) (table_at x (partition c.config p)) (λ t there. heard m x t at there) is
