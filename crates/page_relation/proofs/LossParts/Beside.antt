-- What is asked of a cluster beside its pages, where a node is lost and where nodes start.
use Rattle.std.proofs.Common.{◌≡◌, ◌≢◌, sym, subst, ℕ, ◌≤◌, ◌==◌, Bool, true, false, List, [], Option, Some, None, arith}
use Rattle.std.specs.Prelude.{IfSome}
use Rattle.std.specs.List.{AllByRecursion}
use Rattle.std.proofs.lemmas.Bool.Decides.{nat_tests}
use Rattle.pcl_base.specs.declared.lock.Pending.{Pending}
use Rattle.pcl_base.specs.declared.message.Message.{Message}
use Rattle.pcl_base.specs.declared.trace.Entry.{Entry}
use Rattle.pcl_base.specs.declared.tx.TxId.{TxId}
use Rattle.run_rules.specs.Disk.{Disk, log_at}
use Rattle.run_rules.specs.Views.{View}
use Rattle.node_rules.specs.Words.{pick}
use Rattle.node_rules.specs.DiskCalls.{Stop}
use Rattle.node_rules.specs.NodeState.{NodeState, start_node}
use Rattle.node_rules.specs.OpenTxs.{pending_of}
use Rattle.node_laws.proofs.Lists.{all_weaker}
use Rattle.redo_laws.specs.Words.{IsWhole}
use Rattle.cluster_rules.specs.Clusters.{Cluster, node_at, last_view}
use Rattle.cluster_rules.specs.Links.{Links, link_at}
use Rattle.cluster_laws.specs.Sound.{IsOnLink}
use Rattle.cluster_laws.proofs.Views.{found_push}
use Rattle.cluster_laws.specs.Call.CallLaws.{HasWholeLog, HaveWholeLogs}
use Rattle.cluster_laws.specs.Link.EpochLaws.{Rises, IsInOrder}
use Rattle.page_laws.specs.Moment.Looks.{asked_last}
use Rattle.page_relation.specs.Together.{WaitsAsAsked, IsParty}
use Rattle.page_relation.proofs.LossParts.Losing.{left_cluster}
use Rattle.page_relation.proofs.LossParts.Lost.{by_lost}
use Rattle.page_relation.proofs.LossParts.Started.{start_asked}
use Rattle.page_relation.proofs.LossParts.Viewing.{viewed, IsViewed, by_node}

-- an access that waits is the one asked for last where that is told as before
pub waits_same : (c d : Cluster) (t : TxId) (o : Option NodeState) → asked_last t d.trace ≡ asked_last t c.trace → WaitsAsAsked c t o → WaitsAsAsked d t o
waits_same c d t None same was = tt
waits_same c d t (Some s) same was = subst (λ (x : Option (ℕ × List ℕ)). IfSome (pending_of s.home.txs t) (λ (w : Pending). w.write ≡ x)) (sym same) was

-- ---- a node is lost

module _ (c : Cluster) (n : ℕ) (ls : Links) (disk : Disk) (ss : List (Option Stop)) (trace : List Entry) where
  pub asked_left : ((t : TxId) → t.node ≢ n → asked_last t trace ≡ asked_last t c.trace) → ((t : TxId) → WaitsAsAsked c t (node_at c t.node))
      → (t : TxId) → WaitsAsAsked (left_cluster c n ls disk ss trace) t (node_at (left_cluster c n ls disk ss trace) t.node)
  asked_left same was t =
      by_lost c.nodes n t.node (λ b o. WaitsAsAsked (left_cluster c n ls disk ss trace) t o) (λ e. tt)
      (λ e. waits_same c (left_cluster c n ls disk ss trace) t (node_at c t.node) (same t (λ here. grind (arith, nat_tests, e, here))) (was t))

  log_kept : (m : ℕ) (o : Option NodeState) → log_at disk m ≡ log_at c.disk m → HasWholeLog c m o → HasWholeLog (left_cluster c n ls disk ss trace) m o
  log_kept m None same whole = tt
  log_kept m (Some s) same whole = subst (λ (log : List ℕ). IfSome s.view (λ v. IsWhole c.config log)) (sym same) whole

  pub logs_left : ((m : ℕ) → m ≢ n → log_at disk m ≡ log_at c.disk m) → HaveWholeLogs c → HaveWholeLogs (left_cluster c n ls disk ss trace)
  logs_left same whole m =
      by_lost c.nodes n m (λ b o. HasWholeLog (left_cluster c n ls disk ss trace) m o) (λ e. tt)
      (λ e. log_kept m (node_at c m) (same m (λ here. grind (arith, nat_tests, e, here))) (whole m))

  pub order_left : ((x y : ℕ) → link_at ls x y ≡ pick (y == n) [] (link_at c.links x y)) → IsInOrder c → IsInOrder (left_cluster c n ls disk ss trace)
  order_left cleared o =
      record {
        behind = λ x y. by_lost c.nodes n x (λ b s. IfSome s (λ s. AllByRecursion (λ (m : Message). m.epoch ≤ s.epoch) (link_at ls x y))) (λ e. tt)
            (λ e. subst (λ (ms : List Message). IfSome (node_at c x) (λ s. AllByRecursion (λ (m : Message). m.epoch ≤ s.epoch) ms)) (sym (cleared x y)) (behind x y (node_at c x) (y == n) (o.behind x y)));
        rising = λ x y. subst (Rises 0) (sym (cleared x y)) (rising x y (y == n));
      }
    where
      behind : (x y : ℕ) (s : Option NodeState) (b : Bool) → IfSome s (λ s. AllByRecursion (λ (m : Message). m.epoch ≤ s.epoch) (link_at c.links x y))
          → IfSome s (λ s. AllByRecursion (λ (m : Message). m.epoch ≤ s.epoch) (pick b [] (link_at c.links x y)))
      behind x y None b all = tt
      behind x y (Some s) true all = tt
      behind x y (Some s) false all = all

      rising : (x y : ℕ) (b : Bool) → Rises 0 (pick b [] (link_at c.links x y))
      rising x y true = tt
      rising x y false = o.rising x y

  party_left : (x y : ℕ) (m : Message) → IsParty c x y m → IsParty (left_cluster c n ls disk ss trace) x y m
  party_left x y m is = record { view = is.view; made = is.made; live = is.live; parties = is.parties }

  pub parties_left : ((x y : ℕ) → link_at ls x y ≡ pick (y == n) [] (link_at c.links x y)) → ((x y : ℕ) → AllByRecursion (IsParty c x y) (link_at c.links x y))
      → (x y : ℕ) → AllByRecursion (IsParty (left_cluster c n ls disk ss trace) x y) (link_at ls x y)
  parties_left cleared all x y = subst (AllByRecursion (IsParty (left_cluster c n ls disk ss trace) x y)) (sym (cleared x y)) (by (y == n))
    where
      by : (b : Bool) → AllByRecursion (IsParty (left_cluster c n ls disk ss trace) x y) (pick b [] (link_at c.links x y))
      by true = tt
      by false = all_weaker (IsParty c x y) (IsParty (left_cluster c n ls disk ss trace) x y) (λ m is. party_left x y m is) (link_at c.links x y) (all x y)

-- ---- nodes start

module _ (c : Cluster) (ns : List ℕ) (v : View) (trace : List Entry) (i : IsViewed c ns v trace) where
  pub asked_viewed : ((t : TxId) → asked_last t trace ≡ asked_last t c.trace) → ((t : TxId) → WaitsAsAsked c t (node_at c t.node))
      → (t : TxId) → WaitsAsAsked (viewed c ns v trace) t (node_at (viewed c ns v trace) t.node)
  asked_viewed same was t =
      by_node c ns v trace i.down (λ o. WaitsAsAsked (viewed c ns v trace) t o) t.node (λ down. start_asked c.config t.node (last_view c).epoch 0 t (viewed c ns v trace))
      (waits_same c (viewed c ns v trace) t (node_at c t.node) (same t) (was t))

  pub logs_viewed : HaveWholeLogs c → HaveWholeLogs (viewed c ns v trace)
  unfolding start_node
  logs_viewed whole m = by_node c ns v trace i.down (λ o. HasWholeLog c m o) m (λ down. tt) (whole m)

  pub order_viewed : IsInOrder c → IsInOrder (viewed c ns v trace)
  unfolding start_node
  order_viewed o =
      record {
        behind = λ x y. by_node c ns v trace i.down (λ s. IfSome s (λ s. AllByRecursion (λ (m : Message). m.epoch ≤ s.epoch) (link_at c.links x y))) x
            (λ down. all_weaker (IsOnLink c.config (last_view c).epoch x y) (λ (m : Message). m.epoch ≤ (last_view c).epoch) (λ m on. on.epoch) (link_at c.links x y) (i.before.links.messages x y)) (o.behind x y);
        rising = o.rising;
      }

  pub parties_viewed : ((x y : ℕ) → AllByRecursion (IsParty c x y) (link_at c.links x y)) → (x y : ℕ) → AllByRecursion (IsParty (viewed c ns v trace) x y) (link_at c.links x y)
  parties_viewed all x y =
      all_weaker (IsParty c x y) (IsParty (viewed c ns v trace) x y)
      (λ m is. record { view = is.view; made = found_push c.views v m.epoch is.view is.made; live = is.live; parties = is.parties }) (link_at c.links x y) (all x y)
