-- A node before it takes a partition over: as it stands, at the beginning of its life, and once its right is spent.
use Rattle.std.proofs.Common.{◌≡◌, refl, ap, sym, ◌∙◌, ℕ, ◌&&◌, Bool, true, false, Option, Some, None, is_some}
use Rattle.std.specs.Prelude.{option_map}
use Rattle.pcl_base.specs.declared.lock.Held.{Held}
use Rattle.pcl_base.specs.declared.lock.Kind.TheVariants as kind
use Rattle.pcl_base.specs.declared.tx.TxId.{TxId}
use Rattle.run_rules.specs.Views.{View}
use Rattle.node_rules.specs.NodeState.{NodeState, partition, table_at}
use Rattle.node_rules.specs.OpenTxs.{OpenTx, open_at, held_by, pages_of_open, waiting_of_open, lock_on}
use Rattle.node_rules.specs.Shelf.{Right, right_on, readers_of}
use Rattle.node_rules.specs.Words.{among, pick}
use Rattle.node_rules.specs.Work.{Work, with_node}
use Rattle.home_laws.specs.Homes.{IsHome, is_right_lock}
use Rattle.cluster_rules.specs.Clusters.{Cluster}
use Rattle.cluster_laws.proofs.EraParts.Counted.{counts_stay_law}
use Rattle.page_laws.specs.Look.Grants.{IsSpent, of_kind}
use Rattle.page_laws.proofs.LookParts.Granting.{spending_is_seen_law}
use Rattle.page_relation.specs.Homes.{is_unborn}
use Rattle.page_relation.specs.Work.Landing.{Acts}
use Rattle.page_relation.specs.Work.Spending.{spent}
use Rattle.page_relation.proofs.WorkParts.Nodes.{unborn_same}
use Rattle.kept_relation.specs.Turn.Standing.{HasNext, stood}
use Rattle.kept_relation.specs.Turn.Telling.{Begins}
use Rattle.kept_relation.proofs.TurnParts.Narrowing.{counts_before, counts_unborn}
use Rattle.kept_relation.proofs.TurnParts.Registered.{registered_lock}
use Rattle.kept_relation.proofs.TurnParts.Turning.{own_page, spent_standing}
use Rattle.kept_relation.proofs.TurnParts.Unborn.{none_open, unborn_before}
use Rattle.install_relation.proofs.Owning.{own_registered, none_under}
use Rattle.install_relation.proofs.Taking.{IsReady}

-- no lock is under a right that isn't there
none_reads : (x : Bool) (o : Option Right) (t : TxId) → o ≡ None → (x ≡ true → among (readers_of o) t ≡ true) → x ≡ false
unfolding among
none_reads true o t none reads = (let bad : false ≡ true = sym (ap (λ (k : Option Right). among (readers_of k) t) none) ∙ reads refl in absurd (cc))
none_reads false o t none reads = refl

none_right : (o : Option OpenTx) (p : ℕ) → o ≡ None → is_right_lock (lock_on (pages_of_open o) p) ≡ false
unfolding lock_on
none_right o p none = ap (λ (k : Option OpenTx). is_right_lock (lock_on (pages_of_open k) p)) none

-- ---- a node that goes on

module _ (c : Cluster) (n p : ℕ) (s : NodeState) (old v : View) (x : NodeState) (acts : Acts c n) (has : HasNext c n s v x) (own : s.view ≡ Some old) (home : IsHome x.home) (free : table_at x (partition c.config p) ≡ None) where
  abbrev before : NodeState
  before = stood s.epoch s.view x.home.txs.born x

  unborn_on : (t : TxId) → is_unborn x.view x t ≡ is_unborn s.view before t
  unborn_on t = ap (λ (o : Option View). is_unborn o x t) has.view ∙ sym (ap (λ (o : Option View). is_unborn o before t) own)

  -- with no right on its shelf
  pub ready_on : right_on x.home.shelf p ≡ None → IsReady c p before x
  ready_on none =
      record {
        alive = λ t. refl;
        held = λ t. refl;
        under = λ t. none_reads (is_right_lock (held_by x.home.txs t p)) (right_on x.home.shelf p) t none (home.reading t p);
        waits = λ t. refl;
        unborn = λ t e. sym (unborn_on t) ∙ e;
        bytes = λ t. refl;
        runs = λ t. refl;
        copy = refl;
        shelf = none;
        table = free;
        free = free;
        counts = λ from epoch. counts_before c n s v x acts has old x.home.txs.born from (partition c.config p) epoch own;
      }

  -- with its right spent
  module _ (w : Work) where
    abbrev still : Work
    still = with_node w before

    seen : IsSpent kind.Registered p x.home (spent p still).node.home
    seen = spending_is_seen_law kind.Registered p x.home home

    held_is : (t : TxId) → held_by (spent p still).node.home.txs t p ≡ registered_lock (among (readers_of (right_on x.home.shelf p)) t) (held_by x.home.txs t p)
    unfolding registered_lock
    held_is t =
        seen.held t p
        ∙ ap (λ (b : Bool). pick (b && among (readers_of (right_on x.home.shelf p)) t) (option_map (of_kind kind.Registered) (held_by x.home.txs t p)) (held_by x.home.txs t p)) (own_page p)

    pub ready_spent : IsReady c p (spent p still).node x
    ready_spent =
        record {
          alive = λ t. sym (seen.life.alive t);
          held = λ t.
              ap (λ (l : Option Held). option_map (of_kind kind.Own) l) (held_is t)
              ∙ own_registered (among (readers_of (right_on x.home.shelf p)) t) (held_by x.home.txs t p);
          under = λ t. ap is_right_lock (held_is t) ∙ none_under (among (readers_of (right_on x.home.shelf p)) t) (held_by x.home.txs t p) (seen.named t);
          waits = seen.waits;
          unborn = λ t e. unborn_same before (spent p still).node (spent_standing p still seen) t seen.life ∙ sym (unborn_on t) ∙ e;
          bytes = λ t. sym (seen.privates.bytes t p);
          runs = λ t. sym (seen.privates.runs t p);
          copy = sym (seen.copies p);
          shelf = seen.right p ∙ ap (λ (b : Bool). pick b None (right_on x.home.shelf p)) (own_page p);
          table = free;
          free = free;
          counts = λ from epoch counts.
              counts_stay_law before (spent p still).node from (partition c.config p) epoch seen.life.node (record { epoch = refl; view = refl })
              ∙ counts_before c n s v x acts has old x.home.txs.born from (partition c.config p) epoch own counts;
        }

-- ---- one that begins its life

pub ready_first : (c : Cluster) (n p : ℕ) (s : NodeState) (v : View) (w : Work) → Acts c n → HasNext c n s v w.node → Begins c p s w → right_on w.node.home.shelf p ≡ None
    → IsReady c p (stood s.epoch s.view s.home.txs.born w.node) w.node
ready_first c n p s v w acts has first none =
    record {
      alive = λ t. ap (λ (o : Option OpenTx). is_some o) (none_open w.node.home.txs t first.empty ∙ sym (none_open before.home.txs t first.empty));
      held = λ t.
          ap (λ (o : Option OpenTx). option_map (of_kind kind.Own) (lock_on (pages_of_open o) p)) (none_open before.home.txs t first.empty ∙ sym (none_open w.node.home.txs t first.empty));
      under = λ t. none_right (open_at before.home.txs t) p (none_open before.home.txs t first.empty);
      waits = λ t. ap waiting_of_open (none_open before.home.txs t first.empty ∙ sym (none_open w.node.home.txs t first.empty));
      unborn = λ t test.
          ap (λ (o : Option View). is_unborn o before t) first.none
          ∙ unborn_before s.epoch w.node.home.txs.born w.node.home.txs.last t first.born (sym (ap (λ (o : Option View). is_unborn o w.node t) has.view) ∙ test);
      bytes = λ t. refl;
      runs = λ t. refl;
      copy = refl;
      shelf = none;
      table = first.free;
      free = first.free;
      counts = λ from epoch. counts_unborn c n s v w.node acts has s.home.txs.born from (partition c.config p) epoch first.none;
    }
  where
    before : NodeState
    before = stood s.epoch s.view s.home.txs.born w.node
