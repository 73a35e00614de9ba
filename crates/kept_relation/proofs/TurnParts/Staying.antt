-- A node that is in a later view, and doesn't own the partition in either: what it keeps of the page.
use Rattle.std.proofs.Common.{◌≡◌, refl, ap, sym, subst, ◌∙◌, ℕ, ◌≤◌, ◌==◌, Bool, false, Option, Some, None}
use Rattle.pcl_base.specs.Limits.{Sizes}
use Rattle.pcl_base.specs.declared.tx.TxId.{TxId}
use Rattle.run_rules.specs.Views.{View, since_of, owner_of}
use Rattle.node_rules.specs.InstallRule.{owned_before}
use Rattle.node_rules.specs.LockTable.{LockTable}
use Rattle.node_rules.specs.NodeState.{NodeState, partition, table_at, is_serving, number_of}
use Rattle.node_rules.specs.OpenTxs.{is_open, held_by, pending_of}
use Rattle.cluster_rules.specs.Clusters.{Cluster}
use Rattle.page_relation.specs.Homes.{Stands, KindFits, wait_on, is_unborn}
use Rattle.page_relation.specs.Tables.{ReachedBy}
use Rattle.page_relation.specs.Work.Landing.{Acts}
use Rattle.kept_relation.specs.Turn.Standing.{HasNext, stood}
use Rattle.kept_relation.proofs.TurnParts.Gone.{KeepsPage}
use Rattle.kept_relation.proofs.TurnParts.Narrowing.{counts_before}

module _ (c : Cluster) (n p era : ℕ) (s : NodeState) (old v : View) (x : NodeState) (acts : Acts c n) (has : HasNext c n s v x) (own : s.view ≡ Some old) where
  abbrev before : NodeState
  before = stood s.epoch s.view x.home.txs.born x

  unborn_on : (t : TxId) → is_unborn x.view x t ≡ is_unborn s.view before t
  unborn_on t = ap (λ (o : Option View). is_unborn o x t) has.view ∙ sym (ap (λ (o : Option View). is_unborn o before t) own)

  owned_by : (o : Option View) (k : Bool) → owned_before o (partition c.config p) n ≡ k → owned_before o (partition x.home.config p) (number_of x) ≡ k
  owned_by o k is =
      subst (λ (z : Sizes). owned_before o (partition z p) (number_of x) ≡ k) (sym has.config)
      (subst (λ (m : ℕ). owned_before o (partition c.config p) m ≡ k) (sym has.number) is)

  pub keeps_unowned : owned_before s.view (partition c.config p) n ≡ false → (owner_of v (partition c.config p) == n) ≡ false → since_of v (partition c.config p) ≡ v.epoch
      → era ≤ v.epoch → table_at x (partition c.config p) ≡ None → KeepsPage c p v.epoch era before x
  keeps_unowned not_own other new upto free =
      record {
        stands = λ last t h fits is. subst (λ (u : Bool). Stands (is_open x.home.txs t) u (held_by x.home.txs t p) (wait_on (pending_of x.home.txs t) p) h) (sym (unborn_on t)) is;
        kinds = λ t fits.
            subst (λ (b : Bool). KindFits b (held_by x.home.txs t p))
            (owned_by s.view false not_own ∙ sym (owned_by x.view false (ap (λ (o : Option View). owned_before o (partition c.config p) n) has.view ∙ other))) fits;
        bytes = λ t. refl;
        runs = λ t. refl;
        slot = refl;
        dirty = refl;
        shelf = refl;
        free = free;
        unserved = ap (λ (o : Option LockTable). is_serving o) free;
        reached = subst (λ (o : Option View). ReachedBy c (partition c.config p) era x o v.epoch) (sym has.view) (sym new, upto);
        counts = λ from epoch. counts_before c n s v x acts has old x.home.txs.born from (partition c.config p) epoch own;
      }
