-- A node takes a partition over: what it keeps of the page.
use Rattle.std.proofs.Common.{◌≡◌, refl, ap, sym, subst, ◌∙◌, ℕ, ◌≤◌, ◌==◌, Bool, true, false, Option, Some, None, arith}
use Rattle.std.specs.Prelude.{option_map}
use Rattle.std.proofs.lemmas.Bool.Decides.{nat_tests}
use Rattle.pcl_base.specs.Limits.{Sizes}
use Rattle.pcl_base.specs.declared.lock.Kind.TheVariants as kind
use Rattle.pcl_base.specs.declared.tx.TxId.{TxId}
use Rattle.run_rules.specs.Views.{View, since_of, owner_of}
use Rattle.node_rules.specs.BufferRule as buffer
use Rattle.node_rules.specs.InstallRule.{owned_before, take_over}
use Rattle.node_rules.specs.LockTable.{LockTable}
use Rattle.node_rules.specs.NodeState.{NodeState, partition, table_at, is_serving, number_of, runs_at}
use Rattle.node_rules.specs.OpenTxs.{is_open, held_by, pending_of}
use Rattle.node_rules.specs.Shelf.{right_on}
use Rattle.node_rules.specs.Words as rules
use Rattle.home_laws.specs.Homes.{is_right_lock}
use Rattle.cluster_rules.specs.Clusters.{Cluster}
use Rattle.cluster_laws.specs.Era.Counts.{counts_in}
use Rattle.cluster_laws.proofs.EraParts.Counted.{counts_stay_law}
use Rattle.page_laws.specs.Look.Ends.{IsTakenOver, version_of_right}
use Rattle.page_laws.specs.Look.Grants.{of_kind}
use Rattle.page_laws.proofs.LookParts.Turning.{taking_over_is_seen_law}
use Rattle.page_relation.specs.Homes.{KindFits, wait_on, is_unborn}
use Rattle.page_relation.specs.Looks.{copy_in}
use Rattle.page_relation.specs.Tables.{ReachedBy}
use Rattle.page_relation.proofs.WorkParts.Nodes.{stands_as, unborn_same}
use Rattle.kept_relation.specs.Turn.Standing.{HasNext}
use Rattle.kept_relation.proofs.TurnParts.Gone.{KeepsPage}
use Rattle.install_relation.specs.Taking.{owning}
use Rattle.install_relation.proofs.Owning.{stands_own, own_fits}

-- the node before it takes the partition over, as it was in its old view, with no right of the page left
pub record IsReady (c : Cluster) (p : ℕ) (j x : NodeState) : Type 0 where
  pub alive : (t : TxId) → is_open x.home.txs t ≡ is_open j.home.txs t
  pub held : (t : TxId) → option_map (of_kind kind.Own) (held_by j.home.txs t p) ≡ option_map (of_kind kind.Own) (held_by x.home.txs t p)
  pub under : (t : TxId) → is_right_lock (held_by j.home.txs t p) ≡ false
  pub waits : (t : TxId) → pending_of j.home.txs t ≡ pending_of x.home.txs t
  pub unborn : (t : TxId) → is_unborn x.view x t ≡ true → is_unborn j.view j t ≡ true
  pub bytes : (t : TxId) → buffer.private_bytes x.home.pool t p ≡ buffer.private_bytes j.home.pool t p
  pub runs : (t : TxId) → runs_at x.home.written t p ≡ runs_at j.home.written t p
  pub copy : buffer.copy_at x.home.pool p ≡ buffer.copy_at j.home.pool p
  pub shelf : right_on j.home.shelf p ≡ None
  pub table : table_at j (partition c.config p) ≡ None
  pub free : table_at x (partition c.config p) ≡ None
  pub counts : (from epoch : ℕ) → counts_in (Some x) from (partition c.config p) epoch ≡ true → counts_in (Some j) from (partition c.config p) epoch ≡ true

module _ (c : Cluster) (n p era : ℕ) (s : NodeState) (v : View) (j x : NodeState) (has : HasNext c n s v x) (owner : (owner_of v (partition c.config p) == n) ≡ true) (new : since_of v (partition c.config p) ≡ v.epoch) where
  abbrev q : ℕ
  q = partition c.config p

  pub seen : IsTakenOver q x.home (take_over q x.home)
  seen = taking_over_is_seen_law q x.home

  inside : (partition x.home.config p == q) ≡ true
  inside = (let e : partition x.home.config p ≡ q = ap (λ (z : Sizes). partition z p) has.config in grind (arith, nat_tests, e))

  pub held_is : (t : TxId) → held_by (take_over q x.home).txs t p ≡ option_map (of_kind kind.Own) (held_by x.home.txs t p)
  held_is t = seen.locks.held t p ∙ ap (λ (b : Bool). rules.pick b (option_map (of_kind kind.Own) (held_by x.home.txs t p)) (held_by x.home.txs t p)) inside

  pub none_left : right_on (take_over q x.home).shelf p ≡ None
  none_left = seen.rights p ∙ ap (λ (b : Bool). rules.pick b None (right_on x.home.shelf p)) inside

  pub owned : owned_before (owning q x).view (partition (owning q x).home.config p) (number_of (owning q x)) ≡ true
  owned =
      ap (λ (z : Sizes). owned_before x.view (partition z p) (number_of x)) has.config
      ∙ ap (λ (o : Option View). owned_before o q (number_of x)) has.view
      ∙ ap (λ (k : ℕ). owner_of v q == k) has.number ∙ owner

  pub keeps_taken : era ≤ v.epoch → IsReady c p j x → KeepsPage c p v.epoch era j (owning q x)
  keeps_taken upto ready =
      record {
        stands = λ last t h fits is.
            stands_as h (is_open j.home.txs t) (is_open (take_over q x.home).txs t) (is_unborn x.view x t) (is_unborn x.view (owning q x) t)
            (option_map (of_kind kind.Own) (held_by j.home.txs t p)) (held_by (take_over q x.home).txs t p) (wait_on (pending_of j.home.txs t) p) (wait_on (pending_of (take_over q x.home).txs t) p)
            (seen.locks.life.alive t ∙ ready.alive t) (unborn_same x (owning q x) (record { config = refl; number = refl; epoch = refl; view = refl }) t seen.locks.life) (held_is t ∙ sym (ready.held t)) (ap (λ o. wait_on o p) (seen.locks.waits t ∙ sym (ready.waits t)))
            (stands_own (is_open j.home.txs t) (is_unborn x.view x t) (is_unborn j.view j t) (held_by j.home.txs t p) (wait_on (pending_of j.home.txs t) p) h (ready.unborn t) (ready.under t) is);
        kinds = λ t fits.
            subst (λ (b : Bool). KindFits b (held_by (take_over q x.home).txs t p)) (sym owned)
            (subst (KindFits true) (sym (held_is t)) (own_fits (held_by x.home.txs t p)));
        bytes = ready.bytes;
        runs = ready.runs;
        slot = ap copy_in ready.copy;
        dirty = ap buffer.is_dirty_copy ready.copy;
        shelf = ap version_of_right (none_left ∙ sym ready.shelf);
        free = ready.free;
        unserved = ap (λ (o : Option LockTable). is_serving o) ready.table;
        reached = subst (λ (o : Option View). ReachedBy c q era (owning q x) o v.epoch) (sym has.view) (sym new, upto);
        counts = λ from epoch counts.
            ready.counts from epoch (sym (counts_stay_law x (owning q x) from q epoch refl (record { epoch = refl; view = refl })) ∙ counts);
      }
