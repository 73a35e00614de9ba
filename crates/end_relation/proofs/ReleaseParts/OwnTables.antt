-- The own table of a page inside a step, and the tables of other nodes.
use Rattle.std.proofs.Common.{◌≡◌, ◌≢◌, refl, ap, sym, subst, ◌∙◌, ℕ, ◌<◌, ◌≤◌, ◌==◌, Bool, true, false, Option, Some, None, arith}
use Rattle.std.proofs.lemmas.Bool.Decides.{nat_tests}
use Rattle.pcl_base.specs.declared.event.Event.{Event}
use Rattle.pcl_base.specs.declared.tx.TxId.{TxId}
use Rattle.run_rules.specs.Views.{View, since_of}
use Rattle.node_rules.specs.LockTable.{LockTable, entry_at}
use Rattle.node_rules.specs.NodeState.{NodeState, partition, table_at}
use Rattle.node_rules.specs.Work.{Work}
use Rattle.cluster_rules.specs.Clusters.{Cluster, node_at}
use Rattle.page_laws.specs.Entry.Steps.{IsEntryOf}
use Rattle.cluster_laws.specs.Era.Eras.{era_in}
use Rattle.page_protocol.specs.Bytes.{Copy}
use Rattle.page_protocol.specs.State.{Ended, Page}
use Rattle.page_relation.specs.Tables.{TableIs, TableIn, TableOf, ReachedBy, ReachedIn}
use Rattle.page_relation.specs.Work.Keeping.{IsWorkOf}
use Rattle.page_relation.specs.Work.Landing.{land, Acts}
use Rattle.page_relation.proofs.WorkParts.Nodes.{at_node}
use Rattle.end_relation.specs.Release.Owing.{ended_as}
use Rattle.end_relation.proofs.ReleaseParts.Owners.{HasOwn, has_table_owns, one_owner, partition_low}
use Rattle.end_relation.proofs.ReleaseParts.Tables.{served_beside, rebuilt_beside}

reached_view : (d : Cluster) (q era r : ℕ) (s : NodeState) (v : View) → s.view ≡ Some v → ReachedBy d q era s s.view r → (r ≡ era_in s.view q) × (era ≤ r)
reached_view d q era r s v in_view is =
    let by : (r ≡ since_of v q) × (era ≤ r) = subst (λ (o : Option View). ReachedBy d q era s o r) in_view is in
    (by.0 ∙ sym (ap (λ (o : Option View). era_in o q) in_view), by.1)

-- the era of the own table, and what it has of the page
pub record IsTabled (c : Cluster) (n p : ℕ) (w : Work) (tb : LockTable) (a : Page) : Type 0 where
  pub era_same : a.reached n ≡ era_in w.node.view (partition c.config p)
  pub not_past : a.era ≤ a.reached n
  pub table : TableIs a p n (era_in w.node.view (partition c.config p)) tb.serving tb

pub is_tabled : (c : Cluster) (e : Event) (n p : ℕ) (s : NodeState) (w : Work) (tb : LockTable) (a : Page) → Acts c n → HasOwn c n p s w tb → IsWorkOf c e n p w a → IsTabled c n p w tb a
unfolding land
is_tabled c e n p s w tb a acts own is =
    let eras =
    reached_view (land c e n w) (partition c.config p) a.era (a.reached n) w.node own.owner.view (own.view_same ∙ own.owner.in_view)
    (at_node c e n acts w n (λ o. ReachedIn (land c e n w) (partition c.config p) a.era o (a.reached n)) refl (is.nodes.eras n)) in
    record {
      era_same = eras.0;
      not_past = eras.1;
      table =
          subst (TableIn a p n (era_in w.node.view (partition c.config p))) own.there
          (at_node c e n acts w n (TableOf a p (partition c.config p) n) refl (is.tables.tables n));
    }

-- an entry of a table that serves, as the machine has it
pub served_entry : (a : Page) (p n e : ℕ) (tb : LockTable) → TableIs a p n e true tb → IsEntryOf a (entry_at tb p)
served_entry a p n e tb is = record { version = is.version; holders = is.holders; rights = is.rights }

-- ---- the tables of other nodes

-- by whether they are there, and serve
others_by : (p q m : ℕ) (a b : Page) (o : Option NodeState)
    → ((r : NodeState) (tb : LockTable) → o ≡ Some r → table_at r q ≡ Some tb → (x : Bool) → TableIs a p m (era_in r.view q) x tb → TableIs b p m (era_in r.view q) x tb)
    → TableOf a p q m o → TableOf b p q m o
others_by p q m a b None kept old = tt
others_by p q m a b (Some r) kept old = by (table_at r q) refl old
  where
    by : (o : Option LockTable) → table_at r q ≡ o → TableIn a p m (era_in r.view q) o → TableIn b p m (era_in r.view q) o
    by None there old = tt
    by (Some tb) there old = kept r tb refl there tb.serving old

module _ (c : Cluster) (e : Event) (n p : ℕ) (s : NodeState) (w : Work) (tb : LockTable) (a : Page) (acts : Acts c n) (up : node_at c n ≡ Some s) (own : HasOwn c n p s w tb) (is : IsTabled c n p w tb a)
    (t : TxId) (change : Option ℕ) (ended : a.home t ≡ Ended change (a.reached n)) (slot : ℕ → Option Copy) (disk : Copy) (mark : Bool) where
  -- beside a table that serves no other one does, and the others are rebuilt for a later era
  pub beside_served : (v : ℕ) → n ≡ a.owner → a.reached n ≡ a.era → (m : ℕ) → (m == n) ≡ false
      → TableOf a p (partition c.config p) m (node_at c m) → TableOf (ended_as a t (a.reached n) v slot disk mark) p (partition c.config p) m (node_at c m)
  beside_served v here now m other old =
      others_by p (partition c.config p) m a (ended_as a t (a.reached n) v slot disk mark) (node_at c m) (λ r u there at x table. by r u x table) old
    where
      by : (r : NodeState) (u : LockTable) (x : Bool) → TableIs a p m (era_in r.view (partition c.config p)) x u
          → TableIs (ended_as a t (a.reached n) v slot disk mark) p m (era_in r.view (partition c.config p)) x u
      by r u true table =
          let same : m ≡ n = table.here ∙ sym here in
          absurd (grind (arith, nat_tests, other, same))
      by r u false table =
          rebuilt_beside a t change (a.reached n) ended v slot disk mark p m (era_in r.view (partition c.config p)) u
          (λ same. let later = table.later in absurd (omega (arith, later, same, now))) table

  -- beside one that is rebuilt one may serve, and no other one is of its era
  pub beside_rebuilt : a.era < a.reached n → (m : ℕ) → (m == n) ≡ false
      → TableOf a p (partition c.config p) m (node_at c m) → TableOf (ended_as a t (a.reached n) a.entry slot disk mark) p (partition c.config p) m (node_at c m)
  beside_rebuilt later m other old =
      others_by p (partition c.config p) m a (ended_as a t (a.reached n) a.entry slot disk mark) (node_at c m) (λ r u there at x table. by r u there at x table) old
    where
      by : (r : NodeState) (u : LockTable) → node_at c m ≡ Some r → table_at r (partition c.config p) ≡ Some u → (x : Bool) → TableIs a p m (era_in r.view (partition c.config p)) x u
          → TableIs (ended_as a t (a.reached n) a.entry slot disk mark) p m (era_in r.view (partition c.config p)) x u
      by r u there at true table =
          served_beside a t change (a.reached n) ended a.entry slot disk mark p m (era_in r.view (partition c.config p)) u refl (λ same. absurd (omega (arith, later, same))) table
      by r u there at false table =
          rebuilt_beside a t change (a.reached n) ended a.entry slot disk mark p m (era_in r.view (partition c.config p)) u apart table
        where
          apart : era_in r.view (partition c.config p) ≢ a.reached n
          apart same =
              let one : m ≡ n =
              one_owner c (partition c.config p) m n r s acts.cluster
              (has_table_owns c (partition c.config p) m r u acts.cluster there (partition_low c n p s acts.cluster up) at) own.owner
              (same ∙ is.era_same ∙ ap (λ (o : Option View). era_in o (partition c.config p)) own.view_same) in
              absurd (grind (arith, nat_tests, other, one))
