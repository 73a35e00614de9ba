-- What holds of the transactions that wait in the tables of a node, partition by partition, through settling.
use Rattle.std.proofs.Common.{◌≡◌, refl, sym, ap, subst, ◌∙◌, ℕ, ◌<◌, ◌≤◌, ◌==◌, Bool, true, false, List, length, slice_index_or, slice_set, Option, Some, None}
use Rattle.std.specs.Prelude.{IfSome}
use Rattle.std.specs.List.{AllByRecursion}
use Rattle.std.proofs.lemmas.Nat.{mod_below}
use Rattle.pcl_base.specs.Limits.{Sizes}
use Rattle.pcl_base.specs.declared.lock.Decision.{Decision}
use Rattle.pcl_base.specs.declared.lock.Decision.TheVariants as decision
use Rattle.pcl_base.specs.declared.lock.Held.{Held}
use Rattle.pcl_base.specs.declared.lock.Kind.TheVariants as kind
use Rattle.pcl_base.specs.declared.tx.Mode.{Mode}
use Rattle.pcl_base.specs.declared.tx.TxId.{TxId}
use Rattle.node_rules.specs.AccessRule.{Granted, granted}
use Rattle.node_rules.specs.LockRule.{LockEntry, Settled, settle}
use Rattle.node_rules.specs.LockTable.{LockTable, entry_at, put_entry}
use Rattle.node_rules.specs.NodeState.{HomeState, partition, number_of, table_of}
use Rattle.node_rules.specs.OpenTxs.{OpenTxs, add, pending_of, waits_as}
use Rattle.node_rules.specs.OwnerRule.{with_table, told, grant_own, carry_grant, carry_out, carry_all, settle_served, settle_in, settle_page, enter_in, enter}
use Rattle.node_rules.specs.Work.{Work, work_of_home}
use Rattle.step_laws.proofs.Homes.{HasLock, granted_home}
use Rattle.step_laws.proofs.Outcomes.{On, on_so, on_each}
use Rattle.node_laws.proofs.Lists.{set_look, set_length}
use Rattle.related_runs.proofs.Waiters.{EntryWaits, TableWaits, DecisionWaits, settle_waits, at_waits, put_waits}

module _ (c : Sizes) (some : 1 ≤ c.nodes) (me : ℕ) where
  -- a home of the node
  pub record IsHere (h : HomeState) : Type 0 where
    pub config : h.config ≡ c
    pub node : h.txs.node ≡ me

  -- a table for each partition, of which T says something
  abbrev pub AreTables : (ℕ → LockTable → Type 0) → List (Option LockTable) → Type 0
  AreTables T ts = (length ts ≡ c.nodes) × ((q : ℕ) → q < c.nodes → IfSome (slice_index_or ts q None) (T q))

  -- a work in the making
  abbrev pub Holds : (ℕ → LockTable → Type 0) → Work → Type 0
  Holds T w = IsHere w.node.home × AreTables T w.node.tables

  -- another home of the same node
  pub here_home : (h g : HomeState) → g.config ≡ h.config → g.txs.node ≡ h.txs.node → IsHere h → IsHere g
  here_home h g config node f = record { config = config ∙ f.config; node = node ∙ f.node }

  added_node : (s : OpenTxs) (t : TxId) (l : Held) → (add s t l).node ≡ s.node
  unfolding add
  added_node s t l = refl

  pub lock_here : (t : TxId) (l : Held) (h g : HomeState) → HasLock t l h g → IsHere h → IsHere g
  lock_here t l h g has f = here_home h g has.config (ap (λ (s : OpenTxs). s.node) has.txs ∙ added_node h.txs t l) f

  module _ (T : ℕ → LockTable → Type 0) where
    -- a table in the place of another one
    pub table_put : (q : ℕ) (t : LockTable) (ts : List (Option LockTable)) → T q t → AreTables T ts → AreTables T (slice_set ts q (Some t))
    table_put q t ts is tables = (
      set_length ts q (Some t) ∙ tables.0,
      λ j low. set_look (λ (o : Option LockTable). IfSome o (T j)) None ts q j (Some t) (λ same. subst (λ (k : ℕ). T k t) (sym same) is) (tables.1 j low),
    )

    -- pages of a partition where transactions wait of which P holds
    module _ (p : ℕ) (P : TxId → Type 0) (out : (t : LockTable) → T (partition c p) t → TableWaits P t) (into : (t : LockTable) → TableWaits P t → T (partition c p) t) where
      own_holds : (y : Bool) (t : TxId) (m : Mode) (x : ℕ) (w : Work) → Holds T w → On (Holds T) (grant_own y t m p x w)
      own_holds false t m x w i = i
      own_holds true t m x w i =
          let l : Held = record { page = p; mode = m; kind = kind.Own } in
          on_so (λ (g : Granted). HasLock t l w.node.home g.work.home) (Holds T) (granted t l x None (work_of_home w)) (told w) (granted_home t l x None (work_of_home w))
          (λ g has. (lock_here t l w.node.home g.work.home has i.0, i.1))

      grant_holds : (y : Bool) (t : TxId) (m : Mode) (right : Bool) (have : Option ℕ) (x : ℕ) (w : Work) → Holds T w → On (Holds T) (carry_grant y t m right have p x w)
      grant_holds true t m right have x w i = own_holds (waits_as (pending_of w.node.home.txs t) p m) t m x w i
      grant_holds false t m right have x w i = i

      carry_holds : (x : ℕ) (d : Decision) (w : Work) → Holds T w → On (Holds T) (carry_out p x d w)
      unfolding carry_out
      carry_holds x (decision.Grant t m right have) w i = grant_holds (t.node == number_of w.node) t m right have x w i
      carry_holds x (decision.Revoke n) w i = i

      -- another entry
      pub entry_holds : (t : LockTable) (e : LockEntry) (w : Work) → TableWaits P t → EntryWaits P e → Holds T w → Holds T (with_table p (put_entry t p e) w)
      entry_holds t e w table entry i =
          let same : partition w.node.home.config p ≡ partition c p = ap (λ (k : Sizes). partition k p) i.0.config in (
            i.0,
            table_put (partition w.node.home.config p) (put_entry t p e) w.node.tables
                (subst (λ (q : ℕ). T q (put_entry t p e)) (sym same) (into (put_entry t p e) (put_waits P t p e entry table))) i.1,
          )

      -- the table that is there
      pub table_there : (t : LockTable) (w : Work) → table_of w.node p ≡ Some t → Holds T w → TableWaits P t
      table_there t w there i =
          out t
          (subst (λ (k : Sizes). T (partition k p) t) i.0.config
          (subst (λ (o : Option LockTable). IfSome o (T (partition w.node.home.config p))) there
          (i.1.1 (partition w.node.home.config p) (subst (λ (k : Sizes). partition k p < c.nodes) (sym i.0.config) (mod_below p c.nodes some)))))

      all_holds : (t : LockTable) (s : Settled) (w : Work) → TableWaits P t → AllByRecursion (DecisionWaits P) s.decisions → EntryWaits P s.entry → Holds T w → On (Holds T) (carry_all p t s w)
      all_holds t s w table ds entry i =
          on_each (Holds T) (DecisionWaits P) (carry_out p s.entry.version) (λ d x is j. carry_holds s.entry.version d x j) s.decisions ds (with_table p (put_entry t p s.entry) w)
          (entry_holds t s.entry w table entry i)

      pub settle_holds : (w : Work) → Holds T w → On (Holds T) (settle_page p w)
      unfolding settle_page
      settle_holds w i = by (table_of w.node p) refl
        where
          served : (y : Bool) (t : LockTable) → table_of w.node p ≡ Some t → On (Holds T) (settle_served y p t w)
          served false t there = i
          served true t there =
              let table = table_there t w there i in
              let settled = settle_waits P (number_of w.node) (entry_at t p) (at_waits P t p table) in
              all_holds t (settle (number_of w.node) (entry_at t p)) w table settled.0 settled.1 i

          by : (o : Option LockTable) → table_of w.node p ≡ o → On (Holds T) (settle_in p o w)
          by None there = i
          by (Some t) there = served t.serving t there

      pub enter_holds : (g : LockEntry → LockEntry) → ((e : LockEntry) → EntryWaits P e → EntryWaits P (g e)) → (w : Work) → Holds T w → On (Holds T) (enter g p w)
      unfolding enter
      enter_holds g keeps w i = by (table_of w.node p) refl
        where
          by : (o : Option LockTable) → table_of w.node p ≡ o → On (Holds T) (enter_in g p o w)
          by None there = i
          by (Some t) there =
              let table = table_there t w there i in
              settle_holds (with_table p (put_entry t p (g (entry_at t p))) w)
              (entry_holds t (g (entry_at t p)) w table (keeps (entry_at t p) (at_waits P t p table)) i)
