-- What a node sends has its parties, and whose transactions wait in its tables, through settling.
use Rattle.std.proofs.Common.{◌≡◌, refl, sym, ap, subst, ◌∙◌, ℕ, ◌<◌, ◌≤◌, ◌==◌, Bool, true, false, List, length, slice_index_or, slice_set, Option, Some, None}
use Rattle.std.specs.Prelude.{IfSome}
use Rattle.std.specs.List.{AllByRecursion}
use Rattle.std.proofs.lemmas.Nat.{mod_below}
use Rattle.pcl_base.specs.Limits.{Sizes}
use Rattle.pcl_base.specs.declared.lock.Decision.{Decision}
use Rattle.pcl_base.specs.declared.lock.Decision.TheVariants as decision
use Rattle.pcl_base.specs.declared.lock.Held.{Held}
use Rattle.pcl_base.specs.declared.lock.Kind.TheVariants as kind
use Rattle.pcl_base.specs.declared.message.Body.{Body}
use Rattle.pcl_base.specs.declared.message.Body.TheVariants as body
use Rattle.pcl_base.specs.declared.message.ReportLock.{ReportLock}
use Rattle.pcl_base.specs.declared.message.ReportWait.{ReportWait}
use Rattle.pcl_base.specs.declared.tx.Mode.{Mode}
use Rattle.pcl_base.specs.declared.tx.TxId.{TxId}
use Rattle.run_rules.specs.Views.{View, owner_of, since_of, born_of}
use Rattle.node_rules.specs.AccessRule.{Granted, granted}
use Rattle.node_rules.specs.LockRule.{LockEntry, Settled, settle}
use Rattle.node_rules.specs.LockTable.{LockTable, entry_at, put_entry}
use Rattle.node_rules.specs.NodeState.{HomeState, Outgoing, partition, number_of, table_of}
use Rattle.node_rules.specs.OpenTxs.{OpenTxs, add, pending_of, waits_as}
use Rattle.node_rules.specs.OwnerRule.{with_table, told, grant_own, carry_grant, carry_out, carry_all, settle_served, settle_in, settle_page, enter_in, enter}
use Rattle.node_rules.specs.Work.{Work, work_of_home, send}
use Rattle.step_laws.proofs.Homes.{HasLock, granted_home}
use Rattle.step_laws.proofs.Outcomes.{On, on_so, on_each}
use Rattle.node_laws.proofs.Lists.{all_push, set_look, set_length}
use Rattle.page_relation.specs.Together.{IsOf}
use Rattle.related_runs.specs.Parties.{IsLiving}
use Rattle.related_runs.proofs.Waiters.{EntryWaits, TableWaits, DecisionWaits, settle_waits, at_waits, put_waits}

-- the parties of a body from a to b, of an epoch whose view is v
abbrev pub PartiesIn : Sizes → View → ℕ → ℕ → ℕ → Body → Type 0
PartiesIn c v a b e (body.Request r) = (owner_of v (partition c r.page) ≡ b) × IsOf v a r.tx
PartiesIn c v a b e (body.Grant g) = (owner_of v (partition c g.page) ≡ a) × IsOf v b g.tx
PartiesIn c v a b e (body.Release r) = (owner_of v (partition c r.page) ≡ b) × IsOf v a r.tx
PartiesIn c v a b e (body.Revoke page) = owner_of v (partition c page) ≡ a
PartiesIn c v a b e (body.Return r) = (owner_of v (partition c r.page) ≡ b) × AllByRecursion (IsOf v a) r.readers
PartiesIn c v a b e (body.Report r) =
    (owner_of v r.partition ≡ b) × (since_of v r.partition ≡ e) × AllByRecursion (λ (x : ReportLock). IsOf v a x.tx) r.locks
    × AllByRecursion (λ (x : ReportWait). IsOf v a x.tx) r.waits

module _ (c : Sizes) (some : 1 ≤ c.nodes) (v : View) (me : ℕ) where
  -- a node in the view, whose own transactions are of its life there
  pub record IsFrame (h : HomeState) (view : Option View) (epoch : ℕ) : Type 0 where
    pub config : h.config ≡ c
    pub node : h.txs.node ≡ me
    pub born : h.txs.born ≡ born_of v me
    pub view_is : view ≡ Some v
    pub epoch_is : epoch ≡ v.epoch

  -- what it sends
  abbrev pub IsSaid : Outgoing → Type 0
  IsSaid o = (o.message.epoch ≡ v.epoch) × PartiesIn c v me o.to v.epoch o.message.body

  -- a table for each partition, of which T says something
  abbrev pub AreTables : (ℕ → LockTable → Type 0) → List (Option LockTable) → Type 0
  AreTables T ts = (length ts ≡ c.nodes) × ((q : ℕ) → q < c.nodes → IfSome (slice_index_or ts q None) (T q))

  -- a work in the making
  abbrev pub Talks : (ℕ → LockTable → Type 0) → Work → Type 0
  Talks T w =
      IsFrame w.node.home w.node.view w.node.epoch × AreTables T w.node.tables × AllByRecursion IsSaid w.sends

  -- a further message
  pub talks_send : (T : ℕ → LockTable → Type 0) (to : ℕ) (b : Body) (w : Work) → PartiesIn c v me to v.epoch b → Talks T w → Talks T (send to b w)
  talks_send T to b w is i = (
    i.0,
    i.1,
    all_push IsSaid w.sends (record { to = to; message = record { epoch = w.node.epoch; body = b } }) i.2 (i.0.epoch_is, is),
  )

  -- another home of the same node
  pub frame_home : (h g : HomeState) (view : Option View) (epoch : ℕ) → g.config ≡ h.config → g.txs.node ≡ h.txs.node → g.txs.born ≡ h.txs.born → IsFrame h view epoch → IsFrame g view epoch
  frame_home h g view epoch config node born f =
      record { config = config ∙ f.config; node = node ∙ f.node; born = born ∙ f.born; view_is = f.view_is; epoch_is = f.epoch_is }

  added_node : (s : OpenTxs) (t : TxId) (l : Held) → ((add s t l).node ≡ s.node) × ((add s t l).born ≡ s.born)
  unfolding add
  added_node s t l = (refl, refl)

  pub lock_frame : (t : TxId) (l : Held) (h g : HomeState) (view : Option View) (epoch : ℕ) → HasLock t l h g → IsFrame h view epoch → IsFrame g view epoch
  lock_frame t l h g view epoch has f =
      let same = added_node h.txs t l in
      frame_home h g view epoch has.config (ap (λ (s : OpenTxs). s.node) has.txs ∙ same.0) (ap (λ (s : OpenTxs). s.born) has.txs ∙ same.1) f

  module _ (T : ℕ → LockTable → Type 0) where
    -- a table in the place of another one
    pub table_put : (q : ℕ) (t : LockTable) (ts : List (Option LockTable)) → T q t → AreTables T ts → AreTables T (slice_set ts q (Some t))
    table_put q t ts is tables = (
      set_length ts q (Some t) ∙ tables.0,
      λ j low. set_look (λ (o : Option LockTable). IfSome o (T j)) None ts q j (Some t) (λ same. subst (λ (k : ℕ). T k t) (sym same) is) (tables.1 j low),
    )

    -- pages of a partition that the node owns
    module _ (p : ℕ) (out : (t : LockTable) → T (partition c p) t → (owner_of v (partition c p) ≡ me) × TableWaits (IsLiving v) t) (into : owner_of v (partition c p) ≡ me → (t : LockTable) → TableWaits (IsLiving v) t → T (partition c p) t) where
      own_talks : (y : Bool) (t : TxId) (m : Mode) (x : ℕ) (w : Work) → Talks T w → On (Talks T) (grant_own y t m p x w)
      own_talks false t m x w i = i
      own_talks true t m x w i =
          let l : Held = record { page = p; mode = m; kind = kind.Own } in
          on_so (λ (g : Granted). HasLock t l w.node.home g.work.home) (Talks T) (granted t l x None (work_of_home w)) (told w) (granted_home t l x None (work_of_home w))
          (λ g has. (lock_frame t l w.node.home g.work.home w.node.view w.node.epoch has i.0, i.1, i.2))

      grant_talks : owner_of v (partition c p) ≡ me → (y : Bool) (t : TxId) (m : Mode) (right : Bool) (have : Option ℕ) (x : ℕ) (w : Work) → IsLiving v t → Talks T w → On (Talks T) (carry_grant y t m right have p x w)
      grant_talks owns true t m right have x w is i = own_talks (waits_as (pending_of w.node.home.txs t) p m) t m x w i
      grant_talks owns false t m right have x w is i = talks_send T t.node _ w (owns, record { node = refl; born = is.born }) i

      carry_talks : owner_of v (partition c p) ≡ me → (x : ℕ) (d : Decision) (w : Work) → DecisionWaits (IsLiving v) d → Talks T w → On (Talks T) (carry_out p x d w)
      unfolding carry_out
      carry_talks owns x (decision.Grant t m right have) w is i = grant_talks owns (t.node == number_of w.node) t m right have x w is i
      carry_talks owns x (decision.Revoke n) w is i = talks_send T n (body.Revoke p) w owns i

      -- another entry
      pub entry_talks : owner_of v (partition c p) ≡ me → (t : LockTable) (e : LockEntry) (w : Work) → TableWaits (IsLiving v) t → EntryWaits (IsLiving v) e → Talks T w → Talks T (with_table p (put_entry t p e) w)
      entry_talks owns t e w table entry i =
          let same : partition w.node.home.config p ≡ partition c p = ap (λ (k : Sizes). partition k p) i.0.config in (
            i.0,
            table_put (partition w.node.home.config p) (put_entry t p e) w.node.tables
                (subst (λ (q : ℕ). T q (put_entry t p e)) (sym same) (into owns (put_entry t p e) (put_waits (IsLiving v) t p e entry table))) i.1,
            i.2,
          )

      -- the table that is there
      pub table_there : (t : LockTable) (w : Work) → table_of w.node p ≡ Some t → Talks T w → (owner_of v (partition c p) ≡ me) × TableWaits (IsLiving v) t
      table_there t w there i =
          out t
          (subst (λ (k : Sizes). T (partition k p) t) i.0.config
          (subst (λ (o : Option LockTable). IfSome o (T (partition w.node.home.config p))) there
          (i.1.1 (partition w.node.home.config p) (subst (λ (k : Sizes). partition k p < c.nodes) (sym i.0.config) (mod_below p c.nodes some)))))

      all_talks : owner_of v (partition c p) ≡ me → (t : LockTable) (s : Settled) (w : Work) → TableWaits (IsLiving v) t → AllByRecursion (DecisionWaits (IsLiving v)) s.decisions → EntryWaits (IsLiving v) s.entry → Talks T w
          → On (Talks T) (carry_all p t s w)
      all_talks owns t s w table ds entry i =
          on_each (Talks T) (DecisionWaits (IsLiving v)) (carry_out p s.entry.version) (λ d x is j. carry_talks owns s.entry.version d x is j) s.decisions ds (with_table p (put_entry t p s.entry) w)
          (entry_talks owns t s.entry w table entry i)

      pub settle_talks : (w : Work) → Talks T w → On (Talks T) (settle_page p w)
      unfolding settle_page
      settle_talks w i = by (table_of w.node p) refl
        where
          served : (y : Bool) (t : LockTable) → table_of w.node p ≡ Some t → On (Talks T) (settle_served y p t w)
          served false t there = i
          served true t there =
              let table = table_there t w there i in
              let settled = settle_waits (IsLiving v) (number_of w.node) (entry_at t p) (at_waits (IsLiving v) t p table.1) in
              all_talks table.0 t (settle (number_of w.node) (entry_at t p)) w table.1 settled.0 settled.1 i

          by : (o : Option LockTable) → table_of w.node p ≡ o → On (Talks T) (settle_in p o w)
          by None there = i
          by (Some t) there = served t.serving t there

      pub enter_talks : (g : LockEntry → LockEntry) → ((e : LockEntry) → EntryWaits (IsLiving v) e → EntryWaits (IsLiving v) (g e)) → (w : Work) → Talks T w → On (Talks T) (enter g p w)
      unfolding enter
      enter_talks g keeps w i = by (table_of w.node p) refl
        where
          by : (o : Option LockTable) → table_of w.node p ≡ o → On (Talks T) (enter_in g p o w)
          by None there = i
          by (Some t) there =
              let table = table_there t w there i in
              settle_talks (with_table p (put_entry t p (g (entry_at t p))) w)
              (entry_talks table.0 t (g (entry_at t p)) w table.1 (keeps (entry_at t p) (at_waits (IsLiving v) t p table.1)) i)
