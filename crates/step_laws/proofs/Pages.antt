-- What settling a page gives, and changing its entry and then settling it.
use Rattle.std.proofs.Common.{◌≡◌, ℕ, ◌+◌, ◌≤◌, ◌==◌, Bool, true, false, length, Option, Some, None, refl, arith}
use Rattle.pcl_base.specs.declared.tx.TxId.{TxId}
use Rattle.pcl_base.specs.declared.tx.Mode.{Mode}
use Rattle.pcl_base.specs.declared.lock.Kind.TheVariants as kind
use Rattle.pcl_base.specs.declared.lock.Decision.{Decision}
use Rattle.pcl_base.specs.declared.lock.Decision.TheVariants as decision
use Rattle.pcl_base.specs.declared.message.Body.TheVariants as body
use Rattle.node_rules.specs.LockRule.{LockEntry, Settled, settle, idle}
use Rattle.node_rules.specs.LockTable.{LockTable, entry_at, put_entry}
use Rattle.node_rules.specs.OpenTxs.{pending_of, waits_as}
use Rattle.node_rules.specs.NodeState.{number_of, partition, table_of}
use Rattle.node_rules.specs.Work.{Work, for_each, work_of_home, with_home_work}
use Rattle.node_rules.specs.AccessRule.{Granted, granted}
use Rattle.node_rules.specs.OwnerRule.{with_table, told, grant_own, carry_grant, carry_out, carry_all, settle_served, settle_in, settle_page, enter_in, enter}
use Rattle.step_laws.proofs.Settles.{due, settle_due}
use Rattle.step_laws.proofs.Tables.{in_tables, entry_put, tables_less}
use Rattle.step_laws.proofs.Outcomes.{On, on_so, on_more, on_count}
use Rattle.step_laws.proofs.Homes.{HasLock, granted_home}
use Rattle.step_laws.proofs.Works.{Cap, Holds, given, holds_more, holds_reply, holds_send, holds_lock, holds_tables}

module _ (c : Cap) (p : ℕ) (none : c.weight p ≡ 0) where
  own_holds : (b : Bool) (t : TxId) (m : Mode) (v k : ℕ) (w : Work) → Holds due c k w → On (Holds due c (k + 1)) (grant_own b t m p v w)
  own_holds false t m v k w h = holds_more due c k (k + 1) w (omega arith) h
  own_holds true t m v k w h =
      on_so (λ (g : Granted). HasLock t (record { page = p; mode = m; kind = kind.Own }) w.node.home g.work.home) (Holds due c (k + 1))
      (granted t (record { page = p; mode = m; kind = kind.Own }) v None (work_of_home w)) (told w)
      (granted_home t (record { page = p; mode = m; kind = kind.Own }) v None (work_of_home w))
      (λ g has. holds_reply due c k g.reply (with_home_work w g.work) (holds_lock due c k t (record { page = p; mode = m; kind = kind.Own }) g.work w none has h))

  grant_holds : (b : Bool) (t : TxId) (m : Mode) (right : Bool) (have : Option ℕ) (v k : ℕ) (w : Work) → Holds due c k w → On (Holds due c (k + 1)) (carry_grant b t m right have p v w)
  grant_holds true t m right have v k w h = own_holds (waits_as (pending_of w.node.home.txs t) p m) t m v k w h
  grant_holds false t m right have v k w h = holds_send due c k t.node _ w refl h

  carry_holds : (v : ℕ) (d : Decision) (k : ℕ) (w : Work) → Holds due c k w → On (Holds due c (k + 1)) (carry_out p v d w)
  unfolding carry_out
  carry_holds v (decision.Grant t m right have) k w h = grant_holds (t.node == number_of w.node) t m right have v k w h
  carry_holds v (decision.Revoke n) k w h = holds_send due c k n (body.Revoke p) w refl h

  -- a page is settled out of what is due
  all_holds : (owner : ℕ) (t : LockTable) (k : ℕ) (w : Work) → table_of w.node p ≡ Some t → Holds due c k w → On (Holds due c k) (carry_all p t (settle owner (entry_at t p)) w)
  all_holds owner t k w there h =
      let s : Settled = settle owner (entry_at t p) in
      let next : Work = with_table p (put_entry t p s.entry) w in
      let now = h.given in
      let put = entry_put due refl w.node (partition w.node.home.config p) t p s.entry there in
      let few = settle_due owner (entry_at t p) in
      let start = holds_tables due c due k (given w + in_tables due next.node) next.node w refl (omega arith) h in
      on_more (Holds due c (given w + in_tables due next.node + length s.decisions)) (Holds due c k) (for_each (carry_out p s.entry.version) s.decisions next)
      (λ x held. holds_more due c (given w + in_tables due next.node + length s.decisions) k x (omega (arith, now, put, few)) held)
      (on_count (Holds due c) (carry_out p s.entry.version) (carry_holds s.entry.version) s.decisions (given w + in_tables due next.node) next start)

  pub settle_holds : (k : ℕ) (w : Work) → Holds due c k w → On (Holds due c k) (settle_page p w)
  unfolding settle_page
  settle_holds k w h = by (table_of w.node p) refl
    where
      of : (t : LockTable) (b : Bool) → table_of w.node p ≡ Some t → On (Holds due c k) (settle_served b p t w)
      of t true there = all_holds (number_of w.node) t k w there h
      of t false there = h

      by : (o : Option LockTable) → table_of w.node p ≡ o → On (Holds due c k) (settle_in p o w)
      by None there = h
      by (Some t) there = of t t.serving there

  -- an entry is changed, and counts so much more at most
  pub enter_holds : (m : LockEntry → ℕ) (f : LockEntry → LockEntry) (j : ℕ) → ((e : LockEntry) → due e ≤ m e) → m (idle 0) ≡ 0 → ((e : LockEntry) → m (f e) ≤ m e + j)
      → (k : ℕ) (w : Work) → Holds m c k w → On (Holds due c (k + j)) (enter f p w)
  unfolding enter
  enter_holds m f j most zero_is change k w h = by (table_of w.node p) refl
    where
      by : (o : Option LockTable) → table_of w.node p ≡ o → On (Holds due c (k + j)) (enter_in f p o w)
      by None there =
          let less = tables_less due m most w.node in
          let now = h.given in
          holds_tables m c due k (k + j) w.node w refl (omega (arith, less, now)) h
      by (Some t) there =
          let next : Work = with_table p (put_entry t p (f (entry_at t p))) w in
          let put = entry_put m zero_is w.node (partition w.node.home.config p) t p (f (entry_at t p)) there in
          let less = tables_less due m most next.node in
          let now = h.given in
          let changed = change (entry_at t p) in
          settle_holds (k + j) next (holds_tables m c due k (k + j) next.node w refl (omega (arith, put, less, now, changed)) h)
