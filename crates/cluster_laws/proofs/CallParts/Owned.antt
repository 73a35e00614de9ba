-- What an owner does writes pages alone; so do accesses and ends.
use Rattle.std.proofs.Common.{ℕ, ◌==◌, Bool, true, false, List, [], ◌∷◌, Option, Some, None, is_some}
use Rattle.std.specs.Prelude.{⊤}
use Rattle.pcl_base.specs.declared.tx.TxId.{TxId}
use Rattle.pcl_base.specs.declared.tx.Mode.{Mode}
use Rattle.pcl_base.specs.declared.lock.Kind.{Kind}
use Rattle.pcl_base.specs.declared.lock.Kind.TheVariants as kind
use Rattle.pcl_base.specs.declared.lock.Decision.{Decision}
use Rattle.pcl_base.specs.declared.lock.Decision.TheVariants as decision
use Rattle.pcl_base.specs.declared.message.Change.{Change}
use Rattle.pcl_base.specs.declared.message.Release.{Release}
use Rattle.pcl_base.specs.declared.reply.Reply.{Reply}
use Rattle.pcl_base.specs.declared.reply.Reply.TheVariants as reply
use Rattle.node_rules.specs.Words.{pick}
use Rattle.node_rules.specs.LockRule.{LockEntry, Settled, settle, ask, takes_change}
use Rattle.node_rules.specs.LockTable.{LockTable, entry_at, put_entry}
use Rattle.node_rules.specs.OpenTxs.{pending_of, waits_as}
use Rattle.node_rules.specs.NodeState.{number_of, table_of, page_owner}
use Rattle.node_rules.specs.Work.{Work, work_of_home, with_home_work, reply}
use Rattle.node_rules.specs.AccessRule.{Access, Accessed, Next, Now, AskOwn, AskOwner, Granted, granted, access, on_pool}
use Rattle.node_rules.specs.BufferRule.{clean}
use Rattle.node_rules.specs.DiskCalls.{DiskCall}
use Rattle.node_rules.specs.EndRule.{Ending, Closed}
use Rattle.node_rules.specs.OwnerRule.{with_table, told, grant_own, carry_grant, carry_out, carry_all, settle_served, settle_in, settle_page, enter_in, enter, waits_first, go_on, do_access, put_taken, version_of_change, change_if_served, end_in, on_release_in, on_release, send_release, tell_in, tell_end, is_unserved, keep_dirty, clean_unserved, end_work}
use Rattle.step_laws.proofs.Outcomes.{On, on_so, on_each}
use Rattle.cluster_laws.proofs.Lists.{all_any}
use Rattle.cluster_laws.specs.Call.Calls.{BeginsWith}
use Rattle.cluster_laws.proofs.CallParts.Written.{granted_writes, access_writes, changed_writes}

-- the calls of a work begin with some, and then write pages
abbrev pub Calls : List DiskCall → Work → Type 0
Calls K w = BeginsWith K w.calls

module _ (K : List DiskCall) where
  -- what an owner does
  own_calls : (b : Bool) (t : TxId) (m : Mode) (p x : ℕ) (w : Work) → Calls K w → On (Calls K) (grant_own b t m p x w)
  own_calls false t m p x w i = i
  own_calls true t m p x w i =
      on_so (λ (g : Granted). BeginsWith K g.work.calls) (Calls K) (granted t (record { page = p; mode = m; kind = kind.Own }) x None (work_of_home w)) (told w)
      (granted_writes K t (record { page = p; mode = m; kind = kind.Own }) x None (work_of_home w) i) (λ g b. b)

  grant_calls : (b : Bool) (t : TxId) (m : Mode) (right : Bool) (have : Option ℕ) (p x : ℕ) (w : Work) → Calls K w → On (Calls K) (carry_grant b t m right have p x w)
  grant_calls true t m right have p x w i = own_calls (waits_as (pending_of w.node.home.txs t) p m) t m p x w i
  grant_calls false t m right have p x w i = i

  carry_calls : (p x : ℕ) (d : Decision) (w : Work) → Calls K w → On (Calls K) (carry_out p x d w)
  unfolding carry_out
  carry_calls p x (decision.Grant t m right have) w i = grant_calls (t.node == number_of w.node) t m right have p x w i
  carry_calls p x (decision.Revoke n) w i = i

  all_calls : (p : ℕ) (t : LockTable) (s : Settled) (w : Work) → Calls K w → On (Calls K) (carry_all p t s w)
  all_calls p t s w i =
      on_each (Calls K) (λ (d : Decision). ⊤) (carry_out p s.entry.version) (λ d w any i. carry_calls p s.entry.version d w i) s.decisions (all_any s.decisions)
      (with_table p (put_entry t p s.entry) w) i

  pub settle_calls : (p : ℕ) (w : Work) → Calls K w → On (Calls K) (settle_page p w)
  unfolding settle_page
  settle_calls p w i = by (table_of w.node p)
    where
      served : (b : Bool) (t : LockTable) → On (Calls K) (settle_served b p t w)
      served false t = i
      served true t = all_calls p t (settle (number_of w.node) (entry_at t p)) w i

      by : (o : Option LockTable) → On (Calls K) (settle_in p o w)
      by None = i
      by (Some t) = served t.serving t

  pub enter_calls : (f : LockEntry → LockEntry) (p : ℕ) (w : Work) → Calls K w → On (Calls K) (enter f p w)
  unfolding enter
  enter_calls f p w i = by (table_of w.node p)
    where
      by : (o : Option LockTable) → On (Calls K) (enter_in f p o w)
      by None = i
      by (Some t) = settle_calls p (with_table p (put_entry t p (f (entry_at t p))) w) i

  waits_calls : (t : TxId) (p : ℕ) (w : Work) → Calls K w → Calls K (waits_first t p w)
  waits_calls t p w i = by (is_some (pending_of w.node.home.txs t))
    where
      by : (b : Bool) → Calls K (pick b (record w { replies = reply.Waits t p ∷ w.replies }) w)
      by true = i
      by false = i

  go_on_calls : (t : TxId) (p : ℕ) (x : Next) (w : Work) → Calls K w → On (Calls K) (go_on t p x w)
  go_on_calls t p (Now r) w i = i
  go_on_calls t p (AskOwn a) w i = on_so (Calls K) (Calls K) (enter (λ x. ask x a) p w) (waits_first t p) (enter_calls (λ x. ask x a) p w i) (λ x j. waits_calls t p x j)
  go_on_calls t p (AskOwner r) w i = i

  pub access_calls : (a : Access) (w : Work) → Calls K w → On (Calls K) (do_access a w)
  unfolding do_access
  access_calls a w i =
      let x : Accessed = access a (page_owner w.node a.page == number_of w.node) (work_of_home w) in
      go_on_calls a.tx a.page x.next (with_home_work w x.work) (access_writes K a (page_owner w.node a.page == number_of w.node) (work_of_home w) i)

  taken_calls : (b : Bool) (p : ℕ) (c : Option Change) (w : Work) → Calls K w → Calls K (put_taken b p c w)
  taken_calls true p (Some c) w i = changed_writes K p c (work_of_home w) i
  taken_calls true p None w i = i
  taken_calls false p c w i = i

  pub release_calls : (r : Release) (w : Work) → Calls K w → On (Calls K) (on_release r w)
  unfolding on_release
  release_calls r w i = by (table_of w.node r.page)
    where
      by : (o : Option LockTable) → On (Calls K) (on_release_in r o w)
      by None = i
      by (Some t) =
          let change : Option Change = change_if_served t.serving r.change in
          let taken : Bool = takes_change (entry_at t r.page) r.tx (version_of_change change) in
          enter_calls (end_in r.tx change) r.page (put_taken taken r.page r.change w) (taken_calls taken r.page r.change w i)

  -- ends
  told_calls : (k : Kind) (t : TxId) (x : Ending) (w : Work) → Calls K w → Calls K (send_release k t x w)
  told_calls kind.Registered t x w i = i
  told_calls kind.Own t x w i = i
  told_calls kind.Right t x w i = i

  tell_calls : (t : TxId) (x : Ending) (w : Work) → Calls K w → On (Calls K) (tell_end t x w)
  unfolding tell_end
  tell_calls t x w i = by (table_of w.node x.page)
    where
      by : (o : Option LockTable) → On (Calls K) (tell_in t x o w)
      by None = told_calls x.kind t x w i
      by (Some tb) = enter_calls (end_in t (change_if_served tb.serving x.change)) x.page w i

  kept_dirty_calls : (w : Work) (p : ℕ) → Calls K w → Calls K (keep_dirty w p)
  kept_dirty_calls w p i = by (is_unserved (table_of w.node p))
    where
      by : (b : Bool) → Calls K (pick b (with_home_work w (on_pool (λ b. clean b p) (work_of_home w))) w)
      by true = i
      by false = i

  cleaned_calls : (xs : List Ending) (w : Work) → Calls K w → Calls K (clean_unserved xs w)
  unfolding clean_unserved
  cleaned_calls [] w i = i
  cleaned_calls (x ∷ xs) w i = cleaned_calls xs (pick (is_some x.change) (keep_dirty w x.page) w) (by (is_some x.change))
    where
      by : (b : Bool) → Calls K (pick b (keep_dirty w x.page) w)
      by true = kept_dirty_calls w x.page i
      by false = i

  pub end_calls : (r : Reply) (t : TxId) (w : Work) (x : Closed) → BeginsWith K x.work.calls → On (Calls K) (end_work r t w x)
  end_calls r t w x i =
      on_each (Calls K) (λ (y : Ending). ⊤) (tell_end t) (λ y w any i. tell_calls t y w i) x.endings (all_any x.endings)
      (reply r (clean_unserved x.endings (with_home_work w x.work))) (cleaned_calls x.endings (with_home_work w x.work) i)
