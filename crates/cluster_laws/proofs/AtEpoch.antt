-- The epoch and the view of a node within a step: what an owner does, accesses and ends.
use Rattle.std.proofs.Common.{◌≡◌, ℕ, ◌==◌, Bool, true, false, List, [], ◌∷◌, Option, Some, None, is_some}
use Rattle.std.specs.Prelude.{⊤}
use Rattle.pcl_base.specs.declared.tx.TxId.{TxId}
use Rattle.pcl_base.specs.declared.tx.Mode.{Mode}
use Rattle.pcl_base.specs.declared.lock.Kind.{Kind}
use Rattle.pcl_base.specs.declared.lock.Kind.TheVariants as kind
use Rattle.pcl_base.specs.declared.lock.Decision.{Decision}
use Rattle.pcl_base.specs.declared.lock.Decision.TheVariants as decision
use Rattle.pcl_base.specs.declared.message.Change.{Change}
use Rattle.pcl_base.specs.declared.message.Release.{Release}
use Rattle.pcl_base.specs.declared.reply.Reply.{Reply}
use Rattle.pcl_base.specs.declared.reply.Reply.TheVariants as reply
use Rattle.run_rules.specs.Views.{View}
use Rattle.node_rules.specs.Words.{pick}
use Rattle.node_rules.specs.LockRule.{LockEntry, Settled, settle, ask, takes_change}
use Rattle.node_rules.specs.LockTable.{LockTable, entry_at, put_entry}
use Rattle.node_rules.specs.OpenTxs.{pending_of, waits_as}
use Rattle.node_rules.specs.NodeState.{number_of, table_of, page_owner}
use Rattle.node_rules.specs.Work.{Work, work_of_home, with_home_work, reply}
use Rattle.node_rules.specs.AccessRule.{Access, Accessed, Next, Now, AskOwn, AskOwner, Granted, granted, access, on_pool}
use Rattle.node_rules.specs.BufferRule.{clean}
use Rattle.node_rules.specs.EndRule.{Ending, Closed}
use Rattle.node_rules.specs.OwnerRule.{with_table, told, grant_own, carry_grant, carry_out, carry_all, settle_served, settle_in, settle_page, enter_in, enter, waits_first, go_on, do_access, put_taken, version_of_change, change_if_served, end_in, on_release_in, on_release, send_release, tell_in, tell_end, is_unserved, keep_dirty, clean_unserved, end_work}
use Rattle.step_laws.proofs.Outcomes.{On, on_so, on_each, on_any}
use Rattle.cluster_laws.proofs.Lists.{all_any}

-- a work at an epoch and in a view
abbrev pub IsAt : ℕ → Option View → Work → Type 0
IsAt e v w = (w.node.epoch ≡ e) × (w.node.view ≡ v)

module _ (e : ℕ) (v : Option View) where
  -- what an owner does
  own_at : (b : Bool) (t : TxId) (m : Mode) (p x : ℕ) (w : Work) → IsAt e v w → On (IsAt e v) (grant_own b t m p x w)
  own_at false t m p x w i = i
  own_at true t m p x w i =
      on_so (λ (g : Granted). ⊤) (IsAt e v) (granted t (record { page = p; mode = m; kind = kind.Own }) x None (work_of_home w)) (told w)
      (on_any (granted t (record { page = p; mode = m; kind = kind.Own }) x None (work_of_home w))) (λ g any. i)

  grant_at : (b : Bool) (t : TxId) (m : Mode) (right : Bool) (have : Option ℕ) (p x : ℕ) (w : Work) → IsAt e v w → On (IsAt e v) (carry_grant b t m right have p x w)
  grant_at true t m right have p x w i = own_at (waits_as (pending_of w.node.home.txs t) p m) t m p x w i
  grant_at false t m right have p x w i = i

  carry_at : (p x : ℕ) (d : Decision) (w : Work) → IsAt e v w → On (IsAt e v) (carry_out p x d w)
  unfolding carry_out
  carry_at p x (decision.Grant t m right have) w i = grant_at (t.node == number_of w.node) t m right have p x w i
  carry_at p x (decision.Revoke n) w i = i

  all_at : (p : ℕ) (t : LockTable) (s : Settled) (w : Work) → IsAt e v w → On (IsAt e v) (carry_all p t s w)
  all_at p t s w i =
      on_each (IsAt e v) (λ (d : Decision). ⊤) (carry_out p s.entry.version) (λ d w any i. carry_at p s.entry.version d w i) s.decisions (all_any s.decisions)
      (with_table p (put_entry t p s.entry) w) i

  pub settle_at : (p : ℕ) (w : Work) → IsAt e v w → On (IsAt e v) (settle_page p w)
  unfolding settle_page
  settle_at p w i = by (table_of w.node p)
    where
      served : (b : Bool) (t : LockTable) → On (IsAt e v) (settle_served b p t w)
      served false t = i
      served true t = all_at p t (settle (number_of w.node) (entry_at t p)) w i

      by : (o : Option LockTable) → On (IsAt e v) (settle_in p o w)
      by None = i
      by (Some t) = served t.serving t

  pub enter_at : (f : LockEntry → LockEntry) (p : ℕ) (w : Work) → IsAt e v w → On (IsAt e v) (enter f p w)
  unfolding enter
  enter_at f p w i = by (table_of w.node p)
    where
      by : (o : Option LockTable) → On (IsAt e v) (enter_in f p o w)
      by None = i
      by (Some t) = settle_at p (with_table p (put_entry t p (f (entry_at t p))) w) i

  waits_at : (t : TxId) (p : ℕ) (w : Work) → IsAt e v w → IsAt e v (waits_first t p w)
  waits_at t p w i = by (is_some (pending_of w.node.home.txs t))
    where
      by : (b : Bool) → IsAt e v (pick b (record w { replies = reply.Waits t p ∷ w.replies }) w)
      by true = i
      by false = i

  go_on_at : (t : TxId) (p : ℕ) (x : Next) (w : Work) → IsAt e v w → On (IsAt e v) (go_on t p x w)
  go_on_at t p (Now r) w i = i
  go_on_at t p (AskOwn a) w i = on_so (IsAt e v) (IsAt e v) (enter (λ x. ask x a) p w) (waits_first t p) (enter_at (λ x. ask x a) p w i) (λ x j. waits_at t p x j)
  go_on_at t p (AskOwner r) w i = i

  pub access_at : (a : Access) (w : Work) → IsAt e v w → On (IsAt e v) (do_access a w)
  unfolding do_access
  access_at a w i =
      let x : Accessed = access a (page_owner w.node a.page == number_of w.node) (work_of_home w) in
      go_on_at a.tx a.page x.next (with_home_work w x.work) i

  taken_at : (b : Bool) (p : ℕ) (c : Option Change) (w : Work) → IsAt e v w → IsAt e v (put_taken b p c w)
  taken_at true p (Some c) w i = i
  taken_at true p None w i = i
  taken_at false p c w i = i

  pub release_at : (r : Release) (w : Work) → IsAt e v w → On (IsAt e v) (on_release r w)
  unfolding on_release
  release_at r w i = by (table_of w.node r.page)
    where
      by : (o : Option LockTable) → On (IsAt e v) (on_release_in r o w)
      by None = i
      by (Some t) =
          let change : Option Change = change_if_served t.serving r.change in
          let taken : Bool = takes_change (entry_at t r.page) r.tx (version_of_change change) in
          enter_at (end_in r.tx change) r.page (put_taken taken r.page r.change w) (taken_at taken r.page r.change w i)

  -- ends
  told_at : (k : Kind) (t : TxId) (x : Ending) (w : Work) → IsAt e v w → IsAt e v (send_release k t x w)
  told_at kind.Registered t x w i = i
  told_at kind.Own t x w i = i
  told_at kind.Right t x w i = i

  tell_at : (t : TxId) (x : Ending) (w : Work) → IsAt e v w → On (IsAt e v) (tell_end t x w)
  unfolding tell_end
  tell_at t x w i = by (table_of w.node x.page)
    where
      by : (o : Option LockTable) → On (IsAt e v) (tell_in t x o w)
      by None = told_at x.kind t x w i
      by (Some tb) = enter_at (end_in t (change_if_served tb.serving x.change)) x.page w i

  kept_dirty_at : (w : Work) (p : ℕ) → IsAt e v w → IsAt e v (keep_dirty w p)
  kept_dirty_at w p i = by (is_unserved (table_of w.node p))
    where
      by : (b : Bool) → IsAt e v (pick b (with_home_work w (on_pool (λ b. clean b p) (work_of_home w))) w)
      by true = i
      by false = i

  cleaned_at : (xs : List Ending) (w : Work) → IsAt e v w → IsAt e v (clean_unserved xs w)
  unfolding clean_unserved
  cleaned_at [] w i = i
  cleaned_at (x ∷ xs) w i = cleaned_at xs (pick (is_some x.change) (keep_dirty w x.page) w) (by (is_some x.change))
    where
      by : (b : Bool) → IsAt e v (pick b (keep_dirty w x.page) w)
      by true = kept_dirty_at w x.page i
      by false = i

  pub end_at : (r : Reply) (t : TxId) (w : Work) (x : Closed) → IsAt e v w → On (IsAt e v) (end_work r t w x)
  end_at r t w x i =
      on_each (IsAt e v) (λ (y : Ending). ⊤) (tell_end t) (λ y w any i. tell_at t y w i) x.endings (all_any x.endings)
      (reply r (clean_unserved x.endings (with_home_work w x.work))) (cleaned_at x.endings (with_home_work w x.work) i)
