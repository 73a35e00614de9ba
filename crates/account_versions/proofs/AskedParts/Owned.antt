-- Granted writes within a step: what an owner does, accesses and ends.
use Rattle.std.proofs.Common.{ℕ, ◌==◌, Bool, true, false, List, [], ◌∷◌, ◌++◌, Option, Some, None, is_some}
use Rattle.std.specs.Prelude.{⊤}
use Rattle.std.specs.List.{AllByRecursion}
use Rattle.pcl_base.specs.declared.tx.TxId.{TxId}
use Rattle.pcl_base.specs.declared.tx.Mode.{Mode}
use Rattle.pcl_base.specs.declared.lock.Kind.{Kind}
use Rattle.pcl_base.specs.declared.lock.Kind.TheVariants as kind
use Rattle.pcl_base.specs.declared.lock.Decision.{Decision}
use Rattle.pcl_base.specs.declared.lock.Decision.TheVariants as decision
use Rattle.pcl_base.specs.declared.message.Change.{Change}
use Rattle.pcl_base.specs.declared.message.Release.{Release}
use Rattle.pcl_base.specs.declared.reply.Reply.{Reply}
use Rattle.pcl_base.specs.declared.reply.Reply.TheVariants as reply
use Rattle.node_rules.specs.Words.{pick}
use Rattle.node_rules.specs.LockRule.{LockEntry, Settled, settle, ask, takes_change}
use Rattle.node_rules.specs.LockTable.{LockTable, entry_at, put_entry}
use Rattle.node_rules.specs.OpenTxs.{pending_of, waits_as}
use Rattle.node_rules.specs.NodeState.{number_of, table_of, page_owner}
use Rattle.node_rules.specs.Work.{Work, work_of_home, with_home_work, reply}
use Rattle.node_rules.specs.AccessRule.{Access, Accessed, Next, Now, AskOwn, AskOwner, granted, access, on_pool}
use Rattle.node_rules.specs.BufferRule.{clean}
use Rattle.node_rules.specs.EndRule.{Ending, Closed}
use Rattle.node_rules.specs.OwnerRule.{with_table, told, grant_own, carry_grant, carry_out, carry_all, settle_served, settle_in, settle_page, enter_in, enter, waits_first, go_on, do_access, put_taken, version_of_change, change_if_served, end_in, on_release_in, on_release, send_release, tell_in, tell_end, is_unserved, keep_dirty, clean_unserved, end_work}
use Rattle.step_laws.proofs.Outcomes.{On, on_so, on_each}
use Rattle.node_laws.proofs.Lists.{all_push}
use Rattle.cluster_laws.proofs.Lists.{all_any}
use Rattle.account_versions.proofs.AskedParts.Homes.{Known, IsWell, WellTxs, WellHome, WellGranted, WellNext, WellAccessed, IsAsking, granted_well, access_well, changed_same}

module _ (k : Known) where
  -- replies that grant well
  abbrev pub AllWell : List Reply → Type 0
  AllWell rs = AllByRecursion (IsWell k) rs

  pub replied : (rs : List Reply) (r : Reply) → AllWell rs → IsWell k r → AllWell (rs ++ r ∷ [])
  replied rs r all fine = all_push (IsWell k) rs r all fine

  -- a work whose transactions wait for what they asked for, and that grants well
  abbrev pub IsRight : Work → Type 0
  IsRight w = WellHome k w.node.home × AllWell w.replies

  -- what an owner does
  own_right : (b : Bool) (t : TxId) (m : Mode) (p x : ℕ) (w : Work) → IsRight w → On (IsRight) (grant_own b t m p x w)
  own_right false t m p x w i = i
  own_right true t m p x w i =
      on_so (WellGranted k) (IsRight) (granted t (record { page = p; mode = m; kind = kind.Own }) x None (work_of_home w)) (told w)
      (granted_well k t (record { page = p; mode = m; kind = kind.Own }) x None (work_of_home w) i.0) (λ g b. (b.0, replied w.replies g.reply i.1 b.1))

  grant_right : (b : Bool) (t : TxId) (m : Mode) (right : Bool) (have : Option ℕ) (p x : ℕ) (w : Work) → IsRight w → On (IsRight) (carry_grant b t m right have p x w)
  grant_right true t m right have p x w i = own_right (waits_as (pending_of w.node.home.txs t) p m) t m p x w i
  grant_right false t m right have p x w i = i

  carry_right : (p x : ℕ) (d : Decision) (w : Work) → IsRight w → On (IsRight) (carry_out p x d w)
  unfolding carry_out
  carry_right p x (decision.Grant t m right have) w i = grant_right (t.node == number_of w.node) t m right have p x w i
  carry_right p x (decision.Revoke n) w i = i

  all_right : (p : ℕ) (t : LockTable) (s : Settled) (w : Work) → IsRight w → On (IsRight) (carry_all p t s w)
  all_right p t s w i =
      on_each (IsRight) (λ (d : Decision). ⊤) (carry_out p s.entry.version) (λ d w any i. carry_right p s.entry.version d w i) s.decisions (all_any s.decisions)
      (with_table p (put_entry t p s.entry) w) i

  pub settle_right : (p : ℕ) (w : Work) → IsRight w → On (IsRight) (settle_page p w)
  unfolding settle_page
  settle_right p w i = by (table_of w.node p)
    where
      served : (b : Bool) (t : LockTable) → On (IsRight) (settle_served b p t w)
      served false t = i
      served true t = all_right p t (settle (number_of w.node) (entry_at t p)) w i

      by : (o : Option LockTable) → On (IsRight) (settle_in p o w)
      by None = i
      by (Some t) = served t.serving t

  pub enter_right : (f : LockEntry → LockEntry) (p : ℕ) (w : Work) → IsRight w → On (IsRight) (enter f p w)
  unfolding enter
  enter_right f p w i = by (table_of w.node p)
    where
      by : (o : Option LockTable) → On (IsRight) (enter_in f p o w)
      by None = i
      by (Some t) = settle_right p (with_table p (put_entry t p (f (entry_at t p))) w) i

  waits_right : (t : TxId) (p : ℕ) (w : Work) → IsRight w → IsRight (waits_first t p w)
  waits_right t p w i = by (is_some (pending_of w.node.home.txs t))
    where
      by : (b : Bool) → IsRight (pick b (record w { replies = reply.Waits t p ∷ w.replies }) w)
      by true = (i.0, (tt, i.1))
      by false = i

  go_on_right : (t : TxId) (p : ℕ) (x : Next) (w : Work) → WellNext k x → IsRight w → On (IsRight) (go_on t p x w)
  go_on_right t p (Now r) w c i = (i.0, replied w.replies r i.1 c)
  go_on_right t p (AskOwn a) w c i = on_so (IsRight) (IsRight) (enter (λ x. ask x a) p w) (waits_first t p) (enter_right (λ x. ask x a) p w i) (λ x j. waits_right t p x j)
  go_on_right t p (AskOwner r) w c i = (i.0, replied w.replies (reply.Waits t p) i.1 tt)

  pub access_right : (a : Access) (w : Work) → IsAsking k a → IsRight w → On (IsRight) (do_access a w)
  unfolding do_access
  access_right a w is i =
      let x : Accessed = access a (page_owner w.node a.page == number_of w.node) (work_of_home w) in
      let g : WellAccessed k x = access_well k a (page_owner w.node a.page == number_of w.node) (work_of_home w) is i.0 in
      go_on_right a.tx a.page x.next (with_home_work w x.work) g.1 (g.0, i.1)

  taken_right : (b : Bool) (p : ℕ) (c : Option Change) (w : Work) → IsRight w → IsRight (put_taken b p c w)
  taken_right true p (Some c) w i = (changed_same (WellTxs k) p c (work_of_home w) i.0, i.1)
  taken_right true p None w i = i
  taken_right false p c w i = i

  pub release_right : (r : Release) (w : Work) → IsRight w → On (IsRight) (on_release r w)
  unfolding on_release
  release_right r w i = by (table_of w.node r.page)
    where
      by : (o : Option LockTable) → On (IsRight) (on_release_in r o w)
      by None = i
      by (Some t) =
          let change : Option Change = change_if_served t.serving r.change in
          let taken : Bool = takes_change (entry_at t r.page) r.tx (version_of_change change) in
          enter_right (end_in r.tx change) r.page (put_taken taken r.page r.change w) (taken_right taken r.page r.change w i)

  -- ends
  told_right : (k : Kind) (t : TxId) (x : Ending) (w : Work) → IsRight w → IsRight (send_release k t x w)
  told_right kind.Registered t x w i = i
  told_right kind.Own t x w i = i
  told_right kind.Right t x w i = i

  tell_right : (t : TxId) (x : Ending) (w : Work) → IsRight w → On (IsRight) (tell_end t x w)
  unfolding tell_end
  tell_right t x w i = by (table_of w.node x.page)
    where
      by : (o : Option LockTable) → On (IsRight) (tell_in t x o w)
      by None = told_right x.kind t x w i
      by (Some tb) = enter_right (end_in t (change_if_served tb.serving x.change)) x.page w i

  kept_dirty_right : (w : Work) (p : ℕ) → IsRight w → IsRight (keep_dirty w p)
  kept_dirty_right w p i = by (is_unserved (table_of w.node p))
    where
      by : (b : Bool) → IsRight (pick b (with_home_work w (on_pool (λ b. clean b p) (work_of_home w))) w)
      by true = i
      by false = i

  cleaned_right : (xs : List Ending) (w : Work) → IsRight w → IsRight (clean_unserved xs w)
  unfolding clean_unserved
  cleaned_right [] w i = i
  cleaned_right (x ∷ xs) w i = cleaned_right xs (pick (is_some x.change) (keep_dirty w x.page) w) (by (is_some x.change))
    where
      by : (b : Bool) → IsRight (pick b (keep_dirty w x.page) w)
      by true = kept_dirty_right w x.page i
      by false = i

  pub end_right : (r : Reply) (t : TxId) (w : Work) (x : Closed) → IsWell k r → WellHome k x.work.home → AllWell w.replies → On (IsRight) (end_work r t w x)
  end_right r t w x fine asks none =
      let kept = cleaned_right x.endings (with_home_work w x.work) (asks, none) in
      on_each (IsRight) (λ (y : Ending). ⊤) (tell_end t) (λ y w any i. tell_right t y w i) x.endings (all_any x.endings)
      (reply r (clean_unserved x.endings (with_home_work w x.work))) (kept.0, replied (clean_unserved x.endings (with_home_work w x.work)).replies r kept.1 fine)
