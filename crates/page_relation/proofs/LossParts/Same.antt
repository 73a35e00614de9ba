-- What makes no call: what an owner does, grants, accesses behind their frames, and ends.
use Rattle.std.proofs.Common.{◌≡◌, ℕ, ◌==◌, Bool, true, false, List, [], ◌∷◌, Option, Some, None, is_some}
use Rattle.std.specs.Prelude.{⊤}
use Rattle.pcl_base.specs.declared.lock.Decision.{Decision}
use Rattle.pcl_base.specs.declared.lock.Decision.TheVariants as decision
use Rattle.pcl_base.specs.declared.lock.Held.{Held}
use Rattle.pcl_base.specs.declared.lock.Kind.{Kind}
use Rattle.pcl_base.specs.declared.lock.Kind.TheVariants as kind
use Rattle.pcl_base.specs.declared.message.Grant.{Grant}
use Rattle.pcl_base.specs.declared.reply.Reply.{Reply}
use Rattle.pcl_base.specs.declared.reply.Reply.TheVariants as reply
use Rattle.pcl_base.specs.declared.tx.Mode.{Mode}
use Rattle.pcl_base.specs.declared.tx.TxId.{TxId}
use Rattle.text_rules.specs.StoredPage.{PageAt}
use Rattle.node_rules.specs.AccessRule.{Access, Accessed, Next, Now, AskOwn, AskOwner, Granted, Arrived, on_pool, perform, under_right, next_of, waiting, is_held, is_allowed, access_in, access, take_frames, from_disk, unless_current, bring, locked, write_of, granted, arrive, arrived, kind_of, image_of, shelf_after, readers_after, on_grant, now_done, clean_copy}
use Rattle.node_rules.specs.BufferRule.{find, install, clean}
use Rattle.node_rules.specs.CopyRule.{is_version}
use Rattle.node_rules.specs.DiskCalls.{DiskCall}
use Rattle.node_rules.specs.EndRule.{Ending, Closed}
use Rattle.node_rules.specs.LockRule.{LockEntry, Settled, settle, ask}
use Rattle.node_rules.specs.LockTable.{LockTable, entry_at, put_entry}
use Rattle.node_rules.specs.NodeState.{number_of, table_of, page_owner}
use Rattle.node_rules.specs.OpenTxs.{pending_of, waits_as}
use Rattle.node_rules.specs.OwnerRule.{with_table, told, grant_own, carry_grant, carry_out, carry_all, settle_served, settle_in, settle_page, enter_in, enter, waits_first, go_on, do_access, change_if_served, end_in, send_release, tell_in, tell_end, is_unserved, keep_dirty, clean_unserved, end_work}
use Rattle.node_rules.specs.Words.{pick}
use Rattle.node_rules.specs.Work.{HomeWork, Work, Goes, Differs, work_of_home, with_home_work, read_page, reply}
use Rattle.step_laws.proofs.Outcomes.{On, on_then, on_so, on_each, on_any}
use Rattle.cluster_laws.proofs.Lists.{all_any}

module _ (K : List DiskCall) where
  -- a work with these calls
  abbrev pub Same : HomeWork → Type 0
  Same w = w.calls ≡ K

  abbrev pub SameWork : Work → Type 0
  SameWork w = w.calls ≡ K

  performed_same : (t : TxId) (p : ℕ) (o : Option (ℕ × List ℕ)) (w : HomeWork) → Same w → Same (perform t p o w).work
  unfolding perform
  performed_same t p None w b = b
  performed_same t p (Some x) w b = b

  -- an access behind its frames
  pub access_same : (a : Access) (owned : Bool) (w : HomeWork) → Same (take_frames a w) → Same (access a owned w).work
  unfolding access access_in
  access_same a owned w got = by (is_held a f.home) (is_allowed a owned f.home)
    where
      f : HomeWork
      f = take_frames a w

      by : (x y : Bool) → Same (pick x (now_done (perform a.tx a.page a.write f))
          (pick y (now_done (perform a.tx a.page None (record f { home = under_right a.tx a.page f.home })))
          (record { next = next_of a owned (find f.home.pool a.page); work = record f { home = waiting a f.home } }))).work
      by true y = performed_same a.tx a.page a.write f got
      by false true = performed_same a.tx a.page None (record f { home = under_right a.tx a.page f.home }) got
      by false false = got

  -- grants
  bring_same : (p v : ℕ) (image : Option (List ℕ)) (w : HomeWork) → Same w → On Same (bring p v image w)
  unfolding bring
  bring_same p v image w b = by (is_version (find w.home.pool p) v) image
    where
      disk : (at : PageAt) (x : Bool) → On Same (pick x (Goes (on_pool (λ q. install q p (clean_copy at)) w)) (Differs p v at.version))
      disk at true = b
      disk at false = tt

      by : (x : Bool) (o : Option (List ℕ)) → On Same (unless_current x p v o w)
      by true o = b
      by false (Some bytes) = b
      by false None =
          on_then (λ (at : PageAt). ⊤) Same (read_page w.pages p) (from_disk p v w) (on_any (read_page w.pages p)) (λ at any. disk at (at.version == v))

  granted_same : (t : TxId) (l : Held) (v : ℕ) (image : Option (List ℕ)) (w : HomeWork) → Same w → On (λ (g : Granted). Same g.work) (granted t l v image w)
  unfolding granted
  granted_same t l v image w b =
      on_so Same (λ (g : Granted). Same g.work) (bring l.page v image w) (locked t l (write_of (pending_of w.home.txs t))) (bring_same l.page v image w b)
      (λ x c. performed_same t l.page (write_of (pending_of w.home.txs t)) _ c)

  pub arrived_same : (g : Grant) (owned : Bool) (w : HomeWork) → Same w → On (λ (a : Arrived). Same a.work) (on_grant g owned w)
  unfolding on_grant
  arrived_same g owned w b = by (waits_as (pending_of w.home.txs g.tx) g.page g.mode)
    where
      shelved : HomeWork
      shelved = record w { home = record (w.home) { shelf = shelf_after g w.home.shelf } }

      by : (x : Bool) → On (λ (a : Arrived). Same a.work) (arrive x g owned shelved)
      by false = b
      by true =
          on_so (λ (x : Granted). Same x.work) (λ (a : Arrived). Same a.work) _ arrived
          (granted_same g.tx (record { page = g.page; mode = g.mode; kind = kind_of owned g.right }) g.version (image_of g.copy)
          (record shelved { home = record (shelved.home) { shelf = readers_after g shelved.home.shelf } }) b)
          (λ x c. c)

  -- what an owner does
  own_same : (b : Bool) (t : TxId) (m : Mode) (p x : ℕ) (w : Work) → SameWork w → On SameWork (grant_own b t m p x w)
  own_same false t m p x w i = i
  own_same true t m p x w i =
      on_so (λ (g : Granted). Same g.work) SameWork (granted t (record { page = p; mode = m; kind = kind.Own }) x None (work_of_home w)) (told w)
      (granted_same t (record { page = p; mode = m; kind = kind.Own }) x None (work_of_home w) i) (λ g b. b)

  grant_same : (b : Bool) (t : TxId) (m : Mode) (right : Bool) (have : Option ℕ) (p x : ℕ) (w : Work) → SameWork w → On SameWork (carry_grant b t m right have p x w)
  grant_same true t m right have p x w i = own_same (waits_as (pending_of w.node.home.txs t) p m) t m p x w i
  grant_same false t m right have p x w i = i

  carry_same : (p x : ℕ) (d : Decision) (w : Work) → SameWork w → On SameWork (carry_out p x d w)
  unfolding carry_out
  carry_same p x (decision.Grant t m right have) w i = grant_same (t.node == number_of w.node) t m right have p x w i
  carry_same p x (decision.Revoke n) w i = i

  all_same : (p : ℕ) (t : LockTable) (s : Settled) (w : Work) → SameWork w → On SameWork (carry_all p t s w)
  all_same p t s w i =
      on_each SameWork (λ (d : Decision). ⊤) (carry_out p s.entry.version) (λ d w any i. carry_same p s.entry.version d w i) s.decisions (all_any s.decisions)
      (with_table p (put_entry t p s.entry) w) i

  settle_same : (p : ℕ) (w : Work) → SameWork w → On SameWork (settle_page p w)
  unfolding settle_page
  settle_same p w i = by (table_of w.node p)
    where
      served : (b : Bool) (t : LockTable) → On SameWork (settle_served b p t w)
      served false t = i
      served true t = all_same p t (settle (number_of w.node) (entry_at t p)) w i

      by : (o : Option LockTable) → On SameWork (settle_in p o w)
      by None = i
      by (Some t) = served t.serving t

  pub enter_same : (f : LockEntry → LockEntry) (p : ℕ) (w : Work) → SameWork w → On SameWork (enter f p w)
  unfolding enter
  enter_same f p w i = by (table_of w.node p)
    where
      by : (o : Option LockTable) → On SameWork (enter_in f p o w)
      by None = i
      by (Some t) = settle_same p (with_table p (put_entry t p (f (entry_at t p))) w) i

  waits_same : (t : TxId) (p : ℕ) (w : Work) → SameWork w → SameWork (waits_first t p w)
  waits_same t p w i = by (is_some (pending_of w.node.home.txs t))
    where
      by : (b : Bool) → SameWork (pick b (record w { replies = reply.Waits t p ∷ w.replies }) w)
      by true = i
      by false = i

  go_on_same : (t : TxId) (p : ℕ) (x : Next) (w : Work) → SameWork w → On SameWork (go_on t p x w)
  go_on_same t p (Now r) w i = i
  go_on_same t p (AskOwn a) w i = on_so SameWork SameWork (enter (λ x. ask x a) p w) (waits_first t p) (enter_same (λ x. ask x a) p w i) (λ x j. waits_same t p x j)
  go_on_same t p (AskOwner r) w i = i

  pub do_access_same : (a : Access) (w : Work) → Same (take_frames a (work_of_home w)) → On SameWork (do_access a w)
  unfolding do_access
  do_access_same a w i =
      let x : Accessed = access a (page_owner w.node a.page == number_of w.node) (work_of_home w) in
      go_on_same a.tx a.page x.next (with_home_work w x.work) (access_same a (page_owner w.node a.page == number_of w.node) (work_of_home w) i)

  -- ends
  told_same : (k : Kind) (t : TxId) (x : Ending) (w : Work) → SameWork w → SameWork (send_release k t x w)
  told_same kind.Registered t x w i = i
  told_same kind.Own t x w i = i
  told_same kind.Right t x w i = i

  tell_same : (t : TxId) (x : Ending) (w : Work) → SameWork w → On SameWork (tell_end t x w)
  unfolding tell_end
  tell_same t x w i = by (table_of w.node x.page)
    where
      by : (o : Option LockTable) → On SameWork (tell_in t x o w)
      by None = told_same x.kind t x w i
      by (Some tb) = enter_same (end_in t (change_if_served tb.serving x.change)) x.page w i

  kept_dirty_same : (w : Work) (p : ℕ) → SameWork w → SameWork (keep_dirty w p)
  kept_dirty_same w p i = by (is_unserved (table_of w.node p))
    where
      by : (b : Bool) → SameWork (pick b (with_home_work w (on_pool (λ b. clean b p) (work_of_home w))) w)
      by true = i
      by false = i

  cleaned_same : (xs : List Ending) (w : Work) → SameWork w → SameWork (clean_unserved xs w)
  unfolding clean_unserved
  cleaned_same [] w i = i
  cleaned_same (x ∷ xs) w i = cleaned_same xs (pick (is_some x.change) (keep_dirty w x.page) w) (by (is_some x.change))
    where
      by : (b : Bool) → SameWork (pick b (keep_dirty w x.page) w)
      by true = kept_dirty_same w x.page i
      by false = i

  pub end_same : (r : Reply) (t : TxId) (w : Work) (x : Closed) → Same x.work → On SameWork (end_work r t w x)
  end_same r t w x i =
      on_each SameWork (λ (y : Ending). ⊤) (tell_end t) (λ y w any i. tell_same t y w i) x.endings (all_any x.endings)
      (reply r (clean_unserved x.endings (with_home_work w x.work))) (cleaned_same x.endings (with_home_work w x.work) i)
