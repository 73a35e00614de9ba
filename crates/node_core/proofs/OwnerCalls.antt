-- What an owner does with its pages, and what it tells of an end, makes no changing call.
use Rattle.std.proofs.Common.{◌≡◌, sym, subst, ℕ, ◌==◌, Bool, true, false, List, [], ◌∷◌, Option, Some, None, is_some}
use Rattle.std.specs.Prelude.{⊤}
use Rattle.std.specs.List.{AllByRecursion}
use Rattle.pcl_base.specs.declared.tx.TxId.{TxId}
use Rattle.pcl_base.specs.declared.tx.Mode.{Mode}
use Rattle.pcl_base.specs.declared.lock.Held.{Held}
use Rattle.pcl_base.specs.declared.lock.Kind.{Kind}
use Rattle.pcl_base.specs.declared.lock.Kind.TheVariants as kind
use Rattle.pcl_base.specs.declared.lock.Decision.{Decision}
use Rattle.pcl_base.specs.declared.lock.Decision.TheVariants as decision
use Rattle.pcl_base.specs.declared.message.Grant.{Grant}
use Rattle.pcl_base.specs.declared.reply.Reply.{Reply}
use Rattle.pcl_base.specs.declared.reply.Reply.TheVariants as reply
use Rattle.node_rules.specs.Words.{pick}
use Rattle.node_rules.specs.LockRule.{LockEntry, Settled, settle, ask}
use Rattle.node_rules.specs.LockTable.{LockTable, entry_at, put_entry}
use Rattle.node_rules.specs.OpenTxs.{pending_of, waits_as}
use Rattle.node_rules.specs.NodeState.{number_of, table_of}
use Rattle.node_rules.specs.Work.{HomeWork, Work, work_of_home, with_home_work, reply}
use Rattle.node_rules.specs.AccessRule.{Next, Now, AskOwn, AskOwner, Granted, Arrived, granted, on_grant, on_pool}
use Rattle.node_rules.specs.BufferRule.{clean}
use Rattle.node_rules.specs.DiskCalls.{DiskCall}
use Rattle.node_rules.specs.EndRule.{Ending, Closed}
use Rattle.node_rules.specs.OwnerRule.{with_table, told, grant_own, carry_grant, carry_out, carry_all, settle_served, settle_in, settle_page, enter_in, enter, waits_first, go_on, change_if_served, end_in, send_release, tell_in, tell_end, is_unserved, keep_dirty, clean_unserved, end_work}
use Rattle.home.specs.Grants.{work_at}
use Rattle.page_owner.proofs.Frames.{granted_frames, on_grant_frames}
use Rattle.step_laws.proofs.Outcomes.{On, on_so, on_each, on_any}

all_any : {X : Type 0} (xs : List X) → AllByRecursion (λ (x : X). ⊤) xs
all_any [] = tt
all_any (x ∷ xs) = (tt, all_any xs)

module _ (K : List DiskCall) where
  -- the calls of a work are still these
  abbrev pub Same : Work → Type 0
  Same w = w.calls ≡ K

  -- a grant at home
  granted_same : (t : TxId) (l : Held) (version : ℕ) (image : Option (List ℕ)) (w : HomeWork) → w.calls ≡ K → On (λ (g : Granted). g.work.calls ≡ K) (granted t l version image w)
  granted_same t l version image w i =
      subst (On (λ (g : Granted). g.work.calls ≡ K)) (sym (granted_frames w.pages w.calls t l version image w.home))
      (on_so (λ (g : Granted). ⊤) (λ (g : Granted). g.work.calls ≡ K) (granted t l version image (work_at w.pages w.home)) _ (on_any (granted t l version image (work_at w.pages w.home))) (λ g any. i))

  pub arrived_same : (g : Grant) (owned : Bool) (w : HomeWork) → w.calls ≡ K → On (λ (a : Arrived). a.work.calls ≡ K) (on_grant g owned w)
  arrived_same g owned w i =
      subst (On (λ (a : Arrived). a.work.calls ≡ K)) (sym (on_grant_frames w.pages w.calls g owned w.home))
      (on_so (λ (a : Arrived). ⊤) (λ (a : Arrived). a.work.calls ≡ K) (on_grant g owned (work_at w.pages w.home)) _ (on_any (on_grant g owned (work_at w.pages w.home))) (λ a any. i))

  -- decisions
  own_same : (b : Bool) (t : TxId) (m : Mode) (p x : ℕ) (w : Work) → Same w → On Same (grant_own b t m p x w)
  own_same false t m p x w i = i
  own_same true t m p x w i =
      on_so (λ (g : Granted). g.work.calls ≡ K) Same (granted t (record { page = p; mode = m; kind = kind.Own }) x None (work_of_home w)) (told w)
      (granted_same t (record { page = p; mode = m; kind = kind.Own }) x None (work_of_home w) i) (λ g b. b)

  grant_same : (b : Bool) (t : TxId) (m : Mode) (right : Bool) (have : Option ℕ) (p x : ℕ) (w : Work) → Same w → On Same (carry_grant b t m right have p x w)
  grant_same true t m right have p x w i = own_same (waits_as (pending_of w.node.home.txs t) p m) t m p x w i
  grant_same false t m right have p x w i = i

  carry_same : (p x : ℕ) (d : Decision) (w : Work) → Same w → On Same (carry_out p x d w)
  unfolding carry_out
  carry_same p x (decision.Grant t m right have) w i = grant_same (t.node == number_of w.node) t m right have p x w i
  carry_same p x (decision.Revoke n) w i = i

  all_same : (p : ℕ) (t : LockTable) (s : Settled) (w : Work) → Same w → On Same (carry_all p t s w)
  all_same p t s w i =
      on_each Same (λ (d : Decision). ⊤) (carry_out p s.entry.version) (λ d w any i. carry_same p s.entry.version d w i) s.decisions (all_any s.decisions)
      (with_table p (put_entry t p s.entry) w) i

  -- a page is settled, and an entry changed
  settle_same : (p : ℕ) (w : Work) → Same w → On Same (settle_page p w)
  unfolding settle_page
  settle_same p w i = by (table_of w.node p)
    where
      served : (b : Bool) (t : LockTable) → On Same (settle_served b p t w)
      served false t = i
      served true t = all_same p t (settle (number_of w.node) (entry_at t p)) w i

      by : (o : Option LockTable) → On Same (settle_in p o w)
      by None = i
      by (Some t) = served t.serving t

  pub enter_same : (f : LockEntry → LockEntry) (p : ℕ) (w : Work) → Same w → On Same (enter f p w)
  unfolding enter
  enter_same f p w i = by (table_of w.node p)
    where
      by : (o : Option LockTable) → On Same (enter_in f p o w)
      by None = i
      by (Some t) = settle_same p (with_table p (put_entry t p (f (entry_at t p))) w) i

  -- what comes after an access at home
  waits_same : (t : TxId) (p : ℕ) (w : Work) → Same w → Same (waits_first t p w)
  waits_same t p w i = by (is_some (pending_of w.node.home.txs t))
    where
      by : (b : Bool) → Same (pick b (record w { replies = reply.Waits t p ∷ w.replies }) w)
      by true = i
      by false = i

  pub go_on_same : (t : TxId) (p : ℕ) (x : Next) (w : Work) → Same w → On Same (go_on t p x w)
  go_on_same t p (Now r) w i = i
  go_on_same t p (AskOwn a) w i = on_so Same Same (enter (λ x. ask x a) p w) (waits_first t p) (enter_same (λ x. ask x a) p w i) (λ x j. waits_same t p x j)
  go_on_same t p (AskOwner r) w i = i

  -- ends
  released_same : (k : Kind) (t : TxId) (x : Ending) (w : Work) → Same w → Same (send_release k t x w)
  released_same kind.Registered t x w i = i
  released_same kind.Own t x w i = i
  released_same kind.Right t x w i = i

  tell_same : (t : TxId) (x : Ending) (w : Work) → Same w → On Same (tell_end t x w)
  unfolding tell_end
  tell_same t x w i = by (table_of w.node x.page)
    where
      by : (o : Option LockTable) → On Same (tell_in t x o w)
      by None = released_same x.kind t x w i
      by (Some tb) = enter_same (end_in t (change_if_served tb.serving x.change)) x.page w i

  dirty_same : (w : Work) (p : ℕ) → Same w → Same (keep_dirty w p)
  dirty_same w p i = by (is_unserved (table_of w.node p))
    where
      by : (b : Bool) → Same (pick b (with_home_work w (on_pool (λ b. clean b p) (work_of_home w))) w)
      by true = i
      by false = i

  cleaned_same : (xs : List Ending) (w : Work) → Same w → Same (clean_unserved xs w)
  unfolding clean_unserved
  cleaned_same [] w i = i
  cleaned_same (x ∷ xs) w i = cleaned_same xs (pick (is_some x.change) (keep_dirty w x.page) w) (by (is_some x.change))
    where
      by : (b : Bool) → Same (pick b (keep_dirty w x.page) w)
      by true = dirty_same w x.page i
      by false = i

  pub end_same : (r : Reply) (t : TxId) (w : Work) (x : Closed) → x.work.calls ≡ K → On Same (end_work r t w x)
  end_same r t w x i =
      on_each Same (λ (y : Ending). ⊤) (tell_end t) (λ y w any i. tell_same t y w i) x.endings (all_any x.endings)
      (reply r (clean_unserved x.endings (with_home_work w x.work))) (cleaned_same x.endings (with_home_work w x.work) i)
