-- What accesses, ends and settlings send has no lists.
use Rattle.std.proofs.Common.{◌≡◌, ◌≤◌, ◌==◌, ℕ, Bool, true, false, List, [], ◌∷◌, Option, Some, None, is_some, refl, arith}
use Rattle.std.specs.Prelude.{⊤}
use Rattle.pcl_base.specs.declared.tx.TxId.{TxId}
use Rattle.pcl_base.specs.declared.lock.Decision.{Decision}
use Rattle.pcl_base.specs.declared.lock.Decision.TheVariants as decision
use Rattle.pcl_base.specs.declared.lock.Kind.{Kind}
use Rattle.pcl_base.specs.declared.lock.Kind.TheVariants as kind
use Rattle.pcl_base.specs.declared.message.Body.{Body}
use Rattle.pcl_base.specs.declared.message.Body.TheVariants as body
use Rattle.pcl_base.specs.declared.reply.Reply.{Reply}
use Rattle.pcl_base.specs.declared.reply.Reply.TheVariants as reply
use Rattle.node_rules.specs.Words.{pick}
use Rattle.node_rules.specs.LockRule.{LockEntry, Settled, settle, ask}
use Rattle.node_rules.specs.LockTable.{LockTable, entry_at, put_entry}
use Rattle.node_rules.specs.OpenTxs.{pending_of, waits_as}
use Rattle.node_rules.specs.NodeState.{Outgoing, number_of, table_of, page_owner}
use Rattle.node_rules.specs.Work.{Work, Outcome, for_each, work_of_home, with_home_work, reply, send}
use Rattle.node_rules.specs.AccessRule.{Granted, granted, Next, Now, AskOwn, AskOwner, on_pool}
use Rattle.node_rules.specs.BufferRule.{clean}
use Rattle.node_rules.specs.EndRule.{Ending, Closed}
use Rattle.node_rules.specs.OwnerRule.{with_table, told, grant_own, carry_grant, carry_out, carry_all, settle_served, settle_in, settle_page, enter_in, enter, waits_first, go_on, change_if_served, end_in, send_release, tell_in, tell_end, is_unserved, keep_dirty, clean_unserved, end_work}
use Rattle.step_laws.proofs.Sums.{sum_push}
use Rattle.step_laws.proofs.Outcomes.{On, on_so, on_each, on_any}
use Rattle.step_laws.proofs.Gifts.{all_of}
use Rattle.listing_laws.specs.Lists.{one_list, lists_sent}

-- so many lists at most were sent
abbrev pub Few : ℕ → Work → Type 0
Few k w = lists_sent w.sends ≤ k

-- each of a list of things is done, which sends no list
pub each_few : {X : Type 0} (k : ℕ) (f : X → Work → Outcome Work) → ((x : X) (w : Work) → Few k w → On (Few k) (f x w))
    → (xs : List X) (w : Work) → Few k w → On (Few k) (for_each f xs w)
each_few k f step xs w h = on_each (Few k) (λ x. ⊤) f (λ x y any few. step x y few) xs (all_of (λ x. ⊤) (λ x. tt) xs) w h

module _ (k : ℕ) where
  pub send_few : (to : ℕ) (b : Body) (w : Work) → one_list b ≡ 0 → Few k w → Few k (send to b w)
  send_few to b w none h =
      let sent : Outgoing = record { to = to; message = record { epoch = w.node.epoch; body = b } } in
      let more = sum_push (λ (o : Outgoing). one_list o.message.body) w.sends sent in
      omega (arith, none, h, more)

  carried : (p v : ℕ) (d : Decision) (w : Work) → Few k w → On (Few k) (carry_out p v d w)
  unfolding carry_out
  carried p v (decision.Grant t m right have) w h = by (t.node == number_of w.node)
    where
      own : (b : Bool) → On (Few k) (grant_own b t m p v w)
      own false = h
      own true =
          on_so (λ (g : Granted). ⊤) (Few k) (granted t (record { page = p; mode = m; kind = kind.Own }) v None (work_of_home w)) (told w)
          (on_any (granted t (record { page = p; mode = m; kind = kind.Own }) v None (work_of_home w))) (λ g any. h)

      by : (b : Bool) → On (Few k) (carry_grant b t m right have p v w)
      by true = own (waits_as (pending_of w.node.home.txs t) p m)
      by false = send_few t.node _ w refl h
  carried p v (decision.Revoke n) w h = send_few n (body.Revoke p) w refl h

  all_carried : (p : ℕ) (t : LockTable) (s : Settled) (w : Work) → Few k w → On (Few k) (carry_all p t s w)
  all_carried p t s w h = each_few k (carry_out p s.entry.version) (carried p s.entry.version) s.decisions (with_table p (put_entry t p s.entry) w) h

  pub settled : (p : ℕ) (w : Work) → Few k w → On (Few k) (settle_page p w)
  unfolding settle_page
  settled p w h = by (table_of w.node p)
    where
      served : (t : LockTable) (b : Bool) → On (Few k) (settle_served b p t w)
      served t false = h
      served t true = all_carried p t (settle (number_of w.node) (entry_at t p)) w h

      by : (o : Option LockTable) → On (Few k) (settle_in p o w)
      by None = h
      by (Some t) = served t t.serving

  pub entered : (f : LockEntry → LockEntry) (p : ℕ) (w : Work) → Few k w → On (Few k) (enter f p w)
  unfolding enter
  entered f p w h = by (table_of w.node p)
    where
      by : (o : Option LockTable) → On (Few k) (enter_in f p o w)
      by None = h
      by (Some t) = settled p (with_table p (put_entry t p (f (entry_at t p))) w) h

  waits_few : (t : TxId) (p : ℕ) (w : Work) → Few k w → Few k (waits_first t p w)
  waits_few t p w h = by (is_some (pending_of w.node.home.txs t))
    where
      by : (b : Bool) → Few k (pick b (record w { replies = reply.Waits t p ∷ w.replies }) w)
      by true = h
      by false = h

  -- an access that came to something at home
  pub accessed : (t : TxId) (p : ℕ) (x : Next) (w : Work) → Few k w → On (Few k) (go_on t p x w)
  accessed t p (Now r) w h = h
  accessed t p (AskOwn a) w h = on_so (Few k) (Few k) (enter (λ e. ask e a) p w) (waits_first t p) (entered (λ e. ask e a) p w h) (λ x few. waits_few t p x few)
  accessed t p (AskOwner r) w h = send_few (page_owner w.node p) (body.Request r) (reply (reply.Waits t p) w) refl h

  released : (a : Kind) (t : TxId) (e : Ending) (w : Work) → Few k w → Few k (send_release a t e w)
  released kind.Registered t e w h = send_few (page_owner w.node e.page) (body.Release (record { tx = t; page = e.page; change = e.change })) w refl h
  released kind.Own t e w h = h
  released kind.Right t e w h = h

  ended : (t : TxId) (e : Ending) (w : Work) → Few k w → On (Few k) (tell_end t e w)
  unfolding tell_end
  ended t e w h = by (table_of w.node e.page)
    where
      by : (o : Option LockTable) → On (Few k) (tell_in t e o w)
      by None = released e.kind t e w h
      by (Some tb) = entered (end_in t (change_if_served tb.serving e.change)) e.page w h

  kept_few : (w : Work) (p : ℕ) → Few k w → Few k (keep_dirty w p)
  kept_few w p h = by (is_unserved (table_of w.node p))
    where
      by : (b : Bool) → Few k (pick b (with_home_work w (on_pool (λ b. clean b p) (work_of_home w))) w)
      by true = h
      by false = h

  cleaned_few : (es : List Ending) (w : Work) → Few k w → Few k (clean_unserved es w)
  unfolding clean_unserved
  cleaned_few [] w h = h
  cleaned_few (e ∷ es) w h = cleaned_few es (pick (is_some e.change) (keep_dirty w e.page) w) (by (is_some e.change))
    where
      by : (b : Bool) → Few k (pick b (keep_dirty w e.page) w)
      by true = kept_few w e.page h
      by false = h

  pub end_few : (r : Reply) (t : TxId) (w : Work) (x : Closed) → Few k w → On (Few k) (end_work r t w x)
  end_few r t w x h =
      each_few k (tell_end t) (ended t) x.endings (reply r (clean_unserved x.endings (with_home_work w x.work)))
      (cleaned_few x.endings (with_home_work w x.work) h)
