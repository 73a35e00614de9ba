-- What stands behind the first reply of a step.
use Rattle.std.proofs.Common.{◌≡◌, refl, ap, ◌∙◌, ℕ, ◌==◌, Bool, true, false, List, [], ◌∷◌, ◌++◌, Option, Some, None, append_assoc}
use Rattle.std.specs.Prelude.{⊤}
use Rattle.pcl_base.specs.declared.tx.TxId.{TxId}
use Rattle.pcl_base.specs.declared.lock.Held.{Held}
use Rattle.pcl_base.specs.declared.lock.Kind.{Kind}
use Rattle.pcl_base.specs.declared.lock.Kind.TheVariants as kind
use Rattle.pcl_base.specs.declared.message.Body.{Body}
use Rattle.pcl_base.specs.declared.message.Body.TheVariants as body
use Rattle.pcl_base.specs.declared.message.Change.{Change}
use Rattle.pcl_base.specs.declared.message.Grant.{Grant}
use Rattle.pcl_base.specs.declared.message.Release.{Release}
use Rattle.pcl_base.specs.declared.message.Report.{Report}
use Rattle.pcl_base.specs.declared.reply.Reply.{Reply}
use Rattle.pcl_base.specs.declared.reply.Reply.TheVariants as reply
use Rattle.run_rules.specs.Disk.{Disk}
use Rattle.run_rules.specs.Taking.{is_waiting}
use Rattle.run_rules.specs.Views.{View, owner_of, since_of}
use Rattle.node_rules.specs.LockRule.{LockEntry, ask, returned, takes_change}
use Rattle.node_rules.specs.LockTable.{LockTable, entry_at}
use Rattle.node_rules.specs.NodeState.{number_of, table_at, table_of, put_table, page_owner}
use Rattle.node_rules.specs.OpenTxs.{pending_of, waits_as}
use Rattle.node_rules.specs.Shelf.{Right, right_on}
use Rattle.node_rules.specs.Work.{HomeWork, Work, work_of_home, with_home_work, with_node, some_reply, reply, send}
use Rattle.node_rules.specs.AccessRule.{Granted, Arrived, arrive, arrived, granted, on_grant, shelf_after, readers_after, kind_of, image_of, on_revoke, answer_with}
use Rattle.node_rules.specs.EndRule.{Ending}
use Rattle.node_rules.specs.OwnerRule.{end_in, change_if_served, put_taken, version_of_change, on_release_in, on_release, enter, send_release, tell_in, tell_end}
use Rattle.node_rules.specs.Reports.{gather}
use Rattle.node_rules.specs.InstallRule.{complete, owned_before, left_if, tell_new_owner, install_by, install_partition, take_report, on_report_in, on_report}
use Rattle.node_rules.specs.NodeStep.{after_grant, take_grant, take_revoke, work_off}
use Rattle.node_laws.proofs.Lists.{all_push}
use Rattle.home_laws.proofs.Tests.{number_same, tx_same}
use Rattle.step_laws.proofs.Outcomes.{On, on_so}
use Rattle.account_relation.specs.Replies.{is_behind, AreBehind}
use Rattle.account_relation.proofs.Walks.{is_decided, granted_behind, entered_walk, put_walk, completed_walk, got_walk, stayed_walk}

-- behind some first replies stand such alone
pub record Answers (front : List Reply) (view : Option View) (w : Work) : Type 0 where
  pub rest : List Reply
  pub joined : w.replies ≡ front ++ rest
  pub behind : AreBehind rest
  pub in_view : w.node.view ≡ view

-- the reply of a grant that arrives, if there is one
abbrev pub IfBehind : Option Reply → Type 0
IfBehind None = ⊤
IfBehind (Some r) = is_behind r ≡ true

pub arrived_behind : (g : Grant) (owned : Bool) (w : HomeWork) → On (λ (x : Arrived). IfBehind x.reply) (on_grant g owned w)
unfolding on_grant
arrived_behind g owned w = by (waits_as (pending_of w.home.txs g.tx) g.page g.mode)
  where
    x : HomeWork
    x = record w { home = record (w.home) { shelf = shelf_after g w.home.shelf } }

    by : (b : Bool) → On (λ (y : Arrived). IfBehind y.reply) (arrive b g owned x)
    by false = tt
    by true =
        let l : Held = record { page = g.page; mode = g.mode; kind = kind_of owned g.right } in
        let y : HomeWork = record x { home = record (x.home) { shelf = readers_after g x.home.shelf } } in
        on_so (λ (z : Granted). is_behind z.reply ≡ true) (λ (z : Arrived). IfBehind z.reply) (granted g.tx l g.version (image_of g.copy) y) arrived
        (granted_behind g.tx l g.version (image_of g.copy) y) (λ z is. is)

module _ (front : List Reply) (view : Option View) where
  pub same_answers : (w x : Work) → x.replies ≡ w.replies → x.sends ≡ w.sends → x.node.view ≡ w.node.view → Answers front view w → Answers front view x
  same_answers w x replies sends views a = record { rest = a.rest; joined = replies ∙ a.joined; behind = a.behind; in_view = views ∙ a.in_view }

  pub more_answers : (r : Reply) (w : Work) → is_behind r ≡ true → Answers front view w → Answers front view (reply r w)
  more_answers r w is a =
      record {
        rest = a.rest ++ r ∷ [];
        joined = ap (λ rs. rs ++ r ∷ []) a.joined ∙ append_assoc front a.rest (r ∷ []);
        behind = all_push (λ x. is_behind x ≡ true) a.rest r a.behind is;
        in_view = a.in_view;
      }

  pub sent_answers : (to : ℕ) (b : Body) (w : Work) → Answers front view w → Answers front view (send to b w)
  sent_answers to b w a = record { rest = a.rest; joined = a.joined; behind = a.behind; in_view = a.in_view }

  pub decided_answers : (to : ℕ) (b : Body) (w : Work) → is_decided b ≡ true → Answers front view w → Answers front view (send to b w)
  decided_answers to b w is a = sent_answers to b w a

  pub enter_answers : (f : LockEntry → LockEntry) (p : ℕ) (w : Work) → Answers front view w → On (Answers front view) (enter f p w)
  enter_answers = entered_walk (Answers front view) same_answers more_answers decided_answers

  -- the end of a transaction
  pub tell_answers : (t : TxId) (e : Ending) (w : Work) → Answers front view w → On (Answers front view) (tell_end t e w)
  unfolding tell_end
  tell_answers t e w a = by (table_of w.node e.page)
    where
      released : (k : Kind) → Answers front view (send_release k t e w)
      released kind.Registered = sent_answers (page_owner w.node e.page) (body.Release (record { tx = t; page = e.page; change = e.change })) w a
      released kind.Own = a
      released kind.Right = a

      by : (o : Option LockTable) → On (Answers front view) (tell_in t e o w)
      by None = released e.kind
      by (Some tb) = enter_answers (end_in t (change_if_served tb.serving e.change)) e.page w a

  -- messages
  pub release_answers : (r : Release) (w : Work) → Answers front view w → On (Answers front view) (on_release r w)
  unfolding on_release
  release_answers r w a = by (table_of w.node r.page)
    where
      by : (o : Option LockTable) → On (Answers front view) (on_release_in r o w)
      by None = a
      by (Some t) =
          let change : Option Change = change_if_served t.serving r.change in
          let taken : Bool = takes_change (entry_at t r.page) r.tx (version_of_change change) in
          enter_answers (end_in r.tx change) r.page (put_taken taken r.page r.change w)
          (put_walk (Answers front view) same_answers taken r.page r.change w a)

  pub complete_answers : (d : Disk) (q : ℕ) (w : Work) → Answers front view w → On (Answers front view) (complete d q w)
  complete_answers = completed_walk (Answers front view) same_answers more_answers decided_answers

  pub report_answers : (d : Disk) (from : ℕ) (r : Report) (w : Work) → Answers front view w → On (Answers front view) (on_report d from r w)
  unfolding on_report
  report_answers d from r w a = by (table_at w.node r.partition)
    where
      taken : (t : LockTable) (b : Bool) → On (Answers front view) (take_report b d from r t w)
      taken t true = a
      taken t false =
          let x : Work = with_node w (put_table w.node r.partition (Some (gather t from r))) in complete_answers d r.partition x (same_answers w x refl refl refl a)

      by : (o : Option LockTable) → On (Answers front view) (on_report_in d from r o w)
      by None = a
      by (Some t) = taken t t.serving

  pub arrived_answers : (a : Arrived) (w : Work) → IfBehind a.reply → Answers front view w → Answers front view (after_grant w a)
  arrived_answers a w is h = by a.reply is
    where
      x : Work
      x = with_home_work w a.work

      by : (o : Option Reply) → IfBehind o → Answers front view (some_reply o x)
      by None is = same_answers w x refl refl refl h
      by (Some r) is = more_answers r x is (same_answers w x refl refl refl h)

  pub grant_answers : (g : Grant) (w : Work) → Answers front view w → On (Answers front view) (take_grant (table_of w.node g.page) g w)
  grant_answers g w a = by (table_of w.node g.page)
    where
      by : (o : Option LockTable) → On (Answers front view) (take_grant o g w)
      by None = on_so (λ (x : Arrived). IfBehind x.reply) (Answers front view) (on_grant g false (work_of_home w)) (after_grant w) (arrived_behind g false (work_of_home w)) (λ x is. arrived_answers x w is a)
      by (Some t) = a

  pub revoke_answers : (from p : ℕ) (w : Work) → Answers front view w → Answers front view (take_revoke from w (on_revoke p w.node.home))
  unfolding on_revoke
  revoke_answers from p w a = by (right_on w.node.home.shelf p)
    where
      by : (o : Option Right) → Answers front view (take_revoke from w (answer_with p o w.node.home))
      by None = same_answers w _ refl refl refl a
      by (Some r) = record { rest = a.rest; joined = a.joined; behind = a.behind; in_view = a.in_view }

  pub work_answers : (d : Disk) (from : ℕ) (b : Body) (w : Work) → Answers front view w → On (Answers front view) (work_off d from b w)
  work_answers d from (body.Request r) w a = enter_answers (λ e. ask e (record { tx = r.tx; mode = r.mode; have = r.have })) r.page w a
  work_answers d from (body.Grant g) w a = grant_answers g w a
  work_answers d from (body.Release r) w a = release_answers r w a
  work_answers d from (body.Revoke p) w a = revoke_answers from p w a
  work_answers d from (body.Return r) w a = enter_answers (λ e. returned e from r.readers) r.page w a
  work_answers d from (body.Report r) w a = report_answers d from r w a

  -- partitions at an install
  pub told_answers : (before : Option View) (v : View) (q : ℕ) (w : Work) → Answers front view w → Answers front view (tell_new_owner before v q w)
  told_answers before v q w a = record { rest = a.rest; joined = a.joined; behind = a.behind; in_view = by (owned_before before q (number_of w.node)) ∙ a.in_view }
    where
      by : (b : Bool) → (left_if b q w.node).view ≡ w.node.view
      by true = refl
      by false = refl

  pub partition_answers : (d : Disk) (before : Option View) (v : View) (q : ℕ) (w : Work) → Answers front view w → On (Answers front view) (install_partition d before v q w)
  unfolding install_partition
  partition_answers d before v q w a = by (owner_of v q == number_of w.node) (since_of v q == v.epoch)
    where
      by : (x y : Bool) → On (Answers front view) (install_by x y d before v q w)
      by true true = got_walk (Answers front view) same_answers more_answers decided_answers d q w a
      by true false = stayed_walk (Answers front view) same_answers more_answers decided_answers (table_at w.node q) d before v q w a
      by false true = told_answers before v q w a
      by false false = a

pub waits_own : (t : TxId) (p : ℕ) → is_waiting t p (reply.Waits t p) ≡ true
waits_own t p = let tx = tx_same t in let page = number_same p in cc
