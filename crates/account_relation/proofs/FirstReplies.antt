-- The replies of a step: the event's own one first.
use Rattle.std.proofs.Common.{◌≡◌, refl, ap, sym, subst, ◌∙◌, ℕ, ◌==◌, nat_lt, Bool, true, false, List, [], ◌∷◌, ◌++◌, length, Option, Some, None, is_some}
use Rattle.std.specs.Prelude.{⊤}
use Rattle.pcl_base.specs.declared.tx.TxId.{TxId}
use Rattle.pcl_base.specs.declared.lock.Verdict.{Verdict}
use Rattle.pcl_base.specs.declared.lock.Verdict.TheVariants as verdict
use Rattle.pcl_base.specs.declared.message.Message.{Message}
use Rattle.pcl_base.specs.declared.reply.Reason.{Reason}
use Rattle.pcl_base.specs.declared.reply.Reply.{Reply}
use Rattle.pcl_base.specs.declared.reply.Reply.TheVariants as reply
use Rattle.run_rules.specs.Disk.{Disk, log_at}
use Rattle.run_rules.specs.Views.{View, born_of, count_from}
use Rattle.text_rules.specs.LogRecord.{whole_len}
use Rattle.node_rules.specs.Words.{pick}
use Rattle.node_rules.specs.LockRule.{ask}
use Rattle.node_rules.specs.NodeState.{NodeState, NodeEvent, Begin, Read, Write, Commit, Abort, Deliver, Evict, Flush, Install, Cut, number_of, page_owner}
use Rattle.node_rules.specs.OpenTxs.{pending_of}
use Rattle.node_rules.specs.Work.{HomeWork, Work, Outcome, Goes, and_so, for_each, work_of_home, with_home_work, with_node, reply}
use Rattle.node_rules.specs.BufferRule.{find}
use Rattle.node_rules.specs.AccessRule.{Access, Accessed, Next, Now, AskOwn, AskOwner, access, access_in, take_frames, is_held, is_allowed, under_right, next_of, now_done, perform, waiting}
use Rattle.node_rules.specs.EndRule.{Ending, Closed, commit, abort}
use Rattle.node_rules.specs.OwnerRule.{enter, waits_first, go_on, do_access, tell_end, clean_unserved, end_work}
use Rattle.node_rules.specs.InstallRule.{install_partition, trim_if, own_log, born_at, begin_life, in_view, install_view}
use Rattle.node_rules.specs.CutRule.{cuttable}
use Rattle.node_rules.specs.Refusals.{refusal}
use Rattle.node_rules.specs.NodeStep.{Plan, begin_work, work_off, by_verdict, judge_in, partition_of, take_message, cut_if, cut_front, cut_log, do_event, unless_refused, plan_of, nodestep}
use Rattle.home_laws.proofs.Tests.{number_same, tx_same}
use Rattle.step_laws.proofs.Outcomes.{On, on_so, on_more, on_each, on_any}
use Rattle.cluster_laws.proofs.Lists.{all_any}
use Rattle.account_relation.specs.Replies.{is_behind, is_own, is_asking, AreBehind, AreAnswers, answered, granted as at_once, AreReplies, StepsAnswer}
use Rattle.account_relation.proofs.Walks.{at_once_behind, cleaned_walk}
use Rattle.account_relation.proofs.Answering.{Answers, waits_own, enter_answers, tell_answers, work_answers, partition_answers}

-- a work in which nothing was answered yet
abbrev IsSilent : Work → Type 0
IsSilent w = w.replies ≡ []

-- the first reply
first_answer : (r : Reply) (w : Work) → IsSilent w → Answers (r ∷ []) w.node.view (reply r w)
first_answer r w none = record { rest = []; joined = ap (λ rs. rs ++ r ∷ []) none; behind = tt; in_view = refl }

-- what was answered, as the replies of a step
own_first : (ev : NodeEvent) (r : Reply) (view : Option View) → is_own ev r ≡ true → (o : Outcome Work) → On (Answers (r ∷ []) view) o → On (λ (w : Work). AreAnswers ev w.replies) o
own_first ev r view own o on = on_more (Answers (r ∷ []) view) (λ (w : Work). AreAnswers ev w.replies) o (λ w a. answered r a.rest a.joined own a.behind) on

-- an access that is done at once
abbrev IfNow : Next → Type 0
IfNow (Now r) = is_behind r ≡ true
IfNow (AskOwn a) = ⊤
IfNow (AskOwner r) = ⊤

next_behind : (a : Access) (owned : Bool) (w : HomeWork) → IfNow (access_in a owned w).next
unfolding access_in
next_behind a owned w = by (is_held a w.home) (is_allowed a owned w.home)
  where
    asked : (o : Bool) → IfNow (next_of a o (find w.home.pool a.page))
    asked true = tt
    asked false = tt

    by : (x y : Bool) → IfNow (pick {X = Accessed} x (now_done (perform a.tx a.page a.write w))
        (pick y (now_done (perform a.tx a.page None (record w { home = under_right a.tx a.page w.home })))
        (record { next = next_of a owned (find w.home.pool a.page); work = record w { home = waiting a w.home } }))).next
    by true y = at_once_behind a.tx a.page a.write w
    by false true = at_once_behind a.tx a.page None (record w { home = under_right a.tx a.page w.home })
    by false false = asked owned

module _ (n : NodeState) (d : Disk) where
  -- accesses
  open_answers : (t : TxId) (p : ℕ) (ev : NodeEvent) → is_asking ev ≡ true → is_own ev (reply.Waits t p) ≡ true → (x : Next) → IfNow x → (w : Work) → IsSilent w
      → On (λ (w : Work). AreAnswers ev w.replies) (go_on t p x w)
  open_answers t p ev asks own (Now r) is w none =
      at_once asks (subst AreBehind (sym (ap (λ rs. rs ++ r ∷ []) none)) (is, tt))
  open_answers t p ev asks own (AskOwn a) is w none =
      on_so (Answers [] w.node.view) (λ (x : Work). AreAnswers ev x.replies) (enter (λ e. ask e a) p w) (waits_first t p) (enter_answers [] w.node.view (λ e. ask e a) p w (record { rest = []; joined = none; behind = tt; in_view = refl }))
      (λ x h. by x h (is_some (pending_of x.node.home.txs t)))
    where
      by : (x : Work) → Answers [] w.node.view x → (b : Bool) → AreAnswers ev (pick b (record x { replies = reply.Waits t p ∷ x.replies }) x).replies
      by x h true = answered (reply.Waits t p) x.replies refl own (subst AreBehind (sym h.joined) h.behind)
      by x h false = at_once asks (subst AreBehind (sym h.joined) h.behind)
  open_answers t p ev asks own (AskOwner r) is w none = answered (reply.Waits t p) [] (ap (λ rs. rs ++ reply.Waits t p ∷ []) none) own tt

  access_answers : (ev : NodeEvent) (a : Access) → is_asking ev ≡ true → is_own ev (reply.Waits a.tx a.page) ≡ true → On (λ (w : Work). AreAnswers ev w.replies) (do_access a (begin_work n d))
  unfolding do_access access
  access_answers ev a asks own =
      let owned : Bool = page_owner n a.page == number_of n in
      let x : Accessed = access_in a owned (take_frames a (work_of_home (begin_work n d))) in
      open_answers a.tx a.page ev asks own x.next (next_behind a owned (take_frames a (work_of_home (begin_work n d)))) (with_home_work (begin_work n d) x.work) refl

  -- ends
  end_answers : (ev : NodeEvent) (r : Reply) (t : TxId) (x : Closed) → is_own ev r ≡ true → On (λ (w : Work). AreAnswers ev w.replies) (end_work r t (begin_work n d) x)
  end_answers ev r t x own =
      let w : Work = clean_unserved x.endings (with_home_work (begin_work n d) x.work) in
      own_first ev r w.node.view own (for_each (tell_end t) x.endings (reply r w))
      (on_each (Answers (r ∷ []) w.node.view) (λ (e : Ending). ⊤) (tell_end t) (λ e y any a. tell_answers (r ∷ []) w.node.view t e y a) x.endings (all_any x.endings) (reply r w)
      (first_answer r w
      (cleaned_walk IsSilent (λ w x replies sends views none. replies ∙ none) x.endings (with_home_work (begin_work n d) x.work) refl)))

  -- a message
  message_answers : (from : ℕ) (m : Message) → On (λ (w : Work). AreAnswers (Deliver from m) w.replies) (take_message d from m (begin_work n d))
  unfolding take_message
  message_answers from m = by (judge_in n.view (number_of n) from m.epoch (partition_of n.home.config m.body))
    where
      by : (v : Verdict) → On (λ (w : Work). AreAnswers (Deliver from m) w.replies) (by_verdict v d from m.body (begin_work n d))
      by verdict.Taken =
          let w : Work = reply reply.Taken (begin_work n d) in
          own_first (Deliver from m) reply.Taken n.view refl (work_off d from m.body w) (work_answers (reply.Taken ∷ []) n.view d from m.body w (first_answer reply.Taken (begin_work n d) refl))
      by verdict.Held = answered reply.Held [] refl refl tt
      by verdict.Dropped = answered reply.Dropped [] refl refl tt

  -- an install
  begun_silent : (v : View) (b : Bool) (w : Work) → Answers (reply.Installed v.epoch ∷ []) (Some v) w → Answers (reply.Installed v.epoch ∷ []) (Some v) (begin_life b d v w)
  begun_silent v false w a = a
  begun_silent v true w a = by (nat_lt (whole_len x.node.home.config (own_log d x)) (length (own_log d x)))
    where
      x : Work
      x = with_node w (born_at v.epoch w.node)

      by : (y : Bool) → Answers (reply.Installed v.epoch ∷ []) (Some v) (trim_if y (whole_len x.node.home.config (own_log d x)) x)
      by true = record { rest = a.rest; joined = a.joined; behind = a.behind; in_view = a.in_view }
      by false = record { rest = a.rest; joined = a.joined; behind = a.behind; in_view = a.in_view }

  installed_answers : (v : View) → On (Answers (reply.Installed v.epoch ∷ []) (Some v)) (install_view d v (begin_work n d))
  unfolding install_view
  installed_answers v =
      let front : List Reply = reply.Installed v.epoch ∷ [] in
      let w : Work = with_node (begin_work n d) (in_view v n) in
      let x : Work = begin_life (born_of v (number_of n) == v.epoch) d v (reply (reply.Installed v.epoch) w) in
      on_each (Answers front (Some v)) (λ (q : ℕ). ⊤) (install_partition d n.view v) (λ q y any a. partition_answers front (Some v) d n.view v q y a) (count_from 0 n.home.config.nodes)
      (all_any (count_from 0 n.home.config.nodes)) x
      (begun_silent v (born_of v (number_of n) == v.epoch) (reply (reply.Installed v.epoch) w) (first_answer (reply.Installed v.epoch) w refl))

  install_answers : (v : View) → On (λ (w : Work). AreAnswers (Install v) w.replies) (install_view d v (begin_work n d))
  install_answers v = own_first (Install v) (reply.Installed v.epoch) (Some v) (number_same v.epoch) (install_view d v (begin_work n d)) (installed_answers v)

  -- a cut
  cut_answers : On (λ (w : Work). AreAnswers Cut w.replies) (cut_log d (begin_work n d))
  cut_answers =
      on_so (λ (x : ℕ). ⊤) (λ (w : Work). AreAnswers Cut w.replies) (cuttable n.home.config d.pages (log_at d (number_of n))) (cut_front (begin_work n d))
      (on_any (cuttable n.home.config d.pages (log_at d (number_of n)))) (λ x any. by x (x == 0))
    where
      by : (x : ℕ) (b : Bool) → AreAnswers Cut (reply (reply.Cut x) (cut_if b x (begin_work n d))).replies
      by x true = answered (reply.Cut x) [] refl refl tt
      by x false = answered (reply.Cut x) [] refl refl tt

  event_answers : (ev : NodeEvent) → On (λ (w : Work). AreAnswers ev w.replies) (do_event d ev (begin_work n d))
  unfolding do_event
  event_answers Begin = answered _ [] refl refl tt
  event_answers (Read t p) = access_answers (Read t p) (record { tx = t; page = p; write = None }) refl (waits_own t p)
  event_answers (Write t p place bytes) = access_answers (Write t p place bytes) (record { tx = t; page = p; write = Some (place, bytes) }) refl (waits_own t p)
  event_answers (Commit t) = end_answers (Commit t) (reply.Committed t) t (commit t (work_of_home (begin_work n d))) (tx_same t)
  event_answers (Abort t) = end_answers (Abort t) (reply.Aborted t) t (abort t (work_of_home (begin_work n d))) (tx_same t)
  event_answers (Deliver from m) = message_answers from m
  event_answers (Evict p) = answered reply.Evicted [] refl refl tt
  event_answers (Flush p) = answered reply.Flushed [] refl refl tt
  event_answers (Install v) = install_answers v
  event_answers Cut = cut_answers

  step_answers : (ev : NodeEvent) → On (λ (p : Plan). AreReplies (refusal n ev) ev p.replies) (nodestep n ev d)
  unfolding nodestep
  step_answers ev =
      on_so (λ (w : Work). AreReplies (refusal n ev) ev w.replies) (λ (p : Plan). AreReplies (refusal n ev) ev p.replies) (unless_refused (refusal n ev) d ev (begin_work n d)) plan_of
      (by (refusal n ev)) (λ w a. a)
    where
      by : (o : Option Reason) → On (λ (w : Work). AreReplies o ev w.replies) (unless_refused o d ev (begin_work n d))
      by (Some r) = refl
      by None = event_answers ev

pub steps_answer_law : StepsAnswer
steps_answer_law n ev d p goes = subst (On (λ (p : Plan). AreReplies (refusal n ev) ev p.replies)) goes (step_answers n d ev)

-- the view that a node is in once it has installed it
pub installs_view : (n : NodeState) (v : View) (d : Disk) (p : Plan) → refusal n (Install v) ≡ None → nodestep n (Install v) d ≡ Goes p → p.node.view ≡ Some v
unfolding nodestep do_event
installs_view n v d p none goes =
    subst (On (λ (x : Plan). x.node.view ≡ Some v)) (sym (ap (λ (o : Option Reason). and_so (unless_refused o d (Install v) (begin_work n d)) plan_of) none) ∙ goes)
    (on_so (Answers (reply.Installed v.epoch ∷ []) (Some v)) (λ (x : Plan). x.node.view ≡ Some v) (install_view d v (begin_work n d)) plan_of (installed_answers n d v) (λ w a. a.in_view))
