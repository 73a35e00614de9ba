-- What a node grants in a step stands at its home after it, and a home gives fewer than 2^32 serials.
use Rattle.std.proofs.Common.{◌≡◌, ◌≢◌, refl, sym, ap, subst, ℕ, ◌+◌, ◌-◌, ◌^◌, ◌<◌, ◌==◌, not, nat_le, Bool, true, false, List, [], ◌∷◌, length, Option, Some, None, is_some, arith}
use Rattle.std.specs.Prelude.{IfSome, ⊤}
use Rattle.std.specs.List.{AllByRecursion}
use Rattle.std.proofs.lemmas.Bool.Decides.{nat_tests}
use Rattle.pcl_base.specs.declared.lock.Verdict.{Verdict}
use Rattle.pcl_base.specs.declared.lock.Verdict.TheVariants as verdict
use Rattle.pcl_base.specs.declared.message.Body.{Body}
use Rattle.pcl_base.specs.declared.message.Body.TheVariants as body
use Rattle.pcl_base.specs.declared.message.Message.{Message}
use Rattle.pcl_base.specs.declared.reply.Reason.{Reason}
use Rattle.pcl_base.specs.declared.reply.Reason.TheVariants as reason
use Rattle.pcl_base.specs.declared.reply.Reply.{Reply}
use Rattle.pcl_base.specs.declared.reply.Reply.TheVariants as reply
use Rattle.pcl_base.specs.declared.tx.TxId.{TxId}
use Rattle.text_rules.specs.MessageBytes.{IsPage, IsBody}
use Rattle.run_rules.specs.Disk.{Disk, log_at}
use Rattle.node_rules.specs.CutRule.{cuttable}
use Rattle.node_rules.specs.EndRule.{Ending, Closed, abort, commit}
use Rattle.node_rules.specs.LockRule.{ask, returned}
use Rattle.node_rules.specs.NodeState.{HomeState, NodeState, NodeEvent, Begin, Read, Write, Commit, Abort, Deliver, Evict, Flush, Install, Cut, number_of, table_of}
use Rattle.node_rules.specs.AccessRule.{Access, on_revoke}
use Rattle.node_rules.specs.NodeStep.{Plan, plan_of, begin_work, evict_copy, flush_copy, take_revoke, work_off, by_verdict, judge_in, partition_of, take_message, cut_if, cut_front, do_event, unless_refused, nodestep}
use Rattle.node_rules.specs.OpenTxs.{begin}
use Rattle.node_rules.specs.OwnerRule.{do_access, end_work}
use Rattle.node_rules.specs.Refusals.{refuse_if, may_install, refusal, refusal_in_view}
use Rattle.node_rules.specs.Work.{HomeWork, Work, Outcome, work_of_home, write_back, reply}
use Rattle.home_laws.specs.Refused.{access_refusal}
use Rattle.home_laws.specs.RefusedEnds.{commit_refusal, abort_refusal}
use Rattle.home_laws.proofs.Allowed.{allowed}
use Rattle.home_laws.proofs.EndNeeds.{commit_allowed, abort_allowed}
use Rattle.home_laws.proofs.Kept.{home_written}
use Rattle.home_laws.proofs.Tests.{not_false}
use Rattle.step_laws.proofs.Outcomes.{On, on_so, on_more, on_any}
use Rattle.node_laws.specs.Nodes.{IsSound, CanCome, DiskFits}
use Rattle.node_laws.specs.Laws.{IsStep}
use Rattle.node_laws.proofs.Bases.{base_is, base_of, base_sound, begun_good}
use Rattle.node_laws.proofs.Ends.{IsEnding, Ends, abort_good, commit_good}
use Rattle.node_laws.proofs.Events.{not_refused}
use Rattle.node_laws.proofs.Lists.{all_weaker}
use Rattle.node_laws.proofs.Works.{IsBase, IsHomeWork, part_of}
use Rattle.page_laws.proofs.LookParts.Closing.{abort_is_seen_law, commit_is_seen_law}
use Rattle.related_runs.specs.Granted.{Given, given_by, StandsAt, ReplyStands, GrantsStand, StepsKeepSerials}
use Rattle.related_runs.proofs.Accessed.{access_told}
use Rattle.related_runs.proofs.Arrived.{entered_told, release_told, take_grant_told, take_revoke_told, report_told}
use Rattle.related_runs.proofs.Ended.{pages_in, endings_once, end_fine}
use Rattle.related_runs.proofs.PageLists.{ArePages}
use Rattle.related_runs.proofs.Installed.{install_told}
use Rattle.related_runs.proofs.Told.{IsTold, AreTold, Fine}

-- what a step leaves: granted accesses behind replies that grant nothing, and serials below their end
record Leaves (n : NodeState) (h : HomeState) (rs : List Reply) : Type 0 where
  front : List Reply
  none : AllByRecursion (λ r. given_by r ≡ None) front
  last : ℕ
  told : AreTold front last (λ q v. ⊤) h rs
  low : n.home.txs.last < 2 ^ 32 → last < 2 ^ 32

abbrev LeavesWork : NodeState → Work → Type 0
LeavesWork n w = Leaves n w.node.home w.replies

same_last : (n : NodeState) (w : Work) → AreTold [] n.home.txs.last (λ q v. ⊤) w.node.home w.replies → LeavesWork n w
same_last n w told = record { front = []; none = tt; last = n.home.txs.last; told = told; low = λ low. low }

behind_one : (n : NodeState) (r : Reply) (w : Work) → given_by r ≡ None → AreTold (r ∷ []) n.home.txs.last (λ q v. ⊤) w.node.home w.replies → LeavesWork n w
behind_one n r w none told = record { front = r ∷ []; none = (none, tt); last = n.home.txs.last; told = told; low = λ low. low }

-- one reply that grants nothing
one_reply : (n : NodeState) (r : Reply) (w : Work) → given_by r ≡ None → w.replies ≡ r ∷ [] → w.node.home.txs.last ≡ n.home.txs.last → LeavesWork n w
one_reply n r w none replies same = behind_one n r w none (record { rest = []; joined = replies; told = tt; last_same = same })

-- a further serial
next_serial : (last : ℕ) → (last == 2 ^ 32 - 1) ≡ false → last < 2 ^ 32 → last + 1 < 2 ^ 32
next_serial last e low =
    let differs : last ≢ 4294967295 = grind (arith, nat_tests, e) in
    omega (arith, differs, low)

-- an event of a node in a view
pub seen : (n : NodeState) (further : Option Reason) → refuse_if (not (is_some n.view)) reason.NotInView further ≡ None → further ≡ None
seen n further none = (not_refused (not (is_some n.view)) reason.NotInView further none).1

back_last : (p : ℕ) (w : HomeWork) → (write_back p w).home.txs.last ≡ w.home.txs.last
back_last p w = ap (λ (h : HomeState). h.txs.last) (home_written p w)

module _ (n : NodeState) (d : Disk) (sound : IsSound n) (fits : DiskFits n.home.config d) where
  base : IsBase (base_of n)
  base = base_is (base_of n) (base_sound n sound)

  part : IsHomeWork (base_of n) (work_of_home (begin_work n d))
  part = part_of (base_of n) base (begin_work n d) (begun_good n d sound fits)

  begin_leaves : refusal_in_view n Begin ≡ None → On (LeavesWork n) (do_event d Begin (begin_work n d))
  unfolding do_event begin
  begin_leaves none =
      let first = not_refused (n.home.txs.last == 2 ^ 32 - 1) reason.SerialEnd (refuse_if (nat_le 1024 (length n.home.txs.txs)) reason.TooMany None) none in
      record {
        front = [];
        none = tt;
        last = n.home.txs.last + 1;
        told = record { rest = _; joined = refl; told = ((tt, refl), tt); last_same = refl };
        low = λ low. next_serial n.home.txs.last first.0 low;
      }

  access_leaves : (a : Access) → access_refusal a n.home ≡ None → On (LeavesWork n) (do_access a (begin_work n d))
  access_leaves a none =
      on_more (λ (w : Work). AreTold [] n.home.txs.last (λ q v. ⊤) w.node.home w.replies) (LeavesWork n) (do_access a (begin_work n d)) (same_last n)
      (access_told (base_of n) a (begin_work n d) (allowed a n.home none).page none refl part)

  ends_leave : (r : Reply) (t : TxId) (x : Closed) → given_by r ≡ None → Ends (base_of n) x → x.work.home.txs.last ≡ n.home.txs.last → ArePages (pages_in x.endings)
      → On (LeavesWork n) (end_work r t (begin_work n d) x)
  ends_leave r t x none ends same once =
      on_more (Fine (r ∷ []) n.home.txs.last (base_of n) (λ q v. ⊤)) (LeavesWork n) (end_work r t (begin_work n d) x) (λ w f. behind_one n r w none f.1)
      (end_fine (base_of n) n.home.txs.last r t (begin_work n d) x refl ends.work same
      (all_weaker (IsEnding (base_of n).config) (λ (e : Ending). IsPage n.home.config e.page) (λ e is. is.page) x.endings ends.endings) once)

  commit_leaves : (t : TxId) → refusal_in_view n (Commit t) ≡ None → On (LeavesWork n) (do_event d (Commit t) (begin_work n d))
  unfolding do_event commit commit_refusal
  commit_leaves t none =
      let may = commit_allowed t n.home none in
      ends_leave (reply.Committed t) t (commit t (work_of_home (begin_work n d))) refl (commit_good (base_of n) t (work_of_home (begin_work n d)) may.0 may.1 part)
      (commit_is_seen_law t (work_of_home (begin_work n d)) sound.home may.0 may.1).home.named.2 (endings_once n.home t true sound.home)

  abort_leaves : (t : TxId) → refusal_in_view n (Abort t) ≡ None → On (LeavesWork n) (do_event d (Abort t) (begin_work n d))
  unfolding do_event abort abort_refusal
  abort_leaves t none =
      let may = abort_allowed t n.home none in
      ends_leave (reply.Aborted t) t (abort t (work_of_home (begin_work n d))) refl (abort_good (base_of n) t (work_of_home (begin_work n d)) may part)
      (abort_is_seen_law t (work_of_home (begin_work n d)) sound.home may).home.named.2 (endings_once n.home t false sound.home)

  message_leaves : (from : ℕ) (m : Message) → IsBody n.home.config m.body → On (LeavesWork n) (take_message d from m (begin_work n d))
  unfolding take_message
  message_leaves from m is = by (judge_in n.view (number_of n) from m.epoch (partition_of n.home.config m.body))
    where
      bare : Fine [] n.home.txs.last (base_of n) (λ q v. ⊥) (reply reply.Taken (begin_work n d))
      bare = (record { home = part.home; stored = part.stored }, record { rest = reply.Taken ∷ []; joined = refl; told = ((tt, refl), tt); last_same = refl })

      more : (o : Outcome Work) → On (λ (w : Work). AreTold [] n.home.txs.last (λ q v. ⊤) w.node.home w.replies) o → On (LeavesWork n) o
      more o i = on_more (λ (w : Work). AreTold [] n.home.txs.last (λ q v. ⊤) w.node.home w.replies) (LeavesWork n) o (same_last n) i

      off : (x : Body) → IsBody n.home.config x → On (LeavesWork n) (work_off d from x (reply reply.Taken (begin_work n d)))
      off (body.Request r) i = more _ (entered_told [] n.home.txs.last (base_of n) r.page i.1 (λ e. ask e (record { tx = r.tx; mode = r.mode; have = r.have })) (reply reply.Taken (begin_work n d)) bare)
      off (body.Grant g) i = more _ (take_grant_told [] n.home.txs.last (base_of n) g (reply reply.Taken (begin_work n d)) bare (table_of n g.page))
      off (body.Release r) i = more _ (release_told [] n.home.txs.last (base_of n) r (reply reply.Taken (begin_work n d)) i.1 i.2 bare)
      off (body.Revoke p) i = same_last n (take_revoke from (reply reply.Taken (begin_work n d)) (on_revoke p n.home)) (take_revoke_told [] n.home.txs.last (base_of n) from p (reply reply.Taken (begin_work n d)) bare)
      off (body.Return r) i = more _ (entered_told [] n.home.txs.last (base_of n) r.page i.0 (λ e. returned e from r.readers) (reply reply.Taken (begin_work n d)) bare)
      off (body.Report r) i = more _ (report_told [] n.home.txs.last (base_of n) sound.limits.some_nodes d from r (reply reply.Taken (begin_work n d)) i.0 bare)

      by : (x : Verdict) → On (LeavesWork n) (by_verdict x d from m.body (begin_work n d))
      by verdict.Taken = off m.body is
      by verdict.Held = one_reply n reply.Held (reply reply.Held (begin_work n d)) refl refl refl
      by verdict.Dropped = one_reply n reply.Dropped (reply reply.Dropped (begin_work n d)) refl refl refl

  cut_leaves : On (LeavesWork n) (do_event d Cut (begin_work n d))
  unfolding do_event
  cut_leaves =
      on_so (λ (k : ℕ). ⊤) (LeavesWork n) (cuttable n.home.config d.pages (log_at d (number_of n))) (cut_front (begin_work n d)) (on_any (cuttable n.home.config d.pages (log_at d (number_of n))))
      (λ k any. by k (k == 0))
    where
      by : (k : ℕ) (x : Bool) → LeavesWork n (reply (reply.Cut k) (cut_if x k (begin_work n d)))
      by k true = one_reply n (reply.Cut k) (reply (reply.Cut k) (cut_if true k (begin_work n d))) refl refl refl
      by k false = one_reply n (reply.Cut k) (reply (reply.Cut k) (cut_if false k (begin_work n d))) refl refl refl

  event_leaves : (event : NodeEvent) → CanCome n event → refusal n event ≡ None → On (LeavesWork n) (do_event d event (begin_work n d))
  unfolding refusal do_event access_refusal
  event_leaves Begin can none = begin_leaves (seen n (refusal_in_view n Begin) none)
  event_leaves (Read t p) can none = access_leaves (record { tx = t; page = p; write = None }) (seen n (refusal_in_view n (Read t p)) none)
  event_leaves (Write t p place bytes) can none = access_leaves (record { tx = t; page = p; write = Some (place, bytes) }) (seen n (refusal_in_view n (Write t p place bytes)) none)
  event_leaves (Commit t) can none = commit_leaves t (seen n (refusal_in_view n (Commit t)) none)
  event_leaves (Abort t) can none = abort_leaves t (seen n (refusal_in_view n (Abort t)) none)
  event_leaves (Deliver from m) can none = message_leaves from m can.1.body
  event_leaves (Evict p) can none = one_reply n reply.Evicted (evict_copy p (begin_work n d)) refl refl (back_last p (work_of_home (begin_work n d)))
  event_leaves (Flush p) can none = one_reply n reply.Flushed (flush_copy p (begin_work n d)) refl refl (back_last p (work_of_home (begin_work n d)))
  event_leaves (Install v) can none =
      on_more (λ (w : Work). AreTold [] n.home.txs.last (λ q v. ⊤) w.node.home w.replies) (LeavesWork n) (do_event d (Install v) (begin_work n d)) (same_last n)
      (install_told n d v sound (can.0, can.1) fits
      (not_false (may_install n n.view v) (not_refused (not (may_install n n.view v)) reason.NoView None none).0))
  event_leaves Cut can none = cut_leaves

  step_leaves : (event : NodeEvent) → CanCome n event → On (λ (p : Plan). Leaves n p.node.home p.replies) (nodestep n event d)
  unfolding nodestep
  step_leaves event can =
      on_so (LeavesWork n) (λ (p : Plan). Leaves n p.node.home p.replies) (unless_refused (refusal n event) d event (begin_work n d)) plan_of (by (refusal n event) refl) (λ w i. i)
    where
      by : (o : Option Reason) → refusal n event ≡ o → On (LeavesWork n) (unless_refused o d event (begin_work n d))
      by (Some r) e = one_reply n (reply.Refused r) (reply (reply.Refused r) (begin_work n d)) refl refl refl
      by None e = event_leaves event can e

planned : (n : NodeState) (event : NodeEvent) (d : Disk) (p : Plan) → IsStep n event d p → Leaves n p.node.home p.replies
planned n event d p is = subst (On (λ (p : Plan). Leaves n p.node.home p.replies)) is.goes (step_leaves n d is.sound is.fits event is.can)

pub grants_stand_law : GrantsStand
grants_stand_law n event d p is =
    let left = planned n event d p is in
    record {
      front = left.front;
      rest = left.told.rest;
      joined = left.told.joined;
      none = left.none;
      stand = all_weaker (IsTold (λ q v. ⊤) p.node.home) (ReplyStands p.node.home) (λ r a. (by (given_by r) a.0, a.1)) left.told.rest left.told.told;
    }
  where
    by : (o : Option Given) → IfSome o (λ (g : Given). StandsAt p.node.home g.tx g.page g.version × ⊤) → IfSome o (λ (g : Given). StandsAt p.node.home g.tx g.page g.version)
    by None a = tt
    by (Some g) a = a.0

pub steps_keep_serials_law : StepsKeepSerials
steps_keep_serials_law n event d p is low =
    let left = planned n event d p is in subst (λ (k : ℕ). k < 2 ^ 32) (sym left.told.last_same) (left.low low)
