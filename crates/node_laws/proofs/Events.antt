-- Events of a node in a view, but for installs.
use Rattle.std.proofs.Common.{◌≡◌, refl, ap, subst, ◌∙◌, sym, ℕ, ◌+◌, ◌-◌, ◌^◌, ◌<◌, ◌==◌, nat_le, Bool, true, false, List, length, Option, Some, None, arith}
use Rattle.std.specs.Prelude.{⊤}
use Rattle.std.proofs.lemmas.Bool.Decides.{nat_tests}
use Rattle.pcl_base.specs.Limits.{Sizes}
use Rattle.pcl_base.specs.declared.tx.TxId.{TxId}
use Rattle.pcl_base.specs.declared.lock.Verdict.{Verdict}
use Rattle.pcl_base.specs.declared.lock.Verdict.TheVariants as verdict
use Rattle.pcl_base.specs.declared.message.Body.{Body}
use Rattle.pcl_base.specs.declared.message.Body.TheVariants as body
use Rattle.pcl_base.specs.declared.message.Message.{Message}
use Rattle.pcl_base.specs.declared.reply.Reason.{Reason}
use Rattle.pcl_base.specs.declared.reply.Reason.TheVariants as reason
use Rattle.pcl_base.specs.declared.reply.Reply.TheVariants as reply
use Rattle.text_rules.specs.MessageBytes.{IsBody, IsMessage}
use Rattle.run_rules.specs.Disk.{Disk, log_at}
use Rattle.run_rules.specs.Views.{View}
use Rattle.node_rules.specs.LockRule.{ask, returned}
use Rattle.node_rules.specs.OpenTxs.{OpenTxs, begin, name_of}
use Rattle.node_rules.specs.BufferRule.{evict, pinned}
use Rattle.node_rules.specs.NodeState.{NodeState, Begin, Read, Write, Commit, Abort, Deliver, Evict, Flush, Cut, HomeState, number_of, partition, table_of, page_owner, owner_in}
use Rattle.node_rules.specs.DiskCalls.{CutLog}
use Rattle.node_rules.specs.Work.{HomeWork, Work, work_of_home, with_home, reply, write_back}
use Rattle.node_rules.specs.AccessRule.{Access, on_pool}
use Rattle.node_rules.specs.CutRule.{cuttable}
use Rattle.node_rules.specs.EndRule.{commit, abort}
use Rattle.node_rules.specs.InstallRule.{owned_before}
use Rattle.node_rules.specs.NodeStep.{begin_work, work_off, by_verdict, judge_in, partition_of, take_message, cut_if, cut_front, do_event}
use Rattle.node_rules.specs.OwnerRule.{do_access}
use Rattle.node_rules.specs.Refusals.{refuse_if, no_page, no_copy, refusal_in_view}
use Rattle.home_laws.specs.Refused.{access_refusal}
use Rattle.home_laws.specs.RefusedEnds.{commit_refusal, abort_refusal}
use Rattle.home_laws.proofs.Allowed.{allowed}
use Rattle.home_laws.proofs.Ends.{begin_is_sound_law}
use Rattle.home_laws.proofs.EndNeeds.{commit_allowed, abort_allowed}
use Rattle.home_laws.proofs.Kept.{home_written}
use Rattle.home_laws.proofs.Leaves.{write_back_is_sound_law, evict_is_sound_law}
use Rattle.step_laws.proofs.Outcomes.{On, on_so, on_any}
use Rattle.step_laws.proofs.Homes.{IsSame}
use Rattle.node_laws.specs.Nodes.{IsSound, DiskFits, IsOther}
use Rattle.node_laws.proofs.Entries.{ask_is, returned_is}
use Rattle.node_laws.proofs.Stored.{AreStored, Fits, home_fits, back_fits, evict_fits, called}
use Rattle.node_laws.proofs.Transactions.{open_is_tx}
use Rattle.node_laws.proofs.Works.{Base, IsBase, IsHomeWork, IsGood, same_home_of, part_of, good_reply, good_home}
use Rattle.node_laws.proofs.Bases.{base_is, base_of, base_sound, begun_good, IsDone, good_done, page_other}
use Rattle.node_laws.proofs.Grants.{NamesSame, home_of}
use Rattle.node_laws.proofs.Pages.{partition_low, enter_good}
use Rattle.node_laws.proofs.Accesses.{OwnedBeside, do_access_good}
use Rattle.node_laws.proofs.Ends.{abort_good, commit_good, end_good}
use Rattle.node_laws.proofs.Messages.{release_good, take_grant_good, take_revoke_good}
use Rattle.node_laws.proofs.Installs.{report_good}

pub not_refused : (x : Bool) (r : Reason) (further : Option Reason) → refuse_if x r further ≡ None → (x ≡ false) × (further ≡ None)
not_refused true r further e = absurd (cc)
not_refused false r further e = (refl, e)

begin_names : (s : OpenTxs) → NamesSame s (begin s)
unfolding begin
begin_names s = record { node = refl; born = refl }

-- what a copy that is written, and one that leaves, makes of a home
back_same : (p : ℕ) (w : HomeWork) → IsSame w.home (write_back p w).home
back_same p w =
    let same = home_written p w in
    record { config = ap (λ (h : HomeState). h.config) same; txs = ap (λ (h : HomeState). h.txs) same; shelf = ap (λ (h : HomeState). h.shelf) same }

module _ (b : Base) where
  fits_of : (w : HomeWork) → IsHomeWork b w → Fits b.config w
  fits_of w is =
      subst (λ (c : Sizes). Fits c w) is.home.config (home_fits w is.home.home (subst (λ (c : Sizes). AreStored c w.pages w.calls) (sym is.home.config) is.stored))

  back_good : (p : ℕ) (w : HomeWork) → IsHomeWork b w → IsHomeWork b (write_back p w)
  back_good p w is =
      record {
        home = same_home_of b w.home (write_back p w).home (back_same p w) (write_back_is_sound_law p w is.home.home) is.home;
        stored = (back_fits b.config p w (fits_of w is)).stored;
      }

  left_good : (p : ℕ) (w : HomeWork) → pinned w.home.pool p ≡ false → IsHomeWork b w → IsHomeWork b (on_pool (λ x. evict x p) (write_back p w))
  left_good p w free is =
      let back = back_same p w in
      record {
        home =
            same_home_of b w.home (on_pool (λ x. evict x p) (write_back p w)).home (record { config = back.config; txs = back.txs; shelf = back.shelf })
            (evict_is_sound_law p w is.home.home free) is.home;
        stored = (evict_fits b.config p (write_back p w) (back_fits b.config p w (fits_of w is))).stored;
      }

  cut_good : (base : IsBase b) (w : Work) (n : ℕ) → IsGood b w → IsGood b (cut_front w n)
  cut_good base w n good = good_reply b base (reply.Cut n) (cut_if (n == 0) n w) (by (n == 0))
    where
      by : (x : Bool) → IsGood b (cut_if x n w)
      by true = good
      by false =
          record {
            home = good.home;
            epoch = good.epoch;
            view = good.view;
            tables = good.tables;
            stored = called b.config (CutLog n) w.pages w.calls tt good.stored;
            sends = good.sends;
          }

-- events of a node in a view
module _ (n : NodeState) (d : Disk) (sound : IsSound n) (fits : DiskFits n.home.config d) (v : View) (there : n.view ≡ Some v) where
  base : IsBase (base_of n)
  base = base_is (base_of n) (base_sound n sound)

  start : IsGood (base_of n) (begin_work n d)
  start = begun_good n d sound fits

  beside : OwnedBeside (base_of n) base
  beside = λ w p good none. page_other (base_of n) v (base_sound n sound) there w good p (partition_low (base_of n) base p) none

  none_here : (p : ℕ) → (page_owner n p == number_of n) ≡ false → owned_before n.view (partition n.home.config p) (number_of n) ≡ false
  none_here p =
      subst (λ (o : Option View). (owner_in o (partition n.home.config p) == number_of n) ≡ false → owned_before o (partition n.home.config p) (number_of n) ≡ false) (sym there) (λ e. e)

  access_done : (a : Access) → access_refusal a n.home ≡ None → On (IsGood (base_of n)) (do_access a (begin_work n d))
  access_done a none =
      let may = allowed a n.home none in
      do_access_good (base_of n) base beside a (begin_work n d) may.page (open_is_tx n.home a.tx sound.home may.there) none (none_here a.page) start

  pub begins_done : refusal_in_view n Begin ≡ None → On (IsGood (base_of n)) (do_event d Begin (begin_work n d))
  unfolding do_event
  begins_done none =
      let first = not_refused (n.home.txs.last == 2 ^ 32 - 1) reason.SerialEnd (refuse_if (nat_le 1024 (length n.home.txs.txs)) reason.TooMany None) none in
      let second = not_refused (nat_le 1024 (length n.home.txs.txs)) reason.TooMany None first.1 in
      let few : length n.home.txs.txs < 1024 = grind (arith, nat_tests, second.0) in
      let of = start.home in
      let opened : HomeState = record (n.home) { txs = begin n.home.txs } in
      good_reply (base_of n) base (reply.Begun (name_of n.home.txs (n.home.txs.last + 1))) (with_home (begin_work n d) opened)
      (record {
        home = home_of (base_of n) n.home opened refl (begin_names n.home.txs) sound.rights (begin_is_sound_law n.home sound.home few sound.born) of;
        epoch = refl;
        view = refl;
        tables = start.tables;
        stored = start.stored;
        sends = tt;
      })

  message_done : (from : ℕ) (m : Message) → IsOther n.home.config (number_of n) from → IsMessage n.home.config m → On (IsGood (base_of n)) (take_message d from m (begin_work n d))
  unfolding take_message
  message_done from m other is = by (judge_in n.view (number_of n) from m.epoch (partition_of n.home.config m.body))
    where
      off : (x : Body) → IsBody n.home.config x → On (IsGood (base_of n)) (work_off d from x (reply reply.Taken (begin_work n d)))
      off (body.Request r) is =
          enter_good (base_of n) base r.page is.1 (λ e. ask e (record { tx = r.tx; mode = r.mode; have = r.have }))
          (λ e h. ask_is n.home.config (number_of n) e (record { tx = r.tx; mode = r.mode; have = r.have }) h is.0) (reply reply.Taken (begin_work n d))
          (good_reply (base_of n) base reply.Taken (begin_work n d) start)
      off (body.Grant g) is = take_grant_good (base_of n) base (table_of n g.page) g (reply reply.Taken (begin_work n d)) is.1 is.3 (good_reply (base_of n) base reply.Taken (begin_work n d) start)
      off (body.Release r) is = release_good (base_of n) base r (reply reply.Taken (begin_work n d)) is.1 is.2 (good_reply (base_of n) base reply.Taken (begin_work n d) start)
      off (body.Revoke p) is = take_revoke_good (base_of n) base sound.limits from p (reply reply.Taken (begin_work n d)) other is (good_reply (base_of n) base reply.Taken (begin_work n d) start)
      off (body.Return r) is =
          enter_good (base_of n) base r.page is.0 (λ e. returned e from r.readers) (λ e h. returned_is n.home.config (number_of n) from r.readers e h is.2) (reply reply.Taken (begin_work n d))
          (good_reply (base_of n) base reply.Taken (begin_work n d) start)
      off (body.Report r) is = report_good (base_of n) base d from r (reply reply.Taken (begin_work n d)) other is (good_reply (base_of n) base reply.Taken (begin_work n d) start)

      by : (x : Verdict) → On (IsGood (base_of n)) (by_verdict x d from m.body (begin_work n d))
      by verdict.Taken = off m.body is.body
      by verdict.Held = good_reply (base_of n) base reply.Held (begin_work n d) start
      by verdict.Dropped = good_reply (base_of n) base reply.Dropped (begin_work n d) start

  pub deliver_done : (from : ℕ) (m : Message) → IsOther n.home.config (number_of n) from → IsMessage n.home.config m → On (IsGood (base_of n)) (do_event d (Deliver from m) (begin_work n d))
  unfolding do_event
  deliver_done from m other is = message_done from m other is

  pub evict_done : (p : ℕ) → refusal_in_view n (Evict p) ≡ None → On (IsGood (base_of n)) (do_event d (Evict p) (begin_work n d))
  unfolding do_event
  evict_done p none =
      let last = refuse_if (pinned n.home.pool p) reason.Pinned None in
      let first = not_refused (no_page n p) reason.NoPage (refuse_if (no_copy n p) reason.NoCopy last) none in
      let second = not_refused (no_copy n p) reason.NoCopy last first.1 in
      let third = not_refused (pinned n.home.pool p) reason.Pinned None second.1 in
      let x : HomeWork = on_pool (λ x. evict x p) (write_back p (work_of_home (begin_work n d))) in
      good_reply (base_of n) base reply.Evicted _ (good_home (base_of n) base x (begin_work n d) (left_good (base_of n) p (work_of_home (begin_work n d)) third.0 (part_of (base_of n) base (begin_work n d) start)) start)

  pub flush_done : (p : ℕ) → On (IsGood (base_of n)) (do_event d (Flush p) (begin_work n d))
  unfolding do_event
  flush_done p =
      let x : HomeWork = write_back p (work_of_home (begin_work n d)) in
      good_reply (base_of n) base reply.Flushed _ (good_home (base_of n) base x (begin_work n d) (back_good (base_of n) p (work_of_home (begin_work n d)) (part_of (base_of n) base (begin_work n d) start)) start)

  pub cut_done : On (IsGood (base_of n)) (do_event d Cut (begin_work n d))
  unfolding do_event
  cut_done =
      on_so (λ (k : ℕ). ⊤) (IsGood (base_of n)) (cuttable n.home.config d.pages (log_at d (number_of n))) (cut_front (begin_work n d)) (on_any (cuttable n.home.config d.pages (log_at d (number_of n))))
      (λ k any. cut_good (base_of n) base (begin_work n d) k start)

  pub commit_done : (t : TxId) → refusal_in_view n (Commit t) ≡ None → On (IsGood (base_of n)) (do_event d (Commit t) (begin_work n d))
  unfolding do_event commit_refusal
  commit_done t none =
      let may = commit_allowed t n.home none in
      end_good (base_of n) base beside (reply.Committed t) t (begin_work n d) (commit t (work_of_home (begin_work n d))) (open_is_tx n.home t sound.home may.0)
      (commit_good (base_of n) t (work_of_home (begin_work n d)) may.0 may.1 (part_of (base_of n) base (begin_work n d) start)) start

  pub abort_done : (t : TxId) → refusal_in_view n (Abort t) ≡ None → On (IsGood (base_of n)) (do_event d (Abort t) (begin_work n d))
  unfolding do_event abort_refusal
  abort_done t none =
      let may = abort_allowed t n.home none in
      end_good (base_of n) base beside (reply.Aborted t) t (begin_work n d) (abort t (work_of_home (begin_work n d))) (open_is_tx n.home t sound.home may)
      (abort_good (base_of n) t (work_of_home (begin_work n d)) may (part_of (base_of n) base (begin_work n d) start)) start

  pub read_done : (t : TxId) (p : ℕ) → refusal_in_view n (Read t p) ≡ None → On (IsGood (base_of n)) (do_event d (Read t p) (begin_work n d))
  unfolding do_event access_refusal
  read_done t p none = access_done (record { tx = t; page = p; write = None }) none

  pub write_done : (t : TxId) (p place : ℕ) (bytes : List ℕ) → refusal_in_view n (Write t p place bytes) ≡ None → On (IsGood (base_of n)) (do_event d (Write t p place bytes) (begin_work n d))
  unfolding do_event access_refusal
  write_done t p place bytes none = access_done (record { tx = t; page = p; write = Some (place, bytes) }) none

  pub done_in_view : (w : Work) → IsGood (base_of n) w → IsDone n.home.config (number_of n) w
  done_in_view w good = good_done (base_of n) w (base_sound n sound) (λ none. let no : Some v ≡ None = sym there ∙ none in absurd (cc)) good
