-- A transaction of a node that is alone commits.
use Rattle.std.proofs.Common.{◌≡◌, refl, sym, ap, subst, ◌∙◌, ℕ, ◌+◌, ◌<◌, ◌≤◌, ◌==◌, Bool, true, false, List, [], length, None, Some, is_some}
use Rattle.std.specs.Prelude.{Option}
use Rattle.pcl_base.specs.Limits.{Sizes}
use Rattle.pcl_base.specs.declared.tx.TxId.{TxId}
use Rattle.pcl_base.specs.declared.event.Event.TheVariants as event
use Rattle.pcl_base.specs.declared.reply.Reason.TheVariants as reason
use Rattle.pcl_base.specs.declared.reply.Reply.TheVariants as reply
use Rattle.text_rules.specs.StoredPage.{PageAt}
use Rattle.text_rules.specs.LogRecord.{record_bytes}
use Rattle.run_rules.specs.Base.{BasePage, Base, page_at, version_at}
use Rattle.run_rules.specs.Disk.{Disk}
use Rattle.run_rules.specs.Script.{script}
use Rattle.run_rules.specs.Now.{Story}
use Rattle.node_rules.specs.OpenTxs.{is_open, held_by, close_tx}
use Rattle.node_rules.specs.BufferRule.{Copy, copy_at, version_of_copy, private_bytes, published}
use Rattle.node_rules.specs.LockTable.{LockTable}
use Rattle.node_rules.specs.NodeState.{HomeState}
use Rattle.node_rules.specs.NodeState as node
use Rattle.node_rules.specs.DiskCalls.{DiskCall, done, all_done}
use Rattle.node_rules.specs.Refusals.{refusal, refuse_if, not_open, waits}
use Rattle.node_rules.specs.Work.{and_so, read_page}
use Rattle.node_rules.specs.AccessRule.{version_or}
use Rattle.node_rules.specs.EndRule.{endings, pages_written, commit_record, at_version_end, is_own_lock, closed, publish_all, force_if, commit}
use Rattle.node_rules.specs.OwnerRule.{end_work}
use Rattle.node_rules.specs.NodeStep.{plan_of, begin_work, do_event, nodestep}
use Rattle.home_laws.specs.Homes.{IsHome}
use Rattle.home_laws.proofs.Tests.{not_false}
use Rattle.home_laws.proofs.Ends.{commit_is_sound_law}
use Rattle.single_laws.proofs.Working.{next_base, ran_to}
use Rattle.single_laws.proofs.Told.{tx, commit_fits, seen_commit, ran_some, script-commits}
use Rattle.single_laws.proofs.Pages.{PageIs, at}
use Rattle.single_laws.proofs.Alone.{look_of, Busy, Nobody, Kept, Alone, fresh_work, node_of, StepOk, alone_again}
use Rattle.single_laws.proofs.Publishing.{copy_committed}
use Rattle.single_laws.proofs.Ends.{closed_none, end_is}
use Rattle.single_laws.proofs.Nodes.{busy_of, by_refusal}
use Rattle.single_laws.proofs.Copies.{not_refused}
use Rattle.single_laws.proofs.NextBase.{is_written_page, page, new_none, new_some, taken, new_fine}
use Rattle.single_laws.proofs.Forced.{redone_now}

module _ (c : Sizes) (one : c.nodes ≡ 1) (h : HomeState) (tb : LockTable) (d : Disk) (s : Story) (alone : Alone c h tb d s) (t : TxId) (busy : Busy h tb alone.base s t)
    (last : at_version_end h t ≡ false) where
  abbrev new : Base
  new = next_base (look_of h.pool t) alone.base

  -- the pages once it is committed
  new_pages : (p : ℕ) → p < c.pages → PageIs (copy_at (closed h t (publish_all h t)).pool p) (read_page d.pages p) (at new p)
  new_pages p below =
      subst (λ o. PageIs o (read_page d.pages p) (at new p)) (sym (copy_committed h t alone.home busy.waits p)) (by (private_bytes h.pool t p) refl (copy_at h.pool p) refl)
    where
      at_of : (x y : BasePage) → x ≡ y → (let z : PageAt = record { version = x.version; bytes = x.bytes } in z) ≡ record { version = y.version; bytes = y.bytes }
      at_of x y e = ap (λ (x : BasePage). let z : PageAt = record { version = x.version; bytes = x.bytes } in z) e

      unchanged : (dirty : Bool) (o : Option Copy) → o ≡ published dirty None o
      unchanged dirty None = refl
      unchanged dirty (Some x) = refl

      by : (o : Option (List ℕ)) → private_bytes h.pool t p ≡ o → (q : Option Copy) → copy_at h.pool p ≡ q
          → PageIs (published (is_own_lock (held_by h.txs t p)) (private_bytes h.pool t p) (copy_at h.pool p)) (read_page d.pages p) (at new p)
      by None e q f =
          subst (λ o. PageIs (published (is_own_lock (held_by h.txs t p)) o (copy_at h.pool p)) (read_page d.pages p) (at new p)) (sym e)
          (subst (λ o. PageIs o (read_page d.pages p) (at new p)) (unchanged (is_own_lock (held_by h.txs t p)) (copy_at h.pool p))
          (subst (PageIs (copy_at h.pool p) (read_page d.pages p)) (at_of (page_at alone.base p) (page_at new p) (sym (new_none c one h tb d s alone t busy last p e))) (page c one h tb d s alone t busy last p below)))
      by (Some bytes) e None f = let there = (is_written_page c one h tb d s alone t busy last p (ap is_some e)).there in let none : is_some (copy_at h.pool p) ≡ false = ap is_some f in absurd (cc)
      by (Some bytes) e (Some x) f =
          let is = (is_written_page c one h tb d s alone t busy last) p (ap is_some e) in
          let version : x.version ≡ version_at alone.base p = ap (λ o. version_or (version_of_copy o)) (sym f) ∙ is.version in
          let made = (new_some c one h tb d s alone t busy last) p bytes e in
          subst (λ o. PageIs (published (is_own_lock (held_by h.txs t p)) o (copy_at h.pool p)) (read_page d.pages p) (at new p)) (sym e)
          (subst (λ o. PageIs (published (is_own_lock (held_by h.txs t p)) (Some bytes) o) (read_page d.pages p) (at new p)) (sym f) (
            ap (λ n. n + 1) version ∙ ap (λ (x : BasePage). x.version) (sym made),
            ap (λ (x : BasePage). x.bytes) (sym made),
            (λ clean. let bad : true ≡ false = sym is.own ∙ clean in absurd (cc)),
          ))

  new_home : IsHome (closed h t (publish_all h t))
  unfolding commit
  new_home = commit_is_sound_law t (fresh_work h d) alone.home busy.there busy.waits

  new_none_open : (closed h t (publish_all h t)).txs.txs ≡ []
  unfolding closed
  new_none_open = closed_none h.txs t busy.one busy.there

  -- the record that is forced, if there is one, leaves the pages as they are
  abbrev forces : Bool → List DiskCall
  forces none = (force_if none t (record_bytes (commit_record h t)) (fresh_work h d)).calls

  same_pages : (none : Bool) → (all_done 0 d (forces none)).pages ≡ d.pages
  unfolding done
  same_pages true = refl
  same_pages false = refl

  new_kept : (none : Bool) → (length (pages_written h t) == 0) ≡ none → Kept c new d (seen_commit s t) (record { home = closed h t (publish_all h t); pages = d.pages; calls = forces none })
  unfolding closed close_tx
  new_kept none e =
      record {
        config = alone.kept.config;
        node = alone.kept.node;
        born = alone.kept.born;
        known = ran_some s.base alone.base new (script t s.seen) alone.kept.known (ran_to (script t s.seen) alone.base (look_of h.pool t) busy.work);
        fine = (new_fine c one h tb d s alone t busy last);
        pages =
            record {
              pages = new_pages;
              raw = alone.kept.pages.raw;
              count = alone.kept.pages.count;
              readable = alone.kept.pages.readable;
              redone = redone_now c one h tb d s alone t busy last none e;
              done = same_pages none;
            };
        serials = alone.kept.serials;
        later = λ k above. script-commits (tx k) t s.seen ∙ alone.kept.later k above;
      }

  commit_with : (none : Bool) → (length (pages_written h t) == 0) ≡ none
      → StepOk c (event.Commit t) s d
      (and_so
      (end_work (reply.Committed t) t (begin_work (node_of c h tb) d)
      (record { endings = endings h t true; work = record { home = closed h t (publish_all h t); pages = d.pages; calls = forces none } }))
      plan_of)
  commit_with none e =
      end_is c one h tb d s alone t busy (event.Commit t) (reply.Committed t) true new (taken c one h tb d s alone t busy last) (publish_all h t) (forces none)
      (λ next serving entries sent.
      commit_fits s alone.base new t sent _ alone.kept.known (ran_to (script t s.seen) alone.base (look_of h.pool t) busy.work)
      (alone_again c new d (seen_commit s t) (record { home = closed h t (publish_all h t); pages = d.pages; calls = forces none }) next new_home
      (new_kept none e)
      serving (Nobody (record { none = new_none_open; entries = entries }))))

  pub commit_is : StepOk c (event.Commit t) s d (and_so (end_work (reply.Committed t) t (begin_work (node_of c h tb) d) (commit t (fresh_work h d))) plan_of)
  unfolding commit
  commit_is = by (length (pages_written h t) == 0) refl
    where
      by : (none : Bool) → (length (pages_written h t) == 0) ≡ none
          → StepOk c (event.Commit t) s d
          (and_so
          (end_work (reply.Committed t) t (begin_work (node_of c h tb) d)
          (record {
            endings = endings h t true;
            work = record (force_if none t (record_bytes (commit_record h t)) (fresh_work h d)) { home = closed h t (publish_all h t) };
          }))
          plan_of)
      by true e = commit_with true e
      by false e = commit_with false e

module _ (c : Sizes) (few : c.pages ≤ 65536) (one : c.nodes ≡ 1) (h : HomeState) (tb : LockTable) (d : Disk) (s : Story) (alone : Alone c h tb d s) where
  pub commit_step : (t : TxId) → StepOk c (event.Commit t) s d (nodestep (node_of c h tb) (node.Commit t) d)
  unfolding nodestep refusal do_event
  commit_step t =
      by_refusal c few one h tb d s alone (event.Commit t) (node.Commit t) (refusal (node_of c h tb) (node.Commit t)) refl
      (λ none.
      let last = refuse_if (at_version_end h t) reason.VersionEnd None in
      let first = not_refused (not_open (node_of c h tb) t) reason.NoTx (refuse_if (waits (node_of c h tb) t) reason.TxWaits last) none in
      let second = not_refused (waits (node_of c h tb) t) reason.TxWaits last first.1 in
      let third = not_refused (at_version_end h t) reason.VersionEnd None second.1 in
      let there : is_open h.txs t ≡ true = not_false (is_open h.txs t) first.0 in
      commit_is c one h tb d s alone t (busy_of c few one h tb d s alone t there) third.0)
