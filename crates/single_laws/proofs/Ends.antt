-- A transaction of a node that is alone ends.
use Rattle.std.proofs.Common.{◌≡◌, refl, sym, ap, subst, ◌∙◌, ℕ, ◌+◌, ◌≤◌, ◌==◌, ◌||◌, not, cond, Bool, true, false, List, [], ◌∷◌, length, None, Some, is_some, inl, inr, arith}
use Rattle.std.specs.Prelude.{Option, ◌⊎◌}
use Rattle.std.specs.List.{filter}
use Rattle.pcl_base.specs.Limits.{Sizes}
use Rattle.pcl_base.specs.declared.tx.TxId.{TxId}
use Rattle.pcl_base.specs.declared.event.Event.{Event}
use Rattle.pcl_base.specs.declared.event.Event.TheVariants as event
use Rattle.pcl_base.specs.declared.lock.Held.{Held}
use Rattle.pcl_base.specs.declared.tx.Mode.{Mode}
use Rattle.pcl_base.specs.declared.reply.Reason.TheVariants as reason
use Rattle.pcl_base.specs.declared.reply.Reply.{Reply}
use Rattle.pcl_base.specs.declared.reply.Reply.TheVariants as reply
use Rattle.pcl_base.specs.declared.trace.Sent.{Sent}
use Rattle.run_rules.specs.Base.{Base, version_at}
use Rattle.run_rules.specs.Disk.{Disk}
use Rattle.run_rules.specs.Now.{Story}
use Rattle.node_rules.specs.Words.{pick}
use Rattle.node_rules.specs.OpenTxs.{OpenTx, OpenTxs, is_own, is_open, with_serial, held_by, mode_held, waits_on, close_tx}
use Rattle.node_rules.specs.BufferRule.{Pool}
use Rattle.node_rules.specs.LockTable.{LockTable, entry_at}
use Rattle.node_rules.specs.NodeState.{HomeState}
use Rattle.node_rules.specs.NodeState as node
use Rattle.node_rules.specs.DiskCalls.{DiskCall, all_done}
use Rattle.node_rules.specs.Refusals.{refusal, not_open}
use Rattle.node_rules.specs.Work.{Work, and_so, for_each, with_home_work, reply as with_reply}
use Rattle.node_rules.specs.EndRule.{ending, endings, pages_at_end, closed, abort}
use Rattle.node_rules.specs.OwnerRule.{version_of_change, tell_end, end_work}
use Rattle.node_rules.specs.NodeStep.{plan_of, begin_work, do_event, nodestep}
use Rattle.home_laws.specs.Homes.{IsHome}
use Rattle.home_laws.proofs.Tests.{not_false}
use Rattle.home_laws.proofs.Serials.{one_if}
use Rattle.home_laws.proofs.Unpins.{times}
use Rattle.home_laws.proofs.Closed.{times_at_end}
use Rattle.home_laws.proofs.Ends.{abort_is_sound_law}
use Rattle.single_laws.proofs.Told.{Fits, entry, aborted_fits}
use Rattle.single_laws.proofs.Pages.{same_copies}
use Rattle.single_laws.proofs.Entries.{held_entry, is_taken}
use Rattle.single_laws.proofs.Alone.{Busy, Nobody, Kept, Alone, fresh_work, node_of, StepOk, alone_again}
use Rattle.single_laws.proofs.Publishing.{copy_aborted}
use Rattle.single_laws.proofs.Telling.{ended_version, Left, AllTold, all_told, none_cleaned}
use Rattle.single_laws.proofs.Nodes.{busy_of, by_refusal}
use Rattle.single_laws.proofs.Copies.{not_refused}

-- none is open once the only one is closed
none_left : (xs : List OpenTx) (n : ℕ) → length xs ≡ 1 → is_some (with_serial xs n) ≡ true → filter (λ x. not (x.serial == n)) xs ≡ []
unfolding with_serial
none_left [] n one e = refl
none_left (x ∷ []) n one e = by (x.serial == n) e
  where
    by : (b : Bool) → is_some (pick b (Some x) None) ≡ true → cond (not b) (x ∷ []) [] ≡ []
    by true f = refl
    by false f = absurd (cc)
none_left (x ∷ y ∷ xs) n one e = absurd (omega (arith, one))

pub closed_none : (s : OpenTxs) (t : TxId) → length s.txs ≡ 1 → is_open s t ≡ true → (close_tx s t).txs ≡ []
unfolding close_tx
closed_none s t one there = none_left s.txs t.serial one (by (is_own s t) there)
  where
    by : (b : Bool) → is_some (pick b (with_serial s.txs t.serial) None) ≡ true → is_some (with_serial s.txs t.serial) ≡ true
    by true e = e
    by false e = absurd (cc)

module _ (c : Sizes) (one : c.nodes ≡ 1) (h : HomeState) (tb : LockTable) (d : Disk) (s : Story) (alone : Alone c h tb d s) (t : TxId) (busy : Busy h tb alone.base s t) where
  -- an end that makes another base, over a buffer and some calls
  module _ (e : Event) (r : Reply) (commits : Bool) (new : Base) (made : (p : ℕ) → version_at new p ≡ ended_version h t commits alone.base p) (b : Pool) (calls : List DiskCall) where
    abbrev ended_work : Work
    ended_work = with_home_work (begin_work (node_of c h tb) d) (record { home = closed h t b; pages = d.pages; calls = calls })

    config : (closed h t b).config.nodes ≡ 1
    unfolding closed
    config = ap (λ (x : Sizes). x.nodes) alone.kept.config ∙ one

    start_left : Left h t commits alone.base new made (with_reply r ended_work) config tb (pages_at_end h t)
    start_left q = by (held_by h.txs t q) refl
      where
        count : times q (pages_at_end h t) ≡ one_if (is_some (held_by h.txs t q) || false)
        count = times_at_end h t q alone.home ∙ ap (λ o. one_if (is_some (held_by h.txs t q) || waits_on o q)) busy.waits

        by : (o : Option Held) → held_by h.txs t q ≡ o
            → (entry_at tb q ≡ held_entry (version_at new q) t None) ⊎ ((entry_at tb q ≡ held_entry (version_at alone.base q) t (mode_held (held_by h.txs t q))) × (1 ≤ times q (pages_at_end h t)))
        by None f =
            let version : version_at new q ≡ version_at alone.base q
            = made q ∙ ap (λ o. pick (is_taken (mode_held o) (version_at alone.base q) (version_of_change (ending h t commits q).change)) (version_at alone.base q + 1) (version_at alone.base q)) f in
            inl (busy.entries q ∙ ap (λ o. held_entry (version_at alone.base q) t (mode_held o)) f ∙ ap (λ v. held_entry v t None) (sym version))
        by (Some l) f =
            let some : times q (pages_at_end h t) ≡ 1 = count ∙ ap (λ o. one_if (is_some o || false)) f in
            inr (busy.entries q, omega (arith, some))

    told : AllTold h t commits alone.base new made (with_reply r ended_work) config (pages_at_end h t) tb
    told = all_told h t commits alone.base new made (with_reply r ended_work) config (pages_at_end h t) tb alone.serving start_left

    pub end_is : ((next : LockTable) → next.serving ≡ true → ((q : ℕ) → entry_at next q ≡ held_entry (version_at new q) t None) → (sent : List Sent)
        → Fits s (entry e (r ∷ []) sent) (λ u. Alone c (closed h t b) next (all_done 0 d calls) u))
        → StepOk c e s d
        (and_so (end_work r t (begin_work (node_of c h tb) d) (record { endings = endings h t commits; work = record { home = closed h t b; pages = d.pages; calls = calls } })) plan_of)
    unfolding endings
    end_is fits =
        subst (λ o. StepOk c e s d (and_so o plan_of))
        (sym
        (ap (λ x. for_each (tell_end t) (endings h t commits) (with_reply r x)) (none_cleaned h t commits alone.base new made ended_work config (endings h t commits) tb alone.serving)
        ∙ told.goes))
        (λ few_open. record { home = closed h t b; table = told.table; node = refl; quiet = refl; fits = fits told.table told.serving told.entries })

  -- ---- a transaction is given up

  not_taken : (p : ℕ) → version_at alone.base p ≡ ended_version h t false alone.base p
  not_taken p = by (mode_held (held_by h.txs t p))
    where
      by : (o : Option Mode) → version_at alone.base p ≡ pick (is_taken o (version_at alone.base p) None) (version_at alone.base p + 1) (version_at alone.base p)
      by None = refl
      by (Some m) = refl

  aborted_kept : Kept c alone.base d s (fresh_work (closed h t h.pool) d)
  unfolding closed close_tx
  aborted_kept =
      record {
        config = alone.kept.config;
        node = alone.kept.node;
        born = alone.kept.born;
        known = alone.kept.known;
        fine = alone.kept.fine;
        pages = same_copies c alone.base d (fresh_work h d) (closed h t h.pool) (copy_aborted h t alone.home busy.waits) alone.kept.pages;
        serials = alone.kept.serials;
        later = alone.kept.later;
      }

  aborted_home : IsHome (closed h t h.pool)
  unfolding abort
  aborted_home = abort_is_sound_law t (fresh_work h d) alone.home busy.there

  aborted_none : (closed h t h.pool).txs.txs ≡ []
  unfolding closed
  aborted_none = closed_none h.txs t busy.one busy.there

  pub abort_is : StepOk c (event.Abort t) s d (and_so (end_work (reply.Aborted t) t (begin_work (node_of c h tb) d) (abort t (fresh_work h d))) plan_of)
  unfolding abort
  abort_is =
      end_is (event.Abort t) (reply.Aborted t) false alone.base not_taken h.pool []
      (λ next serving entries sent.
      aborted_fits s alone.base t sent _ alone.kept.known
      (alone_again c alone.base d s (fresh_work (closed h t h.pool) d) next aborted_home aborted_kept serving (Nobody (record { none = aborted_none; entries = entries }))))

module _ (c : Sizes) (few : c.pages ≤ 65536) (one : c.nodes ≡ 1) (h : HomeState) (tb : LockTable) (d : Disk) (s : Story) (alone : Alone c h tb d s) where
  pub abort_step : (t : TxId) → StepOk c (event.Abort t) s d (nodestep (node_of c h tb) (node.Abort t) d)
  unfolding nodestep refusal do_event
  abort_step t =
      by_refusal c few one h tb d s alone (event.Abort t) (node.Abort t) (refusal (node_of c h tb) (node.Abort t)) refl
      (λ none.
      let there : is_open h.txs t ≡ true = not_false (is_open h.txs t) (not_refused (not_open (node_of c h tb) t) reason.NoTx None none).0 in
      abort_is c one h tb d s alone t (busy_of c few one h tb d s alone t there))
