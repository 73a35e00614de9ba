-- A copy of a node that is alone is written, and leaves or stays.
use Rattle.std.proofs.Common.{◌≡◌, refl, sym, ap, subst, ℕ, ◌≤◌, Bool, true, false, None}
use Rattle.std.specs.Prelude.{Option}
use Rattle.pcl_base.specs.Limits.{Sizes}
use Rattle.pcl_base.specs.declared.tx.TxId.{TxId}
use Rattle.pcl_base.specs.declared.event.Event.TheVariants as event
use Rattle.pcl_base.specs.declared.reply.Reason.{Reason}
use Rattle.pcl_base.specs.declared.reply.Reason.TheVariants as reason
use Rattle.run_rules.specs.Disk.{Disk}
use Rattle.run_rules.specs.Script.{script}
use Rattle.run_rules.specs.Now.{Story}
use Rattle.node_rules.specs.BufferRule.{Pool, copy_at, private_at, bytes_of_private, pinned, evict}
use Rattle.node_rules.specs.LockTable.{LockTable}
use Rattle.node_rules.specs.NodeState.{HomeState}
use Rattle.node_rules.specs.NodeState as node
use Rattle.node_rules.specs.Refusals.{refuse_if, refusal, no_page, no_copy}
use Rattle.node_rules.specs.DiskCalls.{all_done}
use Rattle.node_rules.specs.Work.{HomeWork, with_pool, write_back}
use Rattle.node_rules.specs.AccessRule.{on_pool}
use Rattle.node_rules.specs.NodeStep.{do_event, nodestep}
use Rattle.home_laws.specs.Homes.{IsHome}
use Rattle.home_laws.proofs.Pools.{pool_of_home}
use Rattle.home_laws.proofs.Kept.{written_if, home_written, keeps_written}
use Rattle.home_laws.proofs.Leaves.{left_pool, home_left, keeps_left, write_back_is_sound_law, evict_is_sound_law}
use Rattle.single_laws.proofs.Working.{seen_same}
use Rattle.single_laws.proofs.Told.{evicted_fits, flushed_fits}
use Rattle.single_laws.proofs.Pages.{PagesAre, written_pages, pages_left}
use Rattle.single_laws.proofs.Alone.{look_of, Busy, Who, Nobody, Somebody, Alone, fresh_work, node_of, StepOk, alone_again, wrote_same}
use Rattle.single_laws.proofs.Nodes.{by_refusal}

-- a condition that doesn't hold
pub not_refused : (b : Bool) (r : Reason) (further : Option Reason) → refuse_if b r further ≡ None → (b ≡ false) × (further ≡ None)
not_refused true r further e = absurd (cc)
not_refused false r further e = (refl, e)

module _ (c : Sizes) (few : c.pages ≤ 65536) (one : c.nodes ≡ 1) (h : HomeState) (tb : LockTable) (d : Disk) (s : Story) (alone : Alone c h tb d s) where
  -- a step that changes the buffer alone, and no private copy
  pool_step : (w : HomeWork) (b : Pool) → w.home ≡ with_pool h b → ((t : TxId) (p : ℕ) → private_at b t p ≡ private_at h.pool t p) → PagesAre c alone.base d w → IsHome w.home
      → Alone c w.home tb (all_done 0 d w.calls) s
  pool_step w b same privates pages home =
      subst (λ (x : HomeState). Alone c x tb (all_done 0 d w.calls) s) (sym same)
      (alone_again c alone.base d s (record w { home = with_pool h b }) tb (subst IsHome same home)
      (record {
        config = alone.kept.config;
        node = alone.kept.node;
        born = alone.kept.born;
        known = alone.kept.known;
        fine = alone.kept.fine;
        pages = subst (λ (x : HomeState). PagesAre c alone.base d (record w { home = x })) same pages;
        serials = alone.kept.serials;
        later = alone.kept.later;
      })
      alone.serving (who alone.who))
    where
      busy_still : (t : TxId) → Busy h tb alone.base s t → Busy (with_pool h b) tb alone.base s t
      busy_still t busy =
          record {
            there = busy.there;
            one = busy.one;
            name = busy.name;
            recent = busy.recent;
            waits = busy.waits;
            own = busy.own;
            entries = busy.entries;
            work = seen_same (script t s.seen) alone.base (look_of h.pool t) (look_of b t) (λ p. ap bytes_of_private (privates t p)) busy.work;
            wrote = wrote_same h (with_pool h b) alone.base t refl (λ p. ap bytes_of_private (privates t p)) busy.wrote;
          }

      who : Who h tb alone.base s → Who (with_pool h b) tb alone.base s
      who (Nobody idle) = Nobody (record { none = idle.none; entries = idle.entries })
      who (Somebody t busy) = Somebody t (busy_still t busy)

  pub evict_step : (n p : ℕ) → StepOk c (event.Evict n p) s d (nodestep (node_of c h tb) (node.Evict p) d)
  unfolding nodestep refusal do_event
  evict_step n p =
      by_refusal c few one h tb d s alone (event.Evict n p) (node.Evict p) (refusal (node_of c h tb) (node.Evict p)) refl
      (λ none few_open.
      let last = refuse_if (pinned h.pool p) reason.Pinned None in
      let first = not_refused (no_page (node_of c h tb) p) reason.NoPage (refuse_if (no_copy (node_of c h tb) p) reason.NoCopy last) none in
      let second = not_refused (no_copy (node_of c h tb) p) reason.NoCopy last first.1 in
      let third = not_refused (pinned h.pool p) reason.Pinned None second.1 in
      let w : HomeWork = fresh_work h d in
      record {
        home = (on_pool (λ b. evict b p) (write_back p w)).home;
        table = tb;
        node = refl;
        quiet = refl;
        fits = λ sent.
            evicted_fits s alone.base n p sent _ alone.kept.known
            (pool_step (on_pool (λ b. evict b p) (write_back p w)) (left_pool h.pool p) (home_left p w) (keeps_left h.config h.pool p (pool_of_home h alone.home) third.0).privates
            (pages_left c alone.base d alone.kept.fine few one p w alone.kept.pages) (evict_is_sound_law p w alone.home third.0));
      })

  pub flush_step : (n p : ℕ) → StepOk c (event.Flush n p) s d (nodestep (node_of c h tb) (node.Flush p) d)
  unfolding nodestep refusal do_event
  flush_step n p =
      by_refusal c few one h tb d s alone (event.Flush n p) (node.Flush p) (refusal (node_of c h tb) (node.Flush p)) refl
      (λ none few_open.
      let w : HomeWork = fresh_work h d in
      record {
        home = (write_back p w).home;
        table = tb;
        node = refl;
        quiet = refl;
        fits = λ sent.
            flushed_fits s alone.base n p sent _ alone.kept.known
            (pool_step (write_back p w) (written_if (copy_at h.pool p) h.pool p) (home_written p w) (keeps_written h.config h.pool p (pool_of_home h alone.home)).privates
            (written_pages c alone.base d alone.kept.fine few one p w alone.kept.pages) (write_back_is_sound_law p w alone.home));
      })
