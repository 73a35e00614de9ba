-- The record of a commit of a node alone: redo of each page gives the next base.
use Rattle.std.proofs.Common.{◌≡◌, refl, sym, ap, subst, ◌∙◌, ℕ, ◌+◌, ◌<◌, ◌≤◌, ◌==◌, Bool, true, false, List, [], length, None, Some, is_some, arith}
use Rattle.std.specs.Prelude.{Option}
use Rattle.std.proofs.lemmas.Bool.Decides.{nat_tests}
use Rattle.pcl_base.specs.Limits.{Sizes}
use Rattle.pcl_base.specs.declared.tx.TxId.{TxId}
use Rattle.text_rules.specs.ChangedRanges.{put_ranges}
use Rattle.text_rules.specs.LogRecord.{record_bytes, IsRecord}
use Rattle.text_rules.specs.StoredPage.{PageAt}
use Rattle.run_rules.specs.Base.{BasePage, Base, version_at, bytes_at, page_at}
use Rattle.run_rules.specs.Disk.{Disk}
use Rattle.run_rules.specs.Now.{Story}
use Rattle.node_rules.specs.OpenTxs.{held_by}
use Rattle.node_rules.specs.BufferRule.{private_bytes}
use Rattle.node_rules.specs.LockTable.{LockTable}
use Rattle.node_rules.specs.NodeState.{HomeState, runs_at}
use Rattle.node_rules.specs.DiskCalls.{done, all_done}
use Rattle.node_rules.specs.AccessRule.{bytes_or}
use Rattle.node_rules.specs.EndRule.{pages_written, logged, ranges_of, new_bytes, commit_record, at_version_end, force_if}
use Rattle.redo_laws.specs.Words.{HasNumbers}
use Rattle.redo_laws.specs.Laws.{CanBeWritten}
use Rattle.home_laws.specs.Homes.{AreRuns, is_exclusive_lock}
use Rattle.home_laws.proofs.Tests.{none_there}
use Rattle.home_laws.proofs.Serials.{one_if}
use Rattle.home_laws.proofs.Unpins.{times}
use Rattle.home_laws.proofs.Runs.{written_runs}
use Rattle.home_laws.proofs.Written.{of_each}
use Rattle.home_laws.proofs.Records.{record_is_sound_law}
use Rattle.page_laws.proofs.WrittenParts.Patches.{Outside, patched}
use Rattle.single_laws.proofs.Working.{next_base}
use Rattle.single_laws.proofs.Redone.{Redone, Says, Nothing, Next, redone_same, redone_forced}
use Rattle.single_laws.proofs.Pages.{at}
use Rattle.single_laws.proofs.Alone.{look_of, Busy, Alone, fresh_work}
use Rattle.page_laws.proofs.WrittenParts.Logging.{none_in, all_of, others_of, there_of}
use Rattle.page_laws.proofs.WrittenParts.Looked.{times_look}
use Rattle.single_laws.proofs.NextBase.{is_written_page, new_none, new_some, new_fine}

module _ (c : Sizes) (one : c.nodes ≡ 1) (h : HomeState) (tb : LockTable) (d : Disk) (s : Story) (alone : Alone c h tb d s) (t : TxId) (busy : Busy h tb alone.base s t)
    (last : at_version_end h t ≡ false) where
  abbrev new : Base
  new = next_base (look_of h.pool t) alone.base

  at_of : (x y : BasePage) → x ≡ y → (let z : PageAt = record { version = x.version; bytes = x.bytes } in z) ≡ record { version = y.version; bytes = y.bytes }
  at_of x y e = ap (λ (x : BasePage). let z : PageAt = record { version = x.version; bytes = x.bytes } in z) e

  same_at : (p : ℕ) → private_bytes h.pool t p ≡ None → at new p ≡ at alone.base p
  same_at p e = at_of (page_at new p) (page_at alone.base p) (new_none c one h tb d s alone t busy last p e)

  -- the record says of each page what the commit makes of it
  patched_page : (p : ℕ) → p < c.pages → (bytes : List ℕ) → private_bytes h.pool t p ≡ Some bytes → put_ranges (ranges_of (new_bytes h t p) (runs_at h.written t p)) (bytes_at alone.base p) ≡ bytes
  patched_page p below bytes e =
      let same : new_bytes h t p ≡ bytes = ap (λ o. bytes_or o []) e in
      let size : bytes_at new p ≡ bytes = ap (λ (x : BasePage). x.bytes) (new_some c one h tb d s alone t busy last p bytes e) in
      ap (λ bs. put_ranges (ranges_of bs (runs_at h.written t p)) (bytes_at alone.base p)) same
      ∙ patched c.size 0 (runs_at h.written t p) (bytes_at alone.base p) bytes
      (subst (λ (x : Sizes). AreRuns x.size 0 (runs_at h.written t p)) alone.kept.config
      (written_runs h.config.size (is_exclusive_lock (held_by h.txs t p)) (runs_at h.written t p) (alone.home.runs t p)))
      (alone.kept.fine.sizes p below) (ap length (sym size) ∙ (new_fine c one h tb d s alone t busy last).sizes p below)
      (subst (λ o. Outside (runs_at h.written t p) (bytes_at alone.base p) (bytes_or o (bytes_at alone.base p))) e (busy.wrote p))

  says : (p : ℕ) → p < c.pages → Says (commit_record h t) p (at alone.base p) (at new p)
  unfolding commit_record
  says p below = by (private_bytes h.pool t p) refl
    where
      by : (o : Option (List ℕ)) → private_bytes h.pool t p ≡ o → Says (commit_record h t) p (at alone.base p) (at new p)
      by None e = Nothing (others_of h t (pages_written h t) p (times_look h t alone.home busy.waits p ∙ ap (λ o. one_if (is_some o)) e)) (same_at p e)
      by (Some bytes) e =
          let is = is_written_page c one h tb d s alone t busy last p (ap is_some e) in
          let count : times p (pages_written h t) ≡ 1 = times_look h t alone.home busy.waits p ∙ ap (λ o. one_if (is_some o)) e in
          let made = new_some c one h tb d s alone t busy last p bytes e in
          Next (logged h t p) (there_of h t (pages_written h t) p (omega (arith, count))) refl (ap (λ v. v + 1) is.version)
          (ap (λ (bs : List ℕ). let y : PageAt = record { version = version_at alone.base p + 1; bytes = bs } in y) (patched_page p below bytes e) ∙ sym (at_of (page_at new p) (record { version = version_at alone.base p + 1; bytes = bytes }) made))
          (ap (λ (x : BasePage). x.version) made)

  numbers : HasNumbers (commit_record h t)
  unfolding commit_record
  numbers =
      record {
        born = let name = ap (λ (u : TxId). u.born) busy.name in omega (arith, name);
        serial = let under = alone.kept.serials in let recent = busy.recent in omega (arith, under, recent);
        versions =
            all_of (λ x. x.version < 18446744073709551616) h t (pages_written h t)
            (of_each (λ p. (logged h t p).version < 18446744073709551616) (pages_written h t) (λ p there. version_of p there (private_bytes h.pool t p) refl));
      }
    where
      version_of : (p : ℕ) → 1 ≤ times p (pages_written h t) → (o : Option (List ℕ)) → private_bytes h.pool t p ≡ o → (logged h t p).version < 18446744073709551616
      version_of p there None e =
          let none : times p (pages_written h t) ≡ 0 = times_look h t alone.home busy.waits p ∙ ap (λ o. one_if (is_some o)) e in absurd (omega (arith, there, none))
      version_of p there (Some bytes) e =
          let is = is_written_page c one h tb d s alone t busy last p (ap is_some e) in
          subst (λ v. v + 1 < 18446744073709551616) (sym is.version) is.more

  may : (length (pages_written h t) == 0) ≡ false → CanBeWritten c (commit_record h t)
  may some =
      record {
        limits = alone.kept.fine.limits;
        shape = subst (λ (x : Sizes). IsRecord x (commit_record h t)) alone.kept.config (record_is_sound_law h t alone.home busy.there busy.waits (grind (arith, nat_tests)));
        numbers = numbers;
      }

  pub redone_now : (none : Bool) → (length (pages_written h t) == 0) ≡ none → Redone c new (all_done 0 d (force_if none t (record_bytes (commit_record h t)) (fresh_work h d)).calls)
  unfolding done
  redone_now true e =
      redone_same c one alone.base new d (λ p below. same_at p (none_there (private_bytes h.pool t p) (by p (private_bytes h.pool t p) refl))) alone.kept.pages.redone
    where
      by : (p : ℕ) (o : Option (List ℕ)) → private_bytes h.pool t p ≡ o → is_some (private_bytes h.pool t p) ≡ false
      by p None f = ap is_some f
      by p (Some bytes) f =
          let count : times p (pages_written h t) ≡ 1 = times_look h t alone.home busy.waits p ∙ ap (λ o. one_if (is_some o)) f in
          let none = none_in (pages_written h t) p (grind (arith, nat_tests)) in
          absurd (omega (arith, count, none))
  redone_now false e = redone_forced c one alone.base new d (commit_record h t) (may e) says alone.kept.pages.redone
