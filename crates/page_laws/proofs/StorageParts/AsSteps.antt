-- The calls of a node as the machine's steps.
use Rattle.std.proofs.Common.{inl, inr, ◌≡◌, ◌⊎◌, refl, ap, subst, ◌∙◌, ℕ, zero, suc, ◌≤◌, List, Option, Some, None, arith}
use Rattle.std.proofs.lemmas.Bool.Decides.{nat_tests}
use Rattle.text_rules.specs.LogRecord.{record_bytes}
use Rattle.node_rules.specs.DiskCalls.{Force, done}
use Rattle.run_rules.specs.Redo.{greatest, records_in}
use Rattle.page_protocol.specs.Authority.{releasing_to_disk}
use Rattle.page_protocol.specs.Bytes.{Copy, Ranges}
use Rattle.page_protocol.specs.Eras.{redoing, completing}
use Rattle.page_protocol.specs.Homes.{committing}
use Rattle.page_protocol.specs.Invariant.{Inv, Lags}
use Rattle.page_protocol.specs.State.{Page, current}
use Rattle.page_protocol.specs.Steps.{Reached}
use Rattle.page_protocol.specs.Storage.{restoring, flushing, cutting}
use Rattle.page_protocol.proofs.Keeps.{reached_holds}
use Rattle.page_protocol.proofs.Promises.{durable_law}
use Rattle.page_laws.specs.Storage.Looks.{IsStored, page_of, ranges_of_part, with_record}
use Rattle.page_laws.specs.Storage.Machine.{at_version, PagesAreWritten, CurrentStands, RecordsAreOld, CommitsAreForced, CutsAreCutting, CurrentIsRedone, GreatestTellsEntry}
use Rattle.page_laws.specs.Storage.Redone.{HaveRecord, TellsNext}
use Rattle.page_laws.proofs.StorageParts.Calls.{written_is_stored_law, forced_is_logged_law, cut_takes_old_law}
use Rattle.page_laws.proofs.StorageParts.Redos.{redone_is_current_law, greatest_tells_next_law}

pub pages_are_written_law : PagesAreWritten
unfolding restoring flushing releasing_to_disk redoing completing
pages_are_written_law c d n p a has is =
    record {
      restores = λ w fits. written_is_stored_law c d n p (at_version a w) a.disk a.log has fits is;
      flushes = λ x fits. written_is_stored_law c d n p (page_of x) a.disk a.log has fits is;
      releases = λ t v fits. written_is_stored_law c d n p (at_version a v) a.disk a.log has fits is;
      redoes = λ fits. written_is_stored_law c d n p (at_version a a.now) a.disk a.log has fits is;
      completes = λ e o fits. written_is_stored_law c d n p (at_version a a.now) a.disk a.log has fits is;
    }

pub current_stands_law : CurrentStands
unfolding redoing completing
current_stands_law c d p blank a reached is test =
    record { is_current = same; redoes = now; completes = λ e o. now }
  where
    i : Inv blank a
    i = reached_holds blank a reached

    version : a.disk.version ≡ a.now
    version = let old = i.stores_hold.disk_is.old in grind (arith, nat_tests)

    same : a.disk ≡ current a
    same =
        ap (λ bytes. let x : Copy = record { version = a.disk.version; bytes = bytes } in x) (i.stores_hold.disk_is.same)
        ∙ ap (λ v. let x : Copy = record { version = v; bytes = a.hist v } in x) version

    now : IsStored c d p (current a) a.log
    now = subst (λ x. IsStored c d p x a.log) same is

pub records_are_old_law : RecordsAreOld
records_are_old_law blank a reached n zero ranges e = omega arith
records_are_old_law blank a reached n (suc v) ranges e = let old = ((reached_holds blank a reached).stores_hold.records n v ranges e).old in omega (arith, old)

none_later : (blank : List ℕ) (a : Page) → Reached blank a → (n v : ℕ) → suc a.now ≤ v → (o : Option Ranges) → a.log n v ≡ o → a.log n v ≡ None
none_later blank a reached n v later None e = e
none_later blank a reached n v later (Some ranges) e = absurd (let old = records_are_old_law blank a reached n v ranges e in omega (arith, old, later))

pub commits_are_forced_law : CommitsAreForced
unfolding committing
commits_are_forced_law c d t r x blank a reached has whole can among changed version is =
    subst (λ v. IsStored c (done t.node d (Force t (record_bytes r))) x.page a.disk (with_record a.log t.node v (ranges_of_part x.part))) version
    (forced_is_logged_law c d t.node t r x a.disk a.log has whole can among changed
    (λ v above. none_later blank a reached t.node v (omega (arith, above, version)) (a.log t.node v) refl) is)

pub cuts_are_cutting_law : CutsAreCutting
unfolding cutting
cuts_are_cutting_law c d n p count a inside goes is =
    let cut = cut_takes_old_law c d n p count a.disk a.log inside goes is in record { upto = cut.upto; on_disk = cut.on_disk; left = cut.left }

pub current_is_redone_law : CurrentIsRedone
current_is_redone_law c d p blank a reached count is = redone_is_current_law c d p a count is (durable_law blank a (reached_holds blank a reached))

pub greatest_tells_entry_law : GreatestTellsEntry
greatest_tells_entry_law c d p ns blank a reached served is =
    record {
      newer = λ less. next (tells.newer less) (i.entry_holds.version served);
      as_old = tells.as_old;
    }
  where
    i : Inv blank a
    i = reached_holds blank a reached

    close : (a.entry ≡ a.now) ⊎ Lags a.era a.now a.entry a.log a.listed a.home → a.now ≤ suc a.entry
    close (inl same) = omega (arith, same)
    close (inr lags) = let one = lags.by_one in omega (arith, one)

    tells : TellsNext ns a.log a.entry (greatest (records_in c d ns) p)
    tells =
        greatest_tells_next_law c d p a.entry ns a.disk a.log is
        (λ n w ranges e. let old = records_are_old_law blank a reached n w ranges e in let most = close (i.entry_holds.version served) in omega (arith, old, most))

    next : HaveRecord ns a.log (suc a.entry) → (a.entry ≡ a.now) ⊎ Lags a.era a.now a.entry a.log a.listed a.home → suc a.entry ≡ a.now
    next have (inl same) = absurd (let old = records_are_old_law blank a reached have.node (suc a.entry) have.ranges have.there in omega (arith, old, same))
    next have (inr lags) = lags.by_one
