-- What a commit logs of each page.
use Rattle.std.proofs.Common.{◌≡◌, ◌≢◌, refl, sym, ap, subst, ◌∙◌, ℕ, suc, ◌+◌, ◌-◌, ◌^◌, ◌<◌, ◌≤◌, ◌==◌, ◌||◌, Bool, true, false, List, [], ◌∷◌, length, map, Some, is_some, arith}
use Rattle.std.specs.List.{list_any, AllByRecursion, Contains}
use Rattle.std.proofs.lemmas.Bool.Decides.{nat_tests}
use Rattle.pcl_base.specs.declared.log.Logged.{Logged}
use Rattle.pcl_base.specs.declared.tx.TxId.{TxId}
use Rattle.node_rules.specs.AccessRule.{version_or}
use Rattle.node_rules.specs.BufferRule.{find, private_bytes}
use Rattle.node_rules.specs.EndRule.{pages_written, new_version, logged, commit_record, at_version_end}
use Rattle.node_rules.specs.NodeState.{HomeState}
use Rattle.node_rules.specs.OpenTxs.{OpenTx, open_at, with_serial}
use Rattle.node_rules.specs.Words.{pick}
use Rattle.redo_laws.specs.Laws.{CanBeWritten}
use Rattle.home_laws.specs.Homes.{AreSerials}
use Rattle.home_laws.proofs.Opens.{open_is_own, there_is, open_serial}
use Rattle.home_laws.proofs.Records.{record_is_sound_law}
use Rattle.home_laws.proofs.Serials.{one_if}
use Rattle.home_laws.proofs.Tests.{number_equal}
use Rattle.home_laws.proofs.Unpins.{times}
use Rattle.home_laws.proofs.Words.{and_true, equal}
use Rattle.home_laws.proofs.Written.{times_more, of_each}
use Rattle.page_laws.proofs.StorageParts.Calls.{forced_is_logged_law, forced_elsewhere_law}
use Rattle.page_laws.specs.Written.Record.{RecordHasWritten, MayCommit, RecordCanBeWritten, CommitIsLogged, CommitIsElsewhere}
use Rattle.page_laws.proofs.WrittenParts.Looked.{times_look}

-- ---- the pages of a record

pub none_in : (ps : List ℕ) (p : ℕ) → length ps ≡ 0 → times p ps ≡ 0
none_in [] p none = refl
none_in (q ∷ ps) p none = absurd (omega (arith, none))

pub all_of : (P : Logged → Type 0) (h : HomeState) (t : TxId) (ps : List ℕ) → AllByRecursion (λ p. P (logged h t p)) ps → AllByRecursion P (map (logged h t) ps)
all_of P h t [] all = tt
all_of P h t (p ∷ ps) all = (all.0, all_of P h t ps all.1)

pub others_of : (h : HomeState) (t : TxId) (ps : List ℕ) (p : ℕ) → times p ps ≡ 0 → AllByRecursion (λ x. x.page ≢ p) (map (logged h t) ps)
others_of h t [] p none = tt
others_of h t (q ∷ ps) p none =
    let count = times_more q p ps in
    (differs (q == p) refl (omega (arith, count, none)), others_of h t ps p (omega (arith, count, none)))
  where
    differs : (b : Bool) → (q == p) ≡ b → one_if b ≡ 0 → q ≢ p
    differs true e z = absurd (omega (arith, z))
    differs false e z = λ same. absurd (grind (arith, nat_tests))

pub there_of : (h : HomeState) (t : TxId) (ps : List ℕ) (p : ℕ) → 1 ≤ times p ps → Contains (map (logged h t) ps) (logged h t p)
there_of h t [] p some = absurd (omega (arith, some))
there_of h t (q ∷ ps) p some = by (q == p) refl (times_more q p ps) (there_of h t ps p)
  where
    by : (b : Bool) → (q == p) ≡ b → times p (q ∷ ps) ≡ one_if b + times p ps → (1 ≤ times p ps → Contains (map (logged h t) ps) (logged h t p))
        → Contains (map (logged h t) (q ∷ ps)) (logged h t p)
    by true e count go = (0, omega arith, ap (logged h t) (number_equal q p e))
    by false e count go = let rest = go (omega (arith, count, some)) in (suc rest.0, (let inside = rest.1 in omega (arith, inside)), rest.2)

-- a test that none of some pages passes
pub none_passes : (test : ℕ → Bool) (ps : List ℕ) (p : ℕ) → list_any test ps ≡ false → 1 ≤ times p ps → test p ≡ false
none_passes test [] p none some = absurd (omega (arith, some))
none_passes test (q ∷ ps) p none some = by (q == p) refl (test q) refl none (times_more q p ps) (none_passes test ps p)
  where
    by : (b : Bool) → (q == p) ≡ b → (e : Bool) → test q ≡ e → (e || list_any test ps) ≡ false → times p (q ∷ ps) ≡ one_if b + times p ps
        → (list_any test ps ≡ false → 1 ≤ times p ps → test p ≡ false) → test p ≡ false
    by true f true g n count go = absurd (cc)
    by true f false g n count go = subst (λ x. test x ≡ false) (number_equal q p f) g
    by false f true g n count go = absurd (cc)
    by false f false g n count go = go n (omega (arith, count, some))

-- ---- the record

pub record_has_written_law : RecordHasWritten
unfolding commit_record
record_has_written_law h t home waits =
    record {
      there = λ p some. there_of h t (pages_written h t) p (let count = times_look h t home waits p ∙ ap one_if some in omega (arith, count));
      others = λ p none. others_of h t (pages_written h t) p (times_look h t home waits p ∙ ap (λ o. one_if (is_some o)) none);
    }

-- the serial of an open transaction is at most the last
least_last : (low last : ℕ) (xs : List OpenTx) → AreSerials low last xs → low ≤ last
least_last low last [] rise = rise
least_last low last (x ∷ xs) rise = let above = rise.0 in let rest = least_last x.serial last xs rise.1 in omega (arith, above, rest)

serial_most : (low last s : ℕ) (x : OpenTx) (xs : List OpenTx) → AreSerials low last xs → with_serial xs s ≡ Some x → s ≤ last
unfolding with_serial
serial_most low last s x [] rise found = absurd (cc)
serial_most low last s x (y ∷ xs) rise found = by (y.serial == s) refl (serial_most y.serial last s x xs rise.1) (least_last y.serial last xs rise.1)
  where
    by : (b : Bool) → (y.serial == s) ≡ b → (with_serial xs s ≡ Some x → s ≤ last) → y.serial ≤ last → s ≤ last
    by true e rest most = grind (arith, nat_tests)
    by false e rest most = rest (sym (ap (λ b. pick b (Some y) (with_serial xs s)) e) ∙ found)

module _ (h : HomeState) (t : TxId) (may : MayCommit h t) where
  own : (t.node ≡ h.txs.node) × (t.born ≡ h.txs.born)
  own =
      let both = and_true (t.node == h.txs.node) (t.born == h.txs.born) (open_is_own h.txs t may.there) in
      (equal t.node h.txs.node both.0, equal t.born h.txs.born both.1)

  recent : t.serial ≤ h.txs.last
  recent =
      let x = there_is (open_at h.txs t) may.there in
      serial_most 0 h.txs.last t.serial x.0 h.txs.txs may.home.txs.serials (open_serial h.txs t x.0 x.1)

  -- a page that was written is below the last version
  low_version : (p : ℕ) → 1 ≤ times p (pages_written h t) → new_version h p < 18446744073709551616
  unfolding at_version_end
  low_version p there =
      by (is_some (private_bytes h.pool t p)) refl (times_look h t may.home may.waits p)
      (none_passes (λ q. version_or (find h.pool q) == 2 ^ 64 - 1) (pages_written h t) p may.last there)
    where
      by : (b : Bool) → is_some (private_bytes h.pool t p) ≡ b → times p (pages_written h t) ≡ one_if (is_some (private_bytes h.pool t p)) → (version_or (find h.pool p) == 2 ^ 64 - 1) ≡ false
          → new_version h p < 18446744073709551616
      by true e count test = let under = may.versions p e in grind (arith, nat_tests)
      by false e count test = absurd (let none : times p (pages_written h t) ≡ 0 = count ∙ ap one_if e in omega (arith, there, none))

  pub can_be_written : CanBeWritten h.config (commit_record h t)
  unfolding commit_record
  can_be_written =
      record {
        limits = may.limits;
        shape = record_is_sound_law h t may.home may.there may.waits may.some;
        numbers =
            record {
              born = let under = may.born in let same = own.1 in omega (arith, under, same);
              serial = let under = may.serial in let most = recent in omega (arith, under, most);
              versions =
                  all_of (λ x. x.version < 18446744073709551616) h t (pages_written h t)
                  (of_each (λ p. (logged h t p).version < 18446744073709551616) (pages_written h t) low_version);
            };
      }

pub record_can_be_written_law : RecordCanBeWritten
record_can_be_written_law h t may = can_be_written h t may

pub commit_is_logged_law : CommitIsLogged
commit_is_logged_law d n h t p disk log has whole may there above is =
    forced_is_logged_law h.config d n t (commit_record h t) (logged h t p) disk log has whole (can_be_written h t may)
    ((record_has_written_law h t may.home may.waits).there p there) refl above is

pub commit_is_elsewhere_law : CommitIsElsewhere
commit_is_elsewhere_law d n h t p disk log whole may none is =
    forced_elsewhere_law h.config d n p t (commit_record h t) disk log whole (can_be_written h t may) ((record_has_written_law h t may.home may.waits).others p none) is
