-- What calls change of what is stored of a page.
use Rattle.std.proofs.Common.{inl, inr, ◌≡◌, ◌≢◌, ◌⊎◌, refl, sym, ap, subst, ◌∙◌, ℕ, zero, suc, ◌+◌, ◌<◌, ◌≤◌, ◌==◌, ◌&&◌, eqb, leb, Bool, true, false, List, [], ◌∷◌, ◌++◌, length, take, drop, Option, Some, None, Result, Ok, Err, arith, append-nil, length-append}
use Rattle.std.specs.Prelude.{slice_index_or}
use Rattle.std.specs.List.{filter, Contains}
use Rattle.std.proofs.lemmas.Bool.Decides.{nat_tests}
use Rattle.std.proofs.lemmas.Grind.{get_or-set_at}
use Rattle.std.proofs.lemmas.List.{get_or-set_other}
use Rattle.std.proofs.Math.Seq.{drop-append_seam}
use Rattle.pcl_base.specs.Limits.{Sizes}
use Rattle.pcl_base.specs.declared.log.Logged.{Logged}
use Rattle.pcl_base.specs.declared.log.Record.{Record}
use Rattle.text_rules.specs.LogRecord.{log_of as log_made, record_bytes, records_of, whole_len, is_whole, AreChanges, AreSomeChanges}
use Rattle.text_rules.specs.StoredPage.{PageAt, BadNumber, stored_bytes, stored_page}
use Rattle.run_rules.specs.Disk.{Disk, raw_page, log_at}
use Rattle.run_rules.specs.Redo.{entries_of}
use Rattle.node_rules.specs.CutRule.{cuttable}
use Rattle.node_rules.specs.DiskCalls.{DiskCall, WritePage, Force, TrimLog, CutLog, with_log, done, stopped}
use Rattle.node_rules.specs.Work.{Goes}
use Rattle.node_rules.specs.Words.{pick as pick_rule}
use Rattle.redo_laws.specs.Words.{IsWhole}
use Rattle.redo_laws.proofs.Logs.{records_joined, rest_joined, records_trimmed, whole_trimmed, log_parts}
use Rattle.redo_laws.proofs.Written.{record_alone, torn_records}
use Rattle.redo_laws.proofs.Disks.{item_of_changed, entries_append, entries_of_one, no_entry, only_entry}
use Rattle.redo_laws.proofs.Changes.{appended_is_whole_law, stored_again}
use Rattle.log_cut.proofs.FrontLemmas.{IsFront, front_up_to}
use Rattle.page_protocol.specs.Bytes.{Copy, Ranges}
use Rattle.page_protocol.specs.State.{pick, updn}
use Rattle.page_laws.specs.Storage.Looks.{copy_read, copy_of, copy_on, ranges_of_part, ranges_in, entries_at, AreRising, IsStored}
use Rattle.page_laws.specs.Storage.Stored.{WrittenIsStored, WrittenElsewhere, ForcedIsLogged, ForcedElsewhere, TornIsNotLogged, TrimmedIsStored, CutTakesOld, WholeIsItsLength, WholeStays, OtherLogsStay}
use Rattle.page_laws.proofs.StorageParts.Entries.{ranges_added, rising_added, rising_lower, IsRest, rest_of}

-- ---- looks of a changed disk

-- the same page, and the same entries in each log
pub stored_alike : (c : Sizes) (d e : Disk) (p : ℕ) (disk : Copy) (log : ℕ → ℕ → Option Ranges) → raw_page e.pages p ≡ raw_page d.pages p → ((m : ℕ) → entries_at c e m p ≡ entries_at c d m p)
    → IsStored c d p disk log → IsStored c e p disk log
unfolding copy_on
stored_alike c d e p disk log page same is =
    record {
      disk_same = ap (λ raw. copy_read (stored_page p raw)) page ∙ is.disk_same;
      log_same = λ n v. ap (λ xs. ranges_in xs v) (same n) ∙ is.log_same n v;
      rising = λ n. subst (AreRising 0) (sym (same n)) (is.rising n);
    }

-- the entries of another log
log_of_changed : (d : Disk) (n m : ℕ) (log : List ℕ) → (log_at (with_log d n log) m ≡ log) × (m ≡ n) ⊎ (log_at (with_log d n log) m ≡ log_at d m)
log_of_changed d n m log = item_of_changed d.logs n m log []

other_log : (d : Disk) (n m : ℕ) (log : List ℕ) → m ≢ n → log_at (with_log d n log) m ≡ log_at d m
other_log d n m log differs = get_or-set_other d.logs n m log [] differs

own_log : (d : Disk) (n : ℕ) (log : List ℕ) → n < length d.logs → log_at (with_log d n log) n ≡ log
own_log d n log inside = get_or-set_at d.logs n n log [] refl inside

-- a log that has the same entries of the page
entries_alike : (c : Sizes) (d : Disk) (n m p : ℕ) (log : List ℕ) → entries_of p (records_of c log) ≡ entries_of p (records_of c (log_at d n)) → entries_at c (with_log d n log) m p ≡ entries_at c d m p
unfolding entries_at
entries_alike c d n m p log same = by (log_of_changed d n m log)
  where
    by : (log_at (with_log d n log) m ≡ log) × (m ≡ n) ⊎ (log_at (with_log d n log) m ≡ log_at d m) → entries_of p (records_of c (log_at (with_log d n log) m)) ≡ entries_of p (records_of c (log_at d m))
    by (inl h) = ap (λ bytes. entries_of p (records_of c bytes)) h.0 ∙ same ∙ ap (λ k. entries_of p (records_of c (log_at d k))) (sym h.1)
    by (inr h) = ap (λ bytes. entries_of p (records_of c bytes)) h

same_log : (c : Sizes) (d : Disk) (n p : ℕ) (log : List ℕ) (disk : Copy) (logs : ℕ → ℕ → Option Ranges) → entries_of p (records_of c log) ≡ entries_of p (records_of c (log_at d n)) → IsStored c d p disk logs → IsStored c (with_log d n log) p disk logs
same_log c d n p log disk logs same is = stored_alike c d (with_log d n log) p disk logs refl (λ m. entries_alike c d n m p log same) is

-- ---- pages

pub written_is_stored_law : WrittenIsStored
unfolding done copy_on entries_at
written_is_stored_law c d n p at disk log has fits is =
    let most = has.limits.most_pages in
    let low = has.page in
    let count = has.count in
    let raw : raw_page (done n d (WritePage p (stored_bytes p at))).pages p ≡ stored_bytes p at = get_or-set_at d.pages p p (stored_bytes p at) [] refl (omega (arith, low, count)) in
    record {
      disk_same = ap (λ bytes. copy_read (stored_page p bytes)) raw ∙ ap copy_read (stored_again p at (omega (arith, low, most)) fits);
      log_same = is.log_same;
      rising = is.rising;
    }

pub written_elsewhere_law : WrittenElsewhere
unfolding done entries_at
written_elsewhere_law c d n p q bytes disk log differs is =
    stored_alike c d (done n d (WritePage q bytes)) p disk log (get_or-set_other d.pages q p bytes [] differs) (λ m. refl) is

-- ---- forces

-- the entries of a log behind which a record was put
forced_entries : (c : Sizes) (log : List ℕ) (r : Record) (p : ℕ) → IsWhole c log → records_of c (record_bytes r) ≡ r ∷ [] → entries_of p (records_of c (log ++ record_bytes r)) ≡ entries_of p (records_of c log) ++ filter (λ x. x.page == p) r.changes
forced_entries c log r p whole alone =
    ap (entries_of p) (records_joined c log (record_bytes r) whole ∙ ap (λ rs. records_of c log ++ rs) alone)
    ∙ entries_append p (records_of c log) (r ∷ [])
    ∙ ap (λ xs. entries_of p (records_of c log) ++ xs) (entries_of_one p r)

one_entry : (c : Sizes) (xs : List Logged) (x : Logged) → AreSomeChanges c xs → Contains xs x → filter (λ y. y.page == x.page) xs ≡ x ∷ []
one_entry c [] x are there = absurd are
one_entry c (y ∷ xs) x are there = only_entry c (is_whole y.part) 0 (y ∷ xs) x are there

pub forced_elsewhere_law : ForcedElsewhere
unfolding done
forced_elsewhere_law c d n p t r disk log whole can absent is =
    same_log c d n p (log_at d n ++ record_bytes r) disk log
    (forced_entries c (log_at d n) r p whole (record_alone c r can.limits can.shape can.numbers) ∙ ap (λ xs. entries_of p (records_of c (log_at d n)) ++ xs) (no_entry p r.changes absent) ∙ append-nil (entries_of p (records_of c (log_at d n))))
    is

pub forced_is_logged_law : ForcedIsLogged
unfolding done copy_on entries_at
forced_is_logged_law c d n t r x disk log has whole can among changed above is =
    record {
      disk_same = is.disk_same;
      log_same = λ m v. by_log m v (log_of_changed d n m (log_at d n ++ record_bytes r)) (eqb m n) refl;
      rising = λ m. by_rising m (log_of_changed d n m (log_at d n ++ record_bytes r));
    }
  where
    own : List Logged
    own = entries_of x.page (records_of c (log_at d n))

    after : Disk
    after = with_log d n (log_at d n ++ record_bytes r)

    more : entries_of x.page (records_of c (log_at d n ++ record_bytes r)) ≡ own ++ x ∷ []
    more = forced_entries c (log_at d n) r x.page whole (record_alone c r can.limits can.shape can.numbers) ∙ ap (λ xs. own ++ xs) (one_entry c r.changes x can.shape.changes among)

    now : entries_of x.page (records_of c (log_at after n)) ≡ own ++ x ∷ []
    now = ap (λ bytes. entries_of x.page (records_of c bytes)) (own_log d n (log_at d n ++ record_bytes r) has.log) ∙ more

    none : (v : ℕ) → x.version ≤ v → ranges_in own v ≡ None
    none v le = is.log_same n v ∙ above v le

    least : (y : Logged) (xs : List Logged) → AreSomeChanges c xs → Contains xs y → 0 < y.version
    least y [] are there = absurd are
    least y (z ∷ xs) are there = versions c (is_whole z.part) 0 (z ∷ xs) y are there.0 there.1 there.2
      where
        versions : (c : Sizes) (b : Bool) (low : ℕ) (zs : List Logged) (y : Logged) → AreChanges c b low zs → (k : ℕ) → k < length zs → slice_index_or zs k y ≡ y → 0 < y.version
        versions c b low [] y are k inside e = absurd (omega (arith, inside))
        versions c b low (z ∷ zs) y are zero inside e = let v = are.2 in let same = ap (λ (q : Logged). q.version) e in omega (arith, v, same)
        versions c b low (z ∷ zs) y are (suc k) inside e = versions c b (z.page + 1) zs y are.4 k (omega (arith, inside)) e

    by_log : (m v : ℕ) → (log_at after m ≡ log_at d n ++ record_bytes r) × (m ≡ n) ⊎ (log_at after m ≡ log_at d m) → (b : Bool) → eqb m n ≡ b
        → ranges_in (entries_of x.page (records_of c (log_at after m))) v ≡ pick b (updn (log n) x.version (Some (ranges_of_part x.part))) (log m) v
    by_log m v h true e =
        let same : m ≡ n = grind (arith, nat_tests) in
        ap (λ k. ranges_in (entries_of x.page (records_of c (log_at after k))) v) same
        ∙ ap (λ xs. ranges_in xs v) now
        ∙ ranges_added own x v (none x.version (omega arith))
        ∙ ap (λ o. pick (eqb v x.version) (Some (ranges_of_part x.part)) o) (is.log_same n v)
    by_log m v (inl h) false e = absurd (let same = h.1 in grind (arith, nat_tests))
    by_log m v (inr h) false e = ap (λ bytes. ranges_in (entries_of x.page (records_of c bytes)) v) h ∙ is.log_same m v

    by_rising : (m : ℕ) → (log_at after m ≡ log_at d n ++ record_bytes r) × (m ≡ n) ⊎ (log_at after m ≡ log_at d m) → AreRising 0 (entries_of x.page (records_of c (log_at after m)))
    by_rising m (inl h) =
        subst (AreRising 0) (sym (ap (λ bytes. entries_of x.page (records_of c bytes)) h.0 ∙ more)) (rising_added own 0 x (is.rising n) (least x r.changes can.shape.changes among) changed none)
    by_rising m (inr h) = subst (λ bytes. AreRising 0 (entries_of x.page (records_of c bytes))) (sym h) (is.rising m)

pub torn_is_not_logged_law : TornIsNotLogged
unfolding stopped
torn_is_not_logged_law c d n p k t r disk log whole limits shape few is =
    let piece : List ℕ = take k (record_bytes r) in
    let same : records_of c (log_at d n ++ piece) ≡ records_of c (log_at d n) =
    records_joined c (log_at d n) piece whole
    ∙ ap (λ (rs : List Record). records_of c (log_at d n) ++ rs) (torn_records c r k limits shape few)
    ∙ append-nil (records_of c (log_at d n)) in
    same_log c d n p (log_at d n ++ piece) disk log (ap (entries_of p) same) is

-- ---- trims and cuts

pub trimmed_is_stored_law : TrimmedIsStored
unfolding done
trimmed_is_stored_law c d n p disk log is =
    same_log c d n p (take (whole_len c (log_at d n)) (log_at d n)) disk log (ap (entries_of p) (records_trimmed c (log_at d n))) is

-- the bytes in front that may be cut
front_of : (c : Sizes) (d : Disk) (n count : ℕ) → cuttable c d.pages (log_at d n) ≡ Goes count → IsFront c d.pages (log_at d n) count
unfolding cuttable
front_of c d n count goes = front_up_to c d.pages (length (log_at d n)) (log_at d n) count (omega arith) goes

dropped : (c : Sizes) (d : Disk) (n count : ℕ) (f : IsFront c d.pages (log_at d n) count) → drop count (log_at d n) ≡ f.rest
dropped c d n count f =
    ap (λ (k : ℕ). drop k (log_at d n)) (sym f.long) ∙ ap (drop (length f.front)) f.same ∙ drop-append_seam f.front f.rest

-- the stored page is the copy on disk
pub read_as : (p : ℕ) (raw : List ℕ) (disk : Copy) → copy_read (stored_page p raw) ≡ Some disk → stored_page p raw ≡ Ok (record { version = disk.version; bytes = disk.bytes })
read_as p raw disk same = by (stored_page p raw) same
  where
    by : (r : Result PageAt BadNumber) → copy_read r ≡ Some disk → r ≡ Ok (record { version = disk.version; bytes = disk.bytes })
    by (Ok at) e = let own : copy_of at ≡ disk = cc in ap (λ (x : Copy). let r : Result PageAt BadNumber = Ok (record { version = x.version; bytes = x.bytes }) in r) own
    by (Err bad) e = absurd (cc)

pub cut_takes_old_law : CutTakesOld
unfolding done copy_on entries_at
cut_takes_old_law c d n p count disk log inside goes is =
    record {
      upto = rest.upto;
      on_disk = rest.on_disk;
      left =
          record {
            disk_same = is.disk_same;
            log_same = λ m v. by_log m v (log_of_changed d n m (drop count (log_at d n))) (eqb m n) refl;
            rising = λ m. by_rising m (log_of_changed d n m (drop count (log_at d n)));
          };
    }
  where
    f : IsFront c d.pages (log_at d n) count
    f = front_of c d n count goes

    after : Disk
    after = with_log d n (drop count (log_at d n))

    gone : List Logged
    gone = entries_of p (records_of c f.front)

    left : List Logged
    left = entries_of p (records_of c f.rest)

    all : entries_of p (records_of c (log_at d n)) ≡ gone ++ left
    all = ap (λ bytes. entries_of p (records_of c bytes)) f.same ∙ ap (entries_of p) (records_joined c f.front f.rest f.whole) ∙ entries_append p (records_of c f.front) (records_of c f.rest)

    rest : IsRest gone left 0 disk.version
    rest = rest_of gone left 0 disk.version (omega arith) (subst (AreRising 0) all (is.rising n)) (f.versions p (record { version = disk.version; bytes = disk.bytes }) (read_as p (raw_page d.pages p) disk is.disk_same))

    now : drop count (log_at d n) ≡ f.rest
    now = dropped c d n count f

    by_log : (m v : ℕ) → (log_at after m ≡ drop count (log_at d n)) × (m ≡ n) ⊎ (log_at after m ≡ log_at d m) → (b : Bool) → eqb m n ≡ b
        → ranges_in (entries_of p (records_of c (log_at after m))) v ≡ pick (b && leb v rest.upto) None (log m v)
    by_log m v h true e =
        let same : m ≡ n = grind (arith, nat_tests) in
        ap (λ k. ranges_in (entries_of p (records_of c (log_at after k))) v) same
        ∙ ap (λ bytes. ranges_in (entries_of p (records_of c bytes)) v) (own_log d n (drop count (log_at d n)) inside ∙ now)
        ∙ rest.left v
        ∙ ap (λ o. pick (leb v rest.upto) None o) (sym (ap (λ xs. ranges_in xs v) all) ∙ is.log_same n v ∙ ap (λ k. log k v) (sym same))
    by_log m v (inl h) false e = absurd (let same = h.1 in grind (arith, nat_tests))
    by_log m v (inr h) false e = ap (λ bytes. ranges_in (entries_of p (records_of c bytes)) v) h ∙ is.log_same m v

    by_rising : (m : ℕ) → (log_at after m ≡ drop count (log_at d n)) × (m ≡ n) ⊎ (log_at after m ≡ log_at d m) → AreRising 0 (entries_of p (records_of c (log_at after m)))
    by_rising m (inl h) =
        subst (λ bytes. AreRising 0 (entries_of p (records_of c bytes))) (sym (h.0 ∙ now)) (rising_lower left 0 rest.upto (omega arith) rest.rising)
    by_rising m (inr h) = subst (λ bytes. AreRising 0 (entries_of p (records_of c bytes))) (sym h) (is.rising m)

-- ---- logs without a torn rest

pub whole_is_its_length_law : WholeIsItsLength
whole_is_its_length_law c log = (there, back)
  where
    there : IsWhole c log → whole_len c log ≡ length log
    there whole = let none : length (log_made c log).rest ≡ 0 = ap length whole in omega (arith, none)

    nothing : (bytes : List ℕ) → length bytes ≡ 0 → bytes ≡ []
    nothing [] e = refl
    nothing (b ∷ bytes) e = absurd (omega (arith, e))

    back : whole_len c log ≡ length log → IsWhole c log
    back e =
        let parts = ap length (log_parts c log).same ∙ length-append (log_parts c log).front (log_made c log).rest in
        nothing (log_made c log).rest (omega (arith, parts, e))

pub whole_stays_law : WholeStays
unfolding done
whole_stays_law c d n inside =
    record {
      forces = λ t r can whole. subst (IsWhole c) (sym (own_log d n (log_at d n ++ record_bytes r) inside)) (appended_is_whole_law c (log_at d n) r whole can);
      cuts = λ count goes whole.
          let f = front_of c d n count goes in
          subst (IsWhole c) (sym (own_log d n (drop count (log_at d n)) inside ∙ dropped c d n count f))
          (sym (rest_joined c f.front f.rest f.whole) ∙ ap (λ bytes. (log_made c bytes).rest) (sym f.same) ∙ whole);
      trims = subst (IsWhole c) (sym (own_log d n (take (whole_len c (log_at d n)) (log_at d n)) inside)) (whole_trimmed c (log_at d n));
    }

pub other_logs_stay_law : OtherLogsStay
unfolding done stopped
other_logs_stay_law d n m call kept differs = (all call, part call)
  where
    all : (k : DiskCall) → log_at (done n d k) m ≡ log_at d m
    all (WritePage p bytes) = refl
    all (Force t bytes) = other_log d n m (log_at d n ++ bytes) differs
    all (TrimLog keep) = other_log d n m (take keep (log_at d n)) differs
    all (CutLog count) = other_log d n m (drop count (log_at d n)) differs

    by : (b : Bool) (e : Disk) → log_at e m ≡ log_at d m → log_at (pick_rule b d e) m ≡ log_at d m
    by true e h = refl
    by false e h = h

    part : (k : DiskCall) → log_at (stopped n d k kept) m ≡ log_at d m
    part (WritePage p bytes) = by (kept == 0) _ refl
    part (Force t bytes) = other_log d n m (log_at d n ++ take kept bytes) differs
    part (TrimLog keep) = by (kept == 0) _ (other_log d n m (take keep (log_at d n)) differs)
    part (CutLog count) = by (kept == 0) _ (other_log d n m (drop count (log_at d n)) differs)
