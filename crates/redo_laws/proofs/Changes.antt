-- The laws of redo on disks.
use Rattle.std.proofs.Common.{inl, inr, ◌≡◌, refl, sym, ap, ◌∙◌, ℕ, ◌+◌, ◌<◌, ◌^◌, Bool, true, false, ◌==◌, List, [], ◌∷◌, ◌++◌, length, take, drop, Some, None, Result, Ok, Err, arith, append_assoc, append-nil}
use Rattle.std.specs.Prelude.{◌⊎◌}
use Rattle.std.specs.List.{filter}
use Rattle.std.specs.Int.{w64, from_be_bytes}
use Rattle.std.proofs.lemmas.Nat.{from_be_bytes-to_be_bytes_8}
use Rattle.std.proofs.lemmas.Bool.Decides.{nat_tests}
use Rattle.pcl_base.specs.Limits.{Sizes}
use Rattle.pcl_base.specs.declared.log.Record.{Record}
use Rattle.pcl_base.specs.declared.log.Logged.{Logged}
use Rattle.text_rules.specs.FieldBytes.{pick}
use Rattle.text_rules.specs.LogRecord.{record_bytes, records_of, whole_len, is_whole, AreChanges, AreSomeChanges}
use Rattle.text_rules.specs.StoredPage.{PageAt, BadNumber, stored_bytes, first_number, unwritten, written, stored_page}
use Rattle.run_rules.specs.Views.{count_from}
use Rattle.run_rules.specs.Disk.{Disk, raw_page, log_at}
use Rattle.run_rules.specs.Redo.{entries_of, ranges_at, redone, redone_if, all_records, redo}
use Rattle.redo_laws.specs.Words.{with_log, with_more, with_page, IsWhole, entries, made_by, PassesThrough}
use Rattle.redo_laws.specs.Laws.{HasLog, CanBeWritten, AppendedIsRedone, AppendedElsewhere, AppendedIsWhole, TornChangesNothing, TrimChangesNothing, TrimmedIsWhole, CutChangesNothing, WrittenChangesNothing, RedoneMayBeWritten, RedoIsNoOlder}
use Rattle.redo_laws.proofs.Pages.{redone_by, passed_same, redone_rises, redone_without}
use Rattle.redo_laws.proofs.Added.{added_is_redone}
use Rattle.redo_laws.proofs.Logs.{records_joined, rest_joined, records_trimmed, whole_trimmed}
use Rattle.redo_laws.proofs.Written.{record_alone, alone_whole, torn_records}
use Rattle.redo_laws.proofs.Disks.{records_of_logs, item_of_changed, records_same, all_around, with_own_log, entries_append, entries_of_one, no_entry, only_entry}

-- redo by the entries of the page and its stored page
pub redo_is : (c : Sizes) (d : Disk) (p : ℕ) (at : PageAt) → stored_page p (raw_page d.pages p) ≡ Ok at → redo c d p ≡ Some (redone_by (entries c d p) at)
unfolding redo redone
redo_is c d p at e = ap (redone_if (all_records c d) p) e

pub redo_none : (c : Sizes) (d : Disk) (p : ℕ) (bad : BadNumber) → stored_page p (raw_page d.pages p) ≡ Err bad → redo c d p ≡ None
unfolding redo
redo_none c d p bad e = ap (redone_if (all_records c d) p) e

-- two disks with the same records and the same page
pub redo_same : (c : Sizes) (d e : Disk) (p : ℕ) → all_records c d ≡ all_records c e → raw_page d.pages p ≡ raw_page e.pages p → redo c d p ≡ redo c e p
unfolding redo
redo_same c d e p records page = ap (λ (rs : List Record). redone_if rs p (stored_page p (raw_page d.pages p))) records ∙ ap (λ (raw : List ℕ). redone_if (all_records c e) p (stored_page p raw)) page

-- the stored page that redo came from
pub redo_from : (c : Sizes) (d : Disk) (p : ℕ) (new : PageAt) → redo c d p ≡ Some new → (old : PageAt) × ((stored_page p (raw_page d.pages p) ≡ Ok old) × (redone_by (entries c d p) old ≡ new))
redo_from c d p new e = one (stored_page p (raw_page d.pages p)) refl
  where
    one : (x : Result PageAt BadNumber) → stored_page p (raw_page d.pages p) ≡ x → (old : PageAt) × ((stored_page p (raw_page d.pages p) ≡ Ok old) × (redone_by (entries c d p) old ≡ new))
    one (Ok old) is = let both : Some (redone_by (entries c d p) old) ≡ Some new = sym (redo_is c d p old is) ∙ e in (old, (is, cc))
    one (Err bad) is = let both : None ≡ Some new = sym (redo_none c d p bad is) ∙ e in absurd (cc)

-- the entries of a page, in the logs before that of node n, in it, and behind it
pub record AreEntries (c : Sizes) (d : Disk) (n p : ℕ) : Type 0 where
  pub front : List Logged
  pub back : List Logged
  pub all : (log : List ℕ) → entries c (with_log d n log) p ≡ front ++ (entries_of p (records_of c log) ++ back)
  pub own : entries c d p ≡ front ++ (entries_of p (records_of c (log_at d n)) ++ back)

pub entries_around : (c : Sizes) (d : Disk) (n p : ℕ) → HasLog c d n → AreEntries c d n p
entries_around c d n p has =
    let around = all_around c d n has.node has.log in
    let all = λ (log : List ℕ).
    ap (entries_of p) (around.all log)
    ∙ entries_append p around.front (records_of c log ++ around.back)
    ∙ ap (λ (xs : List Logged). entries_of p around.front ++ xs) (entries_append p (records_of c log) around.back) in
    record {
      front = entries_of p around.front;
      back = entries_of p around.back;
      all = all;
      own = ap (λ (e : Disk). entries c e p) (sym (with_own_log d n)) ∙ all (log_at d n);
    }

-- the entries of a page once a record was appended
appended_entries : (c : Sizes) (d : Disk) (n p : ℕ) (r : Record) (a : AreEntries c d n p) → IsWhole c (log_at d n) → CanBeWritten c r
    → entries c (with_more d n (record_bytes r)) p ≡ a.front ++ ((entries_of p (records_of c (log_at d n)) ++ filter (λ x. x.page == p) r.changes) ++ a.back)
appended_entries c d n p r a whole can =
    a.all (log_at d n ++ record_bytes r)
    ∙ ap (λ (rs : List Record). a.front ++ (entries_of p rs ++ a.back))
    (records_joined c (log_at d n) (record_bytes r) whole ∙ ap (λ (rs : List Record). records_of c (log_at d n) ++ rs) (record_alone c r can.limits can.shape can.numbers))
    ∙ ap (λ (xs : List Logged). a.front ++ (xs ++ a.back)) (entries_append p (records_of c (log_at d n)) (r ∷ []) ∙ ap (λ (xs : List Logged). entries_of p (records_of c (log_at d n)) ++ xs) (entries_of_one p r))

-- the changes of a record that has bytes rise
changes_of : (c : Sizes) (xs : List Logged) → AreSomeChanges c xs → (whole : Bool) × AreChanges c whole 0 xs
changes_of c [] some = absurd some
changes_of c (x ∷ xs) some = (is_whole x.part, some)

pub appended_is_redone_law : AppendedIsRedone
appended_is_redone_law c d n r x at has whole can among redoes next none =
    let p : ℕ = x.page in
    let a = entries_around c d n p has in
    let own : List Logged = entries_of p (records_of c (log_at d n)) in
    let from = redo_from c d p at redoes in
    let rising = changes_of c r.changes can.shape.changes in
    let only = only_entry c rising.0 0 r.changes x rising.1 among in
    let old : entries c d p ≡ (a.front ++ own) ++ a.back = a.own ∙ sym (append_assoc a.front own a.back) in
    let new : entries c (with_more d n (record_bytes r)) p ≡ (a.front ++ own) ++ (x ∷ a.back) =
    appended_entries c d n p r a whole can
    ∙ ap (λ (xs : List Logged). a.front ++ ((own ++ xs) ++ a.back)) only
    ∙ ap (λ (xs : List Logged). a.front ++ xs) (append_assoc own (x ∷ []) a.back)
    ∙ sym (append_assoc a.front own (x ∷ a.back)) in
    let given : redone_by ((a.front ++ own) ++ a.back) from.0 ≡ at = ap (λ (xs : List Logged). redone_by xs from.0) (sym old) ∙ from.1.1 in
    let version = ap (λ (q : PageAt). q.version) given in
    let later : ranges_at ((a.front ++ own) ++ a.back) ((redone_by ((a.front ++ own) ++ a.back) from.0).version + 2) ≡ None =
    ap (λ (v : ℕ). ranges_at ((a.front ++ own) ++ a.back) (v + 2)) version ∙ ap (λ (xs : List Logged). ranges_at xs (at.version + 2)) (sym old) ∙ none in
    redo_is c (with_more d n (record_bytes r)) p from.0 from.1.0
    ∙ ap (λ (xs : List Logged). Some (redone_by xs from.0)) new
    ∙ ap Some (added_is_redone (a.front ++ own) a.back x from.0 (omega arith) later)
    ∙ ap (λ (q : PageAt). Some (made_by x.part q)) given

-- redo of two disks with the same stored page and the same entries
pub redo_alike : (c : Sizes) (d e : Disk) (p : ℕ) → entries c d p ≡ entries c e p → raw_page d.pages p ≡ raw_page e.pages p → redo c d p ≡ redo c e p
redo_alike c d e p same page = one (stored_page p (raw_page d.pages p)) refl
  where
    one : (x : Result PageAt BadNumber) → stored_page p (raw_page d.pages p) ≡ x → redo c d p ≡ redo c e p
    one (Ok at) is =
        redo_is c d p at is
        ∙ ap (λ (xs : List Logged). Some (redone_by xs at)) same
        ∙ sym (redo_is c e p at (ap (stored_page p) (sym page) ∙ is))
    one (Err bad) is = redo_none c d p bad is ∙ sym (redo_none c e p bad (ap (stored_page p) (sym page) ∙ is))

pub appended_elsewhere_law : AppendedElsewhere
appended_elsewhere_law c d n p r has whole can absent =
    let a = entries_around c d n p has in
    let own : List Logged = entries_of p (records_of c (log_at d n)) in
    let same : entries c (with_more d n (record_bytes r)) p ≡ entries c d p =
    appended_entries c d n p r a whole can
    ∙ ap (λ (xs : List Logged). a.front ++ ((own ++ xs) ++ a.back)) (no_entry p r.changes absent)
    ∙ ap (λ (xs : List Logged). a.front ++ (xs ++ a.back)) (append-nil own)
    ∙ sym a.own in
    redo_alike c (with_more d n (record_bytes r)) d p same refl

pub appended_is_whole_law : AppendedIsWhole
appended_is_whole_law c log r whole can = rest_joined c log (record_bytes r) whole ∙ alone_whole c r can.limits can.shape can.numbers

pub cut_changes_nothing_law : CutChangesNothing
cut_changes_nothing_law c d n p front rest has split whole versions = one (stored_page p (raw_page d.pages p)) refl
  where
    one : (x : Result PageAt BadNumber) → stored_page p (raw_page d.pages p) ≡ x → redo c (with_log d n rest) p ≡ redo c d p
    one (Err bad) is = redo_none c (with_log d n rest) p bad is ∙ sym (redo_none c d p bad is)
    one (Ok at) is =
        let a = entries_around c d n p has in
        let cut : List Logged = entries_of p (records_of c front) in
        let left : List Logged = entries_of p (records_of c rest) in
        let own : entries_of p (records_of c (log_at d n)) ≡ cut ++ left =
        ap (λ (log : List ℕ). entries_of p (records_of c log)) split
        ∙ ap (entries_of p) (records_joined c front rest whole)
        ∙ entries_append p (records_of c front) (records_of c rest) in
        let old : entries c d p ≡ a.front ++ (cut ++ (left ++ a.back)) =
        a.own ∙ ap (λ (xs : List Logged). a.front ++ (xs ++ a.back)) own ∙ ap (λ (xs : List Logged). a.front ++ xs) (append_assoc cut left a.back) in
        redo_is c (with_log d n rest) p at is
        ∙ ap (λ (xs : List Logged). Some (redone_by xs at)) (a.all rest)
        ∙ ap Some (redone_without a.front cut (left ++ a.back) at (versions at is))
        ∙ ap (λ (xs : List Logged). Some (redone_by xs at)) (sym old)
        ∙ sym (redo_is c d p at is)

-- a stored page that was written is read again
pub stored_again : (p : ℕ) (at : PageAt) → p < 2 ^ 32 → at.version < 2 ^ 64 → stored_page p (stored_bytes p at) ≡ Ok at
stored_again p at small fits =
    let first : first_number (stored_bytes p at) ≡ p + 1 = from_be_bytes-to_be_bytes_8 (p + 1) (omega arith) in
    let second : from_be_bytes w64 (take 8 (drop 8 (stored_bytes p at))) ≡ at.version = from_be_bytes-to_be_bytes_8 at.version fits in
    let some : (first_number (stored_bytes p at) == 0) ≡ false = grind (arith, nat_tests) in
    let own : (first_number (stored_bytes p at) == p + 1) ≡ true = grind (arith, nat_tests) in
    ap (λ (b : Bool). let x : Result PageAt BadNumber = pick b (Ok (unwritten (stored_bytes p at))) (pick (first_number (stored_bytes p at) == p + 1) (Ok (written (stored_bytes p at))) (Err (record { expected = p + 1; found = first_number (stored_bytes p at) }))) in x) some
    ∙ ap (λ (b : Bool). let x : Result PageAt BadNumber = pick b (Ok (written (stored_bytes p at))) (Err (record { expected = p + 1; found = first_number (stored_bytes p at) })) in x) own
    ∙ ap (λ (v : ℕ). let x : Result PageAt BadNumber = Ok (record { version = v; bytes = at.bytes }) in x) second

-- the page that was written, or another one
raw_of_written : (d : Disk) (p q : ℕ) (at : PageAt) → (raw_page (with_page d p at).pages q ≡ stored_bytes p at) × (q ≡ p) ⊎ (raw_page (with_page d p at).pages q ≡ raw_page d.pages q)
raw_of_written d p q at = item_of_changed d.pages p q (stored_bytes p at) []

pub written_changes_nothing_law : WrittenChangesNothing
written_changes_nothing_law c d p q at mid small fits stored passes = one (raw_of_written d p q mid)
  where
    logs : (r : ℕ) → entries c (with_page d p mid) r ≡ entries c d r
    logs r = ap (entries_of r) (records_of_logs c (with_page d p mid) d (count_from 0 c.nodes) refl)

    at_page : q ≡ p → raw_page (with_page d p mid).pages q ≡ stored_bytes p mid → redo c (with_page d p mid) q ≡ redo c d q
    at_page same new =
        let read : stored_page q (raw_page (with_page d p mid).pages q) ≡ Ok mid =
        ap (stored_page q) new ∙ ap (λ (r : ℕ). stored_page r (stored_bytes p mid)) same ∙ stored_again p mid small fits in
        redo_is c (with_page d p mid) q mid read
        ∙ ap (λ (xs : List Logged). Some (redone_by xs mid)) (logs q)
        ∙ ap (λ (r : ℕ). Some (redone_by (entries c d r) mid)) same
        ∙ ap Some (passed_same (entries c d p) at mid passes)
        ∙ sym (redo_is c d p at stored)
        ∙ ap (redo c d) (sym same)

    one : (raw_page (with_page d p mid).pages q ≡ stored_bytes p mid) × (q ≡ p) ⊎ (raw_page (with_page d p mid).pages q ≡ raw_page d.pages q) → redo c (with_page d p mid) q ≡ redo c d q
    one (inl h) = at_page h.1 h.0
    one (inr h) = redo_alike c (with_page d p mid) d q (logs q) h

pub redone_may_be_written_law : RedoneMayBeWritten
redone_may_be_written_law c d p q at small fits redoes =
    let from = redo_from c d p at redoes in
    let way : PassesThrough (entries c d p) from.0 at = inl (length (entries c d p), sym from.1.1) in
    written_changes_nothing_law c d p q from.0 at small fits from.1.0 way

pub redo_is_no_older_law : RedoIsNoOlder
redo_is_no_older_law c d p old new stored redoes =
    let both : Some (redone_by (entries c d p) old) ≡ Some new = sym (redo_is c d p old stored) ∙ redoes in
    let same : redone_by (entries c d p) old ≡ new = cc in
    let version = ap (λ (at : PageAt). at.version) same in
    let rises = redone_rises (entries c d p) old in
    omega arith

pub trim_changes_nothing_law : TrimChangesNothing
trim_changes_nothing_law c d n p =
    redo_same c (with_log d n (take (whole_len c (log_at d n)) (log_at d n))) d p
    (records_same c d n (take (whole_len c (log_at d n)) (log_at d n)) _ (records_trimmed c (log_at d n))) refl

pub trimmed_is_whole_law : TrimmedIsWhole
trimmed_is_whole_law c log = whole_trimmed c log

pub torn_changes_nothing_law : TornChangesNothing
torn_changes_nothing_law c d n p k r whole limits is few =
    let piece : List ℕ = take k (record_bytes r) in
    let same : records_of c (log_at d n ++ piece) ≡ records_of c (log_at d n) =
    records_joined c (log_at d n) piece whole
    ∙ ap (λ (rs : List Record). records_of c (log_at d n) ++ rs) (torn_records c r k limits is few)
    ∙ append-nil (records_of c (log_at d n)) in
    redo_same c (with_more d n piece) d p (records_same c d n (log_at d n ++ piece) _ same) refl
