-- What may be cut of a log is whole records whose pages the disk has at their versions or later ones.
use Rattle.std.proofs.Common.{◌≡◌, refl, sym, ap, subst, ◌∙◌, ℕ, zero, suc, ◌+◌, ◌≤◌, Bool, true, false, nat_le, ◌==◌, List, [], ◌∷◌, ◌++◌, length, drop, Result, Ok, Err, arith, append_assoc, length-append}
use Rattle.std.specs.List.{filter, AllByRecursion}
use Rattle.std.proofs.lemmas.Bool.Decides.{nat_tests}
use Rattle.std.proofs.Math.Seq.{drop-append_seam}
use Rattle.pcl_base.specs.Limits.{Sizes}
use Rattle.pcl_base.specs.declared.log.Record.{Record}
use Rattle.pcl_base.specs.declared.log.Logged.{Logged}
use Rattle.text_rules.specs.FieldBytes.{Stop}
use Rattle.text_rules.specs.LogRecord.{Log, record_field, record_bytes, log_of, records_of}
use Rattle.text_rules.specs.StoredPage.{PageAt, stored_page}
use Rattle.run_rules.specs.Disk.{raw_page, log_at}
use Rattle.run_rules.specs.Redo.{entries_of, redo}
use Rattle.node_rules.specs.Work.{Outcome, Goes, Differs, and_then, and_so, page_or_differs, read_page}
use Rattle.node_rules.specs.CutRule.{further_if, on_disk, count_if, records_on_disk, cuttable}
use Rattle.redo_log.proofs.LengthLemmas.{record_long}
use Rattle.redo_laws.specs.Words.{with_log, IsWhole}
use Rattle.redo_laws.proofs.Reading.{record_read}
use Rattle.redo_laws.proofs.Logs.{log_read, log_torn}
use Rattle.redo_laws.proofs.Changes.{cut_changes_nothing_law}
use Rattle.log_cut.specs.Laws.{CutKeepsRedo}

-- the stored page has the versions of some entries of it, or later ones
abbrev pub HasOn : List (List ℕ) → ℕ → List Logged → Type 0
HasOn pages p xs = (at : PageAt) → stored_page p (raw_page pages p) ≡ Ok at → AllByRecursion (λ x. x.version ≤ at.version) xs

has_joined : (v : ℕ) (xs ys : List Logged) → AllByRecursion (λ x. x.version ≤ v) xs → AllByRecursion (λ x. x.version ≤ v) ys → AllByRecursion (λ x. x.version ≤ v) (xs ++ ys)
has_joined v [] ys h g = g
has_joined v (x ∷ xs) ys h g = (h.0, has_joined v xs ys h.1 g)

-- a page that was read
page_read : (pages : List (List ℕ)) (p : ℕ) (at : PageAt) → stored_page p (raw_page pages p) ≡ Ok at → read_page pages p ≡ Goes at
page_read pages p at is = ap (page_or_differs p) is

-- the entries of one record
changes_on : (pages : List (List ℕ)) (p : ℕ) (xs : List Logged) → on_disk pages xs ≡ Goes true → HasOn pages p (filter (λ x. x.page == p) xs)
unfolding on_disk
changes_on pages p [] is at stored = tt
changes_on pages p (x ∷ xs) is at stored = by (x.page == p) refl (read_page pages x.page) refl (λ on. changes_on pages p xs on at stored)
  where
    rest_of : (t : Bool) → further_if t (on_disk pages xs) ≡ Goes true → (t ≡ true) × (on_disk pages xs ≡ Goes true)
    rest_of true e = (refl, e)
    rest_of false e = absurd (cc)

    go : (here : PageAt) → read_page pages x.page ≡ Goes here → (nat_le x.version here.version ≡ true) × (on_disk pages xs ≡ Goes true)
    go here e =
        rest_of (nat_le x.version here.version)
        (sym (ap (λ (o : Outcome PageAt). and_then o (λ q. further_if (nat_le x.version q.version) (on_disk pages xs))) e) ∙ is)

    by : (b : Bool) → (x.page == p) ≡ b → (o : Outcome PageAt) → read_page pages x.page ≡ o
        → (on_disk pages xs ≡ Goes true → AllByRecursion (λ y. y.version ≤ at.version) (filter (λ y. y.page == p) xs)) → AllByRecursion (λ y. y.version ≤ at.version) (filter (λ y. y.page == p) (x ∷ xs))
    by b test (Differs q expected found) e more =
        let bad : Differs q expected found ≡ Goes true = sym (ap (λ (o : Outcome PageAt). and_then o (λ r. further_if (nat_le x.version r.version) (on_disk pages xs))) e) ∙ is in
        absurd (cc)
    by false test (Goes here) e more = rw test (more (go here e).1)
    by true test (Goes here) e more =
        let same : x.page ≡ p = grind (arith, nat_tests) in
        let own : Goes here ≡ Goes at = sym e ∙ ap (read_page pages) same ∙ page_read pages p at stored in
        let page : here ≡ at = cc in
        let version = ap (λ (q : PageAt). q.version) page in
        let least = (go here e).0 in
        let low : x.version ≤ here.version = grind (arith, nat_tests) in
        rw test (omega arith, more (go here e).1)

-- the front of a log that may be cut
pub record IsFront (c : Sizes) (pages : List (List ℕ)) (bytes : List ℕ) (count : ℕ) : Type 0 where
  pub front : List ℕ
  pub rest : List ℕ
  pub same : bytes ≡ front ++ rest
  pub long : length front ≡ count
  pub whole : IsWhole c front
  pub versions : (p : ℕ) → HasOn pages p (entries_of p (records_of c front))

no_front : (c : Sizes) (pages : List (List ℕ)) (bytes : List ℕ) (count : ℕ) → Goes 0 ≡ Goes count → IsFront c pages bytes count
unfolding entries_of
no_front c pages bytes count is =
    let none : 0 ≡ count = cc in
    record { front = []; rest = bytes; same = refl; long = none; whole = refl; versions = λ p at stored. tt }

pub front_up_to : (c : Sizes) (pages : List (List ℕ)) (n : ℕ) (bytes : List ℕ) (count : ℕ) → length bytes ≤ n → records_on_disk pages (records_of c bytes) ≡ Goes count → IsFront c pages bytes count
unfolding records_on_disk entries_of
front_up_to c pages n [] count few is = no_front c pages [] count is
front_up_to c pages zero (x ∷ bs) count few is = absurd (omega (arith, few))
front_up_to c pages (suc n) (x ∷ bs) count few is = one (record_field c (x ∷ bs)) refl (front_up_to c pages n)
  where
    one : (y : Result (Record × List ℕ) Stop) → record_field c (x ∷ bs) ≡ y
        → ((bytes : List ℕ) (m : ℕ) → length bytes ≤ n → records_on_disk pages (records_of c bytes) ≡ Goes m → IsFront c pages bytes m) → IsFront c pages (x ∷ bs) count
    one (Err s) e again =
        no_front c pages (x ∷ bs) count (sym (ap (λ (l : Log). records_on_disk pages l.records) (log_torn c (x ∷ bs) s e)) ∙ is)
    one (Ok r) e again = at (on_disk pages r.0.changes) refl
      where
        first : log_of c (x ∷ bs) ≡ (let l : Log = record { records = r.0 ∷ (log_of c r.1).records; rest = (log_of c r.1).rest } in l)
        first = log_read c (x ∷ bs) r.0 r.1 e

        counted : and_then (on_disk pages r.0.changes) (count_if (length (record_bytes r.0)) (records_on_disk pages (records_of c r.1))) ≡ Goes count
        counted = sym (ap (λ (l : Log). records_on_disk pages l.records) first) ∙ is

        more : on_disk pages r.0.changes ≡ Goes true → (m : ℕ) → records_on_disk pages (records_of c r.1) ≡ Goes m → length (record_bytes r.0) + m ≡ count → IsFront c pages (x ∷ bs) count
        more on m rest sum =
            let read = record_read c (x ∷ bs) r.0 r.1 e in
            let all = record_long c (x ∷ bs) r.0 r.1 e in
            let parts = ap length read.same ∙ length-append read.front r.1 in
            let long = read.long in
            let inner = again r.1 m (omega (arith, few, parts, long)) rest in
            let outer = log_read c (read.front ++ inner.front) r.0 inner.front (read.again inner.front) in
            let records : records_of c (read.front ++ inner.front) ≡ r.0 ∷ records_of c inner.front = ap (λ (l : Log). l.records) outer in
            record {
              front = read.front ++ inner.front;
              rest = inner.rest;
              same = read.same ∙ ap (λ (ys : List ℕ). read.front ++ ys) inner.same ∙ sym (append_assoc read.front inner.front inner.rest);
              long = let own = inner.long in length-append read.front inner.front ∙ omega (arith, all, parts, own, sum);
              whole = ap (λ (l : Log). l.rest) outer ∙ inner.whole;
              versions = λ p at stored.
                  subst (λ (rs : List Record). AllByRecursion (λ y. y.version ≤ at.version) (entries_of p rs)) (sym records)
                  (has_joined at.version (filter (λ y. y.page == p) r.0.changes) (entries_of p (records_of c inner.front)) (changes_on pages p r.0.changes on at stored) (inner.versions p at stored));
            }

        then_more : on_disk pages r.0.changes ≡ Goes true → (o : Outcome ℕ) → records_on_disk pages (records_of c r.1) ≡ o → and_so o (λ m. length (record_bytes r.0) + m) ≡ Goes count → IsFront c pages (x ∷ bs) count
        then_more on (Differs q expected found) rest sum = absurd (cc)
        then_more on (Goes m) rest sum = let same : length (record_bytes r.0) + m ≡ count = cc in more on m rest same

        at : (o : Outcome Bool) → on_disk pages r.0.changes ≡ o → IsFront c pages (x ∷ bs) count
        at (Differs q expected found) on =
            let bad : Differs q expected found ≡ Goes count = sym (ap (λ (o : Outcome Bool). and_then o (count_if (length (record_bytes r.0)) (records_on_disk pages (records_of c r.1)))) on) ∙ counted in
            absurd (cc)
        at (Goes false) on =
            no_front c pages (x ∷ bs) count (sym (ap (λ (o : Outcome Bool). and_then o (count_if (length (record_bytes r.0)) (records_on_disk pages (records_of c r.1)))) on) ∙ counted)
        at (Goes true) on =
            then_more on (records_on_disk pages (records_of c r.1)) refl (sym (ap (λ (o : Outcome Bool). and_then o (count_if (length (record_bytes r.0)) (records_on_disk pages (records_of c r.1)))) on) ∙ counted)

pub cut_keeps_redo_law : CutKeepsRedo
unfolding cuttable
cut_keeps_redo_law c d n p count has is =
    let f = front_up_to c d.pages (length (log_at d n)) (log_at d n) count (omega arith) is in
    let left : drop count (log_at d n) ≡ f.rest =
    ap (λ (k : ℕ). drop k (log_at d n)) (sym f.long) ∙ ap (drop (length f.front)) f.same ∙ drop-append_seam f.front f.rest in
    ap (λ (log : List ℕ). redo c (with_log d n log) p) left ∙ cut_changes_nothing_law c d n p f.front f.rest has f.same f.whole (f.versions p)
