-- The disk of a node that is alone has, by its log, what the committed transactions made.
use Rattle.std.proofs.Common.{◌≡◌, refl, sym, ap, subst, ◌∙◌, ℕ, ◌+◌, ◌<◌, ◌≤◌, ◌==◌, false, List, [], ◌∷◌, ◌++◌, length, drop, None, Some, arith}
use Rattle.std.specs.Prelude.{◌≢◌}
use Rattle.std.specs.List.{filter, AllByRecursion, Contains}
use Rattle.std.proofs.lemmas.Bool.Decides.{nat_tests}
use Rattle.std.proofs.lemmas.Grind.{get_or-set_at}
use Rattle.std.proofs.lemmas.List.{append-nil, length-set}
use Rattle.std.proofs.Math.Seq.{drop-append_seam}
use Rattle.pcl_base.specs.Limits.{Sizes}
use Rattle.pcl_base.specs.declared.log.Record.{Record}
use Rattle.pcl_base.specs.declared.log.Logged.{Logged}
use Rattle.text_rules.specs.LogRecord.{record_bytes, records_of, log_of, AreSomeChanges, is_whole}
use Rattle.text_rules.specs.StoredPage.{PageAt}
use Rattle.run_rules.specs.Base.{Base, version_at}
use Rattle.run_rules.specs.Disk.{Disk, log_at}
use Rattle.run_rules.specs.Redo.{entries_of, ranges_or, ranges_at, records_in, redo}
use Rattle.run_rules.specs.Views.{count_from}
use Rattle.node_rules.specs.CutRule.{cuttable}
use Rattle.node_rules.specs.Work.{Goes}
use Rattle.redo_laws.specs.Words.{with_log, with_more, with_page, IsWhole, entries, made_by}
use Rattle.redo_laws.specs.Laws.{HasLog, CanBeWritten}
use Rattle.redo_laws.proofs.Logs.{records_joined, rest_joined}
use Rattle.redo_laws.proofs.Written.{record_alone}
use Rattle.redo_laws.proofs.Disks.{entries_append, entries_of_one, no_entry, only_entry}
use Rattle.redo_laws.proofs.Changes.{appended_is_redone_law, appended_elsewhere_law, appended_is_whole_law, redone_may_be_written_law}
use Rattle.log_cut.proofs.FrontLemmas.{front_up_to, cut_keeps_redo_law}
use Rattle.single_laws.proofs.Bases.{IsBase, at}

-- no entry is of a later version
abbrev pub AreOld : ℕ → List Logged → Type 0
AreOld v xs = AllByRecursion (λ x. x.version ≤ v) xs

-- the log is of whole records, redo of each page gives that of the base, and no entry is later
pub record Redone (c : Sizes) (base : Base) (d : Disk) : Type 0 where
  pub log : 1 ≤ length d.logs
  pub whole : IsWhole c (log_at d 0)
  pub redo_is : (p : ℕ) → p < c.pages → redo c d p ≡ Some (at base p)
  pub old : (p : ℕ) → p < c.pages → AreOld (version_at base p) (entries_of p (records_of c (log_at d 0)))

-- ---- entries

none_later : (v w : ℕ) (xs : List Logged) → v < w → AreOld v xs → ranges_at xs w ≡ None
unfolding ranges_at
none_later v w [] later old = refl
none_later v w (x ∷ xs) later old =
    let low = old.0 in
    let other : (x.version == w) ≡ false = grind (arith, nat_tests) in
    ap (λ b. ranges_or b x.part (ranges_at xs w)) other ∙ none_later v w xs later old.1

old_more : (v w : ℕ) (xs : List Logged) → v ≤ w → AreOld v xs → AreOld w xs
old_more v w [] le old = tt
old_more v w (x ∷ xs) le old = (let low = old.0 in omega (arith, low, le), old_more v w xs le old.1)

old_joined : (v : ℕ) (xs ys : List Logged) → AreOld v xs → AreOld v ys → AreOld v (xs ++ ys)
old_joined v [] ys a b = b
old_joined v (x ∷ xs) ys a b = (a.0, old_joined v xs ys a.1 b)

old_behind : (v : ℕ) (xs ys : List Logged) → AreOld v (xs ++ ys) → AreOld v ys
old_behind v [] ys a = a
old_behind v (x ∷ xs) ys a = old_behind v xs ys a.1

-- what a record says of a page, where v is its version before: nothing, or its next version
pub data Says (r : Record) (p : ℕ) (before after : PageAt) : Type 0 where
  Nothing : AllByRecursion (λ x. x.page ≢ p) r.changes → after ≡ before → Says r p before after
  Next : (x : Logged) → Contains r.changes x → x.page ≡ p → x.version ≡ before.version + 1 → made_by x.part before ≡ after → after.version ≡ before.version + 1 → Says r p before after

module _ (c : Sizes) (one : c.nodes ≡ 1) where
  -- all entries are those of the one log
  pub own_entries : (d : Disk) (p : ℕ) → entries c d p ≡ entries_of p (records_of c (log_at d 0))
  unfolding records_in count_from
  own_entries d p = ap (λ n. entries_of p (records_in c d (count_from 0 n))) one ∙ ap (entries_of p) (append-nil (records_of c (log_at d 0)))

  has_log : (d : Disk) → 1 ≤ length d.logs → HasLog c d 0
  has_log d log = record { node = omega (arith, one); log = omega (arith, log) }

  -- the same base by another name
  pub redone_same : (base new : Base) (d : Disk) → ((p : ℕ) → p < c.pages → at new p ≡ at base p) → Redone c base d → Redone c new d
  redone_same base new d same is =
      record {
        log = is.log;
        whole = is.whole;
        redo_is = λ p below. is.redo_is p below ∙ ap (λ (x : PageAt). Some x) (sym (same p below));
        old = λ p below. subst (λ (x : PageAt). AreOld x.version (entries_of p (records_of c (log_at d 0)))) (sym (same p below)) (is.old p below);
      }

  -- a page is written as it is
  pub redone_written : (base : Base) (d : Disk) (p : ℕ) → c.pages ≤ 65536 → IsBase c base → p < c.pages → Redone c base d → Redone c base (with_page d p (at base p))
  redone_written base d p few fine below is =
      record {
        log = is.log;
        whole = is.whole;
        redo_is = λ q inside. redone_may_be_written_law c d p q (at base p) (omega (arith, below, few)) (fine.below p) (is.redo_is p below) ∙ is.redo_is q inside;
        old = is.old;
      }

  -- a record is forced
  module _ (base new : Base) (d : Disk) (r : Record) (may : CanBeWritten c r) (says : (p : ℕ) → p < c.pages → Says r p (at base p) (at new p)) (is : Redone c base d) where
    log_now : log_at (with_more d 0 (record_bytes r)) 0 ≡ log_at d 0 ++ record_bytes r
    log_now = let log = is.log in get_or-set_at d.logs 0 0 (log_at d 0 ++ record_bytes r) [] refl (omega (arith, log))

    records_now : records_of c (log_at d 0 ++ record_bytes r) ≡ records_of c (log_at d 0) ++ r ∷ []
    records_now = records_joined c (log_at d 0) (record_bytes r) is.whole ∙ ap (λ rs. records_of c (log_at d 0) ++ rs) (record_alone c r may.limits may.shape may.numbers)

    entries_now : (p : ℕ) → entries_of p (records_of c (log_at (with_more d 0 (record_bytes r)) 0)) ≡ entries_of p (records_of c (log_at d 0)) ++ filter (λ x. x.page == p) r.changes
    entries_now p =
        ap (λ bytes. entries_of p (records_of c bytes)) log_now ∙ ap (entries_of p) records_now ∙ entries_append p (records_of c (log_at d 0)) (r ∷ [])
        ∙ ap (λ xs. entries_of p (records_of c (log_at d 0)) ++ xs) (entries_of_one p r)

    none_next : (p : ℕ) → p < c.pages → ranges_at (entries c d p) (version_at base p + 2) ≡ None
    none_next p below =
        ap (λ xs. ranges_at xs (version_at base p + 2)) (own_entries d p)
        ∙ none_later (version_at base p) (version_at base p + 2) (entries_of p (records_of c (log_at d 0))) (omega arith) (is.old p below)

    redo_of : (p : ℕ) → p < c.pages → Says r p (at base p) (at new p) → redo c (with_more d 0 (record_bytes r)) p ≡ Some (at new p)
    redo_of p below (Nothing none same) =
        appended_elsewhere_law c d 0 p r (has_log d is.log) is.whole may none ∙ is.redo_is p below ∙ ap (λ (x : PageAt). Some x) (sym same)
    redo_of p below (Next x there page version made next) =
        subst (λ q. redo c (with_more d 0 (record_bytes r)) q ≡ Some (at new p)) page
        (appended_is_redone_law c d 0 r x (at base p) (has_log d is.log) is.whole may there
        (ap (redo c d) page ∙ is.redo_is p below) version
        (ap (λ q. ranges_at (entries c d q) (version_at base p + 2)) page ∙ none_next p below)
        ∙ ap (λ (y : PageAt). Some y) made)

    one_entry : (x : Logged) → (xs : List Logged) → AreSomeChanges c xs → Contains xs x → filter (λ y. y.page == x.page) xs ≡ x ∷ []
    one_entry x [] are there = absurd are
    one_entry x (y ∷ xs) are there = only_entry c (is_whole y.part) 0 (y ∷ xs) x are there

    old_of : (p : ℕ) → p < c.pages → Says r p (at base p) (at new p) → AreOld (version_at new p) (entries_of p (records_of c (log_at d 0)) ++ filter (λ x. x.page == p) r.changes)
    old_of p below (Nothing none same) =
        old_joined (version_at new p) (entries_of p (records_of c (log_at d 0))) (filter (λ x. x.page == p) r.changes)
        (subst (λ (x : PageAt). AreOld x.version (entries_of p (records_of c (log_at d 0)))) (sym same) (is.old p below))
        (subst (AreOld (version_at new p)) (sym (no_entry p r.changes none)) tt)
    old_of p below (Next x there page version made next) =
        old_joined (version_at new p) (entries_of p (records_of c (log_at d 0))) (filter (λ x. x.page == p) r.changes)
        (old_more (version_at base p) (version_at new p) (entries_of p (records_of c (log_at d 0))) (omega (arith, next)) (is.old p below))
        (subst (AreOld (version_at new p)) (sym (ap (λ q. filter (λ y. y.page == q) r.changes) (sym page) ∙ one_entry x r.changes may.shape.changes there)) ((let same = version in omega (arith, same, next)), tt))

    pub redone_forced : Redone c new (with_more d 0 (record_bytes r))
    redone_forced =
        record {
          log = let same = length-set d.logs 0 (log_at d 0 ++ record_bytes r) in let log = is.log in omega (arith, same, log);
          whole = subst (IsWhole c) (sym log_now) (appended_is_whole_law c (log_at d 0) r is.whole may);
          redo_is = λ p below. redo_of p below (says p below);
          old = λ p below. subst (AreOld (version_at new p)) (sym (entries_now p)) (old_of p below (says p below));
        }

  -- the log is cut
  pub redone_cut : (base : Base) (d : Disk) (n : ℕ) → cuttable c d.pages (log_at d 0) ≡ Goes n → Redone c base d → Redone c base (with_log d 0 (drop n (log_at d 0)))
  unfolding cuttable
  redone_cut base d n goes is =
      let f = front_up_to c d.pages (length (log_at d 0)) (log_at d 0) n (omega arith) goes in
      let left : drop n (log_at d 0) ≡ f.rest = ap (λ k. drop k (log_at d 0)) (sym f.long) ∙ ap (drop (length f.front)) f.same ∙ drop-append_seam f.front f.rest in
      let log = is.log in
      let now : log_at (with_log d 0 (drop n (log_at d 0))) 0 ≡ f.rest = get_or-set_at d.logs 0 0 (drop n (log_at d 0)) [] refl (omega (arith, log)) ∙ left in
      record {
        log = let same = length-set d.logs 0 (drop n (log_at d 0)) in omega (arith, same, log);
        whole = subst (IsWhole c) (sym now) (sym (rest_joined c f.front f.rest f.whole) ∙ ap (λ bytes. (log_of c bytes).rest) (sym f.same) ∙ is.whole);
        redo_is = λ p below. cut_keeps_redo_law c d 0 p n (has_log d log) goes ∙ is.redo_is p below;
        old = λ p below.
            subst (λ bytes. AreOld (version_at base p) (entries_of p (records_of c bytes))) (sym now)
            (old_behind (version_at base p) (entries_of p (records_of c f.front)) (entries_of p (records_of c f.rest))
            (subst (AreOld (version_at base p))
            (ap (λ bytes. entries_of p (records_of c bytes)) f.same ∙ ap (entries_of p) (records_joined c f.front f.rest f.whole) ∙ entries_append p (records_of c f.front) (records_of c f.rest))
            (is.old p below)));
      }
