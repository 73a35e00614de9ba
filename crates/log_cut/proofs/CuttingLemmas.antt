-- The length that may be cut, page by page and record by record.
use Rattle.std.proofs.Common.{◌≡◌, refl, sym, ap, subst, ◌∙◌, ℕ, zero, suc, ◌+◌, ◌<◌, ◌≤◌, Bool, true, false, nat_le, List, [], ◌∷◌, ◌++◌, length, Some, None, IfSome, Result, Err, arith}
use Rattle.std.specs.Prelude.{slice_get}
use Rattle.std.specs.List.{AllByRecursion}
use Rattle.std.proofs.lemmas.List.Elements.{recursion_from_All}
use Rattle.pcl_base.specs.Limits.{Sizes}
use Rattle.pcl_base.specs.declared.log.Record.{Record}
use Rattle.pcl_base.specs.declared.log.Logged.{Logged}
use Rattle.text_rules.specs.LogRecord.{logged_bytes, record_bytes, records_of}
use Rattle.text_rules.specs.StoredPage.{PageAt}
use Rattle.disk_model.specs.Disk.{Pages, Logs, Rooms, HasSizes, IsIn, HasLength, told_at}
use Rattle.node_rules.specs.Work.{Outcome, Goes, Differs, and_then, and_so, read_page}
use Rattle.node_rules.specs.CutRule.{further_if, on_disk, count_if, records_on_disk, cuttable}
use Rattle.redo_log.specs.Placed.{Placed, whole_at, placed_in, placed_from, placed_of}
use Rattle.redo_log.proofs.SomeChanges.{some_changes}
use Rattle.pcl_base.specs.declared.log.Seen.{Seen}
use Rattle.page_store.specs.declared.fault.RedoFault.{RedoFault}
use Rattle.page_store.specs.declared.fault.RedoFault.TheVariants.{Failed, BadPage, NoMemory}
use Rattle.redo_log.specs.Placed.{seen_of}
use Rattle.redo_log.specs.Walks.{first_seen, after_first, whole_after}
use Rattle.log_cut.specs.Cutting.{cut_if, cut_step, cut_from, AnswersCut, AnswersStep, IsCutFault}

-- the pages of a record
pages_cut : (pages : List (List ℕ)) (start end place : ℕ) (xs : List Logged) (rest : List Placed)
    → cut_from pages (whole_at start end xs) (placed_in start end place xs ++ rest) ≡ and_then (on_disk pages xs) (λ is. cut_if is start (cut_from pages end rest))
unfolding cut_from on_disk
pages_cut pages start end place [] rest = refl
pages_cut pages start end place (x ∷ xs) rest = by (read_page pages x.page) (pages_cut pages start end (place + length (logged_bytes x)) xs rest)
  where
    more : (t : Bool) → cut_from pages (whole_at start end xs) (placed_in start end (place + length (logged_bytes x)) xs ++ rest) ≡ and_then (on_disk pages xs) (λ is. cut_if is start (cut_from pages end rest))
        → cut_if t start (cut_from pages (whole_at start end xs) (placed_in start end (place + length (logged_bytes x)) xs ++ rest)) ≡ and_then (further_if t (on_disk pages xs)) (λ is. cut_if is start (cut_from pages end rest))
    more true h = h
    more false h = refl

    by : (o : Outcome PageAt) → cut_from pages (whole_at start end xs) (placed_in start end (place + length (logged_bytes x)) xs ++ rest) ≡ and_then (on_disk pages xs) (λ is. cut_if is start (cut_from pages end rest))
        → and_then o (λ at. cut_if (nat_le x.version at.version) start (cut_from pages (whole_at start end xs) (placed_in start end (place + length (logged_bytes x)) xs ++ rest))) ≡ and_then (and_then o (λ at. further_if (nat_le x.version at.version) (on_disk pages xs))) (λ is. cut_if is start (cut_from pages end rest))
    by (Goes at) h = more (nat_le x.version at.version) h
    by (Differs p e f) h = refl

-- a length on top of another
summed : (a b : ℕ) (o : Outcome ℕ) → and_so o (λ m. a + b + m) ≡ and_so (and_so o (λ m. b + m)) (λ m. a + m)
summed a b (Goes m) = ap (λ (k : ℕ). Goes k) (omega arith)
summed a b (Differs p e f) = refl

-- the first page of a record begins where that begins
at_start : (start end : ℕ) (xs : List Logged) → 1 ≤ length xs → whole_at start end xs ≡ start
at_start start end [] some = absurd (omega arith)
at_start start end (x ∷ xs) some = refl

records_cut : (pages : List (List ℕ)) (place : ℕ) (rs : List Record) → AllByRecursion (λ r. 1 ≤ length r.changes) rs → cut_from pages place (placed_from place rs) ≡ and_so (records_on_disk pages rs) (λ m. place + m)
unfolding cut_from records_on_disk
records_cut pages place [] some = ap (λ (k : ℕ). Goes k) (omega arith)
records_cut pages place (r ∷ rs) some = by (on_disk pages r.changes) refl (records_cut pages (place + length (record_bytes r)) rs some.1)
  where
    end : ℕ
    end = place + length (record_bytes r)

    rest : List Placed
    rest = placed_from end rs

    by : (o : Outcome Bool) → on_disk pages r.changes ≡ o → cut_from pages (place + length (record_bytes r)) (placed_from (place + length (record_bytes r)) rs) ≡ and_so (records_on_disk pages rs) (λ m. place + length (record_bytes r) + m)
        → cut_from pages place (placed_in place (place + length (record_bytes r)) (place + 17) r.changes ++ placed_from (place + length (record_bytes r)) rs) ≡ and_so (and_then (on_disk pages r.changes) (count_if (length (record_bytes r)) (records_on_disk pages rs))) (λ m. place + m)
    by o e h =
        ap (λ (k : ℕ). cut_from pages k (placed_in place (place + length (record_bytes r)) (place + 17) r.changes ++ placed_from (place + length (record_bytes r)) rs)) (sym (at_start place (place + length (record_bytes r)) r.changes some.0))
        ∙ pages_cut pages place (place + length (record_bytes r)) (place + 17) r.changes (placed_from (place + length (record_bytes r)) rs)
        ∙ rw e (one o h)
      where
        one : (o : Outcome Bool) → cut_from pages (place + length (record_bytes r)) (placed_from (place + length (record_bytes r)) rs) ≡ and_so (records_on_disk pages rs) (λ m. place + length (record_bytes r) + m)
            → and_then o (λ is. cut_if is place (cut_from pages (place + length (record_bytes r)) (placed_from (place + length (record_bytes r)) rs))) ≡ and_so (and_then o (count_if (length (record_bytes r)) (records_on_disk pages rs))) (λ m. place + m)
        one (Goes true) h = h ∙ summed place (length (record_bytes r)) (records_on_disk pages rs)
        one (Goes false) h = ap (λ (k : ℕ). Goes k) (omega arith)
        one (Differs p e f) h = refl

-- what may be cut of a log
pub cut_of_log : (c : Sizes) (pages : List (List ℕ)) (log : List ℕ) → cut_from pages 0 (placed_of c log) ≡ cuttable c pages log
unfolding placed_of cuttable
cut_of_log c pages log = records_cut pages 0 (records_of c log) (some_changes c log) ∙ same (records_on_disk pages (records_of c log))
  where
    same : (o : Outcome ℕ) → and_so o (λ m. 0 + m) ≡ o
    same (Goes m) = ap (λ (k : ℕ). Goes k) (omega arith)
    same (Differs p e f) = refl

-- numbers in range, where a storage has the sizes
pub log_is_in : (c : Sizes) (pages : Pages) (logs : Logs) (rooms : Rooms) (n : ℕ) → HasSizes c pages logs rooms → n < c.nodes → IsIn logs n
log_is_in c pages None rooms n h less = tt
log_is_in c pages (Some l) rooms n h less = let told = h.logs_told in omega (arith, told)

pub page_is_in : (c : Sizes) (pages : Pages) (logs : Logs) (rooms : Rooms) (p : ℕ) → HasSizes c pages logs rooms → p < c.pages → IsIn pages p
page_is_in c None logs rooms p h less = tt
page_is_in c (Some l) logs rooms p h less = let told = h.pages_told in omega (arith, told.0)

long_at : (n : ℕ) (l : List (List ℕ)) (p : ℕ) → AllByRecursion (λ b. length b ≡ n) l → IfSome (slice_get l p) (λ b. length b ≡ n)
long_at n [] p a = tt
long_at n (x ∷ l) zero a = a.0
long_at n (x ∷ l) (suc p) a = long_at n l p a.1

pub page_is_long : (c : Sizes) (pages : Pages) (logs : Logs) (rooms : Rooms) (p n : ℕ) → HasSizes c pages logs rooms → n ≡ c.size + 16 → HasLength (told_at pages p) n
page_is_long c None logs rooms p n h same = tt
page_is_long c (Some l) logs rooms p n h same =
    rw same (long_at (c.size + 16) l p (recursion_from_All (λ b. length b ≡ c.size + 16) l h.pages_told.1))

-- one more page
pub cut_next : (pages : List (List ℕ)) (whole more : ℕ) (xs ys : List Placed) (seen : Seen) → Some seen ≡ first_seen xs → ys ≡ after_first xs → more ≡ whole_after whole xs
    → cut_from pages whole xs ≡ cut_step pages seen.page seen.version whole (cut_from pages more ys)
unfolding cut_from
cut_next pages whole more [] ys seen some rest is = absurd (cc)
cut_next pages whole more (x ∷ xs) ys seen some rest is =
    let same : seen ≡ seen_of x = cc in
    ap (λ (p : ℕ). cut_step pages p x.entry.version whole (cut_from pages x.whole xs)) (sym (ap (λ (s : Seen). s.page) same))
    ∙ ap (λ (v : ℕ). cut_step pages seen.page v whole (cut_from pages x.whole xs)) (sym (ap (λ (s : Seen). s.version) same))
    ∙ ap (λ (k : ℕ). cut_step pages seen.page seen.version whole (cut_from pages k xs)) (sym is)
    ∙ ap (λ (zs : List Placed). cut_step pages seen.page seen.version whole (cut_from pages more zs)) (sym rest)

-- no more pages
pub cut_ended : (pages : List (List ℕ)) (whole : ℕ) (xs : List Placed) → None ≡ first_seen xs → cut_from pages whole xs ≡ Goes whole
unfolding cut_from
cut_ended pages whole [] none = refl
cut_ended pages whole (x ∷ xs) none = absurd (cc)

-- a fault of one page is the answer
pub cut_faulted : (pages : List (List ℕ)) (page version whole : ℕ) (o further : Outcome ℕ) (fault : RedoFault) → o ≡ cut_step pages page version whole further → IsCutFault fault → AnswersStep pages page version (Err fault) → AnswersCut o (Err fault)
cut_faulted pages page version whole o further (Failed k) is good step = tt
cut_faulted pages page version whole o further (BadPage p expected found) is good step = is ∙ step whole further
cut_faulted pages page version whole o further NoMemory is good step = absurd good

-- sizes of a storage that is told as before
pub sizes_kept : (c : Sizes) (pages more_pages : Pages) (logs more_logs : Logs) (rooms more_rooms : Rooms) → more_pages ≡ pages → more_logs ≡ logs → more_rooms ≡ rooms → HasSizes c pages logs rooms → HasSizes c more_pages more_logs more_rooms
sizes_kept c pages more_pages logs more_logs rooms more_rooms p l r h =
    subst (λ (x : Pages). HasSizes c x more_logs more_rooms) (sym p)
    (subst (λ (x : Logs). HasSizes c pages x more_rooms) (sym l) (subst (λ (x : Rooms). HasSizes c pages logs x) (sym r) h))

-- the same fault
pub err_same : {X : Type 0} (a b : RedoFault) (r : Result X RedoFault) → r ≡ Err a → r ≡ Err b → a ≡ b
err_same a b r e f = cc
