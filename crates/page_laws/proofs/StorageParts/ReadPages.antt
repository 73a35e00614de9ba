-- What is read of stored pages.
use Rattle.std.proofs.Common.{◌≡◌, refl, sym, ap, subst, ◌∙◌, ℕ, zero, suc, ◌+◌, ◌-◌, ◌≤◌, ◌==◌, nat_lt, nat_le, Bool, true, false, List, [], ◌∷◌, length, replicate, is_some, Result, Ok, Err, arith}
use Rattle.std.specs.Prelude.{slice_index_or}
use Rattle.std.proofs.lemmas.Bool.Decides.{nat_tests}
use Rattle.std.proofs.lemmas.List.{length-replicate, get_or-replicate}
use Rattle.pcl_base.specs.Limits.{Sizes}
use Rattle.pcl_base.specs.declared.log.Logged.{Logged}
use Rattle.pcl_base.specs.declared.log.Record.{Record}
use Rattle.text_rules.specs.FieldBytes.{pick as text_pick}
use Rattle.text_rules.specs.LogRecord.{record_bytes, records_of}
use Rattle.text_rules.specs.StoredPage.{PageAt, BadNumber, stored_page, first_number, unwritten, written}
use Rattle.run_rules.specs.Disk.{raw_page, fresh_disk}
use Rattle.run_rules.specs.Redo.{entries_of}
use Rattle.node_rules.specs.CutRule.{further_if, on_disk, count_if, records_on_disk, cuttable}
use Rattle.node_rules.specs.Work.{Outcome, Goes, and_then, and_so, page_or_differs, read_page}
use Rattle.page_laws.specs.Storage.Looks.{copy_read, copy_on, ranges_in, entries_at, AreRising}
use Rattle.page_laws.specs.Storage.Stored.{FreshIsStored, StoredIsRead, CutIsFound}
use Rattle.page_laws.proofs.StorageParts.Calls.{read_as}

pub stored_is_read_law : StoredIsRead
unfolding copy_on
stored_is_read_law c d p disk log is = ap (page_or_differs p) (read_as p (raw_page d.pages p) disk is.disk_same)

-- ---- the length that may be cut

abbrev IsRead : List (List ℕ) → ℕ → Type 0
IsRead pages p = (at : PageAt) × (read_page pages p ≡ Goes at)

-- nothing is read that differs
abbrev HasGone : {X : Type 0} → Outcome X → Type 0
HasGone {X} o = (x : X) × (o ≡ Goes x)

module _ (pages : List (List ℕ)) (readable : (p : ℕ) → IsRead pages p) where
  disk_goes : (xs : List Logged) → HasGone (on_disk pages xs)
  unfolding on_disk
  disk_goes [] = (true, refl)
  disk_goes (x ∷ xs) =
      let read = readable x.page in
      let rest = by (nat_le x.version read.0.version) (disk_goes xs) in
      (rest.0, ap (λ o. and_then o (λ at. further_if (nat_le x.version at.version) (on_disk pages xs))) read.1 ∙ rest.1)
    where
      by : (b : Bool) → HasGone (on_disk pages xs) → HasGone (further_if b (on_disk pages xs))
      by true rest = rest
      by false rest = (false, refl)

  records_go : (rs : List Record) → HasGone (records_on_disk pages rs)
  unfolding records_on_disk
  records_go [] = (0, refl)
  records_go (r ∷ rs) =
      let first = disk_goes r.changes in
      let rest = by first.0 (records_go rs) in
      (rest.0, ap (λ o. and_then o (count_if (length (record_bytes r)) (records_on_disk pages rs))) first.1 ∙ rest.1)
    where
      by : (b : Bool) → HasGone (records_on_disk pages rs) → HasGone (count_if (length (record_bytes r)) (records_on_disk pages rs) b)
      by true rest = (length (record_bytes r) + rest.0, ap (λ o. and_so o (λ m. length (record_bytes r) + m)) rest.1)
      by false rest = (0, refl)

-- past the last page nothing stands
past_raw : (pages : List (List ℕ)) (p : ℕ) → length pages ≤ p → raw_page pages p ≡ []
past_raw [] p h = refl
past_raw (x ∷ pages) zero h = absurd (omega (arith, h))
past_raw (x ∷ pages) (suc p) h = past_raw pages p (omega (arith, h))

read_some : (p : ℕ) (r : Result PageAt BadNumber) → is_some (copy_read r) ≡ true → (at : PageAt) × (page_or_differs p r ≡ Goes at)
read_some p (Ok at) e = (at, refl)
read_some p (Err bad) e = absurd (cc)

pub cut_is_found_law : CutIsFound
unfolding copy_on cuttable
cut_is_found_law c d log are = records_go d.pages (λ p. by p (nat_lt p c.pages) refl) (records_of c log)
  where
    by : (p : ℕ) (b : Bool) → nat_lt p c.pages ≡ b → IsRead d.pages p
    by p true e = read_some p (stored_page p (raw_page d.pages p)) (are.read p (grind (arith, nat_tests)))
    by p false e =
        let past : c.pages ≤ p = grind (arith, nat_tests) in
        let count = are.count in
        (unwritten [], ap (λ bytes. page_or_differs p (stored_page p bytes)) (past_raw d.pages p (omega (arith, past, count))))

-- ---- fresh storage

-- zero bytes are the number zero
zero_number : (n : ℕ) → first_number (replicate n 0) ≡ 0
zero_number zero = refl
zero_number (suc zero) = refl
zero_number (suc (suc zero)) = refl
zero_number (suc (suc (suc zero))) = refl
zero_number (suc (suc (suc (suc zero)))) = refl
zero_number (suc (suc (suc (suc (suc zero))))) = refl
zero_number (suc (suc (suc (suc (suc (suc zero)))))) = refl
zero_number (suc (suc (suc (suc (suc (suc (suc zero))))))) = refl
zero_number (suc (suc (suc (suc (suc (suc (suc (suc n)))))))) = refl

zero_page : (c : Sizes) (p : ℕ) → stored_page p (replicate (c.size + 16) 0) ≡ Ok (record { version = 0; bytes = replicate c.size 0 })
zero_page c p =
    by (first_number (replicate (c.size + 16) 0) == 0) (let zero_is = zero_number (c.size + 16) in grind (arith, nat_tests))
  where
    none : ℕ
    none = 0

    bytes : replicate (length (replicate (c.size + 16) none) - 16) none ≡ replicate c.size none
    bytes = ap (λ n. replicate n none) (let count = length-replicate (c.size + 16) none in omega (arith, count))

    by : (b : Bool) → b ≡ true
        → text_pick {X = Result PageAt BadNumber} b (Ok (unwritten (replicate (c.size + 16) none)))
        (text_pick (first_number (replicate (c.size + 16) none) == p + 1) (Ok (written (replicate (c.size + 16) none))) (Err (record { expected = p + 1; found = first_number (replicate (c.size + 16) none) })))
        ≡ Ok (record { version = 0; bytes = replicate c.size none })
    by true e = ap (λ (bs : List ℕ). let r : Result PageAt BadNumber = Ok (record { version = 0; bytes = bs }) in r) bytes
    by false e = absurd (cc)

empty_log : (k n : ℕ) → slice_index_or (replicate k (let none : List ℕ = [] in none)) n [] ≡ []
empty_log zero n = refl
empty_log (suc k) zero = refl
empty_log (suc k) (suc n) = empty_log k n

no_entries : (c : Sizes) (n p : ℕ) → entries_at c (fresh_disk c) n p ≡ []
unfolding entries_at entries_of
no_entries c n p = ap (λ bytes. entries_of p (records_of c bytes)) (empty_log c.nodes n)

pub fresh_is_stored_law : FreshIsStored
unfolding copy_on ranges_in
fresh_is_stored_law c p low =
    record {
      disk_same = ap (λ raw. copy_read (stored_page p raw)) (get_or-replicate c.pages p (replicate (c.size + 16) 0) [] low) ∙ ap copy_read (zero_page c p);
      log_same = λ n v. ap (λ xs. ranges_in xs v) (no_entries c n p);
      rising = λ n. subst (AreRising 0) (sym (no_entries c n p)) tt;
    }
