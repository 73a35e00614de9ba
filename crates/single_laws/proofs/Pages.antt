-- Each page is what the committed transactions made of it: in its slot, or on disk.
use Rattle.std.proofs.Common.{◌≡◌, refl, sym, ap, subst, ◌∙◌, ℕ, zero, suc, ◌+◌, ◌<◌, ◌≤◌, ◌==◌, ◌≢◌, nat_lt, Bool, true, false, List, [], ◌∷◌, length, slice_set, None, Some, arith}
use Rattle.std.specs.Prelude.{Option, ⊤, option_map}
use Rattle.std.proofs.lemmas.Bool.Decides.{nat_tests}
use Rattle.std.proofs.lemmas.Grind.{get_or-set_at}
use Rattle.std.proofs.lemmas.List.{get_or-set_other, length-set}
use Rattle.std.proofs.lemmas.List.Sums.{fold-append}
use Rattle.pcl_base.specs.Limits.{Sizes}
use Rattle.text_rules.specs.StoredPage.{PageAt, stored_bytes, stored_page}
use Rattle.run_rules.specs.Base.{Base}
use Rattle.run_rules.specs.Disk.{Disk, raw_page}
use Rattle.node_rules.specs.Words.{pick}
use Rattle.node_rules.specs.BufferRule.{Slot, Copy, slot_at, slot_in, copy_at, copy_of_slot, cleaned, change_slot, slots_without, clean, evict}
use Rattle.node_rules.specs.NodeState.{HomeState}
use Rattle.node_rules.specs.DiskCalls.{WritePage, done, all_done}
use Rattle.node_rules.specs.Work.{HomeWork, Outcome, Goes, with_pool, page_or_differs, read_page, write_page, write_copy, write_back}
use Rattle.node_rules.specs.AccessRule.{on_pool}
use Rattle.home_laws.proofs.Tests.{number_equal}
use Rattle.home_laws.proofs.SlotFound.{changed_here, changed_there, without_here, without_there}
use Rattle.single_laws.proofs.Stored.{stored_back, stored_length}
pub use Rattle.single_laws.proofs.Bases.{IsBase, at}
use Rattle.single_laws.proofs.Redone.{Redone, redone_written}

-- a page: its copy where there is one, else the page that is read from disk; a clean copy is on disk too
abbrev pub PageIs : Option Copy → Outcome PageAt → PageAt → Type 0
PageIs None read page = read ≡ Goes page
PageIs (Some c) read page = (c.version ≡ page.version) × (c.bytes ≡ page.bytes) × (c.dirty ≡ false → read ≡ Goes page)

-- a stored page that can be read
abbrev pub Readable : List (List ℕ) → ℕ → Type 0
Readable pages p = (x : PageAt) × (read_page pages p ≡ Goes x)

-- each page of a home at work, the lengths of stored pages, and the disk that the calls so far leave
pub record PagesAre (c : Sizes) (base : Base) (d : Disk) (w : HomeWork) : Type 0 where
  pub pages : (p : ℕ) → p < c.pages → PageIs (copy_at w.home.pool p) (read_page w.pages p) (at base p)
  pub raw : (p : ℕ) → p < c.pages → length (raw_page w.pages p) ≡ c.size + 16
  pub count : length w.pages ≡ c.pages
  pub readable : (p : ℕ) → p < c.pages → Readable w.pages p
  pub redone : Redone c base (all_done 0 d w.calls)
  pub done : (all_done 0 d w.calls).pages ≡ w.pages

-- a buffer with the same copies
pub same_copies : (c : Sizes) (base : Base) (d : Disk) (w : HomeWork) (h : HomeState) → ((p : ℕ) → copy_at h.pool p ≡ copy_at w.home.pool p)
    → PagesAre c base d w → PagesAre c base d (record w { home = h })
same_copies c base d w h same is =
    record {
      pages = λ p below. subst (λ o. PageIs o (read_page w.pages p) (at base p)) (sym (same p)) (is.pages p below);
      raw = is.raw;
      count = is.count;
      readable = is.readable;
      redone = is.redone;
      done = is.done;
    }

-- nothing is put past the end
past_set : (xs : List (List ℕ)) (p : ℕ) (x : List ℕ) → length xs ≤ p → slice_set xs p x ≡ xs
past_set [] p x h = refl
past_set (y ∷ xs) zero x h = absurd (omega arith)
past_set (y ∷ xs) (suc p) x h = ap (λ ys. y ∷ ys) (past_set xs p x (omega arith))

-- ---- a copy is written

module _ (c : Sizes) (base : Base) (d : Disk) (fine : IsBase c base) (few : c.pages ≤ 65536) (one : c.nodes ≡ 1) where
  -- a dirty copy is written
  page_written : (p : ℕ) (x : Copy) (w : HomeWork) → copy_at w.home.pool p ≡ Some x → PagesAre c base d w
      → PagesAre c base d (record (write_page p (record { version = x.version; bytes = x.bytes }) w) { home = with_pool w.home (clean w.home.pool p) })
  unfolding clean done
  page_written p x w there is =
      let bytes : List ℕ = stored_bytes p (record { version = x.version; bytes = x.bytes }) in
      record {
        pages = λ q below. page q below (p == q) refl;
        raw = λ q below. raw q below (p == q) refl;
        count = length-set w.pages p bytes ∙ is.count;
        readable = λ q below. readable q below (p == q) refl;
        redone =
            subst (Redone c base) (sym (fold-append (done 0) d w.calls (WritePage p bytes ∷ [])))
            (redone (nat_lt p c.pages) refl);
        done =
            ap (λ (e : Disk). e.pages) (fold-append (done 0) d w.calls (WritePage p bytes ∷ []))
            ∙ ap (λ ps. slice_set ps p bytes) is.done;
      }
    where
      image : List ℕ
      image = stored_bytes p (record { version = x.version; bytes = x.bytes })

      copy_is : p < c.pages → PageIs (Some x) (read_page w.pages p) (at base p)
      copy_is below = subst (λ o. PageIs o (read_page w.pages p) (at base p)) there (is.pages p below)

      same_at : p < c.pages → (let y : PageAt = record { version = x.version; bytes = x.bytes } in y) ≡ at base p
      same_at below = (λ i. record { version = (copy_is below).0 i; bytes = (copy_is below).1 i })

      raw_here : p < c.pages → raw_page (slice_set w.pages p image) p ≡ image
      raw_here below = let count = is.count in get_or-set_at w.pages p p image [] refl (omega (arith, count, below))

      read_here : p < c.pages → read_page (slice_set w.pages p image) p ≡ Goes (at base p)
      read_here below =
          let version : x.version < 18446744073709551616 = subst (λ n. n < 18446744073709551616) (sym (copy_is below).0) (fine.below p) in
          ap (λ bs. page_or_differs p (stored_page p bs)) (raw_here below)
          ∙ ap (page_or_differs p) (stored_back p (record { version = x.version; bytes = x.bytes }) (omega (arith, below, few)) version)
          ∙ ap (λ (y : PageAt). let o : Outcome PageAt = Goes y in o) (same_at below)

      clean_here : copy_of_slot (slot_in (change_slot (λ s. record s { copy = cleaned s.copy }) w.home.pool.slots p) p) ≡ cleaned (Some x)
      clean_here = ap copy_of_slot (changed_here (λ s. record s { copy = cleaned s.copy }) (λ s. refl) w.home.pool.slots p) ∙ mapped (slot_at w.home.pool p) ∙ ap cleaned there
        where
          mapped : (o : Option Slot) → copy_of_slot (option_map (λ (s : Slot). record s { copy = cleaned s.copy }) o) ≡ cleaned (copy_of_slot o)
          mapped None = refl
          mapped (Some s) = refl

      with_pages : List (List ℕ) → Disk
      with_pages ps = record (all_done 0 d w.calls) { pages = ps }

      redone : (b : Bool) → nat_lt p c.pages ≡ b → Redone c base (with_pages (slice_set (all_done 0 d w.calls).pages p image))
      redone true e =
          let here : p < c.pages = grind (arith, nat_tests) in
          subst (λ bs. Redone c base (with_pages (slice_set (all_done 0 d w.calls).pages p bs))) (ap (stored_bytes p) (sym (same_at here)))
          (redone_written c one base (all_done 0 d w.calls) p few fine here is.redone)
      redone false e =
          let count = is.count in
          let pages = ap length is.done in
          subst (λ ps. Redone c base (with_pages ps)) (sym (past_set (all_done 0 d w.calls).pages p image (let past : c.pages ≤ p = grind (arith, nat_tests) in omega (arith, past, count, pages)))) is.redone

      page : (q : ℕ) → q < c.pages → (b : Bool) → (p == q) ≡ b
          → PageIs (copy_of_slot (slot_in (change_slot (λ s. record s { copy = cleaned s.copy }) w.home.pool.slots p) q)) (read_page (slice_set w.pages p image) q) (at base q)
      page q below true e =
          let same = number_equal p q e in
          let here : p < c.pages = subst (λ n. n < c.pages) (sym same) below in
          subst (λ n. PageIs (copy_of_slot (slot_in (change_slot (λ s. record s { copy = cleaned s.copy }) w.home.pool.slots p) n)) (read_page (slice_set w.pages p image) n) (at base n)) same
          (subst (λ o. PageIs o (read_page (slice_set w.pages p image) p) (at base p)) (sym clean_here)
          ((copy_is here).0, (copy_is here).1, (λ e. read_here here)))
      page q below false e =
          let other : q ≢ p = λ same. absurd (grind (arith, nat_tests)) in
          let raw_there : raw_page (slice_set w.pages p image) q ≡ raw_page w.pages q = get_or-set_other w.pages p q image [] other in
          subst (λ o. PageIs o (read_page (slice_set w.pages p image) q) (at base q)) (sym (ap copy_of_slot (changed_there (λ s. record s { copy = cleaned s.copy }) (λ s. refl) w.home.pool.slots p q e)))
          (subst (λ bs. PageIs (copy_at w.home.pool q) (page_or_differs q (stored_page q bs)) (at base q)) (sym raw_there) (is.pages q below))

      raw : (q : ℕ) → q < c.pages → (b : Bool) → (p == q) ≡ b → length (raw_page (slice_set w.pages p image) q) ≡ c.size + 16
      raw q below true e =
          let same = number_equal p q e in
          let here : p < c.pages = subst (λ n. n < c.pages) (sym same) below in
          let long : length x.bytes ≡ c.size = ap length (copy_is here).1 ∙ fine.sizes p here in
          subst (λ n. length (raw_page (slice_set w.pages p image) n) ≡ c.size + 16) same
          (ap length (raw_here here) ∙ stored_length p (record { version = x.version; bytes = x.bytes }) ∙ ap (λ n. n + 16) long)
      raw q below false e =
          let other : q ≢ p = λ same. absurd (grind (arith, nat_tests)) in
          ap length (get_or-set_other w.pages p q image [] other) ∙ is.raw q below

      readable : (q : ℕ) → q < c.pages → (b : Bool) → (p == q) ≡ b → Readable (slice_set w.pages p image) q
      readable q below true e =
          let same = number_equal p q e in
          subst (Readable (slice_set w.pages p image)) same (at base p, read_here (subst (λ n. n < c.pages) (sym same) below))
      readable q below false e =
          let other : q ≢ p = λ same. absurd (grind (arith, nat_tests)) in
          let x = is.readable q below in
          (x.0, ap (λ bs. page_or_differs q (stored_page q bs)) (get_or-set_other w.pages p q image [] other) ∙ x.1)

  pub written_pages : (p : ℕ) (w : HomeWork) → PagesAre c base d w → PagesAre c base d (write_back p w)
  unfolding write_back
  written_pages p w is = by (copy_at w.home.pool p) refl
    where
      of : (x : Copy) → copy_at w.home.pool p ≡ Some x → (b : Bool)
          → PagesAre c base d (pick b (record (write_page p (record { version = x.version; bytes = x.bytes }) w) { home = with_pool w.home (clean w.home.pool p) }) w)
      of x there true = page_written p x w there is
      of x there false = is

      by : (o : Option Copy) → copy_at w.home.pool p ≡ o → PagesAre c base d (write_copy p o w)
      by None e = is
      by (Some x) e = of x e x.dirty

  -- then its copy is clean, if there is one
  abbrev IsClean : Option Copy → Type 0
  IsClean None = ⊤
  IsClean (Some x) = x.dirty ≡ false

  clean_after : (p : ℕ) (w : HomeWork) → IsClean (copy_at (write_back p w).home.pool p)
  unfolding write_back clean
  clean_after p w = by (copy_at w.home.pool p) refl
    where
      mapped : (o : Option Slot) → IsClean (copy_of_slot (option_map (λ (s : Slot). record s { copy = cleaned s.copy }) o))
      mapped None = tt
      mapped (Some s) = of s.copy
        where
          of : (o : Option Copy) → IsClean (cleaned o)
          of None = tt
          of (Some x) = refl

      of : (x : Copy) → copy_at w.home.pool p ≡ Some x → (b : Bool) → x.dirty ≡ b
          → IsClean (copy_at (pick b (record (write_page p (record { version = x.version; bytes = x.bytes }) w) { home = with_pool w.home (clean w.home.pool p) }) w).home.pool p)
      of x there true e =
          subst (λ o. IsClean (copy_of_slot o)) (sym (changed_here (λ s. record s { copy = cleaned s.copy }) (λ s. refl) w.home.pool.slots p)) (mapped (slot_at w.home.pool p))
      of x there false e = subst IsClean (sym there) e

      by : (o : Option Copy) → copy_at w.home.pool p ≡ o → IsClean (copy_at (write_copy p o w).home.pool p)
      by None e = subst IsClean (sym e) tt
      by (Some x) e = of x e x.dirty refl

  -- a clean copy leaves
  clean_leaves : (p : ℕ) (w : HomeWork) → IsClean (copy_at w.home.pool p) → PagesAre c base d w → PagesAre c base d (on_pool (λ b. evict b p) w)
  unfolding evict
  clean_leaves p w bare is =
      record {
        pages = λ q below. page q below (p == q) refl;
        raw = is.raw;
        count = is.count;
        readable = is.readable;
        redone = is.redone;
        done = is.done;
      }
    where
      on_disk : (o : Option Copy) (r : Outcome PageAt) (x : PageAt) → IsClean o → PageIs o r x → r ≡ Goes x
      on_disk None r x e is = is
      on_disk (Some y) r x e is = is.2 e

      page : (q : ℕ) → q < c.pages → (b : Bool) → (p == q) ≡ b → PageIs (copy_of_slot (slot_in (slots_without w.home.pool.slots p) q)) (read_page w.pages q) (at base q)
      page q below true e =
          let same = number_equal p q e in
          subst (λ n. PageIs (copy_of_slot (slot_in (slots_without w.home.pool.slots p) n)) (read_page w.pages n) (at base n)) same
          (subst (λ o. PageIs (copy_of_slot o) (read_page w.pages p) (at base p)) (sym (without_here w.home.pool.slots p))
          (on_disk (copy_at w.home.pool p) (read_page w.pages p) (at base p) bare (is.pages p (subst (λ n. n < c.pages) (sym same) below))))
      page q below false e = subst (λ o. PageIs (copy_of_slot o) (read_page w.pages q) (at base q)) (sym (without_there w.home.pool.slots p q e)) (is.pages q below)

  pub pages_left : (p : ℕ) (w : HomeWork) → PagesAre c base d w → PagesAre c base d (on_pool (λ b. evict b p) (write_back p w))
  pages_left p w is = clean_leaves p (write_back p w) (clean_after p w) (written_pages p w is)
