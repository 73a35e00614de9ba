-- The slot of a page comes to a granted version: as it is, by an image, or from disk.
use Rattle.std.proofs.Common.{◌≡◌, ℕ, ◌+◌, ◌-◌, ◌<◌, ◌==◌, Bool, true, false, List, length, drop, replicate, Option, Some, None, Result, Ok, Err, is_some, refl, ap, sym, subst, ◌∙◌, arith, length-drop}
use Rattle.std.proofs.lemmas.List.{length-replicate}
use Rattle.std.specs.Prelude.{option_map}
use Rattle.std.specs.List.{All}
use Rattle.text_rules.specs.StoredPage.{PageAt, BadNumber, stored_page, unwritten, written, first_number}
use Rattle.text_rules.specs.FieldBytes.{pick as pick_text}
use Rattle.run_rules.specs.Disk.{raw_page}
use Rattle.node_rules.specs.Words.{pick}
use Rattle.node_rules.specs.CopyRule.{is_version}
use Rattle.node_rules.specs.BufferRule.{Pool, Slot, Copy, slot_at, slot_in, copy_at, copy_of_slot, find, version_of_copy, is_kept, install, change_slot}
use Rattle.node_rules.specs.Work.{HomeWork, Outcome, Goes, Differs, and_then, with_pool, page_or_differs}
use Rattle.node_rules.specs.AccessRule.{bring, unless_current, new_content, from_disk, clean_copy, on_pool}
use Rattle.buffer_pool.specs.Buffer.{IsBuffer}
use Rattle.home_laws.specs.Homes.{pins_of}
use Rattle.home_laws.specs.AccessLaws.{IsImage, IsReadable}
use Rattle.home_laws.proofs.Tests.{number_equal, some_there}
use Rattle.home_laws.proofs.SlotLooks.{changed_here, changed_there, all_changed}
use Rattle.home_laws.proofs.Buffers.{install_sound}

-- a buffer with the same pins and private copies, in which a page has a copy
pub record IsBrought (p : ℕ) (b new : Pool) : Type 0 where
  pub buffer : IsBuffer new
  pub frames : new.frames ≡ b.frames
  pub size : new.size ≡ b.size
  pub pins : (q : ℕ) → pins_of (slot_at new q) ≡ pins_of (slot_at b q)
  pub copies : (q : ℕ) → is_some (copy_at b q) ≡ true → is_some (copy_at new q) ≡ true
  pub there : is_some (copy_at new p) ≡ true
  pub kept : All (λ s. is_kept s ≡ true) b.slots → All (λ s. is_kept s ≡ true) new.slots
  pub below : (n : ℕ) → All (λ s. s.page < n) b.slots → All (λ s. s.page < n) new.slots
  pub privates : new.privates ≡ b.privates

abbrev with_copy : Copy → Slot → Slot
with_copy c s = record s { copy = Some c }

-- a copy is put into the slot of the page
pub install_brought : (p : ℕ) (c : Copy) (b : Pool) → IsBuffer b → is_some (slot_at b p) ≡ true → length c.bytes ≡ b.size → IsBrought p b (install b p c)
unfolding install
install_brought p c b sound there size = record {
  buffer = install_sound b p c size sound;
  frames = refl;
  size = refl;
  pins = λ q. pins q (p == q) refl;
  copies = λ q e. copies q e (p == q) refl;
  there = ap (λ o. is_some (copy_of_slot o)) here;
  kept = λ a. all_changed (λ s. is_kept s ≡ true) (λ s. is_kept s ≡ true) (with_copy c) b.slots p (λ s t k. refl) (λ s t k. k) a;
  below = λ n a. all_changed (λ s. s.page < n) (λ s. s.page < n) (with_copy c) b.slots p (λ s t k. k) (λ s t k. k) a;
  privates = refl;
}
  where
    here : slot_in (change_slot (with_copy c) b.slots p) p ≡ Some (with_copy c (some_there (slot_at b p) there).0)
    here = changed_here (with_copy c) (λ s. refl) b.slots p ∙ ap (option_map (with_copy c)) (some_there (slot_at b p) there).1

    mapped : (o : Option Slot) → pins_of (option_map (with_copy c) o) ≡ pins_of o
    mapped None = refl
    mapped (Some s) = refl

    pins : (q : ℕ) (d : Bool) → (p == q) ≡ d → pins_of (slot_in (change_slot (with_copy c) b.slots p) q) ≡ pins_of (slot_at b q)
    pins q true e =
        subst (λ n. pins_of (slot_in (change_slot (with_copy c) b.slots p) n) ≡ pins_of (slot_at b n)) (number_equal p q e)
        (ap pins_of (changed_here (with_copy c) (λ s. refl) b.slots p) ∙ mapped (slot_at b p))
    pins q false e = ap pins_of (changed_there (with_copy c) (λ s. refl) b.slots p q e)

    copies : (q : ℕ) → is_some (copy_at b q) ≡ true → (d : Bool) → (p == q) ≡ d → is_some (copy_of_slot (slot_in (change_slot (with_copy c) b.slots p) q)) ≡ true
    copies q e true t = subst (λ n. is_some (copy_of_slot (slot_in (change_slot (with_copy c) b.slots p) n)) ≡ true) (number_equal p q t) (ap (λ o. is_some (copy_of_slot o)) here)
    copies q e false t = ap (λ o. is_some (copy_of_slot o)) (changed_there (with_copy c) (λ s. refl) b.slots p q t) ∙ e

-- the bytes of a stored page
stored_length : (p size : ℕ) (raw : List ℕ) (at : PageAt) → length raw ≡ size + 16 → stored_page p raw ≡ Ok at → length at.bytes ≡ size
stored_length p size raw at long read = by (first_number raw == 0) (first_number raw == p + 1) read
  where
    zeros : length {A = ℕ} (replicate (length raw - 16) 0) ≡ size
    zeros = let none : ℕ = 0 in let n = length-replicate (length raw - 16) none in omega (arith, n, long)

    rest : length (drop 16 raw) ≡ size
    rest = let n = length-drop 16 raw in omega (arith, n, long)

    by : (c d : Bool) → pick_text {X = Result PageAt BadNumber} c (Ok (unwritten raw)) (pick_text {X = Result PageAt BadNumber} d (Ok (written raw)) (Err (record { expected = p + 1; found = first_number raw }))) ≡ Ok at → length at.bytes ≡ size
    by true d e =
        let same : unwritten raw ≡ at = cc in
        ap (λ x. length x.bytes) (sym same) ∙ zeros
    by false true e =
        let same : written raw ≡ at = cc in
        ap (λ x. length x.bytes) (sym same) ∙ rest
    by false false e = absurd (cc)

-- the work after it, and its buffer
pub record HasBrought (p : ℕ) (w done : HomeWork) : Type 0 where
  pub pool : Pool
  pub home : done.home ≡ with_pool w.home pool
  pub brought : IsBrought p w.home.pool pool

pub current_brought : (p version : ℕ) (w : HomeWork) → IsBuffer w.home.pool → is_version (find w.home.pool p) version ≡ true → HasBrought p w w
current_brought p version w sound current = record {
  pool = w.home.pool;
  home = refl;
  brought =
      record {
        buffer = sound;
        frames = refl;
        size = refl;
        pins = λ q. refl;
        copies = λ q e. e;
        there = by (copy_at w.home.pool p) current;
        kept = λ a. a;
        below = λ n a. a;
        privates = refl;
      };
}
  where
    by : (o : Option Copy) → is_version (version_of_copy o) version ≡ true → is_some o ≡ true
    by None e = absurd (cc)
    by (Some c) e = refl

pub bring_is : (p version : ℕ) (image : Option (List ℕ)) (w done : HomeWork) → IsBuffer w.home.pool → is_some (slot_at w.home.pool p) ≡ true → w.home.pool.size ≡ w.home.config.size
    → IsImage w.home.config.size image → IsReadable p version image w → bring p version image w ≡ Goes done → HasBrought p w done
unfolding bring
bring_is p version image w done sound there size sized readable goes = by (is_version (find w.home.pool p) version) refl goes
  where
    installed : (at : PageAt) → length at.bytes ≡ w.home.config.size → HasBrought p w (on_pool (λ b. install b p (clean_copy at)) w)
    installed at long = record { pool = install w.home.pool p (clean_copy at); home = refl; brought = install_brought p (clean_copy at) w.home.pool sound there (long ∙ sym size) }

    goes_same : (x y : HomeWork) → HasBrought p w x → (let o : Outcome HomeWork = Goes x in o) ≡ Goes y → HasBrought p w y
    goes_same x y has e =
        let same : x ≡ y = cc in
        subst (HasBrought p w) same has

    from_disk_is : (r : Result PageAt BadNumber) → ((at : PageAt) → r ≡ Ok at → length at.bytes ≡ w.home.config.size) → and_then (page_or_differs p r) (from_disk p version w) ≡ Goes done → HasBrought p w done
    from_disk_is (Err bad) long e = absurd (cc)
    from_disk_is (Ok at) long e = of (at.version == version) e
      where
        of : (d : Bool) → pick d (Goes (on_pool (λ b. install b p (clean_copy at)) w)) (Differs p version at.version) ≡ Goes done → HasBrought p w done
        of true e = goes_same (on_pool (λ b. install b p (clean_copy at)) w) done (installed at (long at refl)) e
        of false e = absurd (cc)

    new : (i : Option (List ℕ)) → IsImage w.home.config.size i → (i ≡ None → length (raw_page w.pages p) ≡ w.home.config.size + 16) → new_content p version i w ≡ Goes done → HasBrought p w done
    new (Some bytes) fits long e = goes_same (on_pool (λ b. install b p (clean_copy (record { version = version; bytes = bytes }))) w) done (installed (record { version = version; bytes = bytes }) fits) e
    new None fits long e =
        from_disk_is (stored_page p (raw_page w.pages p)) (λ at read. stored_length p w.home.config.size (raw_page w.pages p) at (long refl) read) e

    by : (d : Bool) → is_version (find w.home.pool p) version ≡ d → unless_current d p version image w ≡ Goes done → HasBrought p w done
    by true e g = goes_same w done (current_brought p version w sound e) g
    by false e g = new image sized (readable e) g
