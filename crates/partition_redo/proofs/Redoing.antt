-- What the redo of pages, one after the other, leaves of each.
use Rattle.std.proofs.Common.{inl, inr, ◌≡◌, refl, sym, ap, subst, ◌∙◌, ℕ, zero, suc, ◌+◌, ◌^◌, ◌<◌, ◌≤◌, Bool, true, false, nat_lt, List, [], ◌∷◌, length, Option, Some, None, Result, Ok, arith}
use Rattle.std.specs.Prelude.{⊤, ◌⊎◌, ◌≢◌, slice_set, slice_index_or}
use Rattle.std.specs.List.{AllByRecursion}
use Rattle.std.proofs.lemmas.Bool.Decides.{nat_tests}
use Rattle.pcl_base.specs.Limits.{Sizes}
use Rattle.pcl_base.specs.declared.log.Record.{Record}
use Rattle.pcl_base.specs.declared.log.Logged.{Logged}
use Rattle.pcl_base.specs.declared.log.ChangedRange.{ChangedRange}
use Rattle.pcl_base.specs.declared.trace.Call.{Call}
use Rattle.text_rules.specs.ChangedRanges.{put_ranges}
use Rattle.text_rules.specs.StoredPage.{PageAt, stored_page, stored_bytes}
use Rattle.run_rules.specs.Words.{pick}
use Rattle.run_rules.specs.Views.{count_from}
use Rattle.run_rules.specs.Disk.{Disk, raw_page}
use Rattle.run_rules.specs.Redo.{entries_of, newest_image, ranges_at, reached, redone, redone_if, all_records, redo}
use Rattle.disk_model.specs.Disk.{Pages}
use Rattle.disk_model.specs.Stops.{Stops}
use Rattle.redo_laws.proofs.Chains.{reached_zero, reached_none, reached_some, reached_rises}
use Rattle.redo_laws.proofs.Images.{newest_again}
use Rattle.redo_laws.proofs.Pages.{passed_same}
use Rattle.redo_laws.proofs.Disks.{item_of_changed, records_of_logs}
use Rattle.redo_laws.proofs.Changes.{stored_again}
use Rattle.partition_redo.specs.Writes.{write_of, page_write, with_write, redo_page, redo_pages, FailsAt, stops_after, Ran, with_pages, IsStored, AreEither}

-- redo of what redo gives is that itself
pub redone_again : (rs : List Record) (p : ℕ) (at : PageAt) → redone rs p (redone rs p at) ≡ redone rs p at
unfolding redone
redone_again rs p at = passed_same (entries_of p rs) at (reached (length (entries_of p rs)) (entries_of p rs) (newest_image at (entries_of p rs))) (inl (length (entries_of p rs), refl))

reached_still : (n : ℕ) (xs : List Logged) (at : PageAt) → (reached n xs at).version ≤ at.version → reached n xs at ≡ at
reached_still zero xs at most = reached_zero xs at
reached_still (suc n) xs at most = one (ranges_at xs (at.version + 1)) refl
  where
    one : (o : Option (List ChangedRange)) → ranges_at xs (at.version + 1) ≡ o → reached (suc n) xs at ≡ at
    one None is = reached_none n xs at is
    one (Some rs) is =
        let step = ap (λ (q : PageAt). q.version) (reached_some n xs at rs is) in
        let rises = reached_rises n xs (let q : PageAt = record { version = at.version + 1; bytes = put_ranges rs at.bytes } in q) in
        absurd (let bad : 1 ≤ 0 = omega arith in omega (arith, bad))

-- and where redo is no newer, it is the same
pub redone_still : (rs : List Record) (p : ℕ) (at : PageAt) → (redone rs p at).version ≤ at.version → redone rs p at ≡ at
unfolding redone
redone_still rs p at most =
    let xs : List Logged = entries_of p rs in
    let rises = reached_rises (length xs) xs (newest_image at xs) in
    let same : newest_image at xs ≡ at = newest_again at at xs (omega arith) in
    let still : (reached (length xs) xs at).version ≤ at.version = subst (λ (q : PageAt). (reached (length xs) xs q).version ≤ at.version) same most in
    ap (reached (length xs) xs) same ∙ reached_still (length xs) xs at still

-- a stored page that can be redone
pub record CanRedo (rs : List Record) (pages : List (List ℕ)) (p : ℕ) : Type 0 where
  pub at : PageAt
  pub stored : stored_page p (raw_page pages p) ≡ Ok at
  pub inside : p < length pages
  pub small : p < 2 ^ 32
  pub fits : (redone rs p at).version < 2 ^ 64

-- a stored page that redo leaves as it is
pub record IsAtRedo (rs : List Record) (pages : List (List ℕ)) (p : ℕ) : Type 0 where
  pub at : PageAt
  pub stored : stored_page p (raw_page pages p) ≡ Ok at
  pub same : redone rs p at ≡ at

item_set : (xs : List (List ℕ)) (n : ℕ) (y : List ℕ) → n < length xs → slice_index_or (slice_set xs n y) n [] ≡ y
item_set [] n y inside = absurd (omega (arith, inside))
item_set (x ∷ xs) zero y inside = refl
item_set (x ∷ xs) (suc n) y inside = item_set xs n y (omega (arith, inside))

set_length : (xs : List (List ℕ)) (n : ℕ) (y : List ℕ) → length (slice_set xs n y) ≡ length xs
set_length [] n y = refl
set_length (x ∷ xs) zero y = refl
set_length (x ∷ xs) (suc n) y = ap suc (set_length xs n y)

-- the write of a page, by the versions
write_is : (rs : List Record) (pages : List (List ℕ)) (p : ℕ) (h : CanRedo rs pages p) → page_write rs pages p ≡ pick (nat_lt h.at.version (redone rs p h.at).version) (Some (stored_bytes p (redone rs p h.at))) None
write_is rs pages p h = ap (write_of rs p) h.stored

picked : {X : Type 0} (b : Bool) (x y : X) (t : Bool) → b ≡ t → pick b x y ≡ pick t x y
picked b x y t is = ap (λ (u : Bool). pick u x y) is

pub write_none : (rs : List Record) (pages : List (List ℕ)) (p : ℕ) (h : CanRedo rs pages p) → (redone rs p h.at).version ≤ h.at.version → page_write rs pages p ≡ None
write_none rs pages p h most =
    let test : nat_lt h.at.version (redone rs p h.at).version ≡ false = grind (arith, nat_tests) in
    write_is rs pages p h ∙ picked _ (Some (stored_bytes p (redone rs p h.at))) None false test

pub write_some : (rs : List Record) (pages : List (List ℕ)) (p : ℕ) (h : CanRedo rs pages p) → h.at.version < (redone rs p h.at).version → page_write rs pages p ≡ Some (stored_bytes p (redone rs p h.at))
write_some rs pages p h less =
    let test : nat_lt h.at.version (redone rs p h.at).version ≡ true = grind (arith, nat_tests) in
    write_is rs pages p h ∙ picked _ (Some (stored_bytes p (redone rs p h.at))) None true test

-- what a redo of one page does to another page
pub record IsStep (rs : List Record) (pages : List (List ℕ)) (p : ℕ) (h : CanRedo rs pages p) : Type 0 where
  pub here : stored_page p (raw_page (redo_page rs pages p) p) ≡ Ok (redone rs p h.at)
  pub others : (q : ℕ) → (q ≡ p) ⊎ (raw_page (redo_page rs pages p) q ≡ raw_page pages q)
  pub count : length (redo_page rs pages p) ≡ length pages

pub step_of : (rs : List Record) (pages : List (List ℕ)) (p : ℕ) (h : CanRedo rs pages p) → IsStep rs pages p h
step_of rs pages p h = one (nat_lt h.at.version (redone rs p h.at).version) refl
  where
    other : (bytes : List ℕ) (q : ℕ) → (slice_index_or (slice_set pages p bytes) q [] ≡ bytes) × (q ≡ p) ⊎ (slice_index_or (slice_set pages p bytes) q [] ≡ slice_index_or pages q [])
        → (q ≡ p) ⊎ (raw_page (slice_set pages p bytes) q ≡ raw_page pages q)
    other bytes q (inl e) = inl e.1
    other bytes q (inr e) = inr e

    one : (b : Bool) → nat_lt h.at.version (redone rs p h.at).version ≡ b → IsStep rs pages p h
    one true is =
        let bytes : List ℕ = stored_bytes p (redone rs p h.at) in
        let after : redo_page rs pages p ≡ slice_set pages p bytes = ap (λ (w : Option (List ℕ)). with_write p w pages) (write_some rs pages p h (grind (arith, nat_tests))) in
        record {
          here =
              ap (λ (ls : List (List ℕ)). stored_page p (raw_page ls p)) after
              ∙ ap (stored_page p) (item_set pages p bytes h.inside)
              ∙ stored_again p (redone rs p h.at) h.small h.fits;
          others = λ q. subst (λ (ls : List (List ℕ)). (q ≡ p) ⊎ (raw_page ls q ≡ raw_page pages q)) (sym after) (other bytes q (item_of_changed pages p q bytes []));
          count = ap length after ∙ set_length pages p bytes;
        }
    one false is =
        let most : (redone rs p h.at).version ≤ h.at.version = grind (arith, nat_tests) in
        let after : redo_page rs pages p ≡ pages = ap (λ (w : Option (List ℕ)). with_write p w pages) (write_none rs pages p h most) in
        record {
          here = ap (λ (ls : List (List ℕ)). stored_page p (raw_page ls p)) after ∙ h.stored ∙ ap Ok (sym (redone_still rs p h.at most));
          others = λ q. inr (ap (λ (ls : List (List ℕ)). raw_page ls q) after);
          count = ap length after;
        }

-- what can be redone can be redone after that
pub can_after : (rs : List Record) (pages : List (List ℕ)) (p q : ℕ) → CanRedo rs pages p → CanRedo rs pages q → CanRedo rs (redo_page rs pages p) q
can_after rs pages p q h k = one ((step_of rs pages p h).others q)
  where
    length_same : length (redo_page rs pages p) ≡ length pages
    length_same = (step_of rs pages p h).count

    one : (q ≡ p) ⊎ (raw_page (redo_page rs pages p) q ≡ raw_page pages q) → CanRedo rs (redo_page rs pages p) q
    one (inl same) =
        subst (CanRedo rs (redo_page rs pages p)) (sym same)
        (record {
          at = redone rs p h.at;
          stored = (step_of rs pages p h).here;
          inside = subst (λ (n : ℕ). p < n) (sym length_same) h.inside;
          small = h.small;
          fits = subst (λ (a : PageAt). a.version < 2 ^ 64) (sym (redone_again rs p h.at)) h.fits;
        })
    one (inr same) =
        record {
          at = k.at;
          stored = ap (stored_page q) same ∙ k.stored;
          inside = subst (λ (n : ℕ). q < n) (sym length_same) k.inside;
          small = k.small;
          fits = k.fits;
        }

pub all_after : (rs : List Record) (pages : List (List ℕ)) (p : ℕ) (qs : List ℕ) → CanRedo rs pages p → AllByRecursion (CanRedo rs pages) qs → AllByRecursion (CanRedo rs (redo_page rs pages p)) qs
all_after rs pages p [] h all = tt
all_after rs pages p (q ∷ qs) h all = (can_after rs pages p q h all.0, all_after rs pages p qs h all.1)

-- a page at its redo stays
stays_one : (rs : List Record) (pages : List (List ℕ)) (p q : ℕ) → CanRedo rs pages p → IsAtRedo rs pages q → raw_page (redo_page rs pages p) q ≡ raw_page pages q
stays_one rs pages p q h k = one ((step_of rs pages p h).others q)
  where
    one : (q ≡ p) ⊎ (raw_page (redo_page rs pages p) q ≡ raw_page pages q) → raw_page (redo_page rs pages p) q ≡ raw_page pages q
    one (inr same) = same
    one (inl same) =
        let both : Ok h.at ≡ Ok k.at = sym h.stored ∙ ap (λ (r : ℕ). stored_page r (raw_page pages r)) (sym same) ∙ k.stored in
        let page : h.at ≡ k.at = cc in
        let redone_same : redone rs p h.at ≡ h.at = ap (redone rs p) page ∙ ap (λ (r : ℕ). redone rs r k.at) (sym same) ∙ k.same ∙ sym page in
        let version = ap (λ (a : PageAt). a.version) redone_same in
        ap (λ (w : Option (List ℕ)). raw_page (with_write p w pages) q) (write_none rs pages p h (omega arith))

at_after : (rs : List Record) (pages : List (List ℕ)) (p q : ℕ) → CanRedo rs pages p → IsAtRedo rs pages q → IsAtRedo rs (redo_page rs pages p) q
at_after rs pages p q h k = record { at = k.at; stored = ap (stored_page q) (stays_one rs pages p q h k) ∙ k.stored; same = k.same }

pub stays : (rs : List Record) (pages : List (List ℕ)) (ps : List ℕ) (q : ℕ) → AllByRecursion (CanRedo rs pages) ps → IsAtRedo rs pages q → raw_page (redo_pages rs pages ps) q ≡ raw_page pages q
stays rs pages [] q all k = refl
stays rs pages (p ∷ ps) q all k =
    stays rs (redo_page rs pages p) ps q (all_after rs pages p ps all.0 all.1) (at_after rs pages p q all.0 k) ∙ stays_one rs pages p q all.0 k

-- the page that was just redone
pub at_redo : (rs : List Record) (pages : List (List ℕ)) (p : ℕ) → CanRedo rs pages p → IsAtRedo rs (redo_page rs pages p) p
at_redo rs pages p h = record { at = redone rs p h.at; stored = (step_of rs pages p h).here; same = redone_again rs p h.at }

-- redo of a page of these stored pages
abbrev pub redo_in : List Record → List (List ℕ) → ℕ → Option PageAt
redo_in rs pages q = redone_if rs q (stored_page q (raw_page pages q))

-- it stays
pub redo_kept : (rs : List Record) (pages : List (List ℕ)) (p q : ℕ) → CanRedo rs pages p → redo_in rs (redo_page rs pages p) q ≡ redo_in rs pages q
redo_kept rs pages p q h = one ((step_of rs pages p h).others q)
  where
    one : (q ≡ p) ⊎ (raw_page (redo_page rs pages p) q ≡ raw_page pages q) → redo_in rs (redo_page rs pages p) q ≡ redo_in rs pages q
    one (inr same) = ap (λ (raw : List ℕ). redone_if rs q (stored_page q raw)) same
    one (inl same) =
        ap (redo_in rs (redo_page rs pages p)) same
        ∙ ap (redone_if rs p) (step_of rs pages p h).here
        ∙ ap Some (redone_again rs p h.at)
        ∙ sym (ap (redone_if rs p) h.stored)
        ∙ ap (redo_in rs pages) (sym same)

-- each redone page is at its redo
pub settles : (rs : List Record) (pages : List (List ℕ)) (ps : List ℕ) → AllByRecursion (CanRedo rs pages) ps
    → AllByRecursion (λ p. (at : PageAt) × ((redo_in rs pages p ≡ Some at) × (stored_page p (raw_page (redo_pages rs pages ps) p) ≡ Ok at))) ps
settles rs pages ps all = more ps ps refl all
  where
    one : (p : ℕ) (qs : List ℕ) (old : List (List ℕ)) → CanRedo rs old p → AllByRecursion (CanRedo rs old) qs
        → (at : PageAt) × ((redo_in rs old p ≡ Some at) × (stored_page p (raw_page (redo_pages rs old (p ∷ qs)) p) ≡ Ok at))
    one p qs old h all = (
      redone rs p h.at,
      (
        ap (redone_if rs p) h.stored,
        ap (stored_page p) (stays rs (redo_page rs old p) qs p (all_after rs old p qs h all) (at_redo rs old p h)) ∙ (step_of rs old p h).here,
      ),
    )

    rest : (p : ℕ) (old final : List (List ℕ)) (qs : List ℕ) → CanRedo rs old p → AllByRecursion (λ q. (at : PageAt) × ((redo_in rs (redo_page rs old p) q ≡ Some at) × (stored_page q (raw_page final q) ≡ Ok at))) qs
        → AllByRecursion (λ q. (at : PageAt) × ((redo_in rs old q ≡ Some at) × (stored_page q (raw_page final q) ≡ Ok at))) qs
    rest p old final [] h all = tt
    rest p old final (q ∷ qs) h all = ((all.0.0, (sym (redo_kept rs old p q h) ∙ all.0.1.0, all.0.1.1)), rest p old final qs h all.1)

    go : (old : List (List ℕ)) (qs : List ℕ) → AllByRecursion (CanRedo rs old) qs
        → AllByRecursion (λ p. (at : PageAt) × ((redo_in rs old p ≡ Some at) × (stored_page p (raw_page (redo_pages rs old qs) p) ≡ Ok at))) qs
    go old [] all = tt
    go old (p ∷ qs) all = (one p qs old all.0 all.1, rest p old (redo_pages rs old (p ∷ qs)) qs all.0 (go (redo_page rs old p) qs (all_after rs old p qs all.0 all.1)))

    more : (qs ps : List ℕ) → qs ≡ ps → AllByRecursion (CanRedo rs pages) qs → AllByRecursion (λ p. (at : PageAt) × ((redo_in rs pages p ≡ Some at) × (stored_page p (raw_page (redo_pages rs pages ps) p) ≡ Ok at))) qs
    more qs ps same all = subst (λ (rs' : List ℕ). AllByRecursion (λ p. (at : PageAt) × ((redo_in rs pages p ≡ Some at) × (stored_page p (raw_page (redo_pages rs pages rs') p) ≡ Ok at))) qs) same (go pages qs all)

-- the pages that a redo leaves, also where it fails
pub ran_told : (rs : List Record) (by : ℕ) (ps : List ℕ) (pages : List (List ℕ)) (stops : Stops) (new : Pages) (left : Stops) (r : Result ⊤ Call) → Ran rs by ps pages stops new left r → (l : List (List ℕ)) × (new ≡ Some l)
ran_told rs by [] pages stops new left r ran = (pages, ran.0)
ran_told rs by (p ∷ ps) pages stops new left r (inl read) = (pages, read.pages_same)
ran_told rs by (p ∷ ps) pages stops new left r (inr (inl fails)) = one (page_write rs pages p) fails
  where
    either : (bytes : List ℕ) → (new ≡ Some pages) ⊎ (new ≡ Some (slice_set pages p bytes)) → (l : List (List ℕ)) × (new ≡ Some l)
    either bytes (inl e) = (pages, e)
    either bytes (inr e) = (slice_set pages p bytes, e)

    one : (w : Option (List ℕ)) → FailsAt by p w pages stops new left r → (l : List (List ℕ)) × (new ≡ Some l)
    one None f = absurd f
    one (Some bytes) f = either bytes f.torn
ran_told rs by (p ∷ ps) pages stops new left r (inr (inr goes)) = ran_told rs by ps (redo_page rs pages p) (stops_after by (page_write rs pages p) stops) new left r goes.1

pub ran_ok : (rs : List Record) (by : ℕ) (ps : List ℕ) (pages : List (List ℕ)) (stops : Stops) (new : Pages) (left : Stops) (u : ⊤) → Ran rs by ps pages stops new left (Ok u) → new ≡ Some (redo_pages rs pages ps)
ran_ok rs by [] pages stops new left u ran = ran.0
ran_ok rs by (p ∷ ps) pages stops new left u (inl read) = absurd read.failed
ran_ok rs by (p ∷ ps) pages stops new left u (inr (inl fails)) = one (page_write rs pages p) fails
  where
    one : (w : Option (List ℕ)) → FailsAt by p w pages stops new left (Ok u) → new ≡ Some (redo_pages rs pages (p ∷ ps))
    one None f = absurd f
    one (Some bytes) f = let bad = f.failed in absurd (cc)
ran_ok rs by (p ∷ ps) pages stops new left u (inr (inr goes)) = ran_ok rs by ps (redo_page rs pages p) (stops_after by (page_write rs pages p) stops) new left u goes.1

-- a failed write leaves the pages as they were, or as they are after the redo of its page
fails_either : (rs : List Record) (by p : ℕ) (pages : List (List ℕ)) (stops : Stops) (new : Pages) (left : Stops) (r : Result ⊤ Call) → FailsAt by p (page_write rs pages p) pages stops new left r
    → (new ≡ Some pages) ⊎ (new ≡ Some (redo_page rs pages p))
fails_either rs by p pages stops new left r fails = one (page_write rs pages p) fails
  where
    one : (w : Option (List ℕ)) → FailsAt by p w pages stops new left r → (new ≡ Some pages) ⊎ (new ≡ Some (with_write p w pages))
    one None f = absurd f
    one (Some bytes) f = f.torn

-- after the redo of one page each page is as before, or as it is at the end
step_either : (rs : List Record) (p : ℕ) (ps : List ℕ) (pages : List (List ℕ)) → CanRedo rs pages p → AllByRecursion (CanRedo rs pages) ps → AreEither (redo_page rs pages p) pages (redo_pages rs pages (p ∷ ps))
step_either rs p ps pages h all = λ q. one q ((step_of rs pages p h).others q)
  where
    own : raw_page (redo_page rs pages p) p ≡ raw_page (redo_pages rs pages (p ∷ ps)) p
    own = sym (stays rs (redo_page rs pages p) ps p (all_after rs pages p ps h all) (at_redo rs pages p h))

    one : (q : ℕ) → (q ≡ p) ⊎ (raw_page (redo_page rs pages p) q ≡ raw_page pages q)
        → (raw_page (redo_page rs pages p) q ≡ raw_page pages q) ⊎ (raw_page (redo_page rs pages p) q ≡ raw_page (redo_pages rs pages (p ∷ ps)) q)
    one q (inr same) = inl same
    one q (inl same) = inr (subst (λ (k : ℕ). raw_page (redo_page rs pages p) k ≡ raw_page (redo_pages rs pages (p ∷ ps)) k) (sym same) own)

pub ran_either : (rs : List Record) (by : ℕ) (ps : List ℕ) (pages : List (List ℕ)) (stops : Stops) (new : Pages) (left : Stops) (r : Result ⊤ Call) (l : List (List ℕ)) → AllByRecursion (CanRedo rs pages) ps
    → Ran rs by ps pages stops new left r → new ≡ Some l → AreEither l pages (redo_pages rs pages ps)
ran_either rs by [] pages stops new left r l all ran told = let same : l ≡ pages = let both : Some l ≡ Some pages = sym told ∙ ran.0 in cc in λ q. inl (ap (λ (ls : List (List ℕ)). raw_page ls q) same)
ran_either rs by (p ∷ ps) pages stops new left r l all (inl read) told = let same : l ≡ pages = let both : Some l ≡ Some pages = sym told ∙ read.pages_same in cc in λ q. inl (ap (λ (ls : List (List ℕ)). raw_page ls q) same)
ran_either rs by (p ∷ ps) pages stops new left r l all (inr (inl fails)) told = one (fails_either rs by p pages stops new left r fails)
  where
    one : (new ≡ Some pages) ⊎ (new ≡ Some (redo_page rs pages p)) → AreEither l pages (redo_pages rs pages (p ∷ ps))
    one (inl e) = let same : l ≡ pages = let both : Some l ≡ Some pages = sym told ∙ e in cc in λ q. inl (ap (λ (ls : List (List ℕ)). raw_page ls q) same)
    one (inr e) =
        let same : l ≡ redo_page rs pages p = let both : Some l ≡ Some (redo_page rs pages p) = sym told ∙ e in cc in
        subst (λ (ls : List (List ℕ)). AreEither ls pages (redo_pages rs pages (p ∷ ps))) (sym same) (step_either rs p ps pages all.0 all.1)
ran_either rs by (p ∷ ps) pages stops new left r l all (inr (inr goes)) told =
    let rest = ran_either rs by ps (redo_page rs pages p) (stops_after by (page_write rs pages p) stops) new left r l (all_after rs pages p ps all.0 all.1) goes.1 told in
    λ q. one q (step_either rs p ps pages all.0 all.1 q) (rest q)
  where
    one : (q : ℕ) → (raw_page (redo_page rs pages p) q ≡ raw_page pages q) ⊎ (raw_page (redo_page rs pages p) q ≡ raw_page (redo_pages rs pages (p ∷ ps)) q)
        → (raw_page l q ≡ raw_page (redo_page rs pages p) q) ⊎ (raw_page l q ≡ raw_page (redo_pages rs pages (p ∷ ps)) q)
        → (raw_page l q ≡ raw_page pages q) ⊎ (raw_page l q ≡ raw_page (redo_pages rs pages (p ∷ ps)) q)
    one q a (inr e) = inr e
    one q (inl a) (inl e) = inl (e ∙ a)
    one q (inr a) (inl e) = inr (e ∙ a)

pub ran_redo : (rs : List Record) (by : ℕ) (ps : List ℕ) (pages : List (List ℕ)) (stops : Stops) (new : Pages) (left : Stops) (r : Result ⊤ Call) (l : List (List ℕ)) (q : ℕ) → AllByRecursion (CanRedo rs pages) ps
    → Ran rs by ps pages stops new left r → new ≡ Some l → redo_in rs l q ≡ redo_in rs pages q
ran_redo rs by [] pages stops new left r l q all ran told = let same : l ≡ pages = let both : Some l ≡ Some pages = sym told ∙ ran.0 in cc in ap (λ (ls : List (List ℕ)). redo_in rs ls q) same
ran_redo rs by (p ∷ ps) pages stops new left r l q all (inl read) told = let same : l ≡ pages = let both : Some l ≡ Some pages = sym told ∙ read.pages_same in cc in ap (λ (ls : List (List ℕ)). redo_in rs ls q) same
ran_redo rs by (p ∷ ps) pages stops new left r l q all (inr (inl fails)) told = one (fails_either rs by p pages stops new left r fails)
  where
    one : (new ≡ Some pages) ⊎ (new ≡ Some (redo_page rs pages p)) → redo_in rs l q ≡ redo_in rs pages q
    one (inl e) = let same : l ≡ pages = let both : Some l ≡ Some pages = sym told ∙ e in cc in ap (λ (ls : List (List ℕ)). redo_in rs ls q) same
    one (inr e) =
        let same : l ≡ redo_page rs pages p = let both : Some l ≡ Some (redo_page rs pages p) = sym told ∙ e in cc in
        ap (λ (ls : List (List ℕ)). redo_in rs ls q) same ∙ redo_kept rs pages p q all.0
ran_redo rs by (p ∷ ps) pages stops new left r l q all (inr (inr goes)) told =
    ran_redo rs by ps (redo_page rs pages p) (stops_after by (page_write rs pages p) stops) new left r l q (all_after rs pages p ps all.0 all.1) goes.1 told ∙ redo_kept rs pages p q all.0

-- a page that isn't listed stays
stays_other : (rs : List Record) (pages : List (List ℕ)) (ps : List ℕ) (q : ℕ) → AllByRecursion (CanRedo rs pages) ps → AllByRecursion (λ p. p ≢ q) ps → raw_page (redo_pages rs pages ps) q ≡ raw_page pages q
stays_other rs pages [] q all apart = refl
stays_other rs pages (p ∷ ps) q all apart = stays_other rs (redo_page rs pages p) ps q (all_after rs pages p ps all.0 all.1) apart.1 ∙ one ((step_of rs pages p all.0).others q)
  where
    one : (q ≡ p) ⊎ (raw_page (redo_page rs pages p) q ≡ raw_page pages q) → raw_page (redo_page rs pages p) q ≡ raw_page pages q
    one (inl same) = absurd (apart.0 (sym same))
    one (inr same) = same

pub other_stays : (rs : List Record) (l pages : List (List ℕ)) (ps : List ℕ) (q : ℕ) → AllByRecursion (CanRedo rs pages) ps → AllByRecursion (λ p. p ≢ q) ps → AreEither l pages (redo_pages rs pages ps) → raw_page l q ≡ raw_page pages q
other_stays rs l pages ps q all apart either = one (either q)
  where
    one : (raw_page l q ≡ raw_page pages q) ⊎ (raw_page l q ≡ raw_page (redo_pages rs pages ps) q) → raw_page l q ≡ raw_page pages q
    one (inl same) = same
    one (inr same) = same ∙ stays_other rs pages ps q all apart

-- the same of a disk
pub redo_own : (c : Sizes) (d : Disk) (q : ℕ) → redo c d q ≡ redo_in (all_records c d) d.pages q
unfolding redo
redo_own c d q = refl

pub stored_on : (c : Sizes) (d : Disk) (final : List (List ℕ)) (ps : List ℕ) → AllByRecursion (λ p. (at : PageAt) × ((redo_in (all_records c d) d.pages p ≡ Some at) × (stored_page p (raw_page final p) ≡ Ok at))) ps
    → AllByRecursion (IsStored c d final) ps
stored_on c d final [] all = tt
stored_on c d final (p ∷ ps) all = ((all.0.0, (redo_own c d p ∙ all.0.1.0, all.0.1.1)), stored_on c d final ps all.1)

pub redo_on : (c : Sizes) (d : Disk) (l : List (List ℕ)) (q : ℕ) → redo c (with_pages d l) q ≡ redo_in (all_records c d) l q
unfolding redo
redo_on c d l q = ap (λ (rs : List Record). redone_if rs q (stored_page q (raw_page l q))) (records_of_logs c (with_pages d l) d (count_from 0 c.nodes) refl)

-- each listed page is at its redo at the end
pub last_stored : (c : Sizes) (d : Disk) (l : List (List ℕ)) (ps : List ℕ) → Some l ≡ Some (redo_pages (all_records c d) d.pages ps) → AllByRecursion (CanRedo (all_records c d) d.pages) ps → AllByRecursion (IsStored c d l) ps
last_stored c d l ps told can =
    let same : redo_pages (all_records c d) d.pages ps ≡ l = cc in
    subst (λ (ls : List (List ℕ)). AllByRecursion (IsStored c d ls) ps) same (stored_on c d (redo_pages (all_records c d) d.pages ps) ps (settles (all_records c d) d.pages ps can))
