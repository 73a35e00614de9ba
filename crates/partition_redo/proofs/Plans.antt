-- Plans: listed pages, and the chains that lead them to their redo.
use Rattle.std.proofs.Common.{inl, inr, ◌≡◌, refl, sym, ap, subst, ◌∙◌, ℕ, zero, suc, ◌+◌, ◌-◌, ◌^◌, ◌<◌, ◌≤◌, Bool, true, false, ◌==◌, not, List, [], ◌∷◌, ◌++◌, length, map, slice_index, Option, Some, None, is_some, Ok, arith, cond}
use Rattle.std.specs.Prelude.{◌⊎◌, IfOk}
use Rattle.std.specs.List.{AllByRecursion}
use Rattle.std.proofs.lemmas.Bool.Decides.{nat_tests}
use Rattle.pcl_base.specs.Limits.{Sizes}
use Rattle.text_rules.specs.LogRecord.{records_of}
use Rattle.text_rules.specs.StoredPage.{PageAt, stored_page}
use Rattle.run_rules.specs.Disk.{Disk, raw_page, log_at}
use Rattle.run_rules.specs.Views.{count_from}
use Rattle.run_rules.specs.Redo.{entries_of, records_in, newest_image, ranges_at, redo}
use Rattle.redo_laws.specs.Words.{entries}
use Rattle.redo_laws.proofs.Pages.{redone_by}
use Rattle.redo_laws.proofs.Changes.{redo_is}
use Rattle.redo_laws.proofs.Disks.{entries_append}
use Rattle.redo_log.specs.Placed.{Placed, placed_of}
use Rattle.partition_redo.specs.declared.site.Site.{Site}
use Rattle.partition_redo.specs.declared.site.Base.{Base}
use Rattle.partition_redo.specs.declared.site.Chain.{Chain}
use Rattle.partition_redo.specs.Index.{IndexView, base_of, ranges_of, known, known_logs}
use Rattle.partition_redo.specs.Chains.{AreAll, AreNext, AreLast, IsGiven, IsListed, IsChain, IsNewer, AreChains, IsRedone, image_sites, Leads}
use Rattle.partition_redo.proofs.Indexed.{AreRangesAt, IsImage, KnowsSome, entries_in}
use Rattle.partition_redo.proofs.Leading.{placed_entries, knows_logs, next_rises, chain_leads}

-- one more pair
pub are_more : {X Y : Type 0} (P : X → Y → Type 0) (xs : List X) (ys : List Y) (x : X) (y : Y) → AreAll P xs ys → P x y → AreAll P (xs ++ x ∷ []) (ys ++ y ∷ [])
are_more P [] [] x y all here = (here, tt)
are_more P [] (z ∷ ys) x y all here = absurd all
are_more P (w ∷ xs) [] x y all here = absurd all
are_more P (w ∷ xs) (z ∷ ys) x y all here = (all.0, are_more P xs ys x y all.1 here)

-- the page that was just listed, and those before it
pub listed_here : (d : Disk) (i j : IndexView) (page version : ℕ) (at : PageAt) → stored_page page (raw_page d.pages page) ≡ Ok at → at.version ≡ version
    → ((p : ℕ) → base_of j p ≡ cond (page == p) (Some (record { version = version; image = None })) (base_of i p)) → IsListed d j page
listed_here d i j page version at stored same bases =
    let own : (page == page) ≡ true = grind (arith, nat_tests) in
    record {
      at = at;
      stored = stored;
      base =
          bases page
          ∙ ap (λ (b : Bool). cond b (Some (let x : Base = record { version = version; image = None } in x)) (base_of i page)) own
          ∙ ap (λ (v : ℕ). Some (let x : Base = record { version = v; image = None } in x)) (sym same);
    }

pub listed_before : (d : Disk) (i j : IndexView) (page p version : ℕ) (at : PageAt) → stored_page page (raw_page d.pages page) ≡ Ok at → at.version ≡ version
    → ((q : ℕ) → base_of j q ≡ cond (page == q) (Some (record { version = version; image = None })) (base_of i q)) → IsListed d i p → IsListed d j p
listed_before d i j page p version at stored same bases before = one (page == p) refl
  where
    one : (b : Bool) → (page == p) ≡ b → IsListed d j p
    one true is =
        let own : page ≡ p = grind (arith, nat_tests) in
        subst (IsListed d j) own (listed_here d i j page version at stored same bases)
    one false is =
        record {
          at = before.at;
          stored = before.stored;
          base =
              bases p
              ∙ ap (λ (b : Bool). cond b (Some (let x : Base = record { version = version; image = None } in x)) (base_of i p)) is
              ∙ before.base;
        }

-- versions of entries
entry_versions : (p w : ℕ) (xs : List Placed) → AllByRecursion (λ x. x.entry.version < w) xs → AllByRecursion (λ x. x.version < w) (entries_in p xs)
entry_versions p w [] h = tt
entry_versions p w (x ∷ xs) h = one (x.entry.page == p) refl (entry_versions p w xs h.1)
  where
    one : (b : Bool) → (x.entry.page == p) ≡ b → AllByRecursion (λ x. x.version < w) (entries_in p xs) → AllByRecursion (λ x. x.version < w) (entries_in p (x ∷ xs))
    one true is rest = rw is (h.0, rest)
    one false is rest = rw is rest

all_joined : {X : Type 0} (P : X → Type 0) (xs ys : List X) → AllByRecursion P xs → AllByRecursion P ys → AllByRecursion P (xs ++ ys)
all_joined P [] ys h g = g
all_joined P (x ∷ xs) ys h g = (h.0, all_joined P xs ys h.1 g)

record_versions : (c : Sizes) (d : Disk) (p w : ℕ) (ns : List ℕ) → AllByRecursion (λ n. AllByRecursion (λ x. x.entry.version < w) (placed_of c (log_at d n))) ns → AllByRecursion (λ x. x.version < w) (entries_of p (records_in c d ns))
unfolding records_in entries_of
record_versions c d p w [] h = tt
record_versions c d p w (n ∷ ns) h =
    subst (AllByRecursion (λ x. x.version < w)) (sym (entries_append p (records_of c (log_at d n)) (records_in c d ns)))
    (all_joined _ (entries_of p (records_of c (log_at d n))) (entries_of p (records_in c d ns))
    (subst (AllByRecursion (λ x. x.version < w)) (placed_entries c (log_at d n) p) (entry_versions p w (placed_of c (log_at d n)) h.0)) (record_versions c d p w ns h.1))

pub count_all : (P : ℕ → Type 0) (a k : ℕ) → ((n : ℕ) → n < a + k → P n) → AllByRecursion P (count_from a k)
unfolding count_from
count_all P a zero h = tt
count_all P a (suc k) h = (h a (omega arith), count_all P (a + 1) k (λ n less. h n (omega arith)))

-- what an index of all logs knows
pub record IsFull (c : Sizes) (d : Disk) (i j : IndexView) : Type 0 where
  pub known_is : (p v : ℕ) → known j p v ≡ known_logs c d p v (count_from 0 c.nodes) (known i p v)
  pub none_yet : (p v : ℕ) → ranges_of i p v ≡ None
  pub versions : (n : ℕ) → n < c.nodes → AllByRecursion (λ x. x.entry.version < 2 ^ 64) (placed_of c (log_at d n))

known_some : (c : Sizes) (d : Disk) (i j : IndexView) (p : ℕ) (h : IsListed d i p) → IsFull c d i j → KnowsSome c d h.at (entries c d p) (λ v. known j p v)
unfolding ranges_at
known_some c d i j p h full =
    let first : Base = record { version = h.at.version; image = None } in
    let start : KnowsSome c d h.at [] (λ v. known i p v) =
    record {
      newest = first;
      knows = record {
        base = λ v. h.base;
        version = refl;
        image = refl;
        least = omega arith;
        above = λ e. absurd (cc);
        ranges = λ v less. subst (λ (o : Option Site). AreRangesAt c d o None) (sym (full.none_yet p v)) tt;
      };
    } in
    let nodes = count_all (λ n. n < c.nodes) 0 c.nodes (λ n less. let r : n < c.nodes = omega arith in r) in
    let all = knows_logs c d p h.at (count_from 0 c.nodes) [] (λ v. known i p v) nodes start in
    let same : (λ (v : ℕ). known_logs c d p v (count_from 0 c.nodes) (known i p v)) ≡ (λ (v : ℕ). known j p v) = λ k v. sym (full.known_is p v) k in
    subst (KnowsSome c d h.at (entries c d p)) same all

-- the chain that such an index gives leads the page to its redo
pub given_is_chain : (c : Sizes) (d : Disk) (i j : IndexView) (p : ℕ) (x : Chain) → IsFull c d i j → IsListed d i p → IsGiven j p x → (x.page ≡ p) × IsChain c d x
given_is_chain c d i j p x full h given =
    let some = known_some c d i j p h full in
    let follows = given.follows some.newest (some.knows.base 0) in
    let all = record_versions c d p (2 ^ 64) (count_from 0 c.nodes) (count_all _ 0 c.nodes (λ n less. full.versions n (omega arith))) in
    let led = chain_leads c d (entries c d p) some.newest (λ v. known j p v) follows.more h.at x.version some.knows follows.next (ends follows.last all) in
    let leads = subst (λ (ss : List Site). Leads c d ss h.at.bytes (redone_by (entries c d p) h.at).bytes) (sym follows.sites_same) led.leads in (
      follows.page_same,
      record {
        old = h.at;
        new = redone_by (entries c d p) h.at;
        stored = subst (λ (q : ℕ). stored_page q (raw_page d.pages q) ≡ Ok h.at) (sym follows.page_same) h.stored;
        redone = subst (λ (q : ℕ). redo c d q ≡ Some (redone_by (entries c d p) h.at)) (sym follows.page_same) (redo_is c d p h.at h.stored);
        version = led.version;
        leads = λ newer. leads;
        fresh = λ none. fresh some.newest.image some.newest.version some.knows.version some.knows.image follows.more (sym follows.sites_same ∙ none) follows.next;
        small = given.small;
        fits = given.fits;
      },
    )
  where
    fresh : (o : Option Site) (v : ℕ) → v ≡ (newest_image h.at (entries c d p)).version → IsImage c d h.at (newest_image h.at (entries c d p)) v o → (ss : List Site) → image_sites o ++ ss ≡ []
        → AreNext (ranges_of j p) ss v x.version → x.version ≤ h.at.version
    fresh None v version image [] none next = let same = ap (λ (a : PageAt). a.version) image in omega arith
    fresh None v version image (s ∷ ss) none next = absurd (cc)
    fresh (Some s) v version image ss none next = absurd (cc)

    ends : AreLast j p x.version → AllByRecursion (λ y. y.version < 2 ^ 64) (entries c d p) → (ranges_of j p (x.version + 1) ≡ None) ⊎ ((x.version ≡ 2 ^ 64 - 1) × AllByRecursion (λ y. y.version < 2 ^ 64) (entries c d p))
    ends (inl none) all = inl none
    ends (inr big) all = inr (big, all)

-- and to a newer page, where it has entries
later : (j : IndexView) (p low v to : ℕ) (o : Option Site) (ss : List Site) → low ≤ v → (is_some o ≡ true → low < v) → AreNext (ranges_of j p) ss v to → not (length (image_sites o ++ ss) == 0) ≡ true → low < to
later j p low v to (Some s) ss least above next some = let first = above refl in let rises = next_rises (ranges_of j p) ss v to next in omega (arith, first, rises)
later j p low v to None [] least above next some = absurd (cc)
later j p low v to None (s ∷ ss) least above next some = let rises = next_rises (ranges_of j p) ss (v + 1) to next.1 in omega (arith, least, rises)

pub given_is_newer : (c : Sizes) (d : Disk) (i j : IndexView) (p : ℕ) (x : Chain) → IsFull c d i j → IsListed d i p → IsGiven j p x → IsNewer d x
given_is_newer c d i j p x full h given has =
    let some = known_some c d i j p h full in
    let follows = given.follows some.newest (some.knows.base 0) in
    let sites : not (length (image_sites some.newest.image ++ follows.more) == 0) ≡ true = sym (ap (λ (ss : List Site). not (length ss == 0)) follows.sites_same) ∙ has in
    let stored = subst (λ (q : ℕ). stored_page q (raw_page d.pages q) ≡ Ok h.at) (sym follows.page_same) h.stored in
    subst (λ r. IfOk r (λ old. old.version < x.version)) (sym stored)
    (later j p h.at.version some.newest.version x.version some.newest.image follows.more some.knows.least some.knows.above follows.next sites)

pub given_are_newer : (c : Sizes) (d : Disk) (i j : IndexView) (ps : List ℕ) (xs : List Chain) → IsFull c d i j → ((k : ℕ) → k < length ps → IsListed d i (slice_index ps k)) → AreAll (IsGiven j) ps xs → AllByRecursion (IsNewer d) xs
given_are_newer c d i j [] [] full h all = tt
given_are_newer c d i j [] (x ∷ xs) full h all = absurd all
given_are_newer c d i j (p ∷ ps) [] full h all = absurd all
given_are_newer c d i j (p ∷ ps) (x ∷ xs) full h all =
    (given_is_newer c d i j p x full (h 0 (omega arith)) all.0, given_are_newer c d i j ps xs full (λ k less. h (suc k) (omega arith)) all.1)

-- all listed pages
pub given_are_chains : (c : Sizes) (d : Disk) (i j : IndexView) (ps : List ℕ) (xs : List Chain) → IsFull c d i j → ((k : ℕ) → k < length ps → IsListed d i (slice_index ps k)) → AreAll (IsGiven j) ps xs → AreChains c d ps xs
given_are_chains c d i j [] [] full h all = tt
given_are_chains c d i j [] (x ∷ xs) full h all = absurd all
given_are_chains c d i j (p ∷ ps) [] full h all = absurd all
given_are_chains c d i j (p ∷ ps) (x ∷ xs) full h all =
    (given_is_chain c d i j p x full (h 0 (omega arith)) all.0, given_are_chains c d i j ps xs full (λ k less. h (suc k) (omega arith)) all.1)

-- their versions are those of redo
pub chains_redone : (c : Sizes) (d : Disk) (ps : List ℕ) (xs : List Chain) → AreChains c d ps xs → AreAll (IsRedone c d) ps (map (λ x. (x.page, x.version)) xs)
chains_redone c d [] [] all = tt
chains_redone c d [] (x ∷ xs) all = absurd all
chains_redone c d (p ∷ ps) [] all = absurd all
chains_redone c d (p ∷ ps) (x ∷ xs) all =
    let chain = all.0.1 in
    let own : redo c d p ≡ Some chain.new = subst (λ (q : ℕ). redo c d q ≡ Some chain.new) all.0.0 chain.redone in
    ((all.0.0, (chain.new, own, chain.version)), chains_redone c d ps xs all.1)

-- they name the pages of the chains
pub versions_named : (xs : List Chain) → map (λ (v : ℕ × ℕ). v.0) (map (λ x. (x.page, x.version)) xs) ≡ map (λ x. x.page) xs
versions_named [] = refl
versions_named (x ∷ xs) = ap (λ (ps : List ℕ). x.page ∷ ps) (versions_named xs)

-- chains of listed pages, and the pages
pub are_all_chains : (c : Sizes) (d : Disk) (ps : List ℕ) (xs : List Chain) → AreChains c d ps xs → AllByRecursion (IsChain c d) xs
are_all_chains c d [] [] all = tt
are_all_chains c d [] (x ∷ xs) all = absurd all
are_all_chains c d (p ∷ ps) [] all = absurd all
are_all_chains c d (p ∷ ps) (x ∷ xs) all = (all.0.1, are_all_chains c d ps xs all.1)

pub are_chains : (c : Sizes) (d : Disk) (ps : List ℕ) (xs : List Chain) → map (λ x. x.page) xs ≡ ps → AllByRecursion (IsChain c d) xs → AreChains c d ps xs
are_chains c d [] [] same all = tt
are_chains c d [] (x ∷ xs) same all = absurd (cc)
are_chains c d (p ∷ ps) [] same all = absurd (cc)
are_chains c d (p ∷ ps) (x ∷ xs) same all =
    let one : x.page ≡ p = cc in
    let rest : map (λ x. x.page) xs ≡ ps = cc in
    ((one, all.0), are_chains c d ps xs rest all.1)
