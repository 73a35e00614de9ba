-- What an index knows is what the entries of the page say.
use Rattle.std.proofs.Common.{◌≡◌, refl, sym, ap, subst, ◌∙◌, ℕ, ◌<◌, ◌≤◌, Bool, true, false, nat_lt, ◌==◌, ◌&&◌, not, List, [], ◌∷◌, ◌++◌, map, Option, Some, None, is_some, arith, append_assoc, append-nil}
use Rattle.std.specs.Prelude.{⊤}
use Rattle.std.specs.List.{filter, AllByRecursion}
use Rattle.std.proofs.lemmas.Bool.Decides.{nat_tests}
use Rattle.pcl_base.specs.Limits.{Sizes}
use Rattle.pcl_base.specs.declared.log.Logged.{Logged}
use Rattle.pcl_base.specs.declared.log.Part.{Part}
use Rattle.pcl_base.specs.declared.log.Part.TheVariants.{Image, Ranges}
use Rattle.pcl_base.specs.declared.log.ChangedRange.{ChangedRange}
use Rattle.text_rules.specs.LogRecord.{is_whole}
use Rattle.text_rules.specs.StoredPage.{PageAt}
use Rattle.run_rules.specs.Words.{pick}
use Rattle.run_rules.specs.Disk.{Disk}
use Rattle.run_rules.specs.Redo.{newer, newest_image, ranges_or, ranges_at}
use Rattle.redo_laws.proofs.Images.{newest_append, newer_no, newer_yes}
use Rattle.redo_log.specs.Placed.{Placed, seen_of}
use Rattle.partition_redo.specs.declared.site.Site.{Site}
use Rattle.partition_redo.specs.declared.site.Base.{Base}
use Rattle.partition_redo.specs.Index.{Known, site_of, or_else, next_base, next_ranges, next_known, known_all}
use Rattle.partition_redo.specs.Chains.{Stands}

-- the newest whole page is the stored one, or stands in a log
abbrev pub IsImage : Sizes → Disk → PageAt → PageAt → ℕ → Option Site → Type 0
IsImage c d at new version None = new ≡ at
IsImage c d at new version (Some s) =
    (x : Logged) × (bytes : List ℕ) × Stands c d s x × (x.part ≡ Image bytes) × (new ≡ (let page : PageAt = record { version = version; bytes = bytes } in page))

-- the first changed ranges of a version, where there are some
abbrev pub AreRangesAt : Sizes → Disk → Option Site → Option (List ChangedRange) → Type 0
AreRangesAt c d None None = ⊤
AreRangesAt c d None (Some rs) = ⊥
AreRangesAt c d (Some s) None = ⊥
AreRangesAt c d (Some s) (Some rs) = (x : Logged) × Stands c d s x × (x.part ≡ Ranges rs)

-- what is known of a page once the entries xs of it were seen
pub record Knows (c : Sizes) (d : Disk) (at : PageAt) (xs : List Logged) (b : Base) (k : ℕ → Known) : Type 0 where
  pub base : (v : ℕ) → (k v).base ≡ Some b
  pub version : b.version ≡ (newest_image at xs).version
  pub image : IsImage c d at (newest_image at xs) b.version b.image
  pub least : at.version ≤ b.version
  pub above : is_some b.image ≡ true → at.version < b.version
  pub ranges : (v : ℕ) → b.version < v → AreRangesAt c d (k v).ranges (ranges_at xs v)

ranges_or_else : (b : Bool) (p : Part) (o r : Option (List ChangedRange)) → ranges_or b p (or_else o r) ≡ or_else (ranges_or b p o) r
ranges_or_else true (Image bytes) o r = refl
ranges_or_else true (Ranges rs) o r = refl
ranges_or_else false p o r = refl

-- one more entry
ranges_last : (xs : List Logged) (x : Logged) (v : ℕ) → ranges_at (xs ++ x ∷ []) v ≡ or_else (ranges_at xs v) (ranges_or (x.version == v) x.part None)
unfolding ranges_at
ranges_last [] x v = refl
ranges_last (y ∷ xs) x v =
    ap (λ (o : Option (List ChangedRange)). ranges_or (y.version == v) y.part o) (ranges_last xs x v)
    ∙ ranges_or_else (y.version == v) y.part (ranges_at xs v) (ranges_or (x.version == v) x.part None)

ranges_known : (c : Sizes) (d : Disk) (o : Option Site) (r : Option (List ChangedRange)) (s : Site) (x : Logged) (b : Bool) (p : Part) → x.part ≡ p → Stands c d s x → AreRangesAt c d o r
    → AreRangesAt c d (or_else o (pick (b && not (is_whole p)) (Some s) None)) (or_else r (ranges_or b p None))
ranges_known c d None None s x true (Image bytes) is stands h = tt
ranges_known c d None None s x true (Ranges rs) is stands h = (x, stands, is)
ranges_known c d None None s x false p is stands h = tt
ranges_known c d None (Some rs) s x b p is stands h = absurd h
ranges_known c d (Some t) None s x b p is stands h = absurd h
ranges_known c d (Some t) (Some rs) s x b p is stands h = h

tests_same : (g e l w : Bool) → g ≡ true → (e ≡ true → l ≡ true) → (g && e && l && w) ≡ (e && w)
tests_same false e l w is then = absurd (cc)
tests_same true true true w is then = refl
tests_same true true false w is then = absurd (let bad = then refl in cc)
tests_same true false l w is then = refl

or_none : {X : Type 0} (o : Option X) → or_else o None ≡ o
or_none None = refl
or_none (Some x) = refl

-- an entry of another page
other_ranges : (g e l w : Bool) (s : Site) (o : Option Site) → g ≡ false → or_else o (pick (g && e && l && w) (Some s) None) ≡ o
other_ranges true e l w s o is = absurd (cc)
other_ranges false e l w s o is = or_none o

other_base : (g l w : Bool) (a b : Base) → g ≡ false → pick (g && l && w) (Some a) (Some b) ≡ Some b
other_base true l w a b is = absurd (cc)
other_base false l w a b is = refl

knows_other : (c : Sizes) (d : Disk) (p n : ℕ) (at : PageAt) (xs : List Logged) (b : Base) (k : ℕ → Known) (x : Placed) → (x.entry.page == p) ≡ false → Knows c d at xs b k
    → Knows c d at xs b (λ v. next_known p v n (seen_of x) (k v))
knows_other c d p n at xs b k x other h =
    record {
      base = λ v. ap (next_base p n (seen_of x)) (h.base v) ∙ other_base (x.entry.page == p) _ _ _ b other;
      version = h.version;
      image = h.image;
      least = h.least;
      above = h.above;
      ranges = λ v less.
          let same : next_ranges p v n (seen_of x) (k v).base (k v).ranges ≡ (k v).ranges =
          ap (λ (o : Option Base). next_ranges p v n (seen_of x) o (k v).ranges) (h.base v) ∙ other_ranges (x.entry.page == p) _ _ _ _ (k v).ranges other in
          subst (λ (o : Option Site). AreRangesAt c d o (ranges_at xs v)) (sym same) (h.ranges v less);
    }

-- an entry of the page: changed ranges of each version above the newest whole page before it
own_ranges : (c : Sizes) (d : Disk) (p n v : ℕ) (at : PageAt) (xs : List Logged) (b : Base) (k : ℕ → Known) (x : Placed) → (x.entry.page == p) ≡ true → Stands c d (site_of n (seen_of x)) x.entry → Knows c d at xs b k
    → b.version < v → AreRangesAt c d (next_ranges p v n (seen_of x) (k v).base (k v).ranges) (ranges_at (xs ++ x.entry ∷ []) v)
own_ranges c d p n v at xs b k x own stands h less =
    let then = λ (e : (x.entry.version == v) ≡ true). let l : nat_lt b.version x.entry.version ≡ true = grind (arith, nat_tests) in l in
    let tests = tests_same (x.entry.page == p) (x.entry.version == v) (nat_lt b.version x.entry.version) (not (is_whole x.entry.part)) own then in
    let same : next_ranges p v n (seen_of x) (k v).base (k v).ranges ≡ or_else (k v).ranges (pick (x.entry.version == v && not (is_whole x.entry.part)) (Some (site_of n (seen_of x))) None) =
    ap (λ (o : Option Base). next_ranges p v n (seen_of x) o (k v).ranges) (h.base v)
    ∙ ap (λ (t : Bool). or_else (k v).ranges (pick t (Some (site_of n (seen_of x))) None)) tests in
    subst (λ (o : Option Site). AreRangesAt c d o (ranges_at (xs ++ x.entry ∷ []) v)) (sym same)
    (subst (AreRangesAt c d (or_else (k v).ranges (pick (x.entry.version == v && not (is_whole x.entry.part)) (Some (site_of n (seen_of x))) None))) (sym (ranges_last xs x.entry v))
    (ranges_known c d (k v).ranges (ranges_at xs v) (site_of n (seen_of x)) x.entry (x.entry.version == v) x.entry.part refl stands (h.ranges v less)))

-- the newest whole page stays
kept_base : (g l w : Bool) (a b : Base) → (l && w) ≡ false → pick (g && l && w) (Some a) (Some b) ≡ Some b
kept_base true true true a b is = absurd (cc)
kept_base true true false a b is = refl
kept_base true false w a b is = refl
kept_base false l w a b is = refl

newest_last : (at : PageAt) (xs : List Logged) (x : Logged) → newest_image at (xs ++ x ∷ []) ≡ newer x.version (newest_image at xs) x.part
newest_last at xs x = newest_append at xs (x ∷ [])

knows_kept : (c : Sizes) (d : Disk) (p n : ℕ) (at : PageAt) (xs : List Logged) (b : Base) (k : ℕ → Known) (x : Placed) → (x.entry.page == p) ≡ true → Stands c d (site_of n (seen_of x)) x.entry → Knows c d at xs b k
    → (nat_lt b.version x.entry.version && is_whole x.entry.part) ≡ false → newest_image at (xs ++ x.entry ∷ []) ≡ newest_image at xs → Knows c d at (xs ++ x.entry ∷ []) b (λ v. next_known p v n (seen_of x) (k v))
knows_kept c d p n at xs b k x own stands h old same =
    record {
      base = λ v. ap (next_base p n (seen_of x)) (h.base v) ∙ kept_base (x.entry.page == p) (nat_lt b.version x.entry.version) (is_whole x.entry.part) _ b old;
      version = h.version ∙ ap (λ (a : PageAt). a.version) (sym same);
      image = subst (λ (a : PageAt). IsImage c d at a b.version b.image) (sym same) h.image;
      least = h.least;
      above = h.above;
      ranges = λ v less. own_ranges c d p n v at xs b k x own stands h less;
    }

knows_new : (c : Sizes) (d : Disk) (p n : ℕ) (at : PageAt) (xs : List Logged) (b : Base) (k : ℕ → Known) (x : Placed) (bytes : List ℕ) → (x.entry.page == p) ≡ true → Stands c d (site_of n (seen_of x)) x.entry → Knows c d at xs b k
    → nat_lt b.version x.entry.version ≡ true → x.entry.part ≡ Image bytes → Knows c d at (xs ++ x.entry ∷ []) (record { version = x.entry.version; image = Some (site_of n (seen_of x)) }) (λ v. next_known p v n (seen_of x) (k v))
knows_new c d p n at xs b k x bytes own stands h newer_one is =
    let version = h.version in
    let less : b.version < x.entry.version = grind (arith, nat_tests) in
    let made : newest_image at (xs ++ x.entry ∷ []) ≡ record { version = x.entry.version; bytes = bytes } =
    newest_last at xs x.entry ∙ ap (newer x.entry.version (newest_image at xs)) is ∙ newer_yes x.entry.version (newest_image at xs) bytes (omega arith) in
    let a : Base = record { version = x.entry.version; image = Some (site_of n (seen_of x)) } in
    record {
      base = λ v.
          ap (next_base p n (seen_of x)) (h.base v)
          ∙ ap (λ (t : Bool). pick (t && nat_lt b.version x.entry.version && is_whole x.entry.part) (Some a) (Some b)) own
          ∙ ap (λ (t : Bool). pick (true && t && is_whole x.entry.part) (Some a) (Some b)) newer_one
          ∙ ap (λ (q : Part). pick (true && true && is_whole q) (Some a) (Some b)) is;
      version = ap (λ (q : PageAt). q.version) (sym made);
      image = (x.entry, bytes, stands, is, made);
      least = (let low = h.least in omega (arith, low, less));
      above = λ e. (let low = h.least in omega (arith, low, less));
      ranges = λ v later. own_ranges c d p n v at xs b k x own stands h (omega arith);
    }

-- one more entry of any page
pub record KnowsSome (c : Sizes) (d : Disk) (at : PageAt) (xs : List Logged) (k : ℕ → Known) : Type 0 where
  pub newest : Base
  pub knows : Knows c d at xs newest k

knows_own : (c : Sizes) (d : Disk) (p n : ℕ) (at : PageAt) (xs : List Logged) (b : Base) (k : ℕ → Known) (x : Placed) → (x.entry.page == p) ≡ true → Stands c d (site_of n (seen_of x)) x.entry → Knows c d at xs b k
    → KnowsSome c d at (xs ++ x.entry ∷ []) (λ v. next_known p v n (seen_of x) (k v))
knows_own c d p n at xs b k x own stands h = one (nat_lt b.version x.entry.version) refl x.entry.part refl
  where
    and_false : (l w : Bool) → w ≡ false → (l && w) ≡ false
    and_false true w is = is
    and_false false w is = refl

    one : (l : Bool) → nat_lt b.version x.entry.version ≡ l → (q : Part) → x.entry.part ≡ q → KnowsSome c d at (xs ++ x.entry ∷ []) (λ v. next_known p v n (seen_of x) (k v))
    one true l (Image bytes) is = record { newest = _; knows = knows_new c d p n at xs b k x bytes own stands h l is }
    one false l q is =
        let version = h.version in
        let low : x.entry.version ≤ (newest_image at xs).version = grind (arith, nat_tests) in
        let old : (nat_lt b.version x.entry.version && is_whole x.entry.part) ≡ false = ap (λ (t : Bool). t && is_whole x.entry.part) l in
        record { newest = b; knows = knows_kept c d p n at xs b k x own stands h old (newest_last at xs x.entry ∙ newer_no x.entry.version (newest_image at xs) x.entry.part low) }
    one true l (Ranges rs) is =
        let part : is_whole x.entry.part ≡ false = ap is_whole is in
        record { newest = b; knows = knows_kept c d p n at xs b k x own stands h (and_false _ _ part) (newest_last at xs x.entry ∙ ap (newer x.entry.version (newest_image at xs)) is) }

-- the entries of a walk that are of the page
abbrev pub entries_in : ℕ → List Placed → List Logged
entries_in p xs = filter (λ x. x.page == p) (map (λ x. x.entry) xs)

pub knows_all : (c : Sizes) (d : Disk) (p n : ℕ) (at : PageAt) (ys : List Placed) (xs : List Logged) (k : ℕ → Known) → AllByRecursion (λ y. Stands c d (site_of n (seen_of y)) y.entry) ys → KnowsSome c d at xs k
    → KnowsSome c d at (xs ++ entries_in p ys) (λ v. known_all p v n ys (k v))
knows_all c d p n at [] xs k stands h = subst (λ (zs : List Logged). KnowsSome c d at zs k) (sym (append-nil xs)) h
knows_all c d p n at (y ∷ ys) xs k stands h = one (y.entry.page == p) refl (knows_all c d p n at ys)
  where
    one : (b : Bool) → (y.entry.page == p) ≡ b → ((zs : List Logged) (w : ℕ → Known) → AllByRecursion (λ z. Stands c d (site_of n (seen_of z)) z.entry) ys → KnowsSome c d at zs w → KnowsSome c d at (zs ++ entries_in p ys) (λ v. known_all p v n ys (w v)))
        → KnowsSome c d at (xs ++ entries_in p (y ∷ ys)) (λ v. known_all p v n (y ∷ ys) (k v))
    one true is rest =
        let first = knows_own c d p n at xs h.newest k y is stands.0 h.knows in
        let split : (xs ++ y.entry ∷ []) ++ entries_in p ys ≡ xs ++ entries_in p (y ∷ ys) = append_assoc xs (y.entry ∷ []) (entries_in p ys) ∙ rw is refl in
        subst (λ (zs : List Logged). KnowsSome c d at zs (λ v. known_all p v n (y ∷ ys) (k v))) split (rest (xs ++ y.entry ∷ []) (λ v. next_known p v n (seen_of y) (k v)) stands.1 first)
    one false is rest =
        let first : KnowsSome c d at xs (λ v. next_known p v n (seen_of y) (k v)) = record { newest = h.newest; knows = knows_other c d p n at xs h.newest k y is h.knows } in
        let split : xs ++ entries_in p ys ≡ xs ++ entries_in p (y ∷ ys) = rw is refl in
        subst (λ (zs : List Logged). KnowsSome c d at zs (λ v. known_all p v n (y ∷ ys) (k v))) split (rest xs (λ v. next_known p v n (seen_of y) (k v)) stands.1 first)
