-- The sites that an index knows are those of entries.
use Rattle.std.proofs.Common.{◌≡◌, refl, sym, ap, subst, ◌∙◌, ℕ, ◌+◌, ◌<◌, Bool, true, false, nat_lt, ◌==◌, ◌&&◌, not, List, [], ◌∷◌, ◌++◌, map, Option, Some, None, cond}
use Rattle.std.specs.Prelude.{⊤}
use Rattle.std.specs.List.{AllByRecursion}
use Rattle.pcl_base.specs.Limits.{Sizes}
use Rattle.pcl_base.specs.declared.log.Seen.{Seen}
use Rattle.run_rules.specs.Words.{pick}
use Rattle.run_rules.specs.Disk.{Disk, log_at}
use Rattle.redo_log.specs.Placed.{Placed, seen_of, placed_of}
use Rattle.partition_redo.specs.declared.site.Site.{Site}
use Rattle.partition_redo.specs.declared.site.Base.{Base}
use Rattle.partition_redo.specs.declared.site.Chain.{Chain}
use Rattle.partition_redo.specs.Index.{IndexView, Known, base_of, ranges_of, site_of, or_else, next_base, next_ranges, next_known, known, known_all, known_logs}
use Rattle.partition_redo.specs.Chains.{Stands, IsSite, AllStand, IsStoredOne, AreAll, AreNext, IsGiven, image_sites}
use Rattle.partition_redo.proofs.Leading.{all_stand}

-- a site, where there is one
abbrev pub IfSite : Sizes → Disk → Option Site → Type 0
IfSite c d None = ⊤
IfSite c d (Some s) = IsSite c d s

-- the site of a whole page, where there is one
abbrev pub IfImage : Sizes → Disk → Option Base → Type 0
IfImage c d None = ⊤
IfImage c d (Some b) = IfSite c d b.image

-- what is known of a page and a version
abbrev pub AreSites : Sizes → Disk → Known → Type 0
AreSites c d k = IfImage c d k.base × IfSite c d k.ranges

picked_base : (c : Sizes) (d : Disk) (t : Bool) (s : Site) (v : ℕ) (b : Base) → IsSite c d s → IfSite c d b.image → IfImage c d (pick t (Some (record { version = v; image = Some s })) (Some b))
picked_base c d true s v b here before = here
picked_base c d false s v b here before = before

picked_site : (c : Sizes) (d : Disk) (t : Bool) (s : Site) (o : Option Site) → IsSite c d s → IfSite c d o → IfSite c d (or_else o (pick t (Some s) None))
picked_site c d true s None here before = here
picked_site c d false s None here before = tt
picked_site c d t s (Some x) here before = before

next_sites : (c : Sizes) (d : Disk) (p v n : ℕ) (x : Seen) (b : Option Base) (o : Option Site) → IsSite c d (site_of n x) → IfImage c d b → IfSite c d o → IfImage c d (next_base p n x b) × IfSite c d (next_ranges p v n x b o)
next_sites c d p v n x None o here base ranges = (tt, ranges)
next_sites c d p v n x (Some b) o here base ranges = (
  picked_base c d (x.page == p && nat_lt b.version x.version && x.whole) (site_of n x) x.version b here base,
  picked_site c d (x.page == p && x.version == v && nat_lt b.version x.version && not x.whole) (site_of n x) o here ranges,
)

all_sites : (c : Sizes) (d : Disk) (p v n : ℕ) (xs : List Placed) (k : Known) → AllByRecursion (λ y. Stands c d (site_of n (seen_of y)) y.entry) xs → AreSites c d k → AreSites c d (known_all p v n xs k)
all_sites c d p v n [] k all h = h
all_sites c d p v n (x ∷ xs) k all h =
    all_sites c d p v n xs (next_known p v n (seen_of x) k) all.1 (next_sites c d p v n (seen_of x) k.base k.ranges (x.entry, all.0) h.0 h.1)

pub log_sites : (c : Sizes) (d : Disk) (p v : ℕ) (ns : List ℕ) (k : Known) → AllByRecursion (λ n. n < c.nodes) ns → AreSites c d k → AreSites c d (known_logs c d p v ns k)
log_sites c d p v [] k nodes h = h
log_sites c d p v (n ∷ ns) k nodes h =
    log_sites c d p v ns (known_all p v n (placed_of c (log_at d n)) k) nodes.1 (all_sites c d p v n (placed_of c (log_at d n)) k (all_stand c d n nodes.0) h)

-- a page that was listed
pub stored_one : (t : Bool) (v : ℕ) (o new : Option Base) → new ≡ cond t (Some (record { version = v; image = None })) o → IsStoredOne o → IsStoredOne new
stored_one t v o new is before = subst IsStoredOne (sym is) (one t)
  where
    one : (u : Bool) → IsStoredOne (cond u (Some (let x : Base = record { version = v; image = None } in x)) o)
    one true = refl
    one false = before

-- before the walks
pub first_sites : (c : Sizes) (d : Disk) (b : Option Base) (o : Option Site) → IsStoredOne b → o ≡ None → AreSites c d (record { base = b; ranges = o })
first_sites c d None None is none = (tt, tt)
first_sites c d (Some b) None is none = (subst (IfSite c d) (sym is) tt, tt)
first_sites c d b (Some s) is none = absurd (cc)

-- the sites of a chain
joined : {X : Type 0} (P : X → Type 0) (xs ys : List X) → AllByRecursion P xs → AllByRecursion P ys → AllByRecursion P (xs ++ ys)
joined P [] ys h g = g
joined P (x ∷ xs) ys h g = (h.0, joined P xs ys h.1 g)

image_site : (c : Sizes) (d : Disk) (o : Option Site) → IfSite c d o → AllByRecursion (IsSite c d) (image_sites o)
image_site c d None h = tt
image_site c d (Some s) h = (h, tt)

next_all : (c : Sizes) (d : Disk) (ranges : ℕ → Option Site) (ss : List Site) (v w : ℕ) → ((u : ℕ) → IfSite c d (ranges u)) → AreNext ranges ss v w → AllByRecursion (IsSite c d) ss
next_all c d ranges [] v w known next = tt
next_all c d ranges (s ∷ ss) v w known next = (subst (IfSite c d) next.0 (known (v + 1)), next_all c d ranges ss (v + 1) w known next.1)

given_sites : (c : Sizes) (d : Disk) (j : IndexView) (p : ℕ) (x : Chain) → ((v : ℕ) → AreSites c d (known j p v)) → IsGiven j p x → AllByRecursion (IsSite c d) x.sites
given_sites c d j p x known given = one (base_of j p) refl
  where
    one : (o : Option Base) → base_of j p ≡ o → AllByRecursion (IsSite c d) x.sites
    one None is = subst (AllByRecursion (IsSite c d)) (sym (given.none is)) tt
    one (Some b) is =
        let follows = given.follows b is in
        let image : IfSite c d b.image = subst (IfImage c d) is (known 0).0 in
        subst (AllByRecursion (IsSite c d)) (sym follows.sites_same)
        (joined (IsSite c d) (image_sites b.image) follows.more (image_site c d b.image image) (next_all c d (ranges_of j p) follows.more b.version x.version (λ u. (known u).1) follows.next))

pub given_stand : (c : Sizes) (d : Disk) (j : IndexView) (ps : List ℕ) (xs : List Chain) → ((p v : ℕ) → AreSites c d (known j p v)) → AreAll (IsGiven j) ps xs → AllStand c d xs
given_stand c d j [] [] known all = tt
given_stand c d j [] (x ∷ xs) known all = absurd all
given_stand c d j (p ∷ ps) [] known all = absurd all
given_stand c d j (p ∷ ps) (x ∷ xs) known all = (given_sites c d j p x (known p) all.0, given_stand c d j ps xs known all.1)

-- the pages of chains
pub given_pages : (j : IndexView) (ps : List ℕ) (xs : List Chain) → AreAll (IsGiven j) ps xs → map (λ x. x.page) xs ≡ ps
given_pages j [] [] all = refl
given_pages j [] (x ∷ xs) all = absurd all
given_pages j (p ∷ ps) [] all = absurd all
given_pages j (p ∷ ps) (x ∷ xs) all = ap (λ (q : ℕ). q ∷ map (λ x. x.page) xs) all.0.page ∙ ap (λ (qs : List ℕ). p ∷ qs) (given_pages j ps xs all.1)

pub pages_below : (n : ℕ) (ps : List ℕ) (xs : List Chain) → map (λ x. x.page) xs ≡ ps → AllByRecursion (λ p. p < n) ps → AllByRecursion (λ x. x.page < n) xs
pages_below n [] [] same all = tt
pages_below n [] (x ∷ xs) same all = absurd (cc)
pages_below n (p ∷ ps) [] same all = absurd (cc)
pages_below n (p ∷ ps) (x ∷ xs) same all =
    let one : x.page ≡ p = cc in
    let rest : map (λ x. x.page) xs ≡ ps = cc in
    (subst (λ (q : ℕ). q < n) (sym one) all.0, pages_below n ps xs rest all.1)
