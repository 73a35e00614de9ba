-- An index of all logs leads each listed page from its stored page to its redo.
use Rattle.std.proofs.Common.{inl, inr, ◌≡◌, refl, sym, ap, subst, ◌∙◌, ℕ, suc, ◌+◌, ◌-◌, ◌^◌, ◌<◌, ◌≤◌, Bool, true, false, ◌==◌, List, [], ◌∷◌, ◌++◌, length, Option, Some, None, All, arith, append_assoc, append-nil}
use Rattle.std.specs.Prelude.{◌⊎◌}
use Rattle.std.specs.List.{filter, AllByRecursion, Contains}
use Rattle.std.proofs.lemmas.Bool.Decides.{nat_tests}
use Rattle.std.proofs.lemmas.List.Elements.{All-contains_itself}
use Rattle.pcl_base.specs.Limits.{Sizes}
use Rattle.pcl_base.specs.declared.log.Record.{Record}
use Rattle.pcl_base.specs.declared.log.Logged.{Logged}
use Rattle.pcl_base.specs.declared.log.Part.{Part}
use Rattle.pcl_base.specs.declared.log.ChangedRange.{ChangedRange}
use Rattle.text_rules.specs.ChangedRanges.{put_ranges}
use Rattle.text_rules.specs.LogRecord.{logged_bytes, record_bytes, records_of}
use Rattle.text_rules.specs.StoredPage.{PageAt}
use Rattle.run_rules.specs.Disk.{Disk, log_at}
use Rattle.run_rules.specs.Redo.{entries_of, records_in, newest_image, ranges_or, ranges_at, reached}
use Rattle.redo_laws.proofs.Disks.{entries_append}
use Rattle.redo_laws.proofs.Chains.{above_most, reached_zero, reached_some, reached_stays, reached_rest}
use Rattle.redo_laws.proofs.Pages.{redone_by}
use Rattle.redo_log.specs.Placed.{Placed, seen_of, placed_in, placed_from, placed_of}
use Rattle.redo_log.specs.Applied.{with_part}
use Rattle.partition_redo.specs.declared.site.Site.{Site}
use Rattle.partition_redo.specs.declared.site.Base.{Base}
use Rattle.partition_redo.specs.Index.{Known, site_of, known_all, known_logs}
use Rattle.partition_redo.specs.Chains.{Stands, Leads, AreNext, image_sites}
use Rattle.partition_redo.proofs.Indexed.{AreRangesAt, IsImage, Knows, KnowsSome, entries_in, knows_all}

-- the entries of a walk are those of the records
entries_joined : (p : ℕ) (xs ys : List Placed) → entries_in p (xs ++ ys) ≡ entries_in p xs ++ entries_in p ys
entries_joined p [] ys = refl
entries_joined p (x ∷ xs) ys = one (x.entry.page == p) refl (entries_joined p xs ys)
  where
    one : (b : Bool) → (x.entry.page == p) ≡ b → entries_in p (xs ++ ys) ≡ entries_in p xs ++ entries_in p ys → entries_in p ((x ∷ xs) ++ ys) ≡ entries_in p (x ∷ xs) ++ entries_in p ys
    one true is rest = rw is (ap (λ (zs : List Logged). x.entry ∷ zs) rest)
    one false is rest = rw is rest

entries_in_record : (p start end place : ℕ) (xs : List Logged) → entries_in p (placed_in start end place xs) ≡ filter (λ x. x.page == p) xs
entries_in_record p start end place [] = refl
entries_in_record p start end place (x ∷ xs) = one (x.page == p) refl (entries_in_record p start end (place + length (logged_bytes x)) xs)
  where
    one : (b : Bool) → (x.page == p) ≡ b → entries_in p (placed_in start end (place + length (logged_bytes x)) xs) ≡ filter (λ y. y.page == p) xs
        → entries_in p (placed_in start end place (x ∷ xs)) ≡ filter (λ y. y.page == p) (x ∷ xs)
    one true is rest = rw is (ap (λ (zs : List Logged). x ∷ zs) rest)
    one false is rest = rw is rest

entries_from : (p place : ℕ) (rs : List Record) → entries_in p (placed_from place rs) ≡ entries_of p rs
unfolding entries_of
entries_from p place [] = refl
entries_from p place (r ∷ rs) =
    let rest : List Placed = placed_from (place + length (record_bytes r)) rs in
    entries_joined p (placed_in place (place + length (record_bytes r)) (place + 17) r.changes) rest
    ∙ ap (λ (zs : List Logged). zs ++ entries_in p rest) (entries_in_record p place (place + length (record_bytes r)) (place + 17) r.changes)
    ∙ ap (λ (zs : List Logged). filter (λ x. x.page == p) r.changes ++ zs) (entries_from p (place + length (record_bytes r)) rs)

pub placed_entries : (c : Sizes) (log : List ℕ) (p : ℕ) → entries_in p (placed_of c log) ≡ entries_of p (records_of c log)
unfolding placed_of
placed_entries c log p = entries_from p 0 (records_of c log)

-- each of them stands where it was seen
pub by_recursion : {X : Type 0} (P : X → Type 0) (xs : List X) → All P xs → AllByRecursion P xs
by_recursion P [] h = tt
by_recursion P (x ∷ xs) h = (h 0 x (omega arith), by_recursion P xs (λ k y less. h (suc k) y (omega arith)))

stand_among : (c : Sizes) (d : Disk) (n : ℕ) (ys : List Placed) → n < c.nodes → AllByRecursion (Contains (placed_of c (log_at d n))) ys → AllByRecursion (λ y. Stands c d (site_of n (seen_of y)) y.entry) ys
stand_among c d n [] node h = tt
stand_among c d n (y ∷ ys) node h =
    (record { node = node; placed = y; there = record { among = h.0; there = refl; format = refl }; same = refl }, stand_among c d n ys node h.1)

pub all_stand : (c : Sizes) (d : Disk) (n : ℕ) → n < c.nodes → AllByRecursion (λ y. Stands c d (site_of n (seen_of y)) y.entry) (placed_of c (log_at d n))
all_stand c d n node = stand_among c d n (placed_of c (log_at d n)) node (by_recursion (Contains (placed_of c (log_at d n))) (placed_of c (log_at d n)) (All-contains_itself (placed_of c (log_at d n))))

-- all logs
pub knows_logs : (c : Sizes) (d : Disk) (p : ℕ) (at : PageAt) (ns : List ℕ) (xs : List Logged) (k : ℕ → Known) → AllByRecursion (λ n. n < c.nodes) ns → KnowsSome c d at xs k
    → KnowsSome c d at (xs ++ entries_of p (records_in c d ns)) (λ v. known_logs c d p v ns (k v))
unfolding records_in entries_of
knows_logs c d p at [] xs k nodes h = subst (λ (zs : List Logged). KnowsSome c d at zs k) (sym (append-nil xs)) h
knows_logs c d p at (n ∷ ns) xs k nodes h =
    let own : List Logged = entries_of p (records_of c (log_at d n)) in
    let rest : List Logged = entries_of p (records_in c d ns) in
    let first : KnowsSome c d at (xs ++ own) (λ v. known_all p v n (placed_of c (log_at d n)) (k v)) =
    subst (λ (zs : List Logged). KnowsSome c d at (xs ++ zs) (λ v. known_all p v n (placed_of c (log_at d n)) (k v))) (placed_entries c (log_at d n) p)
    (knows_all c d p n at (placed_of c (log_at d n)) xs k (all_stand c d n nodes.0) h) in
    let split : (xs ++ own) ++ rest ≡ xs ++ entries_of p (records_of c (log_at d n) ++ records_in c d ns) =
    append_assoc xs own rest ∙ ap (λ (zs : List Logged). xs ++ zs) (sym (entries_append p (records_of c (log_at d n)) (records_in c d ns))) in
    subst (λ (zs : List Logged). KnowsSome c d at zs (λ v. known_logs c d p v (n ∷ ns) (k v))) split
    (knows_logs c d p at ns (xs ++ own) (λ v. known_all p v n (placed_of c (log_at d n)) (k v)) nodes.1 first)

-- nothing has a version past the last
none_past : (xs : List Logged) (w : ℕ) → AllByRecursion (λ x. x.version < w) xs → ranges_at xs w ≡ None
unfolding ranges_at
none_past [] w h = refl
none_past (x ∷ xs) w h =
    let other : (x.version == w) ≡ false = let less = h.0 in grind (arith, nat_tests) in
    ap (λ (b : Bool). ranges_or b x.part (ranges_at xs w)) other ∙ none_past xs w h.1

-- where changed ranges lead
pub record LeadsTo (c : Sizes) (d : Disk) (xs : List Logged) (ss : List Site) (at : PageAt) (w : ℕ) : Type 0 where
  pub leads : Leads c d ss at.bytes (reached (length ss) xs at).bytes
  pub version : (reached (length ss) xs at).version ≡ w

pub next_lead : (c : Sizes) (d : Disk) (xs : List Logged) (ranges : ℕ → Option Site) (ss : List Site) (low w : ℕ) (at : PageAt) → ((v : ℕ) → low < v → AreRangesAt c d (ranges v) (ranges_at xs v)) → low ≤ at.version
    → AreNext ranges ss at.version w → LeadsTo c d xs ss at w
next_lead c d xs ranges [] low w at known above next =
    record { leads = ap (λ (a : PageAt). a.bytes) (sym (reached_zero xs at)); version = ap (λ (a : PageAt). a.version) (reached_zero xs at) ∙ next }
next_lead c d xs ranges (s ∷ ss) low w at known above next = one (ranges_at xs (at.version + 1)) refl (next_lead c d xs ranges ss low w)
  where
    one : (o : Option (List ChangedRange)) → ranges_at xs (at.version + 1) ≡ o
        → ((a : PageAt) → ((v : ℕ) → low < v → AreRangesAt c d (ranges v) (ranges_at xs v)) → low ≤ a.version → AreNext ranges ss a.version w → LeadsTo c d xs ss a w)
        → LeadsTo c d xs (s ∷ ss) at w
    one None e rest =
        let bad : AreRangesAt c d (Some s) None = subst (AreRangesAt c d (Some s)) e (subst (λ (o : Option Site). AreRangesAt c d o (ranges_at xs (at.version + 1))) next.0 (known (at.version + 1) (omega arith))) in
        absurd bad
    one (Some rs) e rest =
        let found : AreRangesAt c d (Some s) (Some rs) = subst (AreRangesAt c d (Some s)) e (subst (λ (o : Option Site). AreRangesAt c d o (ranges_at xs (at.version + 1))) next.0 (known (at.version + 1) (omega arith))) in
        let a : PageAt = record { version = at.version + 1; bytes = put_ranges rs at.bytes } in
        let step : reached (suc (length ss)) xs at ≡ reached (length ss) xs a = reached_some (length ss) xs at rs e in
        let more = rest a known (omega arith) next.1 in
        let put : put_ranges rs at.bytes ≡ with_part found.0.part at.bytes = sym (ap (λ (q : Part). with_part q at.bytes) found.2) in
        record {
          leads = (found.0, (found.1, subst (λ (q : PageAt). Leads c d ss (with_part found.0.part at.bytes) q.bytes) (sym step) (subst (λ (bs : List ℕ). Leads c d ss bs (reached (length ss) xs a).bytes) put more.leads)));
          version = ap (λ (q : PageAt). q.version) step ∙ more.version;
        }

pub next_rises : (ranges : ℕ → Option Site) (ts : List Site) (v u : ℕ) → AreNext ranges ts v u → v ≤ u
next_rises ranges [] v u is = omega arith
next_rises ranges (t ∷ ts) v u is = let more = next_rises ranges ts (v + 1) u is.1 in omega arith

-- a page that is led to its redo
pub record LeadsToRedo (c : Sizes) (d : Disk) (xs : List Logged) (ss : List Site) (at : PageAt) (w : ℕ) : Type 0 where
  pub leads : Leads c d ss at.bytes (redone_by xs at).bytes
  pub version : (redone_by xs at).version ≡ w

pub chain_leads : (c : Sizes) (d : Disk) (xs : List Logged) (b : Base) (k : ℕ → Known) (ss : List Site) (at : PageAt) (w : ℕ) → Knows c d at xs b k → AreNext (λ v. (k v).ranges) ss b.version w
    → ((k (w + 1)).ranges ≡ None) ⊎ ((w ≡ 2 ^ 64 - 1) × AllByRecursion (λ x. x.version < 2 ^ 64) xs) → LeadsToRedo c d xs (image_sites b.image ++ ss) at w
chain_leads c d xs b k ss at w h next ends =
    let base : PageAt = newest_image at xs in
    let start : AreNext (λ v. (k v).ranges) ss base.version w = subst (λ (v : ℕ). AreNext (λ u. (k u).ranges) ss v w) h.version next in
    let version = h.version in
    let way = next_lead c d xs (λ v. (k v).ranges) ss b.version w base h.ranges (omega arith) start in
    let rises = next_rises (λ v. (k v).ranges) ss b.version w next in
    let last : ranges_at xs (w + 1) ≡ None = at_end ends rises in
    let stays : ranges_at xs ((reached (length ss) xs base).version + 1) ≡ None = ap (λ (v : ℕ). ranges_at xs (v + 1)) way.version ∙ last in
    let same : redone_by xs at ≡ reached (length ss) xs base =
    sym (reached_rest (length ss) (length xs) xs base (above_most base.version xs)) ∙ reached_stays (length xs) xs (reached (length ss) xs base) stays in
    record {
      leads = subst (λ (q : PageAt). Leads c d (image_sites b.image ++ ss) at.bytes q.bytes) (sym same) (from_image b.image h.image way.leads);
      version = ap (λ (q : PageAt). q.version) same ∙ way.version;
    }
  where
    none_of : (o : Option Site) (r : Option (List ChangedRange)) → o ≡ None → AreRangesAt c d o r → r ≡ None
    none_of None None is a = refl
    none_of None (Some rs) is a = absurd a
    none_of (Some s) r is a = absurd (cc)

    at_end : ((k (w + 1)).ranges ≡ None) ⊎ ((w ≡ 2 ^ 64 - 1) × AllByRecursion (λ x. x.version < 2 ^ 64) xs) → b.version ≤ w → ranges_at xs (w + 1) ≡ None
    at_end (inl none) rises = none_of (k (w + 1)).ranges (ranges_at xs (w + 1)) none (h.ranges (w + 1) (omega arith))
    at_end (inr big) rises = let e = big.0 in let same : w + 1 ≡ 2 ^ 64 = omega arith in rw same (none_past xs (2 ^ 64) big.1)

    from_image : (o : Option Site) → IsImage c d at (newest_image at xs) b.version o → Leads c d ss (newest_image at xs).bytes (reached (length ss) xs (newest_image at xs)).bytes
        → Leads c d (image_sites o ++ ss) at.bytes (reached (length ss) xs (newest_image at xs)).bytes
    from_image None is way = subst (λ (q : PageAt). Leads c d ss q.bytes (reached (length ss) xs (newest_image at xs)).bytes) is way
    from_image (Some s) is way =
        let bytes : (newest_image at xs).bytes ≡ is.1 = ap (λ (q : PageAt). q.bytes) is.4 in
        let put : is.1 ≡ with_part is.0.part at.bytes = sym (ap (λ (q : Part). with_part q at.bytes) is.3) in
        (is.0, (is.2, subst (λ (bs : List ℕ). Leads c d ss bs (reached (length ss) xs (newest_image at xs)).bytes) (bytes ∙ put) way))
