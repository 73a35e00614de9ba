-- Redo of the rules is that of the machine of one page.
use Rattle.std.proofs.Common.{inl, inr, ◌≡◌, ◌⊎◌, refl, sym, ap, subst, ◌∙◌, ℕ, zero, suc, ◌+◌, ◌<◌, ◌≤◌, ◌==◌, ◌||◌, nat_lt, Bool, true, false, List, [], ◌∷◌, ◌++◌, length, Option, Some, None, option_map, arith, append_assoc, take, drop}
use Rattle.std.specs.Prelude.{slice_index_or}
use Rattle.std.specs.List.{AllByRecursion, Contains}
use Rattle.std.proofs.lemmas.Bool.Decides.{nat_tests}
use Rattle.pcl_base.specs.Limits.{Sizes}
use Rattle.pcl_base.specs.declared.log.ChangedRange.{ChangedRange}
use Rattle.pcl_base.specs.declared.log.Logged.{Logged}
use Rattle.pcl_base.specs.declared.log.Part.{Part}
use Rattle.pcl_base.specs.declared.log.Part.TheVariants.{Image, Ranges as PartRanges}
use Rattle.text_rules.specs.ChangedRanges.{put_ranges}
use Rattle.text_rules.specs.LogRecord.{records_of, is_whole}
use Rattle.text_rules.specs.StoredPage.{PageAt}
use Rattle.run_rules.specs.Disk.{Disk, raw_page, log_at}
use Rattle.run_rules.specs.Redo.{entries_of, newer, newest_image, ranges_or, ranges_at, reached, redone, redone_if, greatest, records_in, all_records, redo}
use Rattle.run_rules.specs.Views.{count_from}
use Rattle.redo_laws.specs.Laws.{IsGreatest}
use Rattle.redo_laws.proofs.Chains.{above_most, reached_none, reached_some, reached_zero, reached_last}
use Rattle.redo_laws.proofs.Disks.{entries_append}
use Rattle.redo_laws.proofs.Greatest.{greatest_is_greatest_law}
use Rattle.page_protocol.specs.Bytes.{Copy, Ranges, put_all}
use Rattle.page_protocol.specs.Laws.{Redo, stored, replayed}
use Rattle.page_protocol.specs.State.{pick, current}
use Rattle.page_laws.specs.Storage.Looks.{page_of, copy_of, copy_on, pairs_of, ranges_of_part, ranges_in, entries_at, AreRising, IsStored, is_among, only}
use Rattle.page_laws.specs.Storage.Redone.{RangesArePut, RedoEnds, RedoneIsReached, RedoIsReached, RedoneIsCurrent, HaveRecord, TellsNext, GreatestTellsNext}
use Rattle.page_laws.proofs.StorageParts.Entries.{first_of, ranges_joined}
use Rattle.page_laws.proofs.StorageParts.Calls.{read_as}

-- ---- entries of changed ranges alone

abbrev pub NoneWhole : List Logged → Type 0
NoneWhole xs = AllByRecursion (λ x. is_whole x.part ≡ false) xs

rising_none : (xs : List Logged) (low : ℕ) → AreRising low xs → NoneWhole xs
rising_none [] low rising = tt
rising_none (x ∷ xs) low rising = (rising.1, rising_none xs x.version rising.2)

none_joined : (xs ys : List Logged) → NoneWhole xs → NoneWhole ys → NoneWhole (xs ++ ys)
none_joined [] ys a b = b
none_joined (x ∷ xs) ys a b = (a.0, none_joined xs ys a.1 b)

-- the newest whole page is what is known
image_same : (xs : List Logged) (at : PageAt) → NoneWhole xs → newest_image at xs ≡ at
image_same [] at none = refl
image_same (x ∷ xs) at none = by x.part refl (image_same xs at none.1)
  where
    by : (part : Part) → x.part ≡ part → newest_image at xs ≡ at → newest_image at (x ∷ xs) ≡ at
    by (Image bytes) e ih = let bad : true ≡ false = ap is_whole (sym e) ∙ none.0 in absurd (cc)
    by (PartRanges rs) e ih = ap (λ (part : Part). newest_image (newer x.version at part) xs) e ∙ ih

-- the first entry is the same
ranges_same : (xs : List Logged) (v : ℕ) → NoneWhole xs → ranges_in xs v ≡ option_map pairs_of (ranges_at xs v)
unfolding ranges_in ranges_at
ranges_same [] v none = refl
ranges_same (x ∷ xs) v none = by x.part refl (x.version == v) (ranges_same xs v none.1)
  where
    by : (part : Part) → x.part ≡ part → (b : Bool) → ranges_in xs v ≡ option_map pairs_of (ranges_at xs v)
        → pick b (Some (ranges_of_part x.part)) (ranges_in xs v) ≡ option_map pairs_of (ranges_or b x.part (ranges_at xs v))
    by (Image bytes) e b ih = let bad : true ≡ false = ap is_whole (sym e) ∙ none.0 in absurd (cc)
    by (PartRanges rs) e true ih =
        ap (λ (part : Part). pick true (Some (ranges_of_part part)) (ranges_in xs v)) e
        ∙ sym (ap (λ (part : Part). option_map pairs_of (ranges_or true part (ranges_at xs v))) e)
    by (PartRanges rs) e false ih =
        ih ∙ sym (ap (λ (part : Part). option_map pairs_of (ranges_or false part (ranges_at xs v))) e)

-- what they make of a page
pub ranges_are_put_law : RangesArePut
ranges_are_put_law [] page = refl
ranges_are_put_law (r ∷ rs) page =
    ranges_are_put_law rs _ ∙ ap (put_all (pairs_of rs)) (append_assoc (take r.place page) r.bytes (drop (r.place + length r.bytes) page))

-- ---- the logs of some nodes

module _ (c : Sizes) (d : Disk) (p : ℕ) (disk : Copy) (log : ℕ → ℕ → Option Ranges) (is : IsStored c d p disk log) where
  abbrev all_of : List ℕ → List Logged
  all_of ns = entries_of p (records_in c d ns)

  all_none : (ns : List ℕ) → NoneWhole (all_of ns)
  unfolding records_in entries_of entries_at
  all_none [] = tt
  all_none (n ∷ ns) =
      subst NoneWhole (sym (entries_append p (records_of c (log_at d n)) (records_in c d ns)))
      (none_joined (entries_of p (records_of c (log_at d n))) (all_of ns) (rising_none _ 0 (is.rising n)) (all_none ns))

  all_first : (n : ℕ) (ns : List ℕ) (v : ℕ) → ranges_in (all_of (n ∷ ns)) v ≡ first_of (log n v) (ranges_in (all_of ns) v)
  unfolding records_in entries_at
  all_first n ns v =
      ap (λ xs. ranges_in xs v) (entries_append p (records_of c (log_at d n)) (records_in c d ns))
      ∙ ranges_joined (entries_of p (records_of c (log_at d n))) (all_of ns) v
      ∙ ap (λ o. first_of o (ranges_in (all_of ns) v)) (is.log_same n v)

  -- a record in these logs is one of them
  found : (ns : List ℕ) (v : ℕ) (rs : Ranges) → ranges_in (all_of ns) v ≡ Some rs → (n : ℕ) × ((is_among ns n ≡ true) × (log n v ≡ Some rs))
  unfolding records_in entries_of ranges_in
  found [] v rs e = absurd (cc)
  found (n ∷ ns) v rs e = by (log n v) refl (sym (all_first n ns v) ∙ e) (found ns v rs)
    where
      own : (n == n) ≡ true
      own = grind (arith, nat_tests)

      or_true : (b : Bool) → (b || true) ≡ true
      or_true true = refl
      or_true false = refl

      by : (o : Option Ranges) → log n v ≡ o → first_of (log n v) (ranges_in (all_of ns) v) ≡ Some rs
          → (ranges_in (all_of ns) v ≡ Some rs → (m : ℕ) × ((is_among ns m ≡ true) × (log m v ≡ Some rs)))
          → (m : ℕ) × ((is_among (n ∷ ns) m ≡ true) × (log m v ≡ Some rs))
      by None f g go =
          let rest = go (sym (ap (λ o. first_of o (ranges_in (all_of ns) v)) f) ∙ g) in
          (rest.0, (ap (λ b. n == rest.0 || b) rest.1.0 ∙ or_true (n == rest.0), rest.1.1))
      by (Some x) f g go = (n, (ap (λ b. b || is_among ns n) own, f ∙ sym (ap (λ o. first_of o (ranges_in (all_of ns) v)) f) ∙ g))

  -- where they have none, none of them has one
  missing : (ns : List ℕ) (v : ℕ) → ranges_in (all_of ns) v ≡ None → (n : ℕ) → is_among ns n ≡ true → log n v ≡ None
  missing [] v e n among = absurd (cc)
  missing (m ∷ ns) v e n among = by (m == n) refl (log m v) refl (sym (all_first m ns v) ∙ e) (missing ns v)
    where
      by : (b : Bool) → (m == n) ≡ b → (o : Option Ranges) → log m v ≡ o → first_of (log m v) (ranges_in (all_of ns) v) ≡ None
          → (ranges_in (all_of ns) v ≡ None → (k : ℕ) → is_among ns k ≡ true → log k v ≡ None) → log n v ≡ None
      by true t None f g go = let same : n ≡ m = grind (arith, nat_tests) in ap (λ k. log k v) same ∙ f
      by false t None f g go =
          go (sym (ap (λ o. first_of o (ranges_in (all_of ns) v)) f) ∙ g) n (sym (ap (λ b. b || is_among ns n) t) ∙ among)
      by b t (Some x) f g go = let bad : Some x ≡ None = sym (ap (λ o. first_of o (ranges_in (all_of ns) v)) f) ∙ g in absurd (cc)

  only_some : (ns : List ℕ) (n v : ℕ) (rs : Ranges) → is_among ns n ≡ true → log n v ≡ Some rs → only ns log n v ≡ Some rs
  only_some ns n v rs among e = ap (λ b. pick b (log n v) None) among ∙ e

  -- steps of redo are those of the machine
  reached_is : (ns : List ℕ) (k : ℕ) (at : PageAt) → Redo disk (only ns log) (copy_of at) → Redo disk (only ns log) (copy_of (reached k (all_of ns) at))
  reached_is ns zero at way = subst (λ (x : PageAt). Redo disk (only ns log) (copy_of x)) (sym (reached_zero (all_of ns) at)) way
  reached_is ns (suc k) at way = by (ranges_at (all_of ns) (at.version + 1)) refl (reached_is ns k)
    where
      next : suc at.version ≡ at.version + 1
      next = omega arith

      by : (o : Option (List ChangedRange)) → ranges_at (all_of ns) (at.version + 1) ≡ o
          → ((x : PageAt) → Redo disk (only ns log) (copy_of x) → Redo disk (only ns log) (copy_of (reached k (all_of ns) x)))
          → Redo disk (only ns log) (copy_of (reached (suc k) (all_of ns) at))
      by None e go = subst (λ (x : PageAt). Redo disk (only ns log) (copy_of x)) (sym (reached_none k (all_of ns) at e)) way
      by (Some rs) e go =
          let there = found ns (at.version + 1) (pairs_of rs) (ranges_same (all_of ns) (at.version + 1) (all_none ns) ∙ ap (option_map pairs_of) e) in
          let step : Redo disk (only ns log) (record { version = suc at.version; bytes = put_all (pairs_of rs) at.bytes }) =
          replayed (copy_of at) there.0 (pairs_of rs) way (ap (only ns log there.0) next ∙ only_some ns there.0 (at.version + 1) (pairs_of rs) there.1.0 there.1.1) in
          let same : (let x : Copy = record { version = suc at.version; bytes = put_all (pairs_of rs) at.bytes } in x) ≡ record { version = at.version + 1; bytes = put_ranges rs at.bytes } =
          ap (λ v. let x : Copy = record { version = v; bytes = put_all (pairs_of rs) at.bytes } in x) next
          ∙ ap (λ bytes. let x : Copy = record { version = at.version + 1; bytes = bytes } in x) (sym (ranges_are_put_law rs at.bytes)) in
          subst (λ (x : PageAt). Redo disk (only ns log) (copy_of x)) (sym (reached_some k (all_of ns) at rs e))
          (go (record { version = at.version + 1; bytes = put_ranges rs at.bytes }) (subst (Redo disk (only ns log)) same step))

  redone_is_reached : (ns : List ℕ) → RedoEnds disk (only ns log) (redone (records_in c d ns) p (page_of disk))
  unfolding redone
  redone_is_reached ns =
      record {
        reached = subst (λ (x : PageAt). Redo disk (only ns log) (copy_of (reached (length (all_of ns)) (all_of ns) x))) (sym (image_same (all_of ns) (page_of disk) (all_none ns)))
            (reached_is ns (length (all_of ns)) (page_of disk) stored);
        ends = λ n. by n (is_among ns n) refl;
      }
    where
      last : PageAt
      last = reached (length (all_of ns)) (all_of ns) (newest_image (page_of disk) (all_of ns))

      nothing : ranges_at (all_of ns) (last.version + 1) ≡ None
      nothing = reached_last (length (all_of ns)) (all_of ns) (newest_image (page_of disk) (all_of ns)) (above_most (newest_image (page_of disk) (all_of ns)).version (all_of ns))

      next : suc last.version ≡ last.version + 1
      next = omega arith

      by : (n : ℕ) (b : Bool) → is_among ns n ≡ b → pick b (log n (suc last.version)) None ≡ None
      by n false e = refl
      by n true e =
          ap (log n) next ∙ missing ns (last.version + 1) (ranges_same (all_of ns) (last.version + 1) (all_none ns) ∙ ap (option_map pairs_of) nothing) n e

  -- ---- the greatest version

  at_most : (xs : List Logged) (most v : ℕ) → AllByRecursion (λ x. x.version ≤ most) xs → most < v → ranges_in xs v ≡ None
  unfolding ranges_in
  at_most [] most v all above = refl
  at_most (x ∷ xs) most v all above =
      let low = all.0 in
      let other : (x.version == v) ≡ false = grind (arith, nat_tests) in
      ap (λ b. pick b (Some (ranges_of_part x.part)) (ranges_in xs v)) other ∙ at_most xs most v all.1 above

  has_ranges : (xs : List Logged) (x : Logged) (k : ℕ) → k < length xs → slice_index_or xs k x ≡ x → (rs : Ranges) × (ranges_in xs x.version ≡ Some rs)
  unfolding ranges_in
  has_ranges [] x k inside e = absurd (omega (arith, inside))
  has_ranges (y ∷ xs) x zero inside e =
      let version = ap (λ (z : Logged). z.version) e in
      let own : (y.version == x.version) ≡ true = grind (arith, nat_tests) in
      (ranges_of_part y.part, ap (λ b. pick b (Some (ranges_of_part y.part)) (ranges_in xs x.version)) own)
  has_ranges (y ∷ xs) x (suc k) inside e = by (y.version == x.version) (has_ranges xs x k (omega (arith, inside)) e)
    where
      by : (b : Bool) → (rs : Ranges) × (ranges_in xs x.version ≡ Some rs) → (rs : Ranges) × (pick b (Some (ranges_of_part y.part)) (ranges_in xs x.version) ≡ Some rs)
      by true rest = (ranges_of_part y.part, refl)
      by false rest = rest

  greatest_tells : (ns : List ℕ) (v : ℕ) → ((n w : ℕ) (ranges : Ranges) → log n w ≡ Some ranges → w ≤ suc v) → TellsNext ns log v (greatest (records_in c d ns) p)
  greatest_tells ns v high =
      record {
        newer = λ less. there less great.there;
        as_old = λ less n among. missing ns (suc v) (at_most (all_of ns) (greatest (records_in c d ns) p) (suc v) great.most (let le : greatest (records_in c d ns) p ≤ v = grind (arith, nat_tests) in omega (arith, le))) n among;
      }
    where
      great : IsGreatest (all_of ns) (greatest (records_in c d ns) p)
      great = greatest_is_greatest_law (records_in c d ns) p

      there : nat_lt v (greatest (records_in c d ns) p) ≡ true
          → (greatest (records_in c d ns) p ≡ 0) ⊎ ((x : Logged) × (Contains (all_of ns) x × (x.version ≡ greatest (records_in c d ns) p)))
          → HaveRecord ns log (suc v)
      there less (inl none) = absurd (let above : v < greatest (records_in c d ns) p = grind (arith, nat_tests) in omega (arith, none, above))
      there less (inr (x, (among, same))) =
          let above : v < greatest (records_in c d ns) p = grind (arith, nat_tests) in
          let rs = has_ranges (all_of ns) x among.0 among.1 among.2 in
          let one = found ns x.version rs.0 rs.1 in
          let most = high one.0 x.version rs.0 one.1.1 in
          let next : suc v ≡ x.version = omega (arith, above, same, most) in
          record { node = one.0; among = one.1.0; ranges = rs.0; there = ap (log one.0) next ∙ one.1.1 }

-- ---- the laws

pub redone_is_reached_law : RedoneIsReached
redone_is_reached_law c d p ns disk log is = redone_is_reached c d p disk log is ns

pub greatest_tells_next_law : GreatestTellsNext
greatest_tells_next_law c d p v ns disk log is high = greatest_tells c d p disk log is ns v high

-- the logs of all nodes are all logs
among_count : (a k n : ℕ) → a ≤ n → n < a + k → is_among (count_from a k) n ≡ true
unfolding count_from
among_count a zero n low high = absurd (omega (arith, low, high))
among_count a (suc k) n low high = by (a == n) refl (among_count (a + 1) k n)
  where
    by : (b : Bool) → (a == n) ≡ b → (a + 1 ≤ n → n < a + 1 + k → is_among (count_from (a + 1) k) n ≡ true) → (b || is_among (count_from (a + 1) k) n) ≡ true
    by true e go = refl
    by false e go = go (grind (arith, nat_tests)) (omega (arith, high))

no_log : (logs : List (List ℕ)) (n : ℕ) → length logs ≤ n → slice_index_or logs n [] ≡ []
no_log [] n past = refl
no_log (x ∷ logs) zero past = absurd (omega (arith, past))
no_log (x ∷ logs) (suc n) past = no_log logs n (omega (arith, past))

no_record : (c : Sizes) (d : Disk) (p : ℕ) (disk : Copy) (log : ℕ → ℕ → Option Ranges) → IsStored c d p disk log → (n v : ℕ) → length d.logs ≤ n → log n v ≡ None
unfolding entries_at entries_of ranges_in
no_record c d p disk log is n v past = sym (is.log_same n v) ∙ ap (λ bytes. ranges_in (entries_of p (records_of c bytes)) v) (no_log d.logs n past)

-- a part of the logs is part of all
only_less : (ns : List ℕ) (disk : Copy) (log : ℕ → ℕ → Option Ranges) (at : Copy) → Redo disk (only ns log) at → Redo disk log at
only_less ns disk log at stored = stored
only_less ns disk log at (replayed c n ranges way e) = replayed c n ranges (only_less ns disk log c way) (by (is_among ns n) e)
  where
    by : (b : Bool) → pick b (log n (suc c.version)) None ≡ Some ranges → log n (suc c.version) ≡ Some ranges
    by true f = f
    by false f = absurd (cc)

pub redo_is_reached_law : RedoIsReached
redo_is_reached_law c d p disk log count is =
    let part = redone_is_reached c d p disk log is (count_from 0 c.nodes) in
    record {
      reached = only_less (count_from 0 c.nodes) disk log _ part.reached;
      ends = λ n. by n (nat_lt n c.nodes) refl (part.ends n);
    }
  where
    by : (n : ℕ) (b : Bool) → nat_lt n c.nodes ≡ b → only (count_from 0 c.nodes) log n (suc (redone (all_records c d) p (page_of disk)).version) ≡ None
        → log n (suc (redone (all_records c d) p (page_of disk)).version) ≡ None
    by n true e none =
        let there = among_count 0 c.nodes n (omega arith) (grind (arith, nat_tests)) in
        sym (ap (λ b. pick b (log n (suc (redone (all_records c d) p (page_of disk)).version)) None) there) ∙ none
    by n false e none = no_record c d p disk log is n _ (let past : c.nodes ≤ n = grind (arith, nat_tests) in omega (arith, past, count))

pub redone_is_current_law : RedoneIsCurrent
unfolding copy_on redo
redone_is_current_law c d p a count is durable = (same, ap (redone_if (all_records c d) p) (read_as p (raw_page d.pages p) a.disk is.disk_same) ∙ ap Some same)
  where
    out : RedoEnds a.disk a.log (redone (all_records c d) p (page_of a.disk))
    out = redo_is_reached_law c d p a.disk a.log count is

    same : redone (all_records c d) p (page_of a.disk) ≡ page_of (current a)
    same = ap page_of (durable.1 (copy_of (redone (all_records c d) p (page_of a.disk))) out.reached out.ends)
