-- How long the bytes of a record are, and that their length tells where they end.
use Rattle.std.proofs.Common.{◌≡◌, ℕ, ◌+◌, ◌*◌, ◌-◌, ◌^◌, ◌<◌, ◌≤◌, Bool, true, false, List, [], ◌∷◌, ◌++◌, length, map, take, drop, w16, w32, w64, refl, sym, ap, subst, ◌∙◌, arith, length-append, append_assoc}
use Rattle.std.specs.List.{concat, AllByRecursion}
use Rattle.std.specs.Int.{to_be_bytes, from_be_bytes}
use Rattle.std.proofs.lemmas.Nat.{from_be_bytes-to_be_bytes_2, from_be_bytes-to_be_bytes_4, from_be_bytes-to_be_bytes_8}
use Rattle.pcl_base.specs.Limits.{Sizes, InLimits}
use Rattle.pcl_base.specs.declared.log.Record.{Record}
use Rattle.pcl_base.specs.declared.log.Logged.{Logged}
use Rattle.pcl_base.specs.declared.log.Part.{Part}
use Rattle.pcl_base.specs.declared.log.Part.TheVariants.{Image, Ranges}
use Rattle.pcl_base.specs.declared.log.ChangedRange.{ChangedRange}
use Rattle.text_rules.specs.LogRecord.{is_whole, mark_of, range_bytes, part_bytes, logged_bytes, body_bytes, record_bytes, AreRanges, IsPart, AreChanges, AreSomeChanges, IsRecord}
use Rattle.text_rules.specs.FieldBytes.{pick}
use Rattle.rule_laws.specs.OneMeaning.{NoRecordIsFront, RecordsDiffer}

-- ranges are short enough for their page
short_ranges : (size low : ℕ) (rs : List ChangedRange) → AreRanges size low rs → length (concat (map range_bytes rs)) ≤ 5 * (size - low)
short_ranges size low [] i = omega arith
short_ranges size low (r ∷ rs) i =
    let first = length-append (range_bytes r) (concat (map range_bytes rs)) in
    let head = length-append (to_be_bytes w16 r.place) (to_be_bytes w16 (length r.bytes) ++ r.bytes) in
    let next = length-append (to_be_bytes w16 (length r.bytes)) r.bytes in
    let rest = short_ranges size (r.place + length r.bytes + 1) rs i.3 in
    let a = i.0 in
    let b = i.1 in
    let d = i.2 in
    omega (arith, first, head, next, rest)

short_part : (size : ℕ) (whole : Bool) (p : Part) → size ≤ 4096 → IsPart size whole p → length (part_bytes p) ≤ 20482
short_part size whole (Image bytes) most i = let same = i.1 in omega arith
short_part size whole (Ranges rs) most i =
    let all = length-append (to_be_bytes w16 (length rs)) (concat (map range_bytes rs)) in
    let rest = short_ranges size 0 rs i.2 in
    omega (arith, all, rest)

short_changes : (c : Sizes) (whole : Bool) (low : ℕ) (xs : List Logged) → c.size ≤ 4096 → AreChanges c whole low xs
    → length (concat (map logged_bytes xs)) ≤ 20494 * (c.pages - low)
short_changes c whole low [] most i = omega arith
short_changes c whole low (x ∷ xs) most i =
    let first = length-append (logged_bytes x) (concat (map logged_bytes xs)) in
    let head = length-append (to_be_bytes w32 x.page) (to_be_bytes w64 x.version ++ part_bytes x.part) in
    let next = length-append (to_be_bytes w64 x.version) (part_bytes x.part) in
    let part = short_part c.size whole x.part most i.3 in
    let rest = short_changes c whole (x.page + 1) xs most i.4 in
    let a = i.0 in
    let b = i.1 in
    omega (arith, first, head, next, part, rest)

short_some : (c : Sizes) (xs : List Logged) → InLimits c → AreSomeChanges c xs → length (concat (map logged_bytes xs)) ≤ 20494 * c.pages
short_some c [] limits i = absurd i
short_some c (x ∷ xs) limits i =
    let all = short_changes c (is_whole x.part) 0 (x ∷ xs) limits.most_size i in omega (arith, all)

-- a record's length fits its field
pub short_record : (c : Sizes) (r : Record) → InLimits c → IsRecord c r → 4 + length (body_bytes r) < 2 ^ 32
short_record c r limits i =
    let changes = short_some c r.changes limits i.changes in
    let pages = limits.most_pages in
    let all : List ℕ = concat (map logged_bytes r.changes) in
    let a = length-append (to_be_bytes w32 r.tx.born) (to_be_bytes w32 r.tx.serial ++ to_be_bytes w32 (length r.changes) ++ all) in
    let b = length-append (to_be_bytes w32 r.tx.serial) (to_be_bytes w32 (length r.changes) ++ all) in
    let d = length-append (to_be_bytes w32 (length r.changes)) all in
    omega (arith, a, b, d, changes, pages)

-- a number in four bytes before anything
front_number : (n : ℕ) (rest : List ℕ) → n < 2 ^ 32 → from_be_bytes w32 (take 4 (to_be_bytes w32 n ++ rest)) ≡ n
front_number n rest small = from_be_bytes-to_be_bytes_4 n small

pub no_record_is_front_law : NoRecordIsFront
no_record_is_front_law c r s more limits i j e =
    let together : to_be_bytes w32 (4 + length (body_bytes r)) ++ (body_bytes r ++ more) ≡ record_bytes s =
    sym (append_assoc (to_be_bytes w32 (4 + length (body_bytes r))) (body_bytes r) more) ∙ e in
    let counts : 4 + length (body_bytes r) ≡ 4 + length (body_bytes s) =
    sym (front_number (4 + length (body_bytes r)) (body_bytes r ++ more) (short_record c r limits i))
    ∙ (ap (λ (bs : List ℕ). from_be_bytes w32 (take 4 bs)) together
    ∙ front_number (4 + length (body_bytes s)) (body_bytes s) (short_record c s limits j)) in
    let all = ap (λ (bs : List ℕ). length bs) e in
    let a = length-append (record_bytes r) more in
    let b = length-append (to_be_bytes w32 (4 + length (body_bytes r))) (body_bytes r) in
    let d = length-append (to_be_bytes w32 (4 + length (body_bytes s))) (body_bytes s) in
    none more (omega (arith, counts, all, a, b, d))
  where
    none : (bs : List ℕ) → length bs ≡ 0 → bs ≡ []
    none [] l = refl
    none (x ∷ bs) l = absurd (omega arith)

-- numbers of two, four and eight bytes before anything
two_front : (m n : ℕ) (r s : List ℕ) → m < 2 ^ 16 → n < 2 ^ 16 → to_be_bytes w16 m ++ r ≡ to_be_bytes w16 n ++ s → (m ≡ n) × (r ≡ s)
two_front m n r s p q e =
    (sym (from_be_bytes-to_be_bytes_2 m p) ∙ (ap (λ (bs : List ℕ). from_be_bytes w16 (take 2 bs)) e ∙ from_be_bytes-to_be_bytes_2 n q), ap (drop 2) e)

four_front : (m n : ℕ) (r s : List ℕ) → m < 2 ^ 32 → n < 2 ^ 32 → to_be_bytes w32 m ++ r ≡ to_be_bytes w32 n ++ s → (m ≡ n) × (r ≡ s)
four_front m n r s p q e =
    (sym (from_be_bytes-to_be_bytes_4 m p) ∙ (ap (λ (bs : List ℕ). from_be_bytes w32 (take 4 bs)) e ∙ from_be_bytes-to_be_bytes_4 n q), ap (drop 4) e)

eight_front : (m n : ℕ) (r s : List ℕ) → m < 2 ^ 64 → n < 2 ^ 64 → to_be_bytes w64 m ++ r ≡ to_be_bytes w64 n ++ s → (m ≡ n) × (r ≡ s)
eight_front m n r s p q e =
    (sym (from_be_bytes-to_be_bytes_8 m p) ∙ (ap (λ (bs : List ℕ). from_be_bytes w64 (take 8 bs)) e ∙ from_be_bytes-to_be_bytes_8 n q), ap (drop 8) e)

-- as many bytes before anything
bytes_front : (a b r s : List ℕ) → length a ≡ length b → a ++ r ≡ b ++ s → (a ≡ b) × (r ≡ s)
bytes_front [] [] r s l e = (refl, e)
bytes_front [] (y ∷ b) r s l e = absurd (omega arith)
bytes_front (x ∷ a) [] r s l e = absurd (omega arith)
bytes_front (x ∷ a) (y ∷ b) r s l e =
    let first : x ≡ y = cc in
    let more : a ++ r ≡ b ++ s = cc in
    let rest = bytes_front a b r s (omega arith) more in
    ((λ i. first i ∷ rest.0 i), rest.1)

-- ranges before anything
ranges_front : (size low high : ℕ) (xs ys : List ChangedRange) (r s : List ℕ) → size ≤ 4096 → length xs ≡ length ys → AreRanges size low xs → AreRanges size high ys
    → concat (map range_bytes xs) ++ r ≡ concat (map range_bytes ys) ++ s → (xs ≡ ys) × (r ≡ s)
ranges_front size low high [] [] r s most l i j e = (refl, e)
ranges_front size low high [] (y ∷ ys) r s most l i j e = absurd (omega arith)
ranges_front size low high (x ∷ xs) [] r s most l i j e = absurd (omega arith)
ranges_front size low high (x ∷ xs) (y ∷ ys) r s most l i j e =
    let a = i.2 in
    let b = j.2 in
    let place = two_front x.place y.place _ _ (omega arith) (omega arith) e in
    let count = two_front (length x.bytes) (length y.bytes) _ _ (omega arith) (omega arith) place.1 in
    let all =
    sym (append_assoc x.bytes (concat (map range_bytes xs)) r) ∙ (count.1 ∙ append_assoc y.bytes (concat (map range_bytes ys)) s) in
    let bytes = bytes_front x.bytes y.bytes (concat (map range_bytes xs) ++ r) (concat (map range_bytes ys) ++ s) count.0 all in
    let rest = ranges_front size (x.place + length x.bytes + 1) (y.place + length y.bytes + 1) xs ys r s most (omega arith) i.3 j.3 bytes.1 in
    ((λ k. record { place = place.0 k; bytes = bytes.0 k } ∷ rest.0 k), rest.1)

-- a part before anything
few_ranges : (size low : ℕ) (xs : List ChangedRange) → AreRanges size low xs → length xs ≤ size - low
few_ranges size low [] i = omega arith
few_ranges size low (x ∷ xs) i =
    let rest = few_ranges size (x.place + length x.bytes + 1) xs i.3 in
    let a = i.0 in
    let b = i.1 in
    let d = i.2 in
    omega (arith, rest)

part_front : (size : ℕ) (whole : Bool) (p q : Part) (r s : List ℕ) → size ≤ 4096 → IsPart size whole p → IsPart size whole q → part_bytes p ++ r ≡ part_bytes q ++ s → (p ≡ q) × (r ≡ s)
part_front size whole (Image a) (Image b) r s most i j e =
    let f = bytes_front a b r s (i.1 ∙ sym j.1) e in (ap Image f.0, f.1)
part_front size whole (Image a) (Ranges ys) r s most i j e = let x = i.0 in let y = j.0 in absurd (cc)
part_front size whole (Ranges xs) (Image b) r s most i j e = let x = i.0 in let y = j.0 in absurd (cc)
part_front size whole (Ranges xs) (Ranges ys) r s most i j e =
    let a = few_ranges size 0 xs i.2 in
    let b = few_ranges size 0 ys j.2 in
    let count = two_front (length xs) (length ys) _ _ (omega (arith, a)) (omega (arith, b)) e in
    let f = ranges_front size 0 0 xs ys r s most count.0 i.2 j.2 count.1 in
    (ap Ranges f.0, f.1)

-- changes
changes_same : (c : Sizes) (whole : Bool) (low high : ℕ) (xs ys : List Logged) → InLimits c → length xs ≡ length ys → AreChanges c whole low xs → AreChanges c whole high ys
    → AllByRecursion (λ x. x.version < 2 ^ 64) xs → AllByRecursion (λ x. x.version < 2 ^ 64) ys
    → concat (map logged_bytes xs) ≡ concat (map logged_bytes ys) → xs ≡ ys
changes_same c whole low high [] [] limits l i j p q e = refl
changes_same c whole low high [] (y ∷ ys) limits l i j p q e = absurd (omega arith)
changes_same c whole low high (x ∷ xs) [] limits l i j p q e = absurd (omega arith)
changes_same c whole low high (x ∷ xs) (y ∷ ys) limits l i j p q e =
    let a = i.1 in
    let b = j.1 in
    let most = limits.most_pages in
    let page = four_front x.page y.page _ _ (omega arith) (omega arith) e in
    let version = eight_front x.version y.version _ _ p.0 q.0 page.1 in
    let part = part_front c.size whole x.part y.part (concat (map logged_bytes xs)) (concat (map logged_bytes ys)) limits.most_size i.3 j.3 version.1 in
    let rest = changes_same c whole (x.page + 1) (y.page + 1) xs ys limits (omega arith) i.4 j.4 p.1 q.1 part.1 in
    (λ k. record { page = page.0 k; version = version.0 k; part = part.0 k } ∷ rest k)

-- the mark tells the node and the format
mark_told : (a b : Bool) (m n : ℕ) → m < 16 → n < 16 → pick a m (128 + m) ≡ pick b n (128 + n) → (a ≡ b) × (m ≡ n)
mark_told true true m n p q e = (refl, e)
mark_told true false m n p q e = absurd (omega arith)
mark_told false true m n p q e = absurd (omega arith)
mark_told false false m n p q e = (refl, omega arith)

few_changes : (c : Sizes) (whole : Bool) (low : ℕ) (xs : List Logged) → AreChanges c whole low xs → length xs ≤ c.pages - low
few_changes c whole low [] i = omega arith
few_changes c whole low (x ∷ xs) i =
    let rest = few_changes c whole (x.page + 1) xs i.4 in
    let a = i.0 in
    let b = i.1 in
    omega (arith, rest)

-- the bytes behind the length and the mark
abbrev tail_bytes : Record → List ℕ
tail_bytes r = to_be_bytes w32 r.tx.born ++ to_be_bytes w32 r.tx.serial ++ to_be_bytes w32 (length r.changes) ++ concat (map logged_bytes r.changes)

some_same : (c : Sizes) (m n : ℕ) (xs ys : List Logged) → InLimits c → m < c.nodes → n < c.nodes → AreSomeChanges c xs → AreSomeChanges c ys
    → AllByRecursion (λ x. x.version < 2 ^ 64) xs → AllByRecursion (λ x. x.version < 2 ^ 64) ys
    → mark_of xs m ≡ mark_of ys n → length xs ≡ length ys → concat (map logged_bytes xs) ≡ concat (map logged_bytes ys) → (m ≡ n) × (xs ≡ ys)
some_same c m n [] ys limits a b i j p q mark l e = absurd i
some_same c m n (x ∷ xs) [] limits a b i j p q mark l e = absurd j
some_same c m n (x ∷ xs) (y ∷ ys) limits a b i j p q mark l e =
    let most = limits.most_nodes in
    let told = mark_told (is_whole x.part) (is_whole y.part) m n (omega arith) (omega arith) mark in
    let other : AreChanges c (is_whole x.part) 0 (y ∷ ys) = subst (λ (b : Bool). AreChanges c b 0 (y ∷ ys)) (sym told.0) j in
    (told.1, changes_same c (is_whole x.part) 0 0 (x ∷ xs) (y ∷ ys) limits l i other p q e)

some_few : (c : Sizes) (xs : List Logged) → AreSomeChanges c xs → length xs ≤ c.pages
some_few c [] i = absurd i
some_few c (x ∷ xs) i = let few = few_changes c (is_whole x.part) 0 (x ∷ xs) i in omega (arith, few)

pub records_differ_law : RecordsDiffer
records_differ_law c r s limits i j p q e =
    let body : body_bytes r ≡ body_bytes s = ap (drop 4) e in
    let mark : mark_of r.changes r.tx.node ≡ mark_of s.changes s.tx.node = same_head (mark_of r.changes r.tx.node) (mark_of s.changes s.tx.node) (tail_bytes r) (tail_bytes s) body in
    let behind : tail_bytes r ≡ tail_bytes s = ap (drop 1) body in
    let born = four_front r.tx.born s.tx.born _ _ p.born q.born behind in
    let serial = four_front r.tx.serial s.tx.serial _ _ p.serial q.serial born.1 in
    let a = some_few c r.changes i.changes in
    let b = some_few c s.changes j.changes in
    let most = limits.most_pages in
    let count = four_front (length r.changes) (length s.changes) _ _ (omega arith) (omega arith) serial.1 in
    let rest = some_same c r.tx.node s.tx.node r.changes s.changes limits i.node j.node i.changes j.changes p.versions q.versions mark count.0 count.1 in
    (λ k. record { tx = record { node = rest.0 k; born = born.0 k; serial = serial.0 k }; changes = rest.1 k })
  where
    same_head : (x y : ℕ) (xs ys : List ℕ) → x ∷ xs ≡ y ∷ ys → x ≡ y
    same_head x y xs ys f = cc
