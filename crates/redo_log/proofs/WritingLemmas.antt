-- A record that has bytes has few enough of them, and writing them piece by piece gives them.
use Rattle.std.proofs.Common.{◌≡◌, ℕ, suc, ◌+◌, ◌*◌, ◌<◌, ◌≤◌, List, [], ◌∷◌, ◌++◌, length, map, drop, All, Bool, slice_index_or, arith, ap, ◌∙◌, append_assoc, length-append, drop-cons, add-one}
use Rattle.std.specs.List.{concat}
use Rattle.std.proofs.lemmas.List.Elements.{All-nil, All-cons}
use Rattle.std.specs.Int.{w32, to_be_bytes}
use Rattle.pcl_base.specs.Limits.{Sizes, InLimits}
use Rattle.pcl_base.specs.declared.log.Record.{Record}
use Rattle.pcl_base.specs.declared.log.Logged.{Logged}
use Rattle.pcl_base.specs.declared.log.Part.{Part}
use Rattle.pcl_base.specs.declared.log.Part.TheVariants.{Image, Ranges}
use Rattle.pcl_base.specs.declared.log.ChangedRange.{ChangedRange}
use Rattle.text_rules.specs.LogRecord.{AreRanges, IsPart, AreChanges, AreSomeChanges, IsRecord, is_whole, range_bytes, part_bytes, logged_bytes, body_bytes, record_bytes}
use Rattle.redo_log.specs.Small.{IsSmallRange, IsSmallPart, IsSmallLogged}

-- one more item written
pub one_written : {X : Type 0} (f : X → List ℕ) (xs : List X) (i : ℕ) (x : X) (out more all : List ℕ) → i < length xs → x ≡ slice_index_or xs i x → out ++ concat (map f (drop i xs)) ≡ all → more ≡ out ++ f x → more ++ concat (map f (drop (i + 1) xs)) ≡ all
one_written f xs i x out more all within found before is =
    let split = rw (drop-cons xs i x within, ← found) at before in
    rw (is, add-one) (append_assoc out (f x) (concat (map f (drop (suc i) xs))) ∙ split)

-- four bytes and a body
with_body : (r : Record) (head out : List ℕ) → head ≡ to_be_bytes w32 0 → out ≡ head ++ body_bytes r → out ≡ to_be_bytes w32 0 ++ body_bytes r
with_body r head out zeros body = body ∙ ap (λ b. b ++ body_bytes r) zeros

counted_body : (r : Record) (head out : List ℕ) → head ≡ to_be_bytes w32 0 → out ≡ head ++ body_bytes r → length out ≡ 4 + length (body_bytes r)
counted_body r head out zeros body = ap length (with_body r head out zeros body) ∙ length-append (to_be_bytes w32 0) (body_bytes r)

-- a record whose length was put before its body
pub length_put : (r : Record) (head out all : List ℕ) (count : ℕ) → head ≡ to_be_bytes w32 0 → out ≡ head ++ body_bytes r → count ≡ length out → all ≡ to_be_bytes w32 count ++ drop 4 out → all ≡ record_bytes r
length_put r head out all count zeros body counted put =
    let rest : drop 4 out ≡ body_bytes r = ap (λ b. drop 4 b) (with_body r head out zeros body) in
    put
    ∙ ap (λ n. to_be_bytes w32 n ++ drop 4 out) (counted ∙ counted_body r head out zeros body)
    ∙ ap (λ b. to_be_bytes w32 (4 + length (body_bytes r)) ++ b) rest

ranges_small : (size low : ℕ) (rs : List ChangedRange) → size ≤ 4096 → AreRanges size low rs → All IsSmallRange rs
ranges_small size low [] most h = All-nil IsSmallRange
ranges_small size low (r ∷ rs) most h = All-cons IsSmallRange r rs (omega (arith, h.2)) (ranges_small size (r.place + length r.bytes + 1) rs most h.3)

ranges_count : (size low : ℕ) (rs : List ChangedRange) → low ≤ size + 1 → AreRanges size low rs → length rs + low ≤ size + 1
ranges_count size low [] le h = omega arith
ranges_count size low (r ∷ rs) le h =
    let next : r.place + length r.bytes + 1 ≤ size + 1 = omega (arith, h.2) in
    omega (arith, h.0, h.1, ranges_count size (r.place + length r.bytes + 1) rs next h.3)

ranges_length : (size low : ℕ) (rs : List ChangedRange) → low ≤ size + 1 → AreRanges size low rs → length (concat (map range_bytes rs)) + 4 * low ≤ 4 * (size + 1)
ranges_length size low [] le h = omega arith
ranges_length size low (r ∷ rs) le h =
    let next : r.place + length r.bytes + 1 ≤ size + 1 = omega (arith, h.2) in
    let tail = ranges_length size (r.place + length r.bytes + 1) rs next h.3 in
    simp length-append (omega (arith, h.0, h.1, tail))

part_small : (size : ℕ) (whole : Bool) (p : Part) → size ≤ 4096 → IsPart size whole p → IsSmallPart p
part_small size whole (Image bytes) most h = tt
part_small size whole (Ranges rs) most h = record { count = omega (arith, ranges_count size 0 rs (omega arith) h.2); each = ranges_small size 0 rs most h.2 }

part_length : (size : ℕ) (whole : Bool) (p : Part) → size ≤ 4096 → IsPart size whole p → length (part_bytes p) ≤ 16390
part_length size whole (Image bytes) most h = omega (arith, h.1)
part_length size whole (Ranges rs) most h = simp length-append (omega (arith, ranges_length size 0 rs (omega arith) h.2))

pub changes_small : (c : Sizes) (whole : Bool) (low : ℕ) (xs : List Logged) → c.size ≤ 4096 → AreChanges c whole low xs → All IsSmallLogged xs
changes_small c whole low [] most h = All-nil IsSmallLogged
changes_small c whole low (x ∷ xs) most h = All-cons IsSmallLogged x xs (part_small c.size whole x.part most h.3) (changes_small c whole (x.page + 1) xs most h.4)

changes_count : (c : Sizes) (whole : Bool) (low : ℕ) (xs : List Logged) → low ≤ c.pages → AreChanges c whole low xs → length xs + low ≤ c.pages
changes_count c whole low [] le h = omega arith
changes_count c whole low (x ∷ xs) le h =
    let next : x.page + 1 ≤ c.pages = omega (arith, h.1) in
    omega (arith, h.0, changes_count c whole (x.page + 1) xs next h.4)

changes_length : (c : Sizes) (whole : Bool) (low : ℕ) (xs : List Logged) → c.size ≤ 4096 → low ≤ c.pages → AreChanges c whole low xs → length (concat (map logged_bytes xs)) + 16402 * low ≤ 16402 * c.pages
changes_length c whole low [] most le h = omega arith
changes_length c whole low (x ∷ xs) most le h =
    let next : x.page + 1 ≤ c.pages = omega (arith, h.1) in
    let tail = changes_length c whole (x.page + 1) xs most next h.4 in
    let part = part_length c.size whole x.part most h.3 in
    simp length-append (omega (arith, h.0, tail, part))

-- the changes of a record as changes from page 0 on
some_changes : (c : Sizes) (xs : List Logged) → AreSomeChanges c xs → (whole : Bool) × AreChanges c whole 0 xs
some_changes c [] h = absurd h
some_changes c (x ∷ xs) h = (is_whole x.part, h)

-- what the fields of a record that has bytes have room for
pub record_small : (c : Sizes) (r : Record) → InLimits c → IsRecord c r → All IsSmallLogged r.changes
record_small c r limits h = let s = some_changes c r.changes h.changes in changes_small c s.0 0 r.changes limits.most_size s.1

pub record_count : (c : Sizes) (r : Record) → InLimits c → IsRecord c r → length r.changes ≤ 65536
record_count c r limits h =
    let s = some_changes c r.changes h.changes in
    omega (arith, limits.most_pages, changes_count c s.0 0 r.changes (omega arith) s.1)

pub record_length : (c : Sizes) (r : Record) → InLimits c → IsRecord c r → length (body_bytes r) ≤ 1074921489
record_length c r limits h =
    let s = some_changes c r.changes h.changes in
    simp length-append (omega (arith, limits.most_pages, changes_length c s.0 0 r.changes limits.most_size (omega arith) s.1))

-- the length of a record fits its four bytes
pub count_small : (c : Sizes) (r : Record) (head out : List ℕ) (count : ℕ) → InLimits c → IsRecord c r → head ≡ to_be_bytes w32 0 → out ≡ head ++ body_bytes r → count ≡ length out → count < 4294967296
count_small c r head out count limits h zeros body counted =
    let long = counted_body r head out zeros body in
    let most = record_length c r limits h in
    omega (arith, long, most, counted)
