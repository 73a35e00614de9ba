-- A record that was written is read again, and a part of it is no record.
use Rattle.std.proofs.Common.{◌≡◌, ℕ, suc, ◌+◌, ◌*◌, ◌-◌, ◌^◌, ◌<◌, ◌≤◌, Bool, true, false, nat_le, nat_lt, List, [], ◌∷◌, ◌++◌, length, map, take, Result, Ok, Err, refl, sym, ap, ◌∙◌, arith, length-append, append_assoc, append-nil}
use Rattle.std.specs.List.{concat, AllByRecursion}
use Rattle.std.specs.Int.{w8, w16, w32, w64, to_be_bytes, from_be_bytes}
use Rattle.std.proofs.lemmas.Nat.{from_be_bytes-to_be_bytes_2, from_be_bytes-to_be_bytes_4, from_be_bytes-to_be_bytes_8}
use Rattle.std.proofs.lemmas.Bool.{le-leb, lt-ltb}
use Rattle.std.proofs.lemmas.Bool.Decides.{nat_tests}
use Rattle.std.proofs.lemmas.List.{length-take}
use Rattle.std.proofs.Math.Seq.{drop-append_seam, take-append_seam, take-append-add}
use Rattle.pcl_base.specs.Limits.{Sizes, InLimits}
use Rattle.pcl_base.specs.declared.log.Record.{Record}
use Rattle.pcl_base.specs.declared.log.Logged.{Logged}
use Rattle.pcl_base.specs.declared.log.Part.{Part}
use Rattle.pcl_base.specs.declared.log.Part.TheVariants.{Image, Ranges}
use Rattle.pcl_base.specs.declared.log.ChangedRange.{ChangedRange}
use Rattle.text_rules.specs.FieldBytes.{Short, Stop, pick, piece, number, number_from, at_least, whole}
use Rattle.text_rules.specs.LogRecord.{is_whole, mark_of, range_bytes, part_bytes, logged_bytes, body_bytes, record_bytes, AreRanges, IsPart, AreChanges, AreSomeChanges, IsRecord, ranges_field, part_field, changes_field, is_mark, body_field, record_field, log_of, records_of}
use Rattle.redo_laws.specs.Words.{HasNumbers, IsWhole}
use Rattle.redo_laws.proofs.Reading.{record_made, record_short, record_cut}
use Rattle.redo_laws.proofs.Logs.{log_read, log_torn}

-- ranges are short enough for their page
short_ranges : (size low : ℕ) (rs : List ChangedRange) → AreRanges size low rs → length (concat (map range_bytes rs)) ≤ 5 * (size - low)
short_ranges size low [] i = omega arith
short_ranges size low (r ∷ rs) i =
    let first = length-append (range_bytes r) (concat (map range_bytes rs)) in
    let head = length-append (to_be_bytes w16 r.place) (to_be_bytes w16 (length r.bytes) ++ r.bytes) in
    let next = length-append (to_be_bytes w16 (length r.bytes)) r.bytes in
    let rest = short_ranges size (r.place + length r.bytes + 1) rs i.3 in
    let a = i.0 in
    let b = i.1 in
    let d = i.2 in
    omega (arith, first, head, next, rest)

short_part : (size : ℕ) (whole : Bool) (p : Part) → size ≤ 4096 → IsPart size whole p → length (part_bytes p) ≤ 20482
short_part size whole (Image bytes) most i = let same = i.1 in omega arith
short_part size whole (Ranges rs) most i =
    let all = length-append (to_be_bytes w16 (length rs)) (concat (map range_bytes rs)) in
    let rest = short_ranges size 0 rs i.2 in
    omega (arith, all, rest)

short_changes : (c : Sizes) (whole : Bool) (low : ℕ) (xs : List Logged) → c.size ≤ 4096 → AreChanges c whole low xs
    → length (concat (map logged_bytes xs)) ≤ 20494 * (c.pages - low)
short_changes c whole low [] most i = omega arith
short_changes c whole low (x ∷ xs) most i =
    let first = length-append (logged_bytes x) (concat (map logged_bytes xs)) in
    let head = length-append (to_be_bytes w32 x.page) (to_be_bytes w64 x.version ++ part_bytes x.part) in
    let next = length-append (to_be_bytes w64 x.version) (part_bytes x.part) in
    let part = short_part c.size whole x.part most i.3 in
    let rest = short_changes c whole (x.page + 1) xs most i.4 in
    let a = i.0 in
    let b = i.1 in
    omega (arith, first, head, next, part, rest)

short_some : (c : Sizes) (xs : List Logged) → InLimits c → AreSomeChanges c xs → length (concat (map logged_bytes xs)) ≤ 20494 * c.pages
short_some c [] limits i = absurd i
short_some c (x ∷ xs) limits i =
    let all = short_changes c (is_whole x.part) 0 (x ∷ xs) limits.most_size i in omega (arith, all)

-- a record's length fits its field
pub short_record : (c : Sizes) (r : Record) → InLimits c → IsRecord c r → 4 + length (body_bytes r) < 2 ^ 32
short_record c r limits i =
    let changes = short_some c r.changes limits i.changes in
    let pages = limits.most_pages in
    let all : List ℕ = concat (map logged_bytes r.changes) in
    let a = length-append (to_be_bytes w32 r.tx.born) (to_be_bytes w32 r.tx.serial ++ to_be_bytes w32 (length r.changes) ++ all) in
    let b = length-append (to_be_bytes w32 r.tx.serial) (to_be_bytes w32 (length r.changes) ++ all) in
    let d = length-append (to_be_bytes w32 (length r.changes)) all in
    omega (arith, a, b, d, changes, pages)

-- ranges rise within a page, so they are few
few_ranges : (size low : ℕ) (xs : List ChangedRange) → AreRanges size low xs → length xs ≤ size - low
few_ranges size low [] i = omega arith
few_ranges size low (x ∷ xs) i =
    let rest = few_ranges size (x.place + length x.bytes + 1) xs i.3 in
    let a = i.0 in
    let b = i.1 in
    let d = i.2 in
    omega (arith, rest)

-- pages rise below their number, so they are few
few_changes : (c : Sizes) (whole : Bool) (low : ℕ) (xs : List Logged) → AreChanges c whole low xs → length xs ≤ c.pages - low
few_changes c whole low [] i = omega arith
few_changes c whole low (x ∷ xs) i =
    let rest = few_changes c whole (x.page + 1) xs i.4 in
    let a = i.0 in
    let b = i.1 in
    omega (arith, rest)

-- numbers are read again
number_1 : (n : ℕ) (rest : List ℕ) → number w8 (n ∷ rest) ≡ Ok (n, rest)
number_1 n rest =
    let long : nat_le 1 (suc (length rest)) ≡ true = le-leb _ _ (omega arith) in
    rw long refl

number_2 : (n : ℕ) (rest : List ℕ) → n < 2 ^ 16 → number w16 (to_be_bytes w16 n ++ rest) ≡ Ok (n, rest)
number_2 n rest fits =
    let long : nat_le 2 (suc (suc (length rest))) ≡ true = le-leb _ _ (omega arith) in
    rw long (ap (λ k. Ok (k, rest)) (from_be_bytes-to_be_bytes_2 n fits))

number_4 : (n : ℕ) (rest : List ℕ) → n < 2 ^ 32 → number w32 (to_be_bytes w32 n ++ rest) ≡ Ok (n, rest)
number_4 n rest fits =
    let long : nat_le 4 (suc (suc (suc (suc (length rest))))) ≡ true = le-leb _ _ (omega arith) in
    rw long (ap (λ k. Ok (k, rest)) (from_be_bytes-to_be_bytes_4 n fits))

number_8 : (n : ℕ) (rest : List ℕ) → n < 2 ^ 64 → number w64 (to_be_bytes w64 n ++ rest) ≡ Ok (n, rest)
number_8 n rest fits =
    let long : nat_le 8 (suc (suc (suc (suc (suc (suc (suc (suc (length rest))))))))) ≡ true = le-leb _ _ (omega arith) in
    rw long (ap (λ k. Ok (k, rest)) (from_be_bytes-to_be_bytes_8 n fits))

between_2 : (low high n : ℕ) (rest : List ℕ) → low ≤ n → n ≤ high → n < 2 ^ 16 → number_from low high w16 (to_be_bytes w16 n ++ rest) ≡ Ok (n, rest)
between_2 low high n rest above below fits =
    let is_above : nat_le low n ≡ true = le-leb _ _ above in
    let is_below : nat_le n high ≡ true = le-leb _ _ below in
    rw (number_2 n rest fits) (rw is_above (rw is_below refl))

between_4 : (low high n : ℕ) (rest : List ℕ) → low ≤ n → n ≤ high → n < 2 ^ 32 → number_from low high w32 (to_be_bytes w32 n ++ rest) ≡ Ok (n, rest)
between_4 low high n rest above below fits =
    let is_above : nat_le low n ≡ true = le-leb _ _ above in
    let is_below : nat_le n high ≡ true = le-leb _ _ below in
    rw (number_4 n rest fits) (rw is_above (rw is_below refl))

counted_2 : (n : ℕ) (rest : List ℕ) → 1 ≤ n → n < 2 ^ 16 → at_least 1 w16 (to_be_bytes w16 n ++ rest) ≡ Ok (n, rest)
counted_2 n rest least fits =
    let is : nat_le 1 n ≡ true = le-leb _ _ least in
    rw (number_2 n rest fits) (rw is refl)

counted_4 : (n : ℕ) (rest : List ℕ) → 1 ≤ n → n < 2 ^ 32 → at_least 1 w32 (to_be_bytes w32 n ++ rest) ≡ Ok (n, rest)
counted_4 n rest least fits =
    let is : nat_le 1 n ≡ true = le-leb _ _ least in
    rw (number_4 n rest fits) (rw is refl)

counted_8 : (n : ℕ) (rest : List ℕ) → 1 ≤ n → n < 2 ^ 64 → at_least 1 w64 (to_be_bytes w64 n ++ rest) ≡ Ok (n, rest)
counted_8 n rest least fits =
    let is : nat_le 1 n ≡ true = le-leb _ _ least in
    rw (number_8 n rest fits) (rw is refl)

piece_again : (n : ℕ) (bytes rest : List ℕ) → length bytes ≡ n → piece n (bytes ++ rest) ≡ Ok (bytes, rest)
piece_again n bytes rest is =
    let long : nat_le (length bytes) (length (bytes ++ rest)) ≡ true = le-leb _ _ (omega (arith, length-append bytes rest)) in
    rw (← is) (rw long (rw (take-append_seam bytes rest) (rw (drop-append_seam bytes rest) refl)))

-- ranges are read again
ranges_again : (size low : ℕ) (rs : List ChangedRange) (rest : List ℕ) → size ≤ 4096 → AreRanges size low rs → ranges_field size low (length rs) (concat (map range_bytes rs) ++ rest) ≡ Ok (rs, rest)
ranges_again size low [] rest most i = refl
ranges_again size low (r ∷ rs) rest most i =
    let above = i.0 in
    let some = i.1 in
    let inside = i.2 in
    let more : List ℕ = concat (map range_bytes rs) ++ rest in
    rw (append_assoc r.bytes (concat (map range_bytes rs)) rest)
    (rw (between_2 low size r.place (to_be_bytes w16 (length r.bytes) ++ (r.bytes ++ more)) above (omega arith) (omega arith))
    (rw (between_2 1 (size - r.place) (length r.bytes) (r.bytes ++ more) some (omega arith) (omega arith))
    (rw (piece_again (length r.bytes) r.bytes more refl) (rw (ranges_again size (r.place + length r.bytes + 1) rs rest most i.3) refl))))

-- a part is read again
part_again : (size : ℕ) (whole : Bool) (p : Part) (rest : List ℕ) → size ≤ 4096 → IsPart size whole p → part_field size whole (part_bytes p ++ rest) ≡ Ok (p, rest)
part_again size true (Image bytes) rest most i = rw (piece_again size bytes rest i.1) refl
part_again size false (Image bytes) rest most i = let x = i.0 in absurd (cc)
part_again size true (Ranges rs) rest most i = let x = i.0 in absurd (cc)
part_again size false (Ranges rs) rest most i =
    let some = i.1 in
    let few = few_ranges size 0 rs i.2 in
    rw (counted_2 (length rs) (concat (map range_bytes rs) ++ rest) some (omega arith)) (rw (ranges_again size 0 rs rest most i.2) refl)

-- changed pages are read again
changes_again : (c : Sizes) (whole : Bool) (low : ℕ) (xs : List Logged) (rest : List ℕ) → InLimits c → AreChanges c whole low xs → AllByRecursion (λ x. x.version < 2 ^ 64) xs
    → changes_field c whole low (length xs) (concat (map logged_bytes xs) ++ rest) ≡ Ok (xs, rest)
changes_again c whole low [] rest limits i fits = refl
changes_again c whole low (x ∷ xs) rest limits i fits =
    let above = i.0 in
    let below = i.1 in
    let most = limits.most_pages in
    let more : List ℕ = concat (map logged_bytes xs) ++ rest in
    rw (append_assoc (part_bytes x.part) (concat (map logged_bytes xs)) rest)
    (rw (between_4 low (c.pages - 1) x.page (to_be_bytes w64 x.version ++ (part_bytes x.part ++ more)) above (omega arith) (omega arith))
    (rw (counted_8 x.version (part_bytes x.part ++ more) i.2 fits.0)
    (rw (part_again c.size whole x.part more limits.most_size i.3)
    (rw (changes_again c whole (x.page + 1) xs rest limits i.4 fits.1) refl))))

-- the mark tells the node and the format
mark_again : (nodes node : ℕ) (whole : Bool) → node < nodes → nodes ≤ 16 → (is_mark nodes (pick whole node (128 + node)) ≡ true) × ((nat_lt (pick whole node (128 + node)) 128 ≡ whole) × (pick whole (pick whole node (128 + node)) (pick whole node (128 + node) - 128) ≡ node))
mark_again nodes node true below most =
    let is : nat_lt node nodes ≡ true = lt-ltb _ _ below in
    let small : nat_lt node 128 ≡ true = lt-ltb _ _ (omega arith) in
    (rw is refl, (small, refl))
mark_again nodes node false below most =
    let not_low : nat_lt (128 + node) nodes ≡ false = grind (arith, nat_tests) in
    let from : nat_le 128 (128 + node) ≡ true = le-leb _ _ (omega arith) in
    let to : nat_lt (128 + node) (128 + nodes) ≡ true = lt-ltb _ _ (omega arith) in
    let large : nat_lt (128 + node) 128 ≡ false = grind (arith, nat_tests) in
    (rw not_low (rw from (rw to refl)), (large, omega arith))

-- a body is read again
body_fields : (c : Sizes) (r : Record) (whole : Bool) (xs : List Logged) → InLimits c → IsRecord c r → HasNumbers r → 1 ≤ length xs
    → AreChanges c whole 0 xs → AllByRecursion (λ x. x.version < 2 ^ 64) xs
    → body_field c (pick whole r.tx.node (128 + r.tx.node) ∷ (to_be_bytes w32 r.tx.born ++ to_be_bytes w32 r.tx.serial ++ to_be_bytes w32 (length xs) ++ (concat (map logged_bytes xs) ++ [])))
    ≡ Ok (record { tx = r.tx; changes = xs }, [])
body_fields c r whole xs limits is has some i fits =
    let mark = mark_again c.nodes r.tx.node whole is.node limits.most_nodes in
    let m : ℕ = pick whole r.tx.node (128 + r.tx.node) in
    let changes : List ℕ = concat (map logged_bytes xs) ++ [] in
    let few = few_changes c whole 0 xs i in
    let most = limits.most_pages in
    rw (number_1 m (to_be_bytes w32 r.tx.born ++ to_be_bytes w32 r.tx.serial ++ to_be_bytes w32 (length xs) ++ changes))
    (rw mark.0
    (rw (counted_4 r.tx.born (to_be_bytes w32 r.tx.serial ++ to_be_bytes w32 (length xs) ++ changes) is.born has.born)
    (rw (counted_4 r.tx.serial (to_be_bytes w32 (length xs) ++ changes) is.serial has.serial)
    (rw (counted_4 (length xs) changes some (omega arith))
    (rw mark.1.0 (rw (changes_again c whole 0 xs [] limits i fits) (rw mark.1.1 refl)))))))

body_again : (c : Sizes) (r : Record) → InLimits c → IsRecord c r → HasNumbers r → body_field c (body_bytes r) ≡ Ok (r, [])
body_again c r limits is has = one r.changes refl is.changes has.versions
  where
    one : (xs : List Logged) → r.changes ≡ xs → AreSomeChanges c xs → AllByRecursion (λ x. x.version < 2 ^ 64) xs → body_field c (body_bytes r) ≡ Ok (r, [])
    one [] same some fits = absurd some
    one (x ∷ xs) same some fits =
        ap (λ (ys : List Logged). body_field c (mark_of ys r.tx.node ∷ (to_be_bytes w32 r.tx.born ++ to_be_bytes w32 r.tx.serial ++ to_be_bytes w32 (length ys) ++ concat (map logged_bytes ys)))) same
        ∙ ap (λ (bs : List ℕ). body_field c (mark_of (x ∷ xs) r.tx.node ∷ (to_be_bytes w32 r.tx.born ++ to_be_bytes w32 r.tx.serial ++ to_be_bytes w32 (length (x ∷ xs)) ++ bs))) (sym (append-nil (concat (map logged_bytes (x ∷ xs)))))
        ∙ body_fields c r (is_whole x.part) (x ∷ xs) limits is has (omega arith) some fits
        ∙ ap (λ (ys : List Logged). let p : Result (Record × List ℕ) Stop = Ok (record { tx = r.tx; changes = ys }, []) in p) (sym same)

-- a record that was written is read again, whatever follows
pub record_again : (c : Sizes) (r : Record) (more : List ℕ) → InLimits c → IsRecord c r → HasNumbers r → record_field c (record_bytes r ++ more) ≡ Ok (r, more)
record_again c r more limits is has =
    let n : ℕ = 4 + length (body_bytes r) in
    let fits = short_record c r limits is in
    let count : from_be_bytes w32 (to_be_bytes w32 n) ≡ n = from_be_bytes-to_be_bytes_4 n fits in
    ap (record_field c) (append_assoc (to_be_bytes w32 n) (body_bytes r) more)
    ∙ record_made c (to_be_bytes w32 n) (body_bytes r) more r refl (omega arith) (ap whole (body_again c r limits is has))

-- a log with just that record
pub record_alone : (c : Sizes) (r : Record) → InLimits c → IsRecord c r → HasNumbers r → records_of c (record_bytes r) ≡ r ∷ []
record_alone c r limits is has =
    ap (records_of c) (sym (append-nil (record_bytes r)))
    ∙ ap (λ l. l.records) (log_read c (record_bytes r ++ []) r [] (record_again c r [] limits is has))

pub alone_whole : (c : Sizes) (r : Record) → InLimits c → IsRecord c r → HasNumbers r → IsWhole c (record_bytes r)
alone_whole c r limits is has =
    ap (λ bs. (log_of c bs).rest) (sym (append-nil (record_bytes r)))
    ∙ ap (λ l. l.rest) (log_read c (record_bytes r ++ []) r [] (record_again c r [] limits is has))

-- a piece of a record that lacks bytes is no record
torn_stop : (c : Sizes) (r : Record) (k : ℕ) → InLimits c → IsRecord c r → k < length (record_bytes r) → (s : Stop) × (record_field c (take k (record_bytes r)) ≡ Err s)
torn_stop c r k limits is few = one (nat_le 4 k) refl
  where
    one : (b : Bool) → nat_le 4 k ≡ b → (s : Stop) × (record_field c (take k (record_bytes r)) ≡ Err s)
    one false e =
        let count = length-take k (record_bytes r) in
        (record { fault = Short; left = length (take k (record_bytes r)) }, record_short c (take k (record_bytes r)) (grind (arith, nat_tests)))
    one true e =
        let n : ℕ = 4 + length (body_bytes r) in
        let fits = short_record c r limits is in
        let field : from_be_bytes w32 (to_be_bytes w32 n) ≡ n = from_be_bytes-to_be_bytes_4 n fits in
        let all = length-append (to_be_bytes w32 n) (body_bytes r) in
        let count = length-take (k - 4) (body_bytes r) in
        let more : k ≡ 4 + (k - 4) = grind (arith, nat_tests) in
        let split : take k (record_bytes r) ≡ to_be_bytes w32 n ++ take (k - 4) (body_bytes r) =
        ap (λ (m : ℕ). take m (record_bytes r)) more ∙ take-append-add (to_be_bytes w32 n) (body_bytes r) (k - 4) in
        let four : 4 ≤ k = grind (arith, nat_tests) in (
          record { fault = Short; left = length (take (k - 4) (body_bytes r)) },
          ap (record_field c) split ∙ record_cut c (to_be_bytes w32 n) (take (k - 4) (body_bytes r)) refl (omega arith),
        )

pub torn_records : (c : Sizes) (r : Record) (k : ℕ) → InLimits c → IsRecord c r → k < length (record_bytes r) → records_of c (take k (record_bytes r)) ≡ []
torn_records c r k limits is few =
    let torn = torn_stop c r k limits is few in
    ap (λ l. l.records) (log_torn c (take k (record_bytes r)) torn.0 torn.1)
