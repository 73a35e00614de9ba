-- The records of a log fit the pages of the database, so a page that is redone keeps its size.
use Rattle.std.proofs.Common.{◌≡◌, refl, ap, subst, ◌∙◌, sym, ℕ, zero, suc, ◌+◌, ◌-◌, ◌≤◌, ◌==◌, ◌&&◌, nat_le, nat_lt, Bool, true, false, List, [], ◌∷◌, ◌++◌, length, length-append, take, drop, Option, Some, None, Result, Ok, Err, arith}
use Rattle.std.specs.Prelude.{IfSome, replicate}
use Rattle.std.specs.Int.{Width, w8, w16, w32, w64}
use Rattle.std.specs.List.{AllByRecursion, filter}
use Rattle.std.proofs.lemmas.Bool.Decides.{nat_tests}
use Rattle.std.proofs.lemmas.List.{length-take, length-drop, length-replicate}
use Rattle.pcl_base.specs.Limits.{Sizes}
use Rattle.pcl_base.specs.declared.log.Record.{Record}
use Rattle.pcl_base.specs.declared.log.Logged.{Logged}
use Rattle.pcl_base.specs.declared.log.Part.{Part}
use Rattle.pcl_base.specs.declared.log.Part.TheVariants.{Image, Ranges}
use Rattle.pcl_base.specs.declared.log.ChangedRange.{ChangedRange}
use Rattle.text_rules.specs.ChangedRanges.{put, put_ranges}
use Rattle.text_rules.specs.FieldBytes.{Fault, Short, TooLong, BadField, Stop, Reader, stop, pick, after, give, judged, allowed, at_least, number, number_from, piece, whole, before_rest}
use Rattle.text_rules.specs.LogRecord.{is_mark, node_of_mark, ranges_field, part_field, changes_field, body_field, record_field, log_at, log_up_to, records_of}
use Rattle.text_rules.specs.StoredPage.{PageAt, unwritten, written, first_number}
use Rattle.run_rules.specs.Disk.{Disk, raw_page, log_at as node_log}
use Rattle.run_rules.specs.Words.{pick as choose}
use Rattle.run_rules.specs.Redo.{entries_of, newer, newest_image, ranges_or, ranges_at, step_on, reached, redone, records_in}
use Rattle.node_rules.specs.Work.{read_page, page_or_differs}
use Rattle.step_laws.proofs.Outcomes.{On}
use Rattle.node_laws.proofs.Lists.{all_append, all_filter}

-- a field that was read before what followed
record Went {X Y : Type 0} (r : Result (X × List ℕ) Stop) (f : X → Reader Y) (y : Y) (b : List ℕ) : Type 0 where
  value : X
  behind : List ℕ
  first : r ≡ Ok (value, behind)
  further : f value behind ≡ Ok (y, b)

went : {X Y : Type 0} (r : Result (X × List ℕ) Stop) (f : X → Reader Y) (y : Y) (b : List ℕ) → after r f ≡ Ok (y, b) → Went r f y b
went (Ok p) f y b e = record { value = p.0; behind = p.1; first = refl; further = e }
went (Err s) f y b e = absurd (cc)

abbrev value_or : {X : Type 0} → X → Result (X × List ℕ) Stop → X
value_or x (Ok p) = p.0
value_or x (Err s) = x

given_value : {X : Type 0} (x y : X) (a b : List ℕ) → give x a ≡ Ok (y, b) → x ≡ y
given_value x y a b e = ap (value_or x) e

-- a value that was read is one that is allowed
picked_is : {X : Type 0} (is : X → Bool) (t : Bool) (p : X × List ℕ) (f : Fault) (a : List ℕ) (x : X) (b : List ℕ) → is p.0 ≡ t → pick {X = Result (X × List ℕ) Stop} t (Ok p) (stop f a) ≡ Ok (x, b) → is x ≡ true
picked_is is true p f a x b e g = ap is (sym (ap (value_or p.0) g)) ∙ e
picked_is is false p f a x b e g = absurd (cc)

judged_is : {X : Type 0} (f : Fault) (is : X → Bool) (a : List ℕ) (r : Result (X × List ℕ) Stop) (x : X) (b : List ℕ) → judged f is a r ≡ Ok (x, b) → is x ≡ true
judged_is f is a (Err s) x b e = absurd (cc)
judged_is f is a (Ok p) x b e = picked_is is (is p.0) p f a x b refl e

upto : (low high n : ℕ) → (nat_le low n && nat_le n high) ≡ true → n ≤ high
upto low high n e = by (nat_le low n) (nat_le n high) refl e
  where
    by : (a b : Bool) → nat_le n high ≡ b → a && b ≡ true → n ≤ high
    by true true f g = grind (arith, nat_tests, f)
    by true false f g = absurd (cc)
    by false b f g = absurd (cc)

number_upto : (low high : ℕ) (w : Width) (a : List ℕ) (n : ℕ) (b : List ℕ) → number_from low high w a ≡ Ok (n, b) → n ≤ high
number_upto low high w a n b e = upto low high n (judged_is BadField (λ m. nat_le low m && nat_le m high) a (number w a) n b e)

piece_long : (n : ℕ) (a x b : List ℕ) → piece n a ≡ Ok (x, b) → length x ≡ n
piece_long n a x b e = by (nat_le n (length a)) refl e
  where
    by : (t : Bool) → nat_le n (length a) ≡ t → pick {X = Result (List ℕ × List ℕ) Stop} t (Ok (take n a, drop n a)) (stop Short a) ≡ Ok (x, b) → length x ≡ n
    by true f g =
        let front : take n a ≡ x = ap (value_or x) g in
        let le : n ≤ length a = grind (arith, nat_tests) in
        ap length (sym front) ∙ (length-take n a ∙ omega arith)
    by false f g = absurd (cc)

-- a range that ends within a page, and a part of a page
abbrev pub IsInside : ℕ → ChangedRange → Type 0
IsInside size r = r.place + length r.bytes ≤ size

abbrev pub FitsPage : ℕ → Part → Type 0
FitsPage size (Image bytes) = length bytes ≡ size
FitsPage size (Ranges rs) = AllByRecursion (IsInside size) rs

abbrev pub AreFitting : ℕ → List Logged → Type 0
AreFitting size xs = AllByRecursion (λ x. FitsPage size x.part) xs

ranges_fit : (size low n : ℕ) (a : List ℕ) (rs : List ChangedRange) (b : List ℕ) → ranges_field size low n a ≡ Ok (rs, b) → AllByRecursion (IsInside size) rs
ranges_fit size low zero a rs b e = subst (AllByRecursion (IsInside size)) (given_value [] rs _ _ e) tt
ranges_fit size low (suc n) a rs b e =
    let p = went _ _ _ _ e in
    let q = went _ _ _ _ p.further in
    let r = went _ _ _ _ q.further in
    let t = went (ranges_field size (p.value + q.value + 1) n r.behind) _ _ _ r.further in
    let place = number_upto low size w16 a p.value p.behind p.first in
    let count = number_upto 1 (size - p.value) w16 p.behind q.value q.behind q.first in
    let long = piece_long q.value q.behind r.value r.behind r.first in
    let one : ChangedRange = record { place = p.value; bytes = r.value } in
    let here : IsInside size one = omega (arith, place, count, long) in
    subst (AllByRecursion (IsInside size)) (given_value (one ∷ t.value) rs _ _ t.further) (here, ranges_fit size (p.value + q.value + 1) n r.behind t.value t.behind t.first)

part_fits : (size : ℕ) (w : Bool) (a : List ℕ) (p : Part) (b : List ℕ) → part_field size w a ≡ Ok (p, b) → FitsPage size p
part_fits size true a p b e =
    let r = went _ _ _ _ e in
    subst (FitsPage size) (given_value (Image r.value) p _ _ r.further) (piece_long size a r.value r.behind r.first)
part_fits size false a p b e =
    let q = went (at_least 1 w16 a) _ _ _ e in
    let r = went _ _ _ _ q.further in
    subst (FitsPage size) (given_value (Ranges r.value) p _ _ r.further) (ranges_fit size 0 q.value q.behind r.value r.behind r.first)

changes_fit : (c : Sizes) (w : Bool) (low n : ℕ) (a : List ℕ) (xs : List Logged) (b : List ℕ) → changes_field c w low n a ≡ Ok (xs, b) → AreFitting c.size xs
changes_fit c w low zero a xs b e = subst (AreFitting c.size) (given_value [] xs _ _ e) tt
changes_fit c w low (suc n) a xs b e =
    let p = went (number_from low (c.pages - 1) w32 a) _ _ _ e in
    let q = went (at_least 1 w64 p.behind) _ _ _ p.further in
    let r = went _ _ _ _ q.further in
    let t = went _ _ _ _ r.further in
    let one : Logged = record { page = p.value; version = q.value; part = r.value } in
    subst (AreFitting c.size) (given_value (one ∷ t.value) xs _ _ t.further)
    (part_fits c.size w q.behind r.value r.behind r.first, changes_fit c w (p.value + 1) n r.behind t.value t.behind t.first)

body_fits : (c : Sizes) (a : List ℕ) (r : Record) (b : List ℕ) → body_field c a ≡ Ok (r, b) → AreFitting c.size r.changes
body_fits c a r b e =
    let m = went (allowed BadField (is_mark c.nodes) (number w8) a) _ _ _ e in
    let p = went (at_least 1 w32 m.behind) _ _ _ m.further in
    let q = went (at_least 1 w32 p.behind) _ _ _ p.further in
    let n = went (at_least 1 w32 q.behind) _ _ _ q.further in
    let x = went (changes_field c (nat_lt m.value 128) 0 n.value n.behind) _ _ _ n.further in
    subst (λ (r : Record). AreFitting c.size r.changes) (given_value (record { tx = record { node = node_of_mark m.value; born = p.value; serial = q.value }; changes = x.value }) r _ _ x.further) (changes_fit c (nat_lt m.value 128) 0 n.value n.behind x.value x.behind x.first)

-- a record that was read
record_fits : (c : Sizes) (a : List ℕ) (r : Record) (b : List ℕ) → record_field c a ≡ Ok (r, b) → AreFitting c.size r.changes
record_fits c a r b e =
    let p = went (number w32 a) _ _ _ e in
    let q = went (piece (p.value - 4) p.behind) _ _ _ p.further in
    in_body q.value q.behind (body_field c q.value) refl q.further
  where
    ended : (x : Record) (d v rest : List ℕ) (t : Bool) → AreFitting c.size x.changes → before_rest rest (pick t (Ok x) (stop TooLong d)) ≡ Ok (r, b) → AreFitting c.size r.changes
    ended x d v rest true fits h = subst (λ (q : Record). AreFitting c.size q.changes) (ap (value_or r) h) fits
    ended x d v rest false fits h = absurd (cc)

    in_body : (v rest : List ℕ) (w : Result (Record × List ℕ) Stop) → body_field c v ≡ w → before_rest rest (whole w) ≡ Ok (r, b) → AreFitting c.size r.changes
    in_body v rest (Ok x) f g = ended x.0 x.1 v rest (length x.1 == 0) (body_fits c v x.0 x.1 f) g
    in_body v rest (Err s) f g = absurd (cc)

abbrev pub FitRecord : ℕ → Record → Type 0
FitRecord size r = AreFitting size r.changes

up_to_fit : (c : Sizes) (n : ℕ) (a : List ℕ) → AllByRecursion (FitRecord c.size) (log_up_to c n a).records
up_to_fit c zero a = tt
up_to_fit c (suc n) a = by (record_field c a) refl (up_to_fit c n)
  where
    by : (o : Result (Record × List ℕ) Stop) → record_field c a ≡ o → ((b : List ℕ) → AllByRecursion (FitRecord c.size) (log_up_to c n b).records)
        → AllByRecursion (FitRecord c.size) (log_at a (log_up_to c n) o).records
    by (Ok p) e rest = (record_fits c a p.0 p.1 e, rest p.1)
    by (Err s) e rest = tt

pub log_fits : (c : Sizes) (a : List ℕ) → AllByRecursion (FitRecord c.size) (records_of c a)
log_fits c a = up_to_fit c (length a) a

pub records_fit : (c : Sizes) (d : Disk) (ns : List ℕ) → AllByRecursion (FitRecord c.size) (records_in c d ns)
unfolding records_in
records_fit c d [] = tt
records_fit c d (n ∷ ns) = all_append (FitRecord c.size) (records_of c (node_log d n)) (records_in c d ns) (log_fits c (node_log d n)) (records_fit c d ns)

entries_fit : (size p : ℕ) (rs : List Record) → AllByRecursion (FitRecord size) rs → AreFitting size (entries_of p rs)
unfolding entries_of
entries_fit size p [] all = tt
entries_fit size p (r ∷ rs) all =
    all_append (λ x. FitsPage size x.part) (filter (λ x. x.page == p) r.changes) (entries_of p rs) (all_filter (λ x. FitsPage size x.part) (λ x. x.page == p) r.changes all.0) (entries_fit size p rs all.1)

-- what redo makes of a page
put_long : (place : ℕ) (part bytes : List ℕ) → place + length part ≤ length bytes → length (put place part bytes) ≡ length bytes
put_long place part bytes low =
    let a = length-append (take place bytes ++ part) (drop (place + length part) bytes) in
    let b = length-append (take place bytes) part in
    let t = length-take place bytes in
    let d = length-drop (place + length part) bytes in
    grind (arith, nat_tests, a, b, t, d)

puts_long : (size : ℕ) (rs : List ChangedRange) (bytes : List ℕ) → AllByRecursion (IsInside size) rs → length bytes ≡ size → length (put_ranges rs bytes) ≡ size
puts_long size [] bytes all sized = sized
puts_long size (r ∷ rs) bytes all sized =
    let inside = all.0 in
    puts_long size rs (put r.place r.bytes bytes) all.1 (put_long r.place r.bytes bytes (omega (arith, inside, sized)) ∙ sized)

newest_long : (size : ℕ) (xs : List Logged) (at : PageAt) → AreFitting size xs → length at.bytes ≡ size → length (newest_image at xs).bytes ≡ size
newest_long size [] at all sized = sized
newest_long size (x ∷ xs) at all sized = newest_long size xs (newer x.version at x.part) all.1 (by x.part all.0)
  where
    pickd : (b : Bool) (bytes : List ℕ) → length bytes ≡ size → length (choose b (record { version = x.version; bytes = bytes }) at).bytes ≡ size
    pickd true bytes h = h
    pickd false bytes h = sized

    by : (p : Part) → FitsPage size p → length (newer x.version at p).bytes ≡ size
    by (Image bytes) h = pickd (nat_lt at.version x.version) bytes h
    by (Ranges rs) h = sized

ranges_there : (size v : ℕ) (xs : List Logged) → AreFitting size xs → IfSome (ranges_at xs v) (AllByRecursion (IsInside size))
unfolding ranges_at
ranges_there size v [] all = tt
ranges_there size v (x ∷ xs) all = by (x.version == v) x.part all.0 (ranges_there size v xs all.1)
  where
    by : (b : Bool) (p : Part) → FitsPage size p → IfSome (ranges_at xs v) (AllByRecursion (IsInside size)) → IfSome (ranges_or b p (ranges_at xs v)) (AllByRecursion (IsInside size))
    by true (Ranges rs) h rest = h
    by true (Image bytes) h rest = rest
    by false (Ranges rs) h rest = rest
    by false (Image bytes) h rest = rest

reached_long : (size n : ℕ) (xs : List Logged) (at : PageAt) → AreFitting size xs → length at.bytes ≡ size → length (reached n xs at).bytes ≡ size
unfolding reached
reached_long size zero xs at all sized = sized
reached_long size (suc n) xs at all sized = by (ranges_at xs (at.version + 1)) (ranges_there size (at.version + 1) xs all) (λ next. reached_long size n xs next all)
  where
    by : (o : Option (List ChangedRange)) → IfSome o (AllByRecursion (IsInside size)) → ((next : PageAt) → length next.bytes ≡ size → length (reached n xs next).bytes ≡ size)
        → length (step_on o at (reached n xs)).bytes ≡ size
    by None h rest = sized
    by (Some rs) h rest = rest (record { version = at.version + 1; bytes = put_ranges rs at.bytes }) (puts_long size rs at.bytes h sized)

pub redone_long : (size : ℕ) (rs : List Record) (p : ℕ) (at : PageAt) → AllByRecursion (FitRecord size) rs → length at.bytes ≡ size → length (redone rs p at).bytes ≡ size
unfolding redone
redone_long size rs p at all sized =
    let entries = entries_fit size p rs all in
    reached_long size (length (entries_of p rs)) (entries_of p rs) (newest_image at (entries_of p rs)) entries (newest_long size (entries_of p rs) at entries sized)

-- a page that was read has its size
pub read_long : (size : ℕ) (pages : List (List ℕ)) (p : ℕ) → length (raw_page pages p) ≡ size + 16 → On (λ (at : PageAt). length at.bytes ≡ size) (read_page pages p)
read_long size pages p long = by (first_number raw == 0) (first_number raw == p + 1)
  where
    raw : List ℕ
    raw = raw_page pages p

    zeros : length {A = ℕ} (replicate (length raw - 16) 0) ≡ size
    zeros = let none : ℕ = 0 in let n = length-replicate (length raw - 16) none in omega (arith, n, long)

    by : (a b : Bool)
        → On (λ (at : PageAt). length at.bytes ≡ size) (page_or_differs p (pick a (Ok (unwritten raw)) (pick b (Ok (written raw)) (Err (record { expected = p + 1; found = first_number raw })))))
    by true b = zeros
    by false true = let left = length-drop 16 raw in omega (arith, long, left)
    by false false = tt
