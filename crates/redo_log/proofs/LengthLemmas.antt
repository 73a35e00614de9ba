-- Fields that were read are as long as what they are the bytes of.
use Rattle.std.proofs.Common.{◌≡◌, refl, sym, ap, ◌∙◌, ℕ, zero, suc, ◌+◌, ◌-◌, ◌≤◌, ◌==◌, Bool, true, false, nat_le, List, [], ◌∷◌, length, map, take, drop, Result, Ok, Err, arith, length-append}
use Rattle.std.specs.List.{concat}
use Rattle.std.specs.Int.{Width, w8, w16, w32, w64, byte_len}
use Rattle.std.proofs.lemmas.Bool.Decides.{nat_tests}
use Rattle.std.proofs.lemmas.List.{length-take, length-drop}
use Rattle.pcl_base.specs.Limits.{Sizes}
use Rattle.pcl_base.specs.declared.log.Record.{Record}
use Rattle.pcl_base.specs.declared.log.Logged.{Logged}
use Rattle.pcl_base.specs.declared.log.Part.{Part}
use Rattle.pcl_base.specs.declared.log.Part.TheVariants.{Image, Ranges}
use Rattle.pcl_base.specs.declared.log.ChangedRange.{ChangedRange}
use Rattle.text_rules.specs.FieldBytes.{Fault, Short, TooLong, Stop, Reader, stop, pick, after, give, judged, number, number_from, at_least, piece, whole, before_rest}
use Rattle.text_rules.specs.LogRecord.{is_whole, range_bytes, part_bytes, logged_bytes, body_bytes, record_bytes, ranges_field, part_field, changes_field, body_field, record_field}

-- a field that was read before what followed
pub record Went {X Y : Type 0} (r : Result (X × List ℕ) Stop) (f : X → Reader Y) (y : Y) (b : List ℕ) : Type 0 where
  pub value : X
  pub behind : List ℕ
  pub first : r ≡ Ok (value, behind)
  pub further : f value behind ≡ Ok (y, b)

pub went : {X Y : Type 0} (r : Result (X × List ℕ) Stop) (f : X → Reader Y) (y : Y) (b : List ℕ) → after r f ≡ Ok (y, b) → Went r f y b
went (Ok p) f y b e = record { value = p.0; behind = p.1; first = refl; further = e }
went (Err s) f y b e = absurd (cc)

-- what was read, and what is left
abbrev value_or : {X : Type 0} → X → Result (X × List ℕ) Stop → X
value_or x (Ok p) = p.0
value_or x (Err s) = x

abbrev left_or : {X : Type 0} → List ℕ → Result (X × List ℕ) Stop → List ℕ
left_or b (Ok p) = p.1
left_or b (Err s) = b

pub given_value : {X : Type 0} (x y : X) (a b : List ℕ) → give x a ≡ Ok (y, b) → x ≡ y
given_value x y a b e = ap (value_or x) e

pub given_left : {X : Type 0} (x y : X) (a b : List ℕ) → give x a ≡ Ok (y, b) → a ≡ b
given_left x y a b e = ap (left_or a) e

-- a piece
pub record IsLong (n : ℕ) (a x b : List ℕ) : Type 0 where
  pub count : length x ≡ n
  pub all : length a ≡ n + length b
  pub left : b ≡ drop n a
  pub value : x ≡ take n a

pub piece_long : (n : ℕ) (a x b : List ℕ) → piece n a ≡ Ok (x, b) → IsLong n a x b
piece_long n a x b e = by (nat_le n (length a)) refl e
  where
    by : (t : Bool) → nat_le n (length a) ≡ t → pick {X = Result (List ℕ × List ℕ) Stop} t (Ok (take n a, drop n a)) (stop Short a) ≡ Ok (x, b) → IsLong n a x b
    by true f g =
        let front : take n a ≡ x = ap (value_or x) g in
        let back : drop n a ≡ b = ap (left_or b) g in
        let le : n ≤ length a = grind (arith, nat_tests) in
        record {
          count = ap length (sym front) ∙ (length-take n a ∙ omega arith);
          all = omega (arith, ap length back, length-drop n a);
          left = sym back;
          value = sym front;
        }
    by false f g = absurd (cc)

-- numbers
pub number_long : (w : Width) (a : List ℕ) (n : ℕ) (b : List ℕ) → number w a ≡ Ok (n, b) → length a ≡ byte_len w + length b
number_long w a n b e =
    let p = went _ _ _ _ e in
    let l = piece_long (byte_len w) a p.value p.behind p.first in
    l.all ∙ ap (λ (d : List ℕ). byte_len w + length d) (given_left _ _ _ _ p.further)

picked_read : {X : Type 0} (t : Bool) (p : X × List ℕ) (s : Result (X × List ℕ) Stop) (f : Fault) (a : List ℕ) (x : X) (b : List ℕ) → pick {X = Result (X × List ℕ) Stop} t (Ok p) (stop f a) ≡ Ok (x, b) → s ≡ Ok p → s ≡ Ok (x, b)
picked_read true p s f a x b g h = h ∙ g
picked_read false p s f a x b g h = absurd (cc)

pub judged_read : {X : Type 0} (f : Fault) (is : X → Bool) (a : List ℕ) (r : Result (X × List ℕ) Stop) (x : X) (b : List ℕ) → judged f is a r ≡ Ok (x, b) → r ≡ Ok (x, b)
judged_read f is a (Err s) x b e = absurd (cc)
judged_read f is a (Ok p) x b e = picked_read (is p.0) p (Ok p) f a x b e refl

pub from_long : (low high : ℕ) (w : Width) (a : List ℕ) (n : ℕ) (b : List ℕ) → number_from low high w a ≡ Ok (n, b) → length a ≡ byte_len w + length b
from_long low high w a n b e = number_long w a n b (judged_read _ _ _ _ n b e)

pub least_long : (low : ℕ) (w : Width) (a : List ℕ) (n : ℕ) (b : List ℕ) → at_least low w a ≡ Ok (n, b) → length a ≡ byte_len w + length b
least_long low w a n b e = number_long w a n b (judged_read _ _ _ _ n b e)

-- what is left behind them
pub number_left : (w : Width) (a : List ℕ) (n : ℕ) (b : List ℕ) → number w a ≡ Ok (n, b) → b ≡ drop (byte_len w) a
number_left w a n b e =
    let p = went _ _ _ _ e in
    let l = piece_long (byte_len w) a p.value p.behind p.first in
    sym (given_left _ _ _ _ p.further) ∙ l.left

pub from_left : (low high : ℕ) (w : Width) (a : List ℕ) (n : ℕ) (b : List ℕ) → number_from low high w a ≡ Ok (n, b) → b ≡ drop (byte_len w) a
from_left low high w a n b e = number_left w a n b (judged_read _ _ _ _ n b e)

pub least_left : (low : ℕ) (w : Width) (a : List ℕ) (n : ℕ) (b : List ℕ) → at_least low w a ≡ Ok (n, b) → b ≡ drop (byte_len w) a
least_left low w a n b e = number_left w a n b (judged_read _ _ _ _ n b e)

-- ranges
ranges_long : (size low n : ℕ) (a : List ℕ) (rs : List ChangedRange) (b : List ℕ) → ranges_field size low n a ≡ Ok (rs, b) → length a ≡ length (concat (map range_bytes rs)) + length b
ranges_long size low zero a rs b e =
    let none : [] ≡ rs = given_value _ _ _ _ e in
    let left : a ≡ b = given_left _ _ _ _ e in
    omega (arith, ap length left, ap (λ (l : List ChangedRange). length (concat (map range_bytes l))) none)
ranges_long size low (suc n) a rs b e =
    let p = went _ _ _ _ e in
    let q = went _ _ _ _ p.further in
    let r = went _ _ _ _ q.further in
    let t = went _ _ _ _ r.further in
    let made = given_value _ _ _ _ t.further in
    let left = given_left _ _ _ _ t.further in
    let more = ranges_long size (p.value + q.value + 1) n r.behind t.value t.behind t.first in
    let bytes = piece_long q.value q.behind r.value r.behind r.first in
    let place = from_long low size w16 a p.value p.behind p.first in
    let count = from_long 1 (size - p.value) w16 p.behind q.value q.behind q.first in
    let one : ChangedRange = record { place = p.value; bytes = r.value } in
    let joined = length-append (range_bytes one) (concat (map range_bytes t.value)) in
    let whole : length a ≡ length (concat (map range_bytes (one ∷ t.value))) + length b = omega (arith, more, bytes.all, bytes.count, place, count, joined, ap length left) in
    whole ∙ ap (λ (l : List ChangedRange). length (concat (map range_bytes l)) + length b) made

-- a part
pub record PartLong (w : Bool) (a : List ℕ) (p : Part) (b : List ℕ) : Type 0 where
  pub all : length a ≡ length (part_bytes p) + length b
  pub format : is_whole p ≡ w

pub part_long : (size : ℕ) (w : Bool) (a : List ℕ) (p : Part) (b : List ℕ) → part_field size w a ≡ Ok (p, b) → PartLong w a p b
part_long size true a p b e =
    let r = went _ _ _ _ e in
    let bytes = piece_long size a r.value r.behind r.first in
    let made : Image r.value ≡ p = given_value _ _ _ _ r.further in
    let left = given_left _ _ _ _ r.further in
    let whole : length a ≡ length (part_bytes (Image r.value)) + length b = omega (arith, bytes.all, bytes.count, ap length left) in
    record { all = whole ∙ ap (λ (q : Part). length (part_bytes q) + length b) made; format = ap is_whole (sym made) }
part_long size false a p b e =
    let q = went _ _ _ _ e in
    let r = went _ _ _ _ q.further in
    let made : Ranges r.value ≡ p = given_value _ _ _ _ r.further in
    let left = given_left _ _ _ _ r.further in
    let count = least_long 1 w16 a q.value q.behind q.first in
    let more = ranges_long size 0 q.value q.behind r.value r.behind r.first in
    let whole : length a ≡ length (part_bytes (Ranges r.value)) + length b = omega (arith, count, more, ap length left) in
    record { all = whole ∙ ap (λ (q : Part). length (part_bytes q) + length b) made; format = ap is_whole (sym made) }

-- changes
pub changes_long : (c : Sizes) (w : Bool) (low n : ℕ) (a : List ℕ) (xs : List Logged) (b : List ℕ) → changes_field c w low n a ≡ Ok (xs, b) → length a ≡ length (concat (map logged_bytes xs)) + length b
changes_long c w low zero a xs b e =
    let none : [] ≡ xs = given_value _ _ _ _ e in
    let left : a ≡ b = given_left _ _ _ _ e in
    omega (arith, ap length left, ap (λ (l : List Logged). length (concat (map logged_bytes l))) none)
changes_long c w low (suc n) a xs b e =
    let p = went _ _ _ _ e in
    let q = went _ _ _ _ p.further in
    let r = went _ _ _ _ q.further in
    let t = went _ _ _ _ r.further in
    let made = given_value _ _ _ _ t.further in
    let left = given_left _ _ _ _ t.further in
    let more = changes_long c w (p.value + 1) n r.behind t.value t.behind t.first in
    let part = part_long c.size w q.behind r.value r.behind r.first in
    let page = from_long low (c.pages - 1) w32 a p.value p.behind p.first in
    let version = least_long 1 w64 p.behind q.value q.behind q.first in
    let one : Logged = record { page = p.value; version = q.value; part = r.value } in
    let joined = length-append (logged_bytes one) (concat (map logged_bytes t.value)) in
    let whole : length a ≡ length (concat (map logged_bytes (one ∷ t.value))) + length b = omega (arith, more, part.all, page, version, joined, ap length left) in
    whole ∙ ap (λ (l : List Logged). length (concat (map logged_bytes l)) + length b) made

-- as many changes as were asked for
pub changes_counted : (c : Sizes) (w : Bool) (low n : ℕ) (a : List ℕ) (xs : List Logged) (b : List ℕ) → changes_field c w low n a ≡ Ok (xs, b) → length xs ≡ n
changes_counted c w low zero a xs b e =
    let none : [] ≡ xs = given_value [] xs a b e in omega (arith, ap (λ (l : List Logged). length l) none)
changes_counted c w low (suc n) a xs b e =
    let p = went _ _ _ _ e in
    let q = went _ _ _ _ p.further in
    let r = went _ _ _ _ q.further in
    let t = went _ _ _ _ r.further in
    let made : record { page = p.value; version = q.value; part = r.value } ∷ t.value ≡ xs = given_value _ xs _ b t.further in
    let part = part_long c.size w q.behind r.value r.behind r.first in
    let page = from_long low (c.pages - 1) w32 a p.value p.behind p.first in
    let version = least_long 1 w64 p.behind q.value q.behind q.first in
    let more = changes_counted c w (p.value + 1) n r.behind t.value t.behind t.first in
    omega (arith, more, ap (λ (l : List Logged). length l) made)

-- a record behind its length
body_long : (c : Sizes) (a : List ℕ) (r : Record) (b : List ℕ) → body_field c a ≡ Ok (r, b) → length a ≡ length (body_bytes r) + length b
body_long c a r b e =
    let m = went _ _ _ _ e in
    let p = went _ _ _ _ m.further in
    let q = went _ _ _ _ p.further in
    let n = went _ _ _ _ q.further in
    let x = went _ _ _ _ n.further in
    let made = given_value _ _ _ _ x.further in
    let left = given_left _ _ _ _ x.further in
    let mark = number_long w8 a m.value m.behind (judged_read _ _ _ _ m.value m.behind m.first) in
    let born = least_long 1 w32 m.behind p.value p.behind p.first in
    let serial = least_long 1 w32 p.behind q.value q.behind q.first in
    let count = least_long 1 w32 q.behind n.value n.behind n.first in
    let changes = changes_long c _ 0 n.value n.behind x.value x.behind x.first in
    let whole : length a ≡ 13 + length (concat (map logged_bytes x.value)) + length b = omega (arith, mark, born, serial, count, changes, ap length left) in
    omega (arith, whole, ap (λ (q : Record). length (concat (map logged_bytes q.changes))) made)

-- a record
abbrev record_or : Record → Result Record Stop → Record
record_or r (Ok q) = q
record_or r (Err s) = r

abbrev pair_value : Record → Result (Record × List ℕ) Stop → Record
pair_value r x = value_or r x

pub record_long : (c : Sizes) (a : List ℕ) (r : Record) (b : List ℕ) → record_field c a ≡ Ok (r, b) → length a ≡ length (record_bytes r) + length b
record_long c a r b e =
    let p = went _ _ _ _ e in
    let q = went _ _ _ _ p.further in
    let length_of = number_long w32 a p.value p.behind p.first in
    let bytes = piece_long (p.value - 4) p.behind q.value q.behind q.first in
    let body = in_body q.value q.behind (body_field c q.value) refl q.further in
    omega (arith, length_of, bytes.all, bytes.count, body)
  where
    ended : (x : Record) (d : List ℕ) (v rest : List ℕ) (t : Bool) → length d == 0 ≡ t → length v ≡ length (body_bytes x) + length d → before_rest rest (pick t (Ok x) (stop TooLong d)) ≡ Ok (r, b) → length v + length rest ≡ length (body_bytes r) + length b
    ended x d v rest true f g h =
        let none : length d ≡ 0 = grind (arith, nat_tests) in
        let made : x ≡ r = ap (value_or r) h in
        let left : rest ≡ b = ap (left_or b) h in
        omega (arith, none, g, ap length left, ap (λ (q : Record). length (body_bytes q)) made)
    ended x d v rest false f g h = absurd (cc)

    in_body : (v rest : List ℕ) (w : Result (Record × List ℕ) Stop) → body_field c v ≡ w → before_rest rest (whole w) ≡ Ok (r, b) → length v + length rest ≡ length (body_bytes r) + length b
    in_body v rest (Ok x) f g = ended x.0 x.1 v rest (length x.1 == 0) refl (body_long c v x.0 x.1 f) g
    in_body v rest (Err s) f g = absurd (cc)
