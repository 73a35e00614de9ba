-- Fields are read alike where more bytes follow, and leave the bytes behind them.
use Rattle.std.proofs.Common.{◌≡◌, refl, sym, ap, ◌∙◌, ℕ, zero, suc, ◌+◌, ◌-◌, ◌≤◌, Bool, true, false, nat_le, List, [], ◌∷◌, ◌++◌, length, map, take, drop, Result, Ok, arith, length-append}
use Rattle.std.specs.List.{concat}
use Rattle.std.specs.Int.{Width, w16, byte_len}
use Rattle.std.proofs.lemmas.Bool.Decides.{nat_tests}
use Rattle.std.proofs.lemmas.List.{drop-drop, drop-append-le, take-append-le}
use Rattle.pcl_base.specs.declared.log.Part.{Part}
use Rattle.pcl_base.specs.declared.log.Part.TheVariants.{Image, Ranges}
use Rattle.pcl_base.specs.declared.log.ChangedRange.{ChangedRange}
use Rattle.text_rules.specs.FieldBytes.{Fault, Short, Stop, stop, pick, judged, number, number_from, at_least, piece}
use Rattle.text_rules.specs.LogRecord.{range_bytes, part_bytes, ranges_field, part_field}
use Rattle.redo_log.proofs.LengthLemmas.{went, given_value, given_left, piece_long, from_left, least_left, judged_read}

-- a piece
pub piece_more : (n : ℕ) (a x b m : List ℕ) → piece n a ≡ Ok (x, b) → piece n (a ++ m) ≡ Ok (x, b ++ m)
piece_more n a x b m e =
    let l = piece_long n a x b e in
    let within : n ≤ length a = omega (arith, l.all) in
    let enough : nat_le n (length (a ++ m)) ≡ true = let all = length-append a m in grind (arith, nat_tests) in
    ap (λ (t : Bool). pick {X = Result (List ℕ × List ℕ) Stop} t (Ok (take n (a ++ m), drop n (a ++ m))) (stop Short (a ++ m))) enough
    ∙ ap (λ (y : List ℕ). let r : Result (List ℕ × List ℕ) Stop = Ok (y, drop n (a ++ m)) in r) (take-append-le n a m within ∙ sym l.value)
    ∙ ap (λ (y : List ℕ). let r : Result (List ℕ × List ℕ) Stop = Ok (x, y) in r) (drop-append-le n a m within ∙ ap (λ (y : List ℕ). y ++ m) (sym l.left))

pub number_more : (w : Width) (a : List ℕ) (n : ℕ) (b m : List ℕ) → number w a ≡ Ok (n, b) → number w (a ++ m) ≡ Ok (n, b ++ m)
number_more w a n b m e =
    let p = went _ _ _ _ e in
    let made = given_value _ n _ b p.further in
    let left = given_left _ n _ b p.further in
    rw (piece_more (byte_len w) a p.value p.behind m p.first) (λ i. Ok (made i, left i ++ m))

-- a number that is allowed
picked_more : (t : Bool) (f : Fault) (a b c d : List ℕ) (n : ℕ) → pick {X = Result (ℕ × List ℕ) Stop} t (Ok (n, b)) (stop f a) ≡ Ok (n, b) → pick {X = Result (ℕ × List ℕ) Stop} t (Ok (n, d)) (stop f c) ≡ Ok (n, d)
picked_more true f a b c d n e = refl
picked_more false f a b c d n e = absurd (cc)

pub judged_more : (f : Fault) (is : ℕ → Bool) (w : Width) (a : List ℕ) (n : ℕ) (b m : List ℕ) → judged f is a (number w a) ≡ Ok (n, b) → judged f is (a ++ m) (number w (a ++ m)) ≡ Ok (n, b ++ m)
judged_more f is w a n b m e =
    let read = judged_read f is a (number w a) n b e in
    let picked : pick {X = Result (ℕ × List ℕ) Stop} (is n) (Ok (n, b)) (stop f a) ≡ Ok (n, b) = ap (judged f is a) (sym read) ∙ e in
    ap (judged f is (a ++ m)) (number_more w a n b m read) ∙ picked_more (is n) f a b (a ++ m) (b ++ m) n picked

-- ranges
ranges_more : (size low n : ℕ) (a : List ℕ) (rs : List ChangedRange) (b m : List ℕ) → ranges_field size low n a ≡ Ok (rs, b) → ranges_field size low n (a ++ m) ≡ Ok (rs, b ++ m)
ranges_more size low zero a rs b m e =
    let made : [] ≡ rs = given_value _ rs _ b e in
    let left : a ≡ b = given_left _ rs _ b e in
    (λ i. Ok (made i, left i ++ m))
ranges_more size low (suc n) a rs b m e =
    let p = went (number_from low size w16 a) _ _ _ e in
    let q = went (number_from 1 (size - p.value) w16 p.behind) _ _ _ p.further in
    let r = went (piece q.value q.behind) _ _ _ q.further in
    let t = went (ranges_field size (p.value + q.value + 1) n r.behind) _ _ _ r.further in
    let made : record { place = p.value; bytes = r.value } ∷ t.value ≡ rs = given_value _ rs _ b t.further in
    let left : t.behind ≡ b = given_left _ rs _ b t.further in
    let place : number_from low size w16 (a ++ m) ≡ Ok (p.value, p.behind ++ m) = judged_more _ _ w16 a p.value p.behind m p.first in
    let count : number_from 1 (size - p.value) w16 (p.behind ++ m) ≡ Ok (q.value, q.behind ++ m) = judged_more _ _ w16 p.behind q.value q.behind m q.first in
    rw (place, count, piece_more q.value q.behind r.value r.behind m r.first, ranges_more size (p.value + q.value + 1) n r.behind t.value t.behind m t.first)
    (λ i. Ok (made i, left i ++ m))

-- a part
pub part_more : (size : ℕ) (w : Bool) (a : List ℕ) (p : Part) (b m : List ℕ) → part_field size w a ≡ Ok (p, b) → part_field size w (a ++ m) ≡ Ok (p, b ++ m)
part_more size true a p b m e =
    let r = went (piece size a) _ _ _ e in
    let made : Image r.value ≡ p = given_value _ p _ b r.further in
    let left : r.behind ≡ b = given_left _ p _ b r.further in
    rw (piece_more size a r.value r.behind m r.first) (λ i. Ok (made i, left i ++ m))
part_more size false a p b m e =
    let q = went (at_least 1 w16 a) _ _ _ e in
    let r = went (ranges_field size 0 q.value q.behind) _ _ _ q.further in
    let made : Ranges r.value ≡ p = given_value _ p _ b r.further in
    let left : r.behind ≡ b = given_left _ p _ b r.further in
    let count : at_least 1 w16 (a ++ m) ≡ Ok (q.value, q.behind ++ m) = judged_more _ _ w16 a q.value q.behind m q.first in
    rw (count, ranges_more size 0 q.value q.behind r.value r.behind m r.first) (λ i. Ok (made i, left i ++ m))

-- what is left behind ranges, and behind a part
ranges_left : (size low n : ℕ) (a : List ℕ) (rs : List ChangedRange) (b : List ℕ) → ranges_field size low n a ≡ Ok (rs, b) → b ≡ drop (length (concat (map range_bytes rs))) a
ranges_left size low zero a rs b e =
    let made : [] ≡ rs = given_value _ rs _ b e in
    let left : a ≡ b = given_left _ rs _ b e in
    sym left ∙ ap (λ (l : List ChangedRange). drop (length (concat (map range_bytes l))) a) made
ranges_left size low (suc n) a rs b e =
    let p = went (number_from low size w16 a) _ _ _ e in
    let q = went (number_from 1 (size - p.value) w16 p.behind) _ _ _ p.further in
    let r = went (piece q.value q.behind) _ _ _ q.further in
    let t = went (ranges_field size (p.value + q.value + 1) n r.behind) _ _ _ r.further in
    let one : ChangedRange = record { place = p.value; bytes = r.value } in
    let made : one ∷ t.value ≡ rs = given_value _ rs _ b t.further in
    let left : t.behind ≡ b = given_left _ rs _ b t.further in
    let bytes = piece_long q.value q.behind r.value r.behind r.first in
    let front : r.behind ≡ drop (4 + q.value) a =
    bytes.left
    ∙ ap (λ (l : List ℕ). drop q.value l) (from_left 1 (size - p.value) w16 p.behind q.value q.behind q.first ∙ ap (λ (l : List ℕ). drop 2 l) (from_left low size w16 a p.value p.behind p.first) ∙ drop-drop 2 2 a)
    ∙ drop-drop q.value 4 a in
    let rest = ranges_left size (p.value + q.value + 1) n r.behind t.value t.behind t.first in
    let joined = length-append (range_bytes one) (concat (map range_bytes t.value)) in
    let far : 4 + q.value + length (concat (map range_bytes t.value)) ≡ length (concat (map range_bytes (one ∷ t.value))) = omega (arith, joined, bytes.count) in
    sym left
    ∙ rest
    ∙ ap (λ (l : List ℕ). drop (length (concat (map range_bytes t.value))) l) front
    ∙ drop-drop (length (concat (map range_bytes t.value))) (4 + q.value) a
    ∙ ap (λ (k : ℕ). drop k a) far
    ∙ ap (λ (l : List ChangedRange). drop (length (concat (map range_bytes l))) a) made

pub part_left : (size : ℕ) (w : Bool) (a : List ℕ) (p : Part) (b : List ℕ) → part_field size w a ≡ Ok (p, b) → b ≡ drop (length (part_bytes p)) a
part_left size true a p b e =
    let r = went (piece size a) _ _ _ e in
    let made : Image r.value ≡ p = given_value _ p _ b r.further in
    let left : r.behind ≡ b = given_left _ p _ b r.further in
    let bytes = piece_long size a r.value r.behind r.first in
    sym left ∙ bytes.left ∙ ap (λ (k : ℕ). drop k a) (sym bytes.count) ∙ ap (λ (q : Part). drop (length (part_bytes q)) a) made
part_left size false a p b e =
    let q = went (at_least 1 w16 a) _ _ _ e in
    let r = went (ranges_field size 0 q.value q.behind) _ _ _ q.further in
    let made : Ranges r.value ≡ p = given_value _ p _ b r.further in
    let left : r.behind ≡ b = given_left _ p _ b r.further in
    let rest = ranges_left size 0 q.value q.behind r.value r.behind r.first in
    let far : 2 + length (concat (map range_bytes r.value)) ≡ length (part_bytes (Ranges r.value)) = omega arith in
    sym left
    ∙ rest
    ∙ ap (λ (l : List ℕ). drop (length (concat (map range_bytes r.value))) l) (least_left 1 w16 a q.value q.behind q.first)
    ∙ drop-drop (length (concat (map range_bytes r.value))) 2 a
    ∙ ap (λ (k : ℕ). drop k a) far
    ∙ ap (λ (s : Part). drop (length (part_bytes s)) a) made
