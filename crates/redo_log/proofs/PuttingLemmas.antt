-- Changed ranges put over a page behind sixteen bytes.
use Rattle.std.proofs.Common.{◌≡◌, refl, sym, ap, subst, ◌∙◌, ℕ, suc, ◌+◌, ◌-◌, ◌≤◌, Bool, true, List, ◌∷◌, ◌++◌, length, take, drop, Some, Result, Ok, Err, arith, append_assoc, append-nil}
use Rattle.std.proofs.Math.Seq.{drop-length}
use Rattle.std.specs.Int.{w16}
use Rattle.std.proofs.lemmas.List.{length-take, drop-take, drop-drop, take-append-drop, drop-append-le}
use Rattle.std.proofs.lemmas.Slice.{take-put_mid_below, take-put_mid, drop-put_mid}
use borrow.Rule.Slice.PartMut.{put_mid}
use Rattle.pcl_base.specs.declared.log.ChangedRange.{ChangedRange}
use Rattle.pcl_base.specs.declared.log.Part.{Part}
use Rattle.pcl_base.specs.declared.log.Part.TheVariants.{Image, Ranges}
use Rattle.text_rules.specs.ChangedRanges.{put, put_ranges}
use Rattle.text_rules.specs.FieldBytes.{Stop, after, give, piece, number_from}
use Rattle.text_rules.specs.LogRecord.{ranges_field, part_field}
use Rattle.redo_log.specs.Applied.{put_read, part_put, applied}
use Rattle.redo_log.proofs.LengthLemmas.{piece_long}

-- the first sixteen bytes stay
pub head_kept : (xs ys : List ℕ) (p k : ℕ) → 16 + p ≤ length xs → take 16 (put_mid (16 + p) k xs ys) ≡ take 16 xs
head_kept xs ys p k within = take-put_mid_below (16 + p) k xs ys 16 (omega arith) within

-- a range is put at its place
pub range_at : (xs ys : List ℕ) (p n k : ℕ) → length ys ≡ n → k ≡ n → 16 + p + n ≤ length xs → drop 16 (put_mid (16 + p) k xs ys) ≡ put p ys (drop 16 xs)
range_at xs ys p n k long same within =
    let a : ℕ = 16 + p in
    let new : List ℕ = put_mid a k xs ys in
    let front : take (a + n) new ≡ take a xs ++ ys = take-put_mid a k xs ys (a + n) (omega arith) (omega arith) in
    let back : drop (a + n) new ≡ drop (a + n) xs = drop-put_mid a k xs ys (a + n) (omega arith) (omega arith) (long ∙ sym same) in
    let whole : new ≡ take a xs ++ (ys ++ drop (a + n) xs) =
    sym (take-append-drop (a + n) new)
    ∙ ap (λ (l : List ℕ). l ++ drop (a + n) new) front
    ∙ ap (λ (l : List ℕ). (take a xs ++ ys) ++ l) back
    ∙ append_assoc (take a xs) ys (drop (a + n) xs) in
    let far : drop (a + n) xs ≡ drop (p + length ys) (drop 16 xs) = ap (λ (m : ℕ). drop m xs) (omega arith) ∙ sym (drop-drop (p + length ys) 16 xs) in
    ap (λ (l : List ℕ). drop 16 l) whole
    ∙ drop-append-le 16 (take a xs) (ys ++ drop (a + n) xs) (omega (arith, length-take a xs))
    ∙ ap (λ (l : List ℕ). l ++ (ys ++ drop (a + n) xs)) (drop-take 16 p xs)
    ∙ ap (λ (l : List ℕ). take p (drop 16 xs) ++ (ys ++ l)) far
    ∙ sym (append_assoc (take p (drop 16 xs)) ys (drop (p + length ys) (drop 16 xs)))

-- a range that was read is the first that is put
range_given : (r : ChangedRange) (raw new : List ℕ) (x : Result (List ChangedRange × List ℕ) Stop) → take 16 new ≡ take 16 raw → drop 16 new ≡ put r.place r.bytes (drop 16 raw) → put_read (after x (λ rs. let f : List ℕ → Result (List ChangedRange × List ℕ) Stop = give (r ∷ rs) in f)) raw ≡ put_read x new
range_given r raw new (Err s) head there = refl
range_given r raw new (Ok p) head there =
    ap (λ (l : List ℕ). Some (l ++ put_ranges p.0 (put r.place r.bytes (drop 16 raw)))) (sym head)
    ∙ ap (λ (l : List ℕ). Some (take 16 new ++ put_ranges p.0 l)) (sym there)

pub range_put : (size low n place count : ℕ) (a b d e : List ℕ) (bytes raw new : List ℕ) → number_from low size w16 a ≡ Ok (place, b) → number_from 1 (size - place) w16 b ≡ Ok (count, d) → piece count d ≡ Ok (bytes, e)
    → take 16 new ≡ take 16 raw → drop 16 new ≡ put place bytes (drop 16 raw)
    → put_read (ranges_field size low (suc n) a) raw ≡ put_read (ranges_field size (place + count + 1) n e) new
range_put size low n place count a b d e bytes raw new p q r head there =
    rw (p, q, r) (range_given (record { place = place; bytes = bytes }) raw new (ranges_field size (place + count + 1) n e) head there)

-- the same where the bytes were read as many as a part of the page has
pub range_put_at : (size low n place count k m : ℕ) (a b d e : List ℕ) (bytes raw : List ℕ) → number_from low size w16 a ≡ Ok (place, b) → number_from 1 (size - place) w16 b ≡ Ok (count, d) → piece m d ≡ Ok (bytes, e)
    → length bytes ≡ count → k ≡ count → 16 + place + count ≤ length raw
    → put_read (ranges_field size low (suc n) a) raw ≡ put_read (ranges_field size (place + count + 1) n e) (put_mid (16 + place) k raw bytes)
range_put_at size low n place count k m a b d e bytes raw p q r long same within =
    let read : piece count d ≡ Ok (bytes, e) = subst (λ (l : ℕ). piece l d ≡ Ok (bytes, e)) (sym (piece_long m d bytes e r).count ∙ long) r in
    range_put size low n place count a b d e bytes raw (put_mid (16 + place) k raw bytes) p q read (head_kept raw bytes place k (omega arith)) (range_at raw bytes place count k long same within)

-- an image is all of the page
pub image_put : (xs ys : List ℕ) (k : ℕ) → 16 ≤ length xs → k ≡ length xs - 16 → length ys ≡ k → put_mid 16 k xs ys ≡ applied (Image ys) xs
image_put xs ys k within far long =
    let new : List ℕ = put_mid 16 k xs ys in
    let front : take (length xs) new ≡ take 16 xs ++ ys = take-put_mid 16 k xs ys (length xs) (omega arith) within in
    let back : drop (length xs) new ≡ drop (length xs) xs = drop-put_mid 16 k xs ys (length xs) (omega arith) within long in
    sym (take-append-drop (length xs) new)
    ∙ ap (λ (l : List ℕ). l ++ drop (length xs) new) front
    ∙ ap (λ (l : List ℕ). (take 16 xs ++ ys) ++ l) (back ∙ drop-length xs)
    ∙ append-nil (take 16 xs ++ ys)

-- what a part makes of the page, where it was read
pub part_given : (size : ℕ) (whole : Bool) (a b : List ℕ) (p : Part) (raw : List ℕ) → part_field size whole a ≡ Ok (p, b) → part_put (part_field size whole a) raw ≡ Some (applied p raw)
part_given size whole a b p raw e = ap (λ (r : Result (Part × List ℕ) Stop). part_put r raw) e

-- an image that was read
pub image_at : (size k m : ℕ) (a b bytes raw : List ℕ) → piece m a ≡ Ok (bytes, b) → m ≡ size → k ≡ size → length raw ≡ size + 16 → part_put (part_field size true a) raw ≡ Some (put_mid 16 k raw bytes)
image_at size k m a b bytes raw r same far long =
    let read : piece size a ≡ Ok (bytes, b) = subst (λ (l : ℕ). piece l a ≡ Ok (bytes, b)) same r in
    rw read (ap (λ (l : List ℕ). Some l) (sym (image_put raw bytes k (omega arith) (omega arith) ((piece_long size a bytes b read).count ∙ sym far))))

-- changed ranges as a part
pub ranges_given : (raw : List ℕ) (x : Result (List ChangedRange × List ℕ) Stop) → part_put (after x (λ rs. let f : List ℕ → Result (Part × List ℕ) Stop = give (Ranges rs) in f)) raw ≡ put_read x raw
ranges_given raw (Ok p) = refl
ranges_given raw (Err s) = refl
