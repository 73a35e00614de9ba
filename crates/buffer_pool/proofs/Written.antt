-- Images in the frames of a pool: what a write to one frame makes of them.
use Rattle.std.proofs.Common.{◌≡◌, ℕ, zero, suc, ◌+◌, ◌<◌, ◌≤◌, ◌≢◌, eqb, Bool, true, false, List, [], ◌∷◌, ◌++◌, length, map, get_or, set, refl, ap, sym, subst, ◌∙◌, arith, length-set, length-append}
use Rattle.std.proofs.lemmas.Bool.Decides.{nat_tests}
use Rattle.std.proofs.lemmas.List.{get_or-set_same, get_or-set_other}
use Rattle.std.proofs.lemmas.List.Elements.{All-from_recursion}
use Rattle.std.specs.List.{AllByRecursion}
use Rattle.frame_pool.specs.Frames.{PoolView, IsPool, IsTaken, frame_of, times, with_frame}
use Rattle.buffer_pool.specs.Images.{ImagesView, IsSized, HasAll, images_of}
use Rattle.buffer_pool.specs.Seen.{image_at}

pub no_times : (n : ℕ) (xs : List ℕ) → length xs ≡ 0 → times n xs ≡ 0
unfolding times
no_times n [] h = refl
no_times n (x ∷ xs) h = absurd (omega (arith, h))

-- a number in the list
pub number_below : (P : ℕ → Type 0) (k d : ℕ) (ns : List ℕ) → k < length ns → AllByRecursion P ns → P (get_or ns k d)
number_below P k d [] l a = absurd (omega (arith, l))
number_below P zero d (n ∷ ns) l a = a.0
number_below P (suc k) d (n ∷ ns) l a = number_below P k d ns (omega (arith, l)) a.1

number_times : (k d : ℕ) (ns : List ℕ) → k < length ns → 1 ≤ times (get_or ns k d) ns
unfolding times
number_times k d [] l = absurd (omega (arith, l))
number_times zero d (n ∷ ns) l = let s : eqb n n ≡ true = grind (arith, nat_tests) in rw s (omega arith)
number_times (suc k) d (n ∷ ns) l = omega (arith, number_times k d ns (omega (arith, l)))

-- each of the frames is taken
pub frame_taken : (p : PoolView) (ns : List ℕ) (k d : ℕ) → HasAll p ns → k < length ns → IsTaken p (get_or ns k d)
frame_taken p ns k d h l = (number_below (λ n. n < length p.frames) k d ns l h.below, no_times (get_or ns k d) p.free h.none_free)

pub image_of_frame : (p : PoolView) (ns : List ℕ) (k d : ℕ) → k < length ns → image_at (map (frame_of p) ns) k ≡ frame_of p (get_or ns k d)
image_of_frame p [] k d l = absurd (omega (arith, l))
image_of_frame p (n ∷ ns) zero d l = refl
image_of_frame p (n ∷ ns) (suc k) d l = image_of_frame p ns k d (omega (arith, l))

pub length_images : (p : PoolView) (ns : List ℕ) → length (map (frame_of p) ns) ≡ length ns
length_images p [] = refl
length_images p (n ∷ ns) = ap (λ k. suc k) (length_images p ns)

frame_other : (p : PoolView) (n m : ℕ) (bytes : List ℕ) → eqb n m ≡ false → frame_of (with_frame p n bytes) m ≡ frame_of p m
frame_other p n m bytes h =
    let other : m ≢ n = λ q. (let s : eqb n m ≡ true = grind (arith, nat_tests) in let bad : true ≡ false = sym s ∙ h in cc) in
    rw get_or-set_other refl

others : (p : PoolView) (n : ℕ) (bytes : List ℕ) (ns : List ℕ) → times n ns ≡ 0 → map (frame_of (with_frame p n bytes)) ns ≡ map (frame_of p) ns
unfolding times
others p n bytes [] h = refl
others p n bytes (m ∷ ns) h = by_case (eqb n m) refl (others p n bytes ns)
  where
    by_case : (b : Bool) → eqb n m ≡ b → (times n ns ≡ 0 → map (frame_of (with_frame p n bytes)) ns ≡ map (frame_of p) ns) → map (frame_of (with_frame p n bytes)) (m ∷ ns) ≡ map (frame_of p) (m ∷ ns)
    by_case true t ih = let g : 1 + times n ns ≡ 0 = rw t at h in absurd (omega arith)
    by_case false t ih =
        let g : 0 + times n ns ≡ 0 = rw t at h in
        ap (λ b. b ∷ map (frame_of (with_frame p n bytes)) ns) (frame_other p n m bytes t) ∙ ap (λ l. frame_of p m ∷ l) (ih (omega arith))

-- a write to a frame changes that image alone
pub images_written : (p : PoolView) (ns : List ℕ) (k d : ℕ) (bytes : List ℕ) → k < length ns → AllByRecursion (λ n. n < length p.frames) ns → ((n : ℕ) → times n ns ≤ 1)
    → map (frame_of (with_frame p (get_or ns k d) bytes)) ns ≡ set (map (frame_of p) ns) k bytes
unfolding times
images_written p [] k d bytes l a o = absurd (omega (arith, l))
images_written p (n ∷ ns) zero d bytes l a o =
    let here : frame_of (with_frame p n bytes) n ≡ bytes = (let m : n < length p.frames = a.0 in rw get_or-set_same refl) in
    let self : eqb n n ≡ true = grind (arith, nat_tests) in
    let once : 1 + times n ns ≤ 1 = rw self at (o n) in
    ap (λ b. b ∷ map (frame_of (with_frame p n bytes)) ns) here ∙ ap (λ m. bytes ∷ m) (others p n bytes ns (omega arith))
images_written p (n ∷ ns) (suc k) d bytes l a o = by_case (eqb (get_or ns k d) n) refl (images_written p ns k d bytes (omega (arith, l)) a.1 (λ m. omega (arith, o m)))
  where
    by_case : (b : Bool) → eqb (get_or ns k d) n ≡ b → map (frame_of (with_frame p (get_or ns k d) bytes)) ns ≡ set (map (frame_of p) ns) k bytes
        → map (frame_of (with_frame p (get_or ns k d) bytes)) (n ∷ ns) ≡ set (map (frame_of p) (n ∷ ns)) (suc k) bytes
    by_case true t ih =
        let twice : 1 + times (get_or ns k d) ns ≤ 1 = rw t at (o (get_or ns k d)) in
        absurd (omega (arith, number_times k d ns (omega (arith, l))))
    by_case false t ih = ap (λ b. b ∷ map (frame_of (with_frame p (get_or ns k d) bytes)) ns) (frame_other p (get_or ns k d) n bytes t) ∙ ap (λ m. frame_of p n ∷ m) ih

pub all_written : (p : PoolView) (ns : List ℕ) (n : ℕ) (bytes : List ℕ) → HasAll p ns → IsPool (with_frame p n bytes) → HasAll (with_frame p n bytes) ns
all_written p ns n bytes h s = record {
  sound = s;
  none_free = h.none_free;
  once = h.once;
  below = subst (λ m. AllByRecursion (λ j. j < m) ns) (sym (length-set p.frames n bytes)) h.below;
  many = h.many ∙ sym (length-set p.frames n bytes);
}

sized_each : (p : PoolView) (ns : List ℕ) → IsPool p → AllByRecursion (λ n. n < length p.frames) ns → AllByRecursion (λ b. length b ≡ p.size) (map (frame_of p) ns)
sized_each p [] s a = tt
sized_each p (n ∷ ns) s a = (s.sized n a.0, sized_each p ns s a.1)

pub images_sized : (p : PoolView) (ns : List ℕ) → IsPool p → AllByRecursion (λ n. n < length p.frames) ns → IsSized (images_of p ns)
images_sized p ns s a = All-from_recursion (λ b. length b ≡ p.size) (map (frame_of p) ns) (sized_each p ns s a)

-- the images after a write that is made of the old image
pub write_seen : (p : PoolView) (ns : List ℕ) (k n : ℕ) (f : List ℕ → List ℕ) → k < length ns → HasAll p ns → n ≡ get_or ns k n
    → images_of (with_frame p n (f (frame_of p n))) ns ≡ (let v : ImagesView = images_of p ns in record v { images = set v.images k (f (image_at v.images k)) })
write_seen p ns k n f l h q =
    let old : frame_of p n ≡ image_at (map (frame_of p) ns) k = ap (frame_of p) q ∙ sym (image_of_frame p ns k n l) in
    ap (λ i. let v : ImagesView = record { size = p.size; images = i } in v)
    (ap (λ m. map (frame_of (with_frame p m (f (frame_of p n)))) ns) q ∙ images_written p ns k n (f (frame_of p n)) l h.below h.once ∙ ap (λ b. set (map (frame_of p) ns) k (f b)) old)

pub nothing_below : (P : ℕ → Type 0) (xs : List ℕ) → length xs ≡ 0 → AllByRecursion P xs
nothing_below P [] h = tt
nothing_below P (x ∷ xs) h = absurd (omega (arith, h))

pub times-snoc : (n : ℕ) (xs : List ℕ) (m : ℕ) → times n (xs ++ m ∷ []) ≡ times n xs + times n (m ∷ [])
unfolding times
times-snoc n [] m = omega arith
times-snoc n (x ∷ xs) m = omega (arith, times-snoc n xs m)

-- a frame that was free is taken
pub taken_length : (old new : PoolView) (m : ℕ) → old ≡ record new { free = new.free ++ m ∷ [] } → length old.free ≡ length new.free + 1
taken_length old new m q = ap (λ p. length p.free) q ∙ length-append new.free (m ∷ [])

pub times_self : (n : ℕ) (xs : List ℕ) → times n (xs ++ n ∷ []) ≡ times n xs + 1
unfolding times
times_self n xs = times-snoc n xs n ∙ (let s : eqb n n ≡ true = grind (arith, nat_tests) in rw s refl)
