-- A pool's view, from the fields: what holds of it, and what a write to the region makes of it.
use Rattle.std.proofs.Common.{◌≡◌, ℕ, ◌+◌, ◌-◌, ◌*◌, ◌<◌, ◌≤◌, Bool, true, false, eqb, List, [], ◌∷◌, ◌++◌, length, take, drop, set, get_or, replicate, refl, ap, sym, subst, ◌⊎◌, inl, inr, ◌∙◌, length-append, length-drop, length-set, arith}
use Rattle.std.proofs.lemmas.Bool.Decides.{nat_tests}
use Rattle.std.proofs.lemmas.List.{drop-drop, take_at, length-take-le, length-replicate, get_or-set_same, get_or-set_other}
use Rattle.std.proofs.lemmas.Bool.{cases_eq}
use Rattle.std.specs.List.{range_with_len}
use Rattle.frame_pool.specs.Frames.{IsPool, IsTaken, PoolView, frame_of, opened, times, with_frame}
use Rattle.frame_pool.specs.Region.{IsSound, cut, lent, refilled_from}
use Rattle.frame_pool.proofs.Cut.{length-cut, concat-cut, get_or-cut, cut_written, cut-replicate, frame_within}
use Rattle.frame_pool.proofs.Times.{length-le_from_once, times-append, times-push, times-push_same, times-range, times-range_above}

-- the view of a pool with these fields
abbrev pub seen : ℕ → ℕ → List ℕ → List ℕ → PoolView
seen count size bytes free = record { size = size; frames = cut size count bytes; free = free }

pub within_region : {count size : ℕ} {bytes free : List ℕ} {room : ℕ} (n : ℕ) → IsSound count size bytes free room → n < count → n * size + size ≤ length bytes
within_region {count} {size} n s h = omega (arith, frame_within size count n h, s.filled)

pub frame_of-seen : (count size : ℕ) (bytes free : List ℕ) (n : ℕ) → n < count → frame_of (seen count size bytes free) n ≡ take size (drop (n * size) bytes)
frame_of-seen count size bytes free n h = get_or-cut size count bytes n h

pub length-frame_of : {count size : ℕ} {bytes free : List ℕ} {room : ℕ} (n : ℕ) → IsSound count size bytes free room → n < count → length (frame_of (seen count size bytes free) n) ≡ size
length-frame_of {count} {size} {bytes} {free} n s h =
    let inside : n * size + size ≤ length bytes = within_region n s h in
    rw (frame_of-seen count size bytes free n h) (length-take-le size (drop (n * size) bytes) (omega (arith, length-drop (n * size) bytes)))

pub pool_from_sound : {count size : ℕ} {bytes free : List ℕ} {room : ℕ} → IsSound count size bytes free room → IsPool (seen count size bytes free)
pool_from_sound {count} {size} {bytes} {free} s =
    let many : length (cut size count bytes) ≡ count = length-cut size count bytes in
    record {
      sized = λ n h. length-frame_of n s (omega arith);
      once = s.once;
      below = λ n h. s.below n (omega arith);
      count_within = (omega (arith, s.count_within), omega (arith, s.count_within));
      size_within = s.size_within;
    }

-- frame n is below the count of frames
pub below_count : (count size : ℕ) (bytes free : List ℕ) (n : ℕ) → IsTaken (seen count size bytes free) n → n < count
below_count count size bytes free n h = omega (arith, length-cut size count bytes, h.0)

pub free_within : {count size : ℕ} {bytes free : List ℕ} {room : ℕ} → IsSound count size bytes free room → length free ≤ count
free_within {count} {free = free} s = length-le_from_once free count s.once s.below

-- the numbers with a taken frame's number
pub sound_given : {count size : ℕ} {bytes free : List ℕ} {room : ℕ} (n : ℕ) → IsSound count size bytes free room → n < count → times n free ≡ 0 → IsSound count size bytes (free ++ n ∷ []) room
sound_given {count} {free = free} n s h absent = record {
  filled = s.filled;
  count_within = s.count_within;
  size_within = s.size_within;
  once = λ m. once_case m (s.once m);
  below = λ m l. below_case m l (s.below m l);
  room_for_all = s.room_for_all;
}
  where
    once_case : (m : ℕ) → times m free ≤ 1 → times m (free ++ n ∷ []) ≤ 1
    once_case m o = one_case m o (eqb m n) refl
      where
        one_case : (m : ℕ) → times m free ≤ 1 → (b : Bool) → eqb m n ≡ b → times m (free ++ n ∷ []) ≤ 1
        one_case m o true e = let same : m ≡ n = grind (arith, nat_tests) in rw (times-push, e) (rw same (omega (arith, absent)))
        one_case m o false e = rw (times-push, e) (omega arith)

    below_case : (m : ℕ) → count ≤ m → times m free ≡ 0 → times m (free ++ n ∷ []) ≡ 0
    below_case m l o = let other : eqb m n ≡ false = grind (arith, nat_tests) in rw (times-push, other) (omega arith)

-- the numbers without the last one
pub sound_taken : {count size : ℕ} {bytes : List ℕ} (free all : List ℕ) (n : ℕ) {room : ℕ} → all ≡ free ++ n ∷ [] → IsSound count size bytes all room → IsSound count size bytes free room
sound_taken {count} {size} {bytes} free all n e s = record {
  filled = s.filled;
  count_within = s.count_within;
  size_within = s.size_within;
  once = λ m. once_case m (s.once m);
  below = λ m l. below_case m (s.below m l);
  room_for_all = s.room_for_all;
}
  where
    once_case : (m : ℕ) → times m all ≤ 1 → times m free ≤ 1
    once_case m o = let parts : times m all ≡ times m free + times m (n ∷ []) = ap (times m) e ∙ times-append m free (n ∷ []) in omega arith

    below_case : (m : ℕ) → times m all ≡ 0 → times m free ≡ 0
    below_case m o = let parts : times m all ≡ times m free + times m (n ∷ []) = ap (times m) e ∙ times-append m free (n ∷ []) in omega arith

-- the frame that was the last free one is taken
pub taken_last : {count size : ℕ} {bytes : List ℕ} (free all : List ℕ) (n : ℕ) {room : ℕ} → all ≡ free ++ n ∷ [] → IsSound count size bytes all room → IsTaken (seen count size bytes free) n
taken_last {count} {size} {bytes} free all n e s =
    let parts : times n all ≡ times n free + 1 = ap (times n) e ∙ times-push_same n free in
    let within : n < count = within_case (s.below n) in
    (omega (arith, length-cut size count bytes), omega (arith, s.once n))
  where
    within_case : (count ≤ n → times n all ≡ 0) → n < count
    within_case h = let parts : times n all ≡ times n free + 1 = ap (times n) e ∙ times-push_same n free in grind arith

-- a new region is a new pool
pub sound_opened : (count size room : ℕ) → 1 ≤ count → count ≤ 4096 → 1 ≤ size → size ≤ 4096 → count ≤ room → IsSound count size (replicate (count * size) 0) (range_with_len 0 count) room
sound_opened count size room a b c d r = record {
  filled = length-replicate (count * size) 0;
  count_within = (a, b);
  size_within = (c, d);
  once = λ n. times-range n 0 count;
  below = λ n h. times-range_above n 0 count (omega arith);
  room_for_all = r;
}

pub seen_opened : (count size : ℕ) → seen count size (replicate (count * size) 0) (range_with_len 0 count) ≡ opened count size
seen_opened count size = ap (λ f. let v : PoolView = record { size = size; frames = f; free = range_with_len 0 count } in v) (cut-replicate size count)

-- frame n of the region overwritten by as many bytes
pub seen_written : {count size : ℕ} {bytes free : List ℕ} {room : ℕ} (n : ℕ) (w : List ℕ) → IsSound count size bytes free room → n < count → length w ≡ size
    → seen count size (take (n * size) bytes ++ (w ++ drop (n * size + size) bytes)) free ≡ with_frame (seen count size bytes free) n w
seen_written {count} {size} {bytes} {free} n w s h e =
    ap (λ f. let v : PoolView = record { size = size; frames = f; free = free } in v) (cut_written size count bytes n w h s.filled e)

-- frame n after a copy of frame m
pub seen_copied : {count size : ℕ} {bytes free : List ℕ} {room : ℕ} (m n : ℕ) → IsSound count size bytes free room → m < count → n < count
    → seen count size (take (n * size) bytes ++ (take size (drop (m * size) bytes) ++ drop (n * size + size) bytes)) free
    ≡ with_frame (seen count size bytes free) n (frame_of (seen count size bytes free) m)
seen_copied {count} {size} {bytes} {free} m n s hm hn =
    let frame : frame_of (seen count size bytes free) m ≡ take size (drop (m * size) bytes) = frame_of-seen count size bytes free m hm in
    let long : length (take size (drop (m * size) bytes)) ≡ size = rw frame at (length-frame_of m s hm) in
    seen_written n (take size (drop (m * size) bytes)) s hn long
    ∙ ap (with_frame (seen count size bytes free) n) (sym frame)

-- what a loan of frame n leaves, at each w that it may end with
pub seen_lent : {count size : ℕ} {bytes free : List ℕ} {room : ℕ} (n : ℕ) → IsSound count size bytes free room → n < count
    → (w : List ℕ) → seen count size (refilled_from bytes (n * size) w) free ≡ lent (seen count size bytes free) n w
seen_lent {count} {size} {bytes} {free} n s h w = ends (eqb (length w) size) refl
  where
    ends : (b : Bool) → eqb (length w) size ≡ b → seen count size (refilled_from bytes (n * size) w) free ≡ lent (seen count size bytes free) n w
    ends true e =
        let same : length w ≡ size = grind (arith, nat_tests) in
        let inside : n * size + size ≤ length bytes = within_region n s h in
        let rest : drop (length w) (drop (n * size) bytes) ≡ drop (n * size + size) bytes = ap (λ k. drop k (drop (n * size) bytes)) same ∙ drop-drop size (n * size) bytes in
        let all : List ℕ = take (n * size) bytes ++ (w ++ drop (n * size + size) bytes) in
        let long : length all ≡ length bytes = omega (arith, length-append (take (n * size) bytes) (w ++ drop (n * size + size) bytes), length-append w (drop (n * size + size) bytes), length-take-le (n * size) bytes (omega arith), length-drop (n * size + size) bytes) in
        let cutoff : take (length bytes) (all ++ drop (length all) bytes) ≡ all = take_at all (drop (length all) bytes) (length bytes) long in
        rw e (rw rest (rw cutoff (seen_written n w s h same)))
    ends false e =
        let many : length (cut size count bytes) ≡ count = length-cut size count bytes in
        rw e (rw many (rw (concat-cut size count bytes s.filled) refl))

-- the same region length keeps a pool sound
pub sound_bytes : {count size : ℕ} {bytes free : List ℕ} {room : ℕ} (new : List ℕ) → length new ≡ length bytes → IsSound count size bytes free room → IsSound count size new free room
sound_bytes new e s = record {
  filled = e ∙ s.filled;
  count_within = s.count_within;
  size_within = s.size_within;
  once = s.once;
  below = s.below;
  room_for_all = s.room_for_all;
}

-- a taken frame, told of the value and known of the fields
pub taken_now : (count size : ℕ) (bytes free : List ℕ) (p : PoolView) (n m : ℕ) → seen count size bytes free ≡ p → m ≡ n → IsTaken p n → IsTaken (seen count size bytes free) m
taken_now count size bytes free p n m e f t = let P : PoolView → Type 0 = λ q. IsTaken q m in subst P (sym e) (rw f t)

pub below_now : (count size : ℕ) (bytes free : List ℕ) (p : PoolView) (n m : ℕ) → seen count size bytes free ≡ p → m ≡ n → IsTaken p n → m < count
below_now count size bytes free p n m e f t = below_count count size bytes free m (taken_now count size bytes free p n m e f t)

pub absent_now : (count size : ℕ) (bytes free : List ℕ) (p : PoolView) (n m : ℕ) → seen count size bytes free ≡ p → m ≡ n → IsTaken p n → times m free ≡ 0
absent_now count size bytes free p n m e f t = (taken_now count size bytes free p n m e f t).1

pub pool_now : {count size : ℕ} {bytes free : List ℕ} {room : ℕ} {p : PoolView} → IsSound count size bytes free room → seen count size bytes free ≡ p → IsPool p
pool_now s e = subst IsPool e (pool_from_sound s)

-- a refilled region, cut at the length that its `Vec` keeps
pub seen_vec : (count : ℕ) {size : ℕ} (bytes free : List ℕ) (i : ℕ) (w : List ℕ) (n : ℕ) → n ≡ length bytes
    → seen count size (let all : List ℕ = take i bytes ++ (w ++ drop (length w) (drop i bytes)) in take n (all ++ drop (length all) bytes)) free ≡ seen count size (refilled_from bytes i w) free
seen_vec count {size} bytes free i w n e =
    let all : List ℕ = take i bytes ++ (w ++ drop (length w) (drop i bytes)) in
    ap (λ k. seen count size (take k (all ++ drop (length all) bytes)) free) e

-- a written frame keeps a pool a pool
pub pool_with_frame : (p : PoolView) (n : ℕ) (w : List ℕ) → IsPool p → length w ≡ p.size → IsPool (with_frame p n w)
pool_with_frame p n w s e =
    let many : length (set p.frames n w) ≡ length p.frames = length-set p.frames n w in
    record {
      sized = λ m h. sized_case m (omega (arith, h)) (cases_eq m n);
      once = s.once;
      below = λ m h. s.below m (omega arith);
      count_within = (omega (arith, s.count_within), omega (arith, s.count_within));
      size_within = s.size_within;
    }
  where
    sized_case : (m : ℕ) → m < length p.frames → (m ≡ n) ⊎ (m ≡ n → ⊥) → length (get_or (set p.frames n w) m []) ≡ p.size
    sized_case m h (inl same) = rw same (rw (get_or-set_same p.frames n w [] (omega arith)) e)
    sized_case m h (inr other) = rw (get_or-set_other p.frames n m w [] other) (s.sized m h)

pub pool_lent : (p : PoolView) (n : ℕ) (w : List ℕ) → IsPool p → length w ≡ p.size → IsPool (lent p n w)
pool_lent p n w s e = rw (the_case (eqb (length w) p.size) refl) (pool_with_frame p n w s e)
  where
    the_case : (b : Bool) → eqb (length w) p.size ≡ b → lent p n w ≡ with_frame p n w
    the_case true t = rw t refl
    the_case false f = let no : ⊥ = grind (arith, nat_tests) in absurd no

-- a frame that was taken stays so while others are taken, and the last free one was not
pub taken_kept : (p : PoolView) (free : List ℕ) (n m : ℕ) → p.free ≡ free ++ n ∷ [] → IsTaken p m → IsTaken (record p { free = free }) m
taken_kept p free n m e t =
    let parts : times m p.free ≡ times m free + times m (n ∷ []) = ap (times m) e ∙ times-append m free (n ∷ []) in
    (t.0, omega (arith, t.1))

pub last_free : (p : PoolView) (free : List ℕ) (n : ℕ) → p.free ≡ free ++ n ∷ [] → IsTaken p n → ⊥
last_free p free n e t =
    let parts : times n p.free ≡ times n free + 1 = ap (times n) e ∙ times-push_same n free in
    omega (arith, t.1)

-- giving back one frame leaves the others taken
pub taken_beside : (p : PoolView) (n m : ℕ) → (m ≡ n → ⊥) → IsTaken p m → IsTaken (record p { free = p.free ++ n ∷ [] }) m
taken_beside p n m other t =
    let no : eqb m n ≡ false = grind (arith, nat_tests) in
    (t.0, rw (times-push, no) (omega (arith, t.1)))

pub given_free : (p : PoolView) (n : ℕ) → IsTaken (record p { free = p.free ++ n ∷ [] }) n → ⊥
given_free p n t = omega (arith, t.1, times-push_same n p.free)
