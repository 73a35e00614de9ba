-- A region cut into frames: the bytes of one frame, and the region with one frame changed.
use Rattle.std.proofs.Common.{◌≡◌, ℕ, zero, suc, ◌+◌, ◌*◌, ◌<◌, ◌≤◌, List, [], ◌∷◌, ◌++◌, length, take, drop, set, get_or, replicate, refl, ap, sym, ◌∙◌, append_assoc, add_assoc, add_comm, zero-add, zero-mul, suc-mul, mul-le-mul_right, length-drop, take-append-drop, arith}
use Rattle.std.proofs.lemmas.List.{drop-drop, take_at, drop_at, length-take-le, take-replicate, drop-replicate}
use Rattle.std.proofs.Math.Seq.{take-add}
use Rattle.std.specs.List.{concat}
use Rattle.frame_pool.specs.Region.{cut}

pub length-cut : (size count : ℕ) (bytes : List ℕ) → length (cut size count bytes) ≡ count
unfolding cut
length-cut size zero bytes = refl
length-cut size (suc count) bytes = ap (λ n. suc n) (length-cut size count (drop size bytes))

pub ruleset region_frames = (length-cut)

pub concat-cut : (size count : ℕ) (bytes : List ℕ) → length bytes ≡ count * size → concat (cut size count bytes) ≡ bytes
unfolding cut
concat-cut size zero [] h = refl
concat-cut size zero (b ∷ bytes) h = let no : ⊥ = omega arith in absurd no
concat-cut size (suc count) bytes h =
    ap (λ r. take size bytes ++ r) (concat-cut size count (drop size bytes) (omega (arith, length-drop size bytes))) ∙ take-append-drop size bytes

pub get_or-cut : (size count : ℕ) (bytes : List ℕ) (n : ℕ) → n < count → get_or (cut size count bytes) n [] ≡ take size (drop (n * size) bytes)
unfolding cut
get_or-cut size zero bytes n h = let no : ⊥ = omega arith in absurd no
get_or-cut size (suc count) bytes zero h = ap (λ k. take size (drop k bytes)) (sym (zero-mul size))
get_or-cut size (suc count) bytes (suc n) h =
    get_or-cut size count (drop size bytes) n (omega arith)
    ∙ ap (λ r. take size r) (drop-drop (n * size) size bytes ∙ ap (λ k. drop k bytes) (add_comm size (n * size) ∙ sym (suc-mul n size)))

-- a region that begins with a frame
cut-append : (size count : ℕ) (x rest : List ℕ) → length x ≡ size → cut size (suc count) (x ++ rest) ≡ x ∷ cut size count rest
unfolding cut
cut-append size count x rest e =
    ap (λ r. r ∷ cut size count (drop size (x ++ rest))) (take_at x rest size e) ∙ ap (λ r. x ∷ cut size count r) (drop_at x rest size e)

cut_first : (size count : ℕ) (bytes : List ℕ) → cut size (suc count) bytes ≡ take size bytes ∷ cut size count (drop size bytes)
unfolding cut
cut_first size count bytes = refl

-- writing w over frame n of the region is writing w into frame n of the list
pub cut_written : (size count : ℕ) (bytes : List ℕ) (n : ℕ) (w : List ℕ) → n < count → length bytes ≡ count * size → length w ≡ size
    → cut size count (take (n * size) bytes ++ (w ++ drop (n * size + size) bytes)) ≡ set (cut size count bytes) n w
cut_written size zero bytes n w h l e = let no : ⊥ = omega arith in absurd no
cut_written size (suc count) bytes zero w h l e =
    rw (zero-mul, zero-add) (cut-append size count w (drop size bytes) e ∙ rw cut_first refl)
cut_written size (suc count) bytes (suc n) w h l e =
    let all : length bytes ≡ size + count * size = l ∙ suc-mul count size ∙ add_comm (count * size) size in
    let first : length (take size bytes) ≡ size = length-take-le size bytes (omega arith) in
    let left : length (drop size bytes) ≡ count * size = omega (arith, length-drop size bytes) in
    let place : suc n * size ≡ size + n * size = suc-mul n size ∙ add_comm (n * size) size in
    let rest : List ℕ = take (n * size) (drop size bytes) ++ (w ++ drop (n * size + size) (drop size bytes)) in
    let whole : take (suc n * size) bytes ++ (w ++ drop (suc n * size + size) bytes) ≡ take size bytes ++ rest =
    rw (place, take-add, append_assoc, drop-drop)
    (ap (λ k. take size bytes ++ (take (n * size) (drop size bytes) ++ (w ++ drop k bytes))) (add_assoc size (n * size) size)) in
    ap (cut size (suc count)) whole
    ∙ cut-append size count (take size bytes) rest first
    ∙ ap (λ r. take size bytes ∷ r) (cut_written size count (drop size bytes) n w (omega arith) left e)
    ∙ rw (cut_first size count bytes) refl

pub cut-replicate : (size count : ℕ) → cut size count (replicate (count * size) 0) ≡ replicate count (replicate size 0)
unfolding cut
cut-replicate size zero = refl
cut-replicate size (suc count) =
    rw (suc-mul count size)
    (let short : size ≤ count * size + size = omega arith in
    ap (λ r. r ∷ cut size count (drop size (replicate (count * size + size) 0))) (take-replicate size (count * size + size) 0 short)
    ∙ ap (λ r. replicate size 0 ∷ cut size count r) (drop-replicate size (count * size + size) 0 ∙ ap (λ k. replicate k 0) (omega arith))
    ∙ ap (λ r. replicate size 0 ∷ r) (cut-replicate size count))

-- frame n ends within the region
pub frame_within : (size count n : ℕ) → n < count → n * size + size ≤ count * size
frame_within size count n h = rw (← suc-mul n size) (mul-le-mul_right size (omega arith))
