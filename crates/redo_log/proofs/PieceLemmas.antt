-- A piece of a log at hand shows the bytes that are left to be read.
use Rattle.std.proofs.Common.{◌≡◌, sym, ap, subst, ◌∙◌, ℕ, ◌+◌, ◌-◌, ◌≤◌, Bool, true, nat_le, List, length, take, drop, slice_range, Result, Ok, arith}
use Rattle.std.proofs.lemmas.Bool.Decides.{nat_tests}
use Rattle.std.proofs.lemmas.List.{length-take, length-drop, drop-take, take-take, drop-drop}
use Rattle.text_rules.specs.FieldBytes.{Short, Stop, pick, stop, piece}
use Rattle.redo_log.specs.Walks.{Reading, Reads, left_of}

-- a part of a part
pub slice_in : (log : List ℕ) (f p n l : ℕ) → f ≤ p → p + n ≤ f + l → take n (drop (p - f) (take l (drop f log))) ≡ take n (drop p log)
slice_in log f p n l from there =
    let k : ℕ = p - f in
    let whole : l ≡ k + (l - k) = omega arith in
    let far : f + k ≡ p = omega arith in
    ap (λ (m : ℕ). take n (drop k (take m (drop f log)))) whole
    ∙ ap (λ (ys : List ℕ). take n ys) (drop-take k (l - k) (drop f log))
    ∙ take-take n (l - k) (drop k (drop f log)) (omega arith)
    ∙ ap (λ (ys : List ℕ). take n ys) (drop-drop k f log)
    ∙ ap (λ (m : ℕ). take n (drop m log)) far

-- what is left behind n bytes
pub slice_behind : (log : List ℕ) (p n l : ℕ) → p + n ≤ l → drop n (slice_range log p l) ≡ slice_range log (p + n) l
slice_behind log p n l there =
    let whole : l - p ≡ n + (l - (p + n)) = omega arith in
    ap (λ (m : ℕ). drop n (take m (drop p log))) whole
    ∙ drop-take n (l - (p + n)) (drop p log)
    ∙ ap (λ (ys : List ℕ). take (l - (p + n)) ys) (drop-drop n p log)

pub slice_long : (log : List ℕ) (p l : ℕ) → l ≤ length log → length (slice_range log p l) ≡ l - p
slice_long log p l within = length-take (l - p) (drop p log) ∙ omega (arith, length-drop p log)

-- the next n bytes
pub piece_is : (log : List ℕ) (p n l : ℕ) → l ≤ length log → p + n ≤ l → piece n (slice_range log p l) ≡ Ok (take n (drop p log), slice_range log (p + n) l)
piece_is log p n l within there =
    let long = slice_long log p l within in
    let enough : nat_le n (length (slice_range log p l)) ≡ true = grind (arith, nat_tests) in
    ap (λ (b : Bool). pick b (Ok (take n (slice_range log p l), drop n (slice_range log p l))) (stop Short (slice_range log p l))) enough
    ∙ ap (λ (ys : List ℕ). let x : Result (List ℕ × List ℕ) Stop = Ok (ys, drop n (slice_range log p l)) in x) (take-take n (l - p) (drop p log) (omega arith))
    ∙ ap (λ (ys : List ℕ). let x : Result (List ℕ × List ℕ) Stop = Ok (take n (drop p log), ys) in x) (slice_behind log p n l there)

-- the next n bytes as the piece at hand shows them
pub piece_taken : (log bytes : List ℕ) (count f p n l : ℕ) → l ≤ length log → p + n ≤ l → f ≤ p → p + n ≤ f + length (take count bytes) → take count bytes ≡ slice_range log f (f + length (take count bytes)) → piece n (slice_range log p l) ≡ Ok (slice_range bytes (p - f) (p - f + n), slice_range log (p + n) l)
piece_taken log bytes count f p n l within there from shown is =
    let k : ℕ = length (take count bytes) in
    let most : k ≤ count = omega (arith, length-take count bytes) in
    let same : take count bytes ≡ take k (drop f log) = is ∙ ap (λ (m : ℕ). take m (drop f log)) (omega arith) in
    let front : take n (drop (p - f) bytes) ≡ take n (drop p log) =
    sym (ap (λ (m : ℕ). take n (drop m (take count bytes))) (omega arith) ∙ slice_in bytes 0 (p - f) n count (omega arith) (omega arith))
    ∙ (ap (λ (ys : List ℕ). take n (drop (p - f) ys)) same ∙ slice_in log f p n k from shown) in
    let exact : slice_range bytes (p - f) (p - f + n) ≡ take n (drop p log) = ap (λ (m : ℕ). take m (drop (p - f) bytes)) (omega arith) ∙ front in
    piece_is log p n l within there ∙ ap (λ (ys : List ℕ). let x : Result (List ℕ × List ℕ) Stop = Ok (ys, slice_range log (p + n) l) in x) (sym exact)

-- the same, by a reader that was opened
pub taken_at : (r now : Reading) (log bytes out : List ℕ) (count n : ℕ) → r ≡ now → r.piece ≡ take count bytes → Reads now log → now.from ≤ now.place → now.place + n ≤ now.from + length now.piece → now.place + n ≤ now.limit → out ≡ slice_range bytes (r.place - r.from) (r.place - r.from + n) → piece n (left_of now log) ≡ Ok (out, slice_range log (r.place + n) r.limit)
taken_at r now log bytes out count n e show reads from shown there copied = at now e reads from shown there
  where
    at : (v : Reading) → r ≡ v → Reads v log → v.from ≤ v.place → v.place + n ≤ v.from + length v.piece → v.place + n ≤ v.limit → piece n (left_of v log) ≡ Ok (out, slice_range log (r.place + n) r.limit)
    at v f =
        subst (λ (v : Reading). Reads v log → v.from ≤ v.place → v.place + n ≤ v.from + length v.piece → v.place + n ≤ v.limit → piece n (left_of v log) ≡ Ok (out, slice_range log (r.place + n) r.limit)) f
        (λ reads from shown there.
        let there2 : r.place + n ≤ r.from + length (take count bytes) = subst (λ (b : List ℕ). r.place + n ≤ r.from + length b) show shown in
        let is : take count bytes ≡ slice_range log r.from (r.from + length (take count bytes)) = subst (λ (b : List ℕ). b ≡ slice_range log r.from (r.from + length b)) show reads.piece in
        piece_taken log bytes count r.from r.place n r.limit reads.within there from there2 is
        ∙ ap (λ (ys : List ℕ). let x : Result (List ℕ × List ℕ) Stop = Ok (ys, slice_range log (r.place + n) r.limit) in x) (sym copied))

-- bytes that are passed over
pub piece_passed : (r now : Reading) (log : List ℕ) (n : ℕ) → r ≡ now → Reads now log → r.place + n ≤ r.limit → piece n (left_of now log) ≡ Ok (take n (left_of now log), slice_range log (r.place + n) r.limit)
piece_passed r now log n e = subst (λ (v : Reading). Reads v log → r.place + n ≤ r.limit → piece n (left_of v log) ≡ Ok (take n (left_of v log), slice_range log (r.place + n) r.limit)) e
    (λ reads there.
    piece_is log r.place n r.limit reads.within there
    ∙ ap (λ (ys : List ℕ). let x : Result (List ℕ × List ℕ) Stop = Ok (ys, slice_range log (r.place + n) r.limit) in x) (sym (take-take n (r.limit - r.place) (drop r.place log) (omega arith))))

-- bytes that are to be read alone
pub piece_narrowed : (r now : Reading) (log : List ℕ) (n : ℕ) → r ≡ now → Reads now log → r.place + n ≤ r.limit → piece n (left_of now log) ≡ Ok (slice_range log r.place (r.place + n), slice_range log (r.place + n) now.limit)
piece_narrowed r now log n e = subst (λ (v : Reading). Reads v log → r.place + n ≤ r.limit → piece n (left_of v log) ≡ Ok (slice_range log r.place (r.place + n), slice_range log (r.place + n) v.limit)) e
    (λ reads there.
    piece_is log r.place n r.limit reads.within there
    ∙ ap (λ (m : ℕ). let x : Result (List ℕ × List ℕ) Stop = Ok (take m (drop r.place log), slice_range log (r.place + n) r.limit) in x) (omega arith))

-- bytes that were copied from the log itself
pub copied_at : (r now : Reading) (log out : List ℕ) (n : ℕ) → r ≡ now → Reads now log → r.place + n ≤ r.limit → out ≡ slice_range log r.place (r.place + n) → piece n (left_of now log) ≡ Ok (out, slice_range log (r.place + n) r.limit)
copied_at r now log out n e = subst (λ (v : Reading). Reads v log → r.place + n ≤ r.limit → out ≡ slice_range log r.place (r.place + n) → piece n (left_of v log) ≡ Ok (out, slice_range log (r.place + n) r.limit)) e
    (λ reads there copied.
    let exact : out ≡ take n (drop r.place log) = copied ∙ ap (λ (m : ℕ). take m (drop r.place log)) (omega arith) in
    piece_is log r.place n r.limit reads.within there
    ∙ ap (λ (ys : List ℕ). let x : Result (List ℕ × List ℕ) Stop = Ok (ys, slice_range log (r.place + n) r.limit) in x) (sym exact))
