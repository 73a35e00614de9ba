-- Bytes that differ from others at written places alone: the written runs put over the others give them.
use Rattle.std.proofs.Common.{◌≡◌, refl, sym, ap, ◌∙◌, ℕ, ◌+◌, ◌-◌, ◌<◌, ◌≤◌, nat_lt, min, max, Bool, true, false, List, [], ◌∷◌, ◌++◌, length, take, drop, slice_range, slice_index_or, inl, inr, arith, append_assoc, length-append, length-drop}
use Rattle.std.specs.Prelude.{◌⊎◌}
use Rattle.std.proofs.lemmas.Bool.Decides.{nat_tests}
use Rattle.std.proofs.lemmas.List.{ext_get_or, get_or_append_left, get_or-append_right, get_or-take, get_or-drop, length-take-le}
use Rattle.text_rules.specs.ChangedRanges.{put, put_ranges}
use Rattle.node_rules.specs.Words.{pick}
use Rattle.node_rules.specs.NodeState.{Run, cover}
use Rattle.node_rules.specs.EndRule.{ranges_of}
use Rattle.home_laws.specs.Homes.{AreRuns}

-- the byte at a place
abbrev pub byte : List ℕ → ℕ → ℕ
byte xs i = slice_index_or xs i 0

-- ---- a piece that is put over a page

module _ (place : ℕ) (piece page : List ℕ) (fits : place + length piece ≤ length page) where
  front : length (take place page) ≡ place
  front = length-take-le place page (omega (arith, fits))

  -- its three parts
  parts : put place piece page ≡ take place page ++ (piece ++ drop (place + length piece) page)
  parts = append_assoc (take place page) piece (drop (place + length piece) page)

  pub put_before : (i : ℕ) → i < place → byte (put place piece page) i ≡ byte page i
  put_before i h = ap (λ xs. byte xs i) parts ∙ get_or_append_left (take place page) (piece ++ drop (place + length piece) page) 0 i (omega (arith, h, front)) ∙ get_or-take place page i 0 h

  pub put_inside : (i : ℕ) → place ≤ i → i < place + length piece → byte (put place piece page) i ≡ byte piece (i - place)
  put_inside i low high =
      ap (λ xs. byte xs i) parts
      ∙ get_or-append_right (take place page) (piece ++ drop (place + length piece) page) place i 0 front low
      ∙ get_or_append_left piece (drop (place + length piece) page) 0 (i - place) (omega (arith, low, high))

  pub put_behind : (i : ℕ) → place + length piece ≤ i → byte (put place piece page) i ≡ byte page i
  put_behind i high =
      ap (λ xs. byte xs i) parts
      ∙ get_or-append_right (take place page) (piece ++ drop (place + length piece) page) place i 0 front (omega (arith, high))
      ∙ get_or-append_right piece (drop (place + length piece) page) (length piece) (i - place) 0 refl (omega (arith, high))
      ∙ get_or-drop (place + length piece) page (i - place - length piece) 0
      ∙ ap (byte page) (let e : place + length piece + (i - place - length piece) ≡ i = omega (arith, high) in e)

  pub put_length : length (put place piece page) ≡ length page
  put_length =
      let all = length-append (take place page) (piece ++ drop (place + length piece) page) in
      let more = length-append piece (drop (place + length piece) page) in
      let rest = length-drop (place + length piece) page in
      let same = ap length parts in
      omega (arith, same, all, more, rest, front, fits)

-- ---- runs

-- a place within some runs
abbrev pub InRuns : List Run → ℕ → Type 0
InRuns [] i = ⊥
InRuns (r ∷ rs) i = ((r.from ≤ i) × (i < r.to)) ⊎ InRuns rs i

-- bytes that are the old ones outside some runs
abbrev pub Outside : List Run → List ℕ → List ℕ → Type 0
Outside runs old new = (i : ℕ) → (InRuns runs i → ⊥) → byte new i ≡ byte old i

in_new : (rs : List Run) (from to i : ℕ) → from ≤ i → i < to → InRuns (cover rs from to) i
unfolding cover
in_new [] from to i low high = inl (low, high)
in_new (r ∷ rs) from to i low high =
    by (nat_lt r.to from) (nat_lt to r.from) (in_new rs from to i low high) (in_new rs (min r.from from) (max r.to to) i (grind (arith, nat_tests)) (grind (arith, nat_tests)))
  where
    by : (a b : Bool) → InRuns (cover rs from to) i → InRuns (cover rs (min r.from from) (max r.to to)) i
        → InRuns (pick a (r ∷ cover rs from to) (pick b (record { from = from; to = to } ∷ r ∷ rs) (cover rs (min r.from from) (max r.to to)))) i
    by true b x y = inr x
    by false true x y = inl (low, high)
    by false false x y = y

in_old : (rs : List Run) (from to i : ℕ) → InRuns rs i → InRuns (cover rs from to) i
unfolding cover
in_old [] from to i is = absurd is
in_old (r ∷ rs) from to i (inl is) =
    by (nat_lt r.to from) (nat_lt to r.from)
    (let low = is.0 in let high = is.1 in in_new rs (min r.from from) (max r.to to) i (grind (arith, nat_tests)) (grind (arith, nat_tests)))
  where
    by : (a b : Bool) → InRuns (cover rs (min r.from from) (max r.to to)) i
        → InRuns (pick a (r ∷ cover rs from to) (pick b (record { from = from; to = to } ∷ r ∷ rs) (cover rs (min r.from from) (max r.to to)))) i
    by true b y = inl is
    by false true y = inr (inl is)
    by false false y = y
in_old (r ∷ rs) from to i (inr is) =
    by (nat_lt r.to from) (nat_lt to r.from) (in_old rs from to i is) (in_old rs (min r.from from) (max r.to to) i is)
  where
    by : (a b : Bool) → InRuns (cover rs from to) i → InRuns (cover rs (min r.from from) (max r.to to)) i
        → InRuns (pick a (r ∷ cover rs from to) (pick b (record { from = from; to = to } ∷ r ∷ rs) (cover rs (min r.from from) (max r.to to)))) i
    by true b x y = inr x
    by false true x y = inr (inr is)
    by false false x y = y

-- a further piece, whose places are noted
pub outside_more : (runs : List Run) (old page : List ℕ) (place : ℕ) (piece : List ℕ) → place + length piece ≤ length page → Outside runs old page
    → Outside (cover runs place (place + length piece)) old (put place piece page)
outside_more runs old page place piece fits outside i none = by (nat_lt i place) refl (nat_lt i (place + length piece)) refl
  where
    before : byte page i ≡ byte old i
    before = outside i (λ is. none (in_old runs place (place + length piece) i is))

    by : (a : Bool) → nat_lt i place ≡ a → (b : Bool) → nat_lt i (place + length piece) ≡ b → byte (put place piece page) i ≡ byte old i
    by true e b f = put_before place piece page fits i (grind (arith, nat_tests)) ∙ before
    by false e true f = absurd (none (in_new runs place (place + length piece) i (grind (arith, nat_tests)) (grind (arith, nat_tests))))
    by false e false f = put_behind place piece page fits i (grind (arith, nat_tests)) ∙ before

-- the written runs put over the old bytes give the new ones
pub patched : (size low : ℕ) (runs : List Run) (old new : List ℕ) → AreRuns size low runs → length old ≡ size → length new ≡ size → Outside runs old new → put_ranges (ranges_of new runs) old ≡ new
patched size low [] old new are long more outside = ext_get_or 0 old new (long ∙ sym more) (λ i h. sym (outside i (λ is. is)))
patched size low (r ∷ rs) old new are long more outside =
    patched size (r.to + 1) rs (put r.from (slice_range new r.from r.to) old) new are.3 (put_length r.from (slice_range new r.from r.to) old fits ∙ long) more (λ i none. by i none (nat_lt i r.from) refl (nat_lt i r.to) refl)
  where
    count : length (slice_range new r.from r.to) ≡ r.to - r.from
    count = let within = are.2 in let some = are.1 in let rest = length-drop r.from new in length-take-le (r.to - r.from) (drop r.from new) (omega (arith, rest, within, some, more))

    fits : r.from + length (slice_range new r.from r.to) ≤ length old
    fits = let within = are.2 in let some = are.1 in omega (arith, count, within, some, long)

    by : (i : ℕ) → (InRuns rs i → ⊥) → (a : Bool) → nat_lt i r.from ≡ a → (b : Bool) → nat_lt i r.to ≡ b → byte new i ≡ byte (put r.from (slice_range new r.from r.to) old) i
    by i none true e b f =
        outside i (λ is. not_here is)
        ∙ sym (put_before r.from (slice_range new r.from r.to) old fits i (grind (arith, nat_tests)))
      where
        not_here : InRuns (r ∷ rs) i → ⊥
        not_here (inl is) = let low = is.0 in absurd (grind (arith, nat_tests))
        not_here (inr is) = none is
    by i none false e true f =
        let low : r.from ≤ i = grind (arith, nat_tests) in
        let high : i < r.to = grind (arith, nat_tests) in
        sym
        (put_inside r.from (slice_range new r.from r.to) old fits i low (omega (arith, high, count, low))
        ∙ get_or-take (r.to - r.from) (drop r.from new) (i - r.from) 0 (omega (arith, low, high))
        ∙ get_or-drop r.from new (i - r.from) 0
        ∙ ap (byte new) (let e : r.from + (i - r.from) ≡ i = omega (arith, low) in e))
    by i none false e false f =
        let some = are.1 in
        outside i (λ is. not_here is)
        ∙ sym (put_behind r.from (slice_range new r.from r.to) old fits i (let behind : r.to ≤ i = grind (arith, nat_tests) in omega (arith, behind, count, some)))
      where
        not_here : InRuns (r ∷ rs) i → ⊥
        not_here (inl is) = let high = is.1 in absurd (grind (arith, nat_tests))
        not_here (inr is) = none is
