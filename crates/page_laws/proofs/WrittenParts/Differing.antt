-- What a transaction wrote of a page.
use Rattle.std.proofs.Common.{inl, inr, ◌≡◌, refl, sym, ap, ◌∙◌, ℕ, ◌+◌, ◌&&◌, ◌||◌, nat_lt, nat_le, Bool, true, false, List, [], ◌∷◌, length, take, drop, arith, append_assoc}
use Rattle.std.specs.Prelude.{slice_index_or}
use Rattle.std.proofs.lemmas.Bool.Decides.{nat_tests}
use Rattle.text_rules.specs.ChangedRanges as text
use Rattle.node_rules.specs.AccessRule.{bytes_or}
use Rattle.node_rules.specs.BufferRule.{private_bytes}
use Rattle.node_rules.specs.EndRule.{ranges_of}
use Rattle.node_rules.specs.NodeState.{Run, cover, runs_at}
use Rattle.page_protocol.specs.Bytes.{put, put_all}
use Rattle.page_laws.specs.Storage.Looks.{pairs_of}
use Rattle.page_laws.proofs.StorageParts.Redos.{ranges_are_put_law}
use Rattle.page_laws.specs.Written.Written.{is_inside, DiffersWithin, NothingDiffers, PieceIsPut, PieceDiffers, LoggedIsPut}
use Rattle.page_laws.proofs.WrittenParts.Patches.{InRuns, Outside, put_length, outside_more, patched}

pub nothing_differs_law : NothingDiffers
nothing_differs_law page = record { long = refl; outside = λ i e. refl }

pub piece_is_put_law : PieceIsPut
piece_is_put_law place piece page = append_assoc (take place page) piece (drop (place + length piece) page)

-- the two words for a place in runs
in_runs : (runs : List Run) (i : ℕ) → is_inside runs i ≡ true → InRuns runs i
in_runs [] i e = absurd (cc)
in_runs (r ∷ runs) i e = by (nat_le r.from i) refl (nat_lt i r.to) refl e (in_runs runs i)
  where
    by : (a : Bool) → nat_le r.from i ≡ a → (b : Bool) → nat_lt i r.to ≡ b → ((a && b) || is_inside runs i) ≡ true → (is_inside runs i ≡ true → InRuns runs i) → InRuns (r ∷ runs) i
    by true f true g e go = inl (grind (arith, nat_tests), grind (arith, nat_tests))
    by true f false g e go = inr (go e)
    by false f b g e go = inr (go e)

or_true : (b : Bool) → (b || true) ≡ true
or_true true = refl
or_true false = refl

inside_runs : (runs : List Run) (i : ℕ) → InRuns runs i → is_inside runs i ≡ true
inside_runs [] i is = absurd is
inside_runs (r ∷ runs) i (inl is) =
    let low : nat_le r.from i ≡ true = let low = is.0 in grind (arith, nat_tests) in
    let high : nat_lt i r.to ≡ true = let high = is.1 in grind (arith, nat_tests) in
    ap (λ a. (a && nat_lt i r.to) || is_inside runs i) low ∙ ap (λ b. b || is_inside runs i) high
inside_runs (r ∷ runs) i (inr is) = ap (λ b. (nat_le r.from i && nat_lt i r.to) || b) (inside_runs runs i is) ∙ or_true (nat_le r.from i && nat_lt i r.to)

outside_of : (runs : List Run) (before page : List ℕ) → DiffersWithin runs before page → Outside runs before page
outside_of runs before page is i none = by (is_inside runs i) refl
  where
    by : (b : Bool) → is_inside runs i ≡ b → slice_index_or page i 0 ≡ slice_index_or before i 0
    by true e = absurd (none (in_runs runs i e))
    by false e = is.outside i e

pub piece_differs_law : PieceDiffers
piece_differs_law runs before page place piece fits is =
    let same : text.put place piece page ≡ put place piece page = piece_is_put_law place piece page in
    record {
      long = ap length (sym same) ∙ put_length place piece page fits ∙ is.long;
      outside = λ i e.
          ap (λ (xs : List ℕ). slice_index_or xs i 0) (sym same)
          ∙ outside_more runs before page place piece fits (outside_of runs before page is) i
          (λ inside. let yes = inside_runs (cover runs place (place + length piece)) i inside in absurd (cc));
    }

pub logged_is_put_law : LoggedIsPut
logged_is_put_law h t p before image own are is =
    let new : bytes_or (private_bytes h.pool t p) [] ≡ image = ap (λ o. bytes_or o []) own in
    ap (λ bytes. put_all (pairs_of (ranges_of bytes (runs_at h.written t p))) before) new
    ∙ sym (ranges_are_put_law (ranges_of image (runs_at h.written t p)) before)
    ∙ patched (length before) 0 (runs_at h.written t p) before image are refl is.long (outside_of (runs_at h.written t p) before image is)
