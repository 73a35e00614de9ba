-- Statuses, and what reading has reached.
use Rattle.std.proofs.Common.{◌≡◌, ℕ, ◌==◌, ◌||◌, ◌≤◌, Bool, true, false, List, [], ◌++◌, Option, Some, None, refl, ap, subst, arith}
use Rattle.std.specs.Prelude.{unwrap_or}
use Rattle.std.specs.Io.KnownBytes.{Consumes}
use Rattle.replay_rules.specs.Due.{first_place}
use Rattle.replay.specs.ReaderView.{ReaderView, first_reader}
use Rattle.replay.specs.Outcome.{HasDiffered}
use Rattle.replay.specs.Wrote.{Went, Reached}
use Rattle.replay.proofs.EndLemmas.{consumes_both, consumes_nothing}
use Rattle.replay.proofs.Going.{both_went, went_nothing}

-- ---- statuses

-- the status is 8
is_eight : Option ℕ → Bool
is_eight s = unwrap_or s 0 == 8

-- a page that differed, at another status than 8
pub differed_as : (t : Bool) (xs : List ℕ) (a b : Option (List ℕ)) (status : ℕ) → (status == 8) ≡ false → HasDiffered t first_place xs a b None
    → HasDiffered t first_place xs a b (Some status)
unfolding is_eight
differed_as t xs a b status other d =
    record {
      front = d.front;
      rest = d.rest;
      reading = d.reading;
      more = d.more;
      split = d.split;
      place = d.place;
      differs = d.differs;
      text = d.text;
      last = λ e. let eight : (status == 8) ≡ true = ap is_eight e in absurd (cc);
    }

pub stop_is_known : (zero stop four five eight nine : Bool) → (stop || eight) ≡ true → ((zero || stop) || (four || (five || (eight || nine)))) ≡ true
stop_is_known true stop four five eight nine h = refl
stop_is_known false true four five eight nine h = refl
stop_is_known false false true five eight nine h = refl
stop_is_known false false false true eight nine h = refl
stop_is_known false false false false true nine h = refl
stop_is_known false false false false false nine h = absurd (cc (h))

pub judged_is_known : (a b : Bool) → a ≡ true → (a || b) ≡ true
judged_is_known true b h = refl
judged_is_known false b h = absurd (cc (h))

pub or_right : (a b : Bool) → b ≡ true → (a || b) ≡ true
or_right true b h = refl
or_right false b h = h

-- ---- reading so far

pub first_reached : (v : ReaderView) (left written : Option (List ℕ)) (source sink : ℕ) → Reached v left left written written source source sink sink v
first_reached v left written source sink =
    record {
      taken = [];
      consumed = consumes_nothing left;
      went = went_nothing v written;
      later_source = omega arith;
      later_sink = omega arith;
    }

-- a reader that has read nothing
pub from_first : {v r : ReaderView} {left left' a b : Option (List ℕ)} {source source' sink sink' : ℕ} (t : Bool) → v ≡ first_reader t
    → Reached v left left' a b source source' sink sink' r → Reached (first_reader t) left left' a b source source' sink sink' r
from_first {r = r} {left = left} {left' = left'} {a = a} {b = b} {source = source} {source' = source'} {sink = sink} {sink' = sink'} t e here =
    subst (λ x. Reached x left left' a b source source' sink sink' r) e here

-- a piece behind which reading goes on
pub piece_read : (v r w : ReaderView) (left left1 left2 a b c : Option (List ℕ)) (source source1 source2 sink sink1 sink2 : ℕ) (piece : List ℕ)
    → Reached v left left1 a b source source1 sink sink1 r → Consumes left1 left2 piece → source1 ≤ source2 → sink1 ≤ sink2 → Went r piece b c None w
    → Reached v left left2 a c source source2 sink sink2 w
piece_read v r w left left1 left2 a b c source source1 source2 sink sink1 sink2 piece here read later_source later_sink went =
    record {
      taken = here.taken ++ piece;
      consumed = consumes_both left left1 left2 here.taken piece here.consumed read;
      went = both_went v r w here.taken piece a b c None here.went went;
      later_source = omega (arith, here.later_source, later_source);
      later_sink = omega (arith, here.later_sink, later_sink);
    }
