-- The outcome of a run that a fault or a line ends, from what it has reached.
use Rattle.std.proofs.Common.{◌≡◌, ℕ, ◌==◌, ◌⊎◌, Bool, true, false, List, ◌++◌, append-nil, Option, Some, None, Err, refl, sym, ap, subst, ◌∙◌, inl, inr, arith}
use Rattle.std.specs.Prelude.{IsTrue}
use Rattle.std.specs.Io.KnownBytes.{Appends, Consumes, Keeps}
use Rattle.pcl_base.specs.Faults.{Rose}
use Rattle.replay_rules.specs.Due.{first_place, at_end, due}
use Rattle.replay_rules.specs.Due.Place.{Stopped}
use Rattle.replay_rules.specs.Outcome.{WritesPart, so_far, is_judged, is_stop}
use Rattle.replay_rules.specs.Outcome.{Outcome as OutcomeOfRules}
use Rattle.replay.specs.declared.ends.Fault.{Fault}
use Rattle.replay.specs.declared.ends.Fault.TheVariants.{Source, Sink, Memory}
use Rattle.replay.specs.ReaderView.{ReaderView, first_reader}
use Rattle.replay.specs.Outcome.{OutcomeOrDifference, HasDiffered}
use Rattle.replay.specs.Told.{IsStop}
use Rattle.replay.specs.Wrote.{GoesOn, Went, Broke, Reached, IsWriteFault, status_of}
use Rattle.replay.proofs.EndLemmas.{consumes_both, consumes_kept}
use Rattle.replay.proofs.Going.{both_went, went_broke, part_whole, rose_earlier}
use Rattle.replay.proofs.Reaching.{differed_as, stop_is_known, judged_is_known, or_right, first_reached}

-- ---- the source failed

source_by_rules : (t : Bool) (left left' a b : Option (List ℕ)) (source source' sink sink' : ℕ) (taken : List ℕ) (r : ReaderView) → Consumes left left' taken
    → Rose source source' → GoesOn (first_reader t) taken a b None r → OutcomeOfRules t left left' a b source source' sink sink' 4
source_by_rules t left left' a b source source' sink sink' taken r consumed rose g =
    record {
      taken = taken;
      consumed = consumed;
      known = refl;
      judged = λ h. let bad : false ≡ true = h in absurd (cc);
      failed_source = λ four. record { rose = rose; first = (r.reading, g.place); text = g.text };
      failed_sink = λ five. absurd (omega (arith, five));
      part = λ either. elim either [ inl five ↦ absurd (omega (arith, five)) | inr nine ↦ absurd (omega (arith, nine)) ];
    }

source_runs : (t : Bool) (left left' a b : Option (List ℕ)) (source source' sink sink' : ℕ) (taken : List ℕ) (r : ReaderView) → Consumes left left' taken
    → Rose source source' → Went (first_reader t) taken a b None r → OutcomeOrDifference t left left' a b source source' sink sink' 4
source_runs t left left' a b source source' sink sink' taken r consumed rose went =
    record {
      taken = taken;
      consumed = consumed;
      known = refl;
      failed_source = λ four. rose;
      failed_sink = λ five. absurd (omega (arith, five));
      runs = elim went [
        | inl g ↦ inl (record {
          outcome = source_by_rules t left left' a b source source' sink sink' taken r consumed rose g;
          traced = λ zero. absurd (omega (arith, zero));
        })
        | inr d ↦ inr (differed_as t taken a b 4 refl d)
      ];
    }

pub source_failed : (t : Bool) (r : ReaderView) (left left1 left2 a b : Option (List ℕ)) (source source1 source2 sink sink' : ℕ)
    → Reached (first_reader t) left left1 a b source source1 sink sink' r → Keeps left1 left2 → Rose source1 source2
    → OutcomeOrDifference t left left2 a b source source2 sink sink' 4
source_failed t r left left1 left2 a b source source1 source2 sink sink' here kept rose =
    source_runs t left left2 a b source source2 sink sink' here.taken r (consumes_kept left left1 left2 here.taken here.consumed kept)
    (rose_earlier source source1 source2 here.later_source rose) here.went

-- ---- the sink failed, or memory ran out

sink_by_rules : (t : Bool) (left left' a b : Option (List ℕ)) (source source' sink sink' : ℕ) (taken : List ℕ) → Consumes left left' taken
    → Rose sink sink' → WritesPart t taken left' a b → OutcomeOfRules t left left' a b source source' sink sink' 5
sink_by_rules t left left' a b source source' sink sink' taken consumed rose part =
    record {
      taken = taken;
      consumed = consumed;
      known = refl;
      judged = λ h. let bad : false ≡ true = h in absurd (cc);
      failed_source = λ four. absurd (omega (arith, four));
      failed_sink = λ five. rose;
      part = λ either. part;
    }

memory_by_rules : (t : Bool) (left left' a b : Option (List ℕ)) (source source' sink sink' : ℕ) (taken : List ℕ) → Consumes left left' taken
    → WritesPart t taken left' a b → OutcomeOfRules t left left' a b source source' sink sink' 9
memory_by_rules t left left' a b source source' sink sink' taken consumed part =
    record {
      taken = taken;
      consumed = consumed;
      known = refl;
      judged = λ h. let bad : false ≡ true = h in absurd (cc);
      failed_source = λ four. absurd (omega (arith, four));
      failed_sink = λ five. absurd (omega (arith, five));
      part = λ either. part;
    }

-- a fault, behind which a beginning of the text is written
pub fault_outcome : (t : Bool) (left left' a b : Option (List ℕ)) (source source' sink sink' : ℕ) (taken : List ℕ) (fault : Fault) → Consumes left left' taken
    → IsWriteFault sink sink' fault → WritesPart t taken left' a b ⊎ HasDiffered t first_place taken a b None
    → OutcomeOrDifference t left left' a b source source' sink sink' (status_of (Err fault))
fault_outcome t left left' a b source source' sink sink' taken Source consumed cause either = absurd cause
fault_outcome t left left' a b source source' sink sink' taken Sink consumed cause either =
    record {
      taken = taken;
      consumed = consumed;
      known = refl;
      failed_source = λ four. absurd (omega (arith, four));
      failed_sink = λ five. cause;
      runs = elim either [
        | inl part ↦ inl (record {
          outcome = sink_by_rules t left left' a b source source' sink sink' taken consumed cause part;
          traced = λ zero. absurd (omega (arith, zero));
        })
        | inr d ↦ inr (differed_as t taken a b 5 refl d)
      ];
    }
fault_outcome t left left' a b source source' sink sink' taken Memory consumed cause either =
    record {
      taken = taken;
      consumed = consumed;
      known = refl;
      failed_source = λ four. absurd (omega (arith, four));
      failed_sink = λ five. absurd (omega (arith, five));
      runs = elim either [
        | inl part ↦ inl (record {
          outcome = memory_by_rules t left left' a b source source' sink sink' taken consumed part;
          traced = λ zero. absurd (omega (arith, zero));
        })
        | inr d ↦ inr (differed_as t taken a b 9 refl d)
      ];
    }

-- a beginning of what the bytes taken give
broken : (t : Bool) (left a b : Option (List ℕ)) (taken : List ℕ) → Broke (first_reader t) taken a b
    → WritesPart t taken left a b ⊎ HasDiffered t first_place taken a b None
broken t left a b taken (inl part) = inl (inl part)
broken t left a b taken (inr d) = inr d

pub piece_failed : (t : Bool) (r : ReaderView) (left left1 left2 a b c : Option (List ℕ)) (source source1 source2 sink sink1 sink2 : ℕ) (piece : List ℕ) (fault : Fault)
    → Reached (first_reader t) left left1 a b source source1 sink sink1 r → Consumes left1 left2 piece → IsWriteFault sink sink2 fault → Broke r piece b c
    → OutcomeOrDifference t left left2 a c source source2 sink sink2 (status_of (Err fault))
piece_failed t r left left1 left2 a b c source source1 source2 sink sink1 sink2 piece fault here read cause broke =
    fault_outcome t left left2 a c source source2 sink sink2 (here.taken ++ piece) fault
    (consumes_both left left1 left2 here.taken piece here.consumed read) cause
    (broken t left2 a c (here.taken ++ piece) (went_broke (first_reader t) r here.taken piece a b c here.went broke))

-- memory ran out between two pieces
went_part : (t : Bool) (r : ReaderView) (a b : Option (List ℕ)) (taken : List ℕ) → Went (first_reader t) taken a b None r → Broke (first_reader t) taken a b
went_part t r a b taken (inl g) = inl (part_whole a b _ g.text)
went_part t r a b taken (inr d) = inr d

pub out_of_memory : (t : Bool) (r : ReaderView) (left left' a b : Option (List ℕ)) (source source' sink sink' : ℕ)
    → Reached (first_reader t) left left' a b source source' sink sink' r → OutcomeOrDifference t left left' a b source source' sink sink' 9
out_of_memory t r left left' a b source source' sink sink' here =
    fault_outcome t left left' a b source source' sink sink' here.taken Memory here.consumed tt
    (broken t left' a b here.taken (went_part t r a b here.taken here.went))

pub no_memory : (t : Bool) (left a : Option (List ℕ)) (source sink : ℕ) → OutcomeOrDifference t left left a a source source sink sink 9
no_memory t left a source sink =
    out_of_memory t (first_reader t) left left a a source source sink sink (first_reached (first_reader t) left a source sink)

-- ---- a line decides

stopped_due : (t : Bool) (taken : List ℕ) (status : ℕ) → (so_far t taken).place ≡ Stopped status
    → ((due t taken).place ≡ Stopped status) × ((due t taken).text ≡ (so_far t taken).text)
unfolding due at_end
stopped_due t taken status stop = (
  ap (λ p. (at_end t p).place) stop,
  ap (λ p. (so_far t taken).text ++ (at_end t p).text) stop ∙ append-nil (so_far t taken).text,
)

stop_by_rules : (t : Bool) (left left' a b : Option (List ℕ)) (source source' sink sink' : ℕ) (taken : List ℕ) (status : ℕ) (r : ReaderView) → Consumes left left' taken
    → GoesOn (first_reader t) taken a b (Some status) r → OutcomeOfRules t left left' a b source source' sink sink' status
stop_by_rules t left left' a b source source' sink sink' taken status r consumed g =
    let stop : IsTrue (is_stop status) = g.stop in
    let judged : IsTrue (is_judged status) = or_right (status == 0) (is_stop status) stop in
    let given = stopped_due t taken status g.place in
    record {
      taken = taken;
      consumed = consumed;
      known = judged_is_known (is_judged status) _ judged;
      judged = λ h. record { place = given.0; text = subst (Appends a b) (sym given.1) g.text; over = inl g.place };
      failed_source = λ four. let bad : false ≡ true = subst (λ n. IsTrue (is_stop n)) four stop in absurd (cc);
      failed_sink = λ five. let bad : false ≡ true = subst (λ n. IsTrue (is_stop n)) five stop in absurd (cc);
      part = λ either.
          elim either [
            | inl five ↦ let bad : false ≡ true = subst (λ n. IsTrue (is_stop n)) five stop in absurd (cc)
            | inr nine ↦ let bad : false ≡ true = subst (λ n. IsTrue (is_stop n)) nine stop in absurd (cc)
          ];
    }

stop_runs : (t : Bool) (left left' a b : Option (List ℕ)) (source source' sink sink' : ℕ) (taken : List ℕ) (status : ℕ) (r : ReaderView) → Consumes left left' taken
    → IsStop (Some status) → Went (first_reader t) taken a b (Some status) r → OutcomeOrDifference t left left' a b source source' sink sink' status
stop_runs t left left' a b source source' sink sink' taken status r consumed stop went =
    record {
      taken = taken;
      consumed = consumed;
      known = stop_is_known (status == 0) (is_stop status) (status == 4) (status == 5) (status == 8) (status == 9) stop;
      failed_source = λ four. let bad : false ≡ true = subst (λ n. IsStop (Some n)) four stop in absurd (cc);
      failed_sink = λ five. let bad : false ≡ true = subst (λ n. IsStop (Some n)) five stop in absurd (cc);
      runs = elim went [
        | inl g ↦ inl (record {
          outcome = stop_by_rules t left left' a b source source' sink sink' taken status r consumed g;
          traced = λ zero. let bad : false ≡ true = subst (λ n. IsStop (Some n)) zero stop in absurd (cc);
        })
        | inr d ↦ inr d
      ];
    }

pub piece_stopped : (t : Bool) (r w : ReaderView) (left left1 left2 a b c : Option (List ℕ)) (source source1 source2 sink sink1 sink2 : ℕ) (piece : List ℕ) (status : ℕ)
    → Reached (first_reader t) left left1 a b source source1 sink sink1 r → Consumes left1 left2 piece → IsStop (Some status) → Went r piece b c (Some status) w
    → OutcomeOrDifference t left left2 a c source source2 sink sink2 status
piece_stopped t r w left left1 left2 a b c source source1 source2 sink sink1 sink2 piece status here read stop went =
    stop_runs t left left2 a c source source2 sink sink2 (here.taken ++ piece) status w
    (consumes_both left left1 left2 here.taken piece here.consumed read) stop
    (both_went (first_reader t) r w here.taken piece a b c (Some status) here.went went)
