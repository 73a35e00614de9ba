-- How serving ends.
use Rattle.std.proofs.Common.{◌≡◌, refl, sym, ap, subst, inl, inr, ℕ, zero, suc, ◌⊎◌, ◌||◌, Bool, true, false, List, [], ◌∷◌, append-nil, Option}
use Rattle.std.specs.Prelude.{IsTrue}
use Rattle.std.specs.Io.KnownBytes.{Appends, Consumes, IsAtEnd}
use Rattle.std.proofs.KnownBytes.{Appends-nil}
use Rattle.pcl_base.specs.Faults.{Rose}
use Rattle.run_rules.specs.Disk.{Disk}
use Rattle.node_rules.specs.NodeState.{NodeState, number_of}
use Rattle.frame_rules.specs.ReadFrame.{BadFrame}
use Rattle.frame_rules.specs.WrittenFrames.{end_frame, bad_frame_text, long_text}
use Rattle.frame_rules.specs.Serving.{Ended, Served, ends, at_end}
use Rattle.node_frames.specs.Front.{DecidesNothing}
use Rattle.node_frames.specs.Written.{AppendsPart}
use Rattle.serving_parts.specs.declared.end.End.{End}
use Rattle.serving_parts.specs.declared.end.End.TheVariants.{Decided, Source, Sink, Memory}
use Rattle.serving_parts.specs.Sides.{Sides, Tells, sides_of}
use Rattle.serving_parts.specs.Outcome.{Link, due, ServesBy, IsOver, WritesPart, Outcome, is_served}
use Rattle.serving_parts.specs.Frames.{IsBad}
use Rattle.serving_parts.specs.Written.{WroteLast}
use Rattle.serving_parts.specs.Turns.{EndCause, EndOver, Ran, status_of}
use Rattle.serving_parts.proofs.Alikes.{alike_same}
use Rattle.serving_parts.proofs.Serves.{due_none, may_none, due_long, may_long, due_bad, may_bad}
use Rattle.serving_parts.proofs.Moving.{nothing_part}

-- nothing is read any more
pub serves_none : (k : Link) (d : Disk) (old : Sides) → ServesBy k d old [] (at_end d)
serves_none k d old =
    record {
      may = may_none k.most k.number k.node d;
      exact = λ calm. alike_same (at_end d) (due k d []) (sym (due_none k.most k.number k.node d));
    }

over_none : (k : Link) (d : Disk) (old new : Sides) → Appends old.outs.written new.outs.written [] → Tells new.outs.store d → IsOver k d old new [] 0
over_none k d old new nothing tells =
    record { s = at_end d; serves = serves_none k d old; after = d; end = refl; text = nothing; left = tells }

-- the end of the input
pub ends_none : (k : Link) (old : Sides) (left' : Option (List ℕ)) (source' : ℕ) → Consumes old.left left' [] → IsAtEnd left' → Ran k old (sides_of left' source' old.outs) (Decided 0)
ends_none k old left' source' consumed end =
    record {
      taken = [];
      consumed = consumed;
      cause = (refl, λ zero. end, λ six. absurd (cc));
      over = λ d tells. over_none k d old (sides_of left' source' old.outs) (Appends-nil old.outs.written) tells;
    }

-- the source failed before what it gave decided anything
pub ends_unread : (k : Link) (old : Sides) (left' : Option (List ℕ)) (source' : ℕ) (taken : List ℕ) → Consumes old.left left' taken → Rose old.source source' → DecidesNothing taken
    → Ran k old (sides_of left' source' old.outs) Source
ends_unread k old left' source' taken consumed rose nothing =
    record {
      taken = taken;
      consumed = consumed;
      cause = rose;
      over =
          λ d tells.
          record {
            front = [];
            part = taken;
            all = refl;
            nothing = nothing;
            over = over_none k d old (sides_of left' source' old.outs) (Appends-nil old.outs.written) tells;
          };
    }

-- nothing is written of what was taken
pub part_none : (k : Link) (d : Disk) (old new : Sides) (taken : List ℕ) → AppendsPart old.outs.written new.outs.written [] → WritesPart k d old new taken
part_none k d old new taken nothing =
    record { front = []; part = taken; all = refl; s = at_end d; serves = serves_none k d old; text = nothing }

-- memory is wanted before anything is written
pub ends_wanting : (k : Link) (old : Sides) (left' : Option (List ℕ)) (source' : ℕ) (taken : List ℕ) → Consumes old.left left' taken → Ran k old (sides_of left' source' old.outs) Memory
ends_wanting k old left' source' taken consumed =
    record {
      taken = taken;
      consumed = consumed;
      cause = tt;
      over = λ d tells. part_none k d old (sides_of left' source' old.outs) taken (nothing_part old.outs.written []);
    }

-- a beginning is written of what the bytes that were taken give
pub part_all : (k : Link) (d : Disk) (old new : Sides) (taken : List ℕ) (s : Served) → ServesBy k d old taken s → AppendsPart old.outs.written new.outs.written s.written → WritesPart k d old new taken
part_all k d old new taken s serves text =
    record { front = taken; part = []; all = sym (append-nil taken); s = s; serves = serves; text = text }

-- what may be served of the bytes that were taken is a last line with a status
pub record EndsSo (k : Link) (d : Disk) (old new : Sides) (taken line : List ℕ) (status : ℕ) : Type 0 where
  pub after : Disk
  pub tells : Tells new.outs.store after
  pub serves : ServesBy k d old taken (ends after line status)

module _ (k : Link) (old new : Sides) (taken line : List ℕ) (status : ℕ) (so : (d : Disk) → Tells old.outs.store d → EndsSo k d old new taken line status) where
  last_over : (end : End) → WroteLast status old.outs.written new.outs.written old.outs.sink new.outs.sink (end_frame line) end → (d : Disk) → Tells old.outs.store d
      → EndOver k d old new taken end
  last_over (Decided s) wrote d tells =
      let e = so d tells in
      record {
        s = ends e.after line status;
        serves = e.serves;
        after = e.after;
        end = ap (λ x. Ended x e.after) (sym wrote.0);
        text = wrote.1;
        left = e.tells;
      }
  last_over Source wrote d tells = absurd wrote
  last_over Sink wrote d tells =
      let e = so d tells in part_all k d old new taken (ends e.after line status) e.serves wrote.1
  last_over Memory wrote d tells =
      let e = so d tells in part_all k d old new taken (ends e.after line status) e.serves wrote

  last_cause : (end : End) → EndCause old new (Decided status) → WroteLast status old.outs.written new.outs.written old.outs.sink new.outs.sink (end_frame line) end → EndCause old new end
  last_cause (Decided s) cause wrote = subst (λ x. EndCause old new (Decided x)) (sym wrote.0) cause
  last_cause Source cause wrote = absurd wrote
  last_cause Sink cause wrote = wrote.0
  last_cause Memory cause wrote = tt

  pub ends_last : (end : End) → Consumes old.left new.left taken → EndCause old new (Decided status)
      → WroteLast status old.outs.written new.outs.written old.outs.sink new.outs.sink (end_frame line) end → Ran k old new end
  ends_last end consumed cause wrote =
      record { taken = taken; consumed = consumed; cause = last_cause end cause wrote; over = last_over end wrote }

-- a bad frame
pub ends_bad : (me most number : ℕ) (n : NodeState) (old new : Sides) (taken : List ℕ) (bad : BadFrame) (end : End) → IsBad n.home.config (number_of n) taken bad
    → new.outs.store ≡ old.outs.store → Consumes old.left new.left taken
    → WroteLast 3 old.outs.written new.outs.written old.outs.sink new.outs.sink (end_frame (bad_frame_text number bad)) end
    → Ran (record { me = me; node = n; most = suc most; number = number }) old new end
ends_bad me most number n old new taken bad end is same consumed wrote =
    let k : Link = record { me = me; node = n; most = suc most; number = number } in
    let line = bad_frame_text number bad in
    ends_last k old new taken line 3
    (λ d tells.
    record {
      after = d;
      tells = subst (λ s. Tells s d) (sym same) tells;
      serves =
          record {
            may = may_bad most number n d taken bad is;
            exact = λ calm. alike_same (ends d line 3) (due k d taken) (sym (due_bad most number n d taken bad is));
          };
    })
    end consumed (refl, λ zero. absurd (cc), λ six. absurd (cc)) wrote

-- a byte where no frame more may be read
pub ends_long : (me number b : ℕ) (n : NodeState) (old new : Sides) (end : End) → new.outs.store ≡ old.outs.store → Consumes old.left new.left (b ∷ [])
    → WroteLast 7 old.outs.written new.outs.written old.outs.sink new.outs.sink (end_frame (long_text number)) end
    → Ran (record { me = me; node = n; most = zero; number = number }) old new end
ends_long me number b n old new end same consumed wrote =
    let k : Link = record { me = me; node = n; most = zero; number = number } in
    let line = long_text number in
    ends_last k old new (b ∷ []) line 7
    (λ d tells.
    record {
      after = d;
      tells = subst (λ s. Tells s d) (sym same) tells;
      serves =
          record {
            may = may_long number b n d;
            exact = λ calm. alike_same (ends d line 7) (due k d (b ∷ [])) (sym (due_long number b n d));
          };
    })
    end consumed (refl, λ zero. absurd (cc), λ six. absurd (cc)) wrote

-- the outcome, by the status
or_left : (a b : Bool) → IsTrue a → IsTrue (a || b)
or_left true b is = refl
or_left false b is = let bad : false ≡ true = is in absurd (cc)

pub ran_outcome : (k : Link) (old new : Sides) (end : End) → Ran k old new end → Outcome k old new (status_of end)
ran_outcome k old new (Decided status) r =
    let served : IsTrue (is_served status) = r.cause.0 in
    record {
      taken = r.taken;
      consumed = r.consumed;
      known = or_left (is_served status) _ served;
      end = r.cause.1;
      failed_source = λ four. let bad : false ≡ true = subst (λ n. IsTrue (is_served n)) four served in absurd (cc);
      failed_sink = λ five. let bad : false ≡ true = subst (λ n. IsTrue (is_served n)) five served in absurd (cc);
      failed_storage = r.cause.2;
      over = λ d tells is. r.over d tells;
      unread = λ d tells four. let bad : false ≡ true = subst (λ n. IsTrue (is_served n)) four served in absurd (cc);
      part = λ d tells o. absurd (no_part status served o);
    }
  where
    no_part : (status : ℕ) → IsTrue (is_served status) → (status ≡ 5) ⊎ (status ≡ 9) → ⊥
    no_part status served (inl five) = let bad : false ≡ true = subst (λ n. IsTrue (is_served n)) five served in absurd (cc)
    no_part status served (inr nine) = let bad : false ≡ true = subst (λ n. IsTrue (is_served n)) nine served in absurd (cc)
ran_outcome k old new Source r =
    record {
      taken = r.taken;
      consumed = r.consumed;
      known = refl;
      end = λ e. absurd (cc);
      failed_source = λ e. r.cause;
      failed_sink = λ e. absurd (cc);
      failed_storage = λ e. absurd (cc);
      over = λ d tells is. let bad : false ≡ true = is in absurd (cc);
      unread = λ d tells e. r.over d tells;
      part = λ d tells o. absurd (not_four 4 refl o);
    }
  where
    not_four : (status : ℕ) → status ≡ 4 → (status ≡ 5) ⊎ (status ≡ 9) → ⊥
    not_four status four (inl five) = cc
    not_four status four (inr nine) = cc
ran_outcome k old new Sink r =
    record {
      taken = r.taken;
      consumed = r.consumed;
      known = refl;
      end = λ e. absurd (cc);
      failed_source = λ e. absurd (cc);
      failed_sink = λ e. r.cause;
      failed_storage = λ e. absurd (cc);
      over = λ d tells is. let bad : false ≡ true = is in absurd (cc);
      unread = λ d tells e. absurd (cc);
      part = λ d tells o. r.over d tells;
    }
ran_outcome k old new Memory r =
    record {
      taken = r.taken;
      consumed = r.consumed;
      known = refl;
      end = λ e. absurd (cc);
      failed_source = λ e. absurd (cc);
      failed_sink = λ e. absurd (cc);
      failed_storage = λ e. absurd (cc);
      over = λ d tells is. let bad : false ≡ true = is in absurd (cc);
      unread = λ d tells e. absurd (cc);
      part = λ d tells o. r.over d tells;
    }
