-- What a step gives, and how serving goes on or ends by it.
use Rattle.std.proofs.Common.{◌≡◌, refl, sym, ap, subst, ◌∙◌, inl, inr, ℕ, suc, ◌+◌, ◌≤◌, List, [], Option, Result, Ok, Err}
use Rattle.std.specs.Prelude.{IfErr}
use Rattle.std.specs.Io.KnownBytes.{Consumes}
use Rattle.run_rules.specs.Disk.{Disk}
use Rattle.node_rules.specs.NodeState.{NodeState, NodeEvent, number_of}
use Rattle.frame_rules.specs.Frames.{Frame, step_of}
use Rattle.frame_rules.specs.WrittenFrames.{end_frame}
use Rattle.frame_rules.specs.Serving.{Going, Served, ends, by_step}
use Rattle.frame_rules.specs.Halting.{MayStep}
use Rattle.serving_parts.specs.declared.end.End.{End}
use Rattle.serving_parts.specs.declared.end.End.TheVariants.{Decided, Source, Sink, Memory}
use Rattle.serving_parts.specs.Sides.{Outs, Sides, Tells, sides_of, NoneIsToFail}
use Rattle.serving_parts.specs.Outcome.{Link, Alike, ServesBy, WritesPart}
use Rattle.serving_parts.specs.Frames.{IsWhole}
use Rattle.serving_parts.specs.Written.{Wrote, WroteLast}
use Rattle.serving_parts.specs.Works.{GoesOn, EndsBy, GivesPart, GaveOver, GaveCause, Gave}
use Rattle.serving_parts.specs.Turns.{EndCause, EndOver, Turned}
use Rattle.serving_parts.proofs.Alikes.{alike_same, alike_closed, closed}
use Rattle.serving_parts.proofs.Serves.{due_on, may_on, due_closed, may_closed, step_may}
use Rattle.serving_parts.proofs.Ending.{part_all, part_none}

module _ (me : ℕ) (n : NodeState) (d : Disk) (asked : Option NodeEvent) (later : NodeState) (old new : Outs) where
  -- the node goes on, and its frames are written
  part_on : (text : List ℕ) → GoesOn me n d asked text later old.store new.store → Wrote {X = ℕ} old.written new.written old.sink new.sink text (Err Memory) → GivesPart me n d asked old new
  part_on text g wrote =
      record {
        s = record { written = text; progress = Going later g.after };
        may = step_may n later d g.after text asked g.step;
        exact = λ calm. alike_same (record { written = text; progress = Going later g.after }) (by_step n d asked) (sym g.step);
        text = wrote;
      }

  pub gave_on : {X : Type 0} (text : List ℕ) (result : Result X End) → GoesOn me n d asked text later old.store new.store → Wrote old.written new.written old.sink new.sink text result
      → GaveOver me n d asked later old new result
  gave_on text (Ok x) g wrote = (text, g, wrote)
  gave_on text (Err (Decided status)) g wrote = absurd wrote
  gave_on text (Err Source) g wrote = absurd wrote
  gave_on text (Err Sink) g wrote = part_on text g wrote.1
  gave_on text (Err Memory) g wrote = inr (part_on text g wrote)

  -- the step ends serving, and the last frame is written
  part_last : (line : List ℕ) (status : ℕ) → EndsBy me n d asked line status old.store new.store → Wrote {X = ℕ} old.written new.written old.sink new.sink (end_frame line) (Err Memory)
      → GivesPart me n d asked old new
  part_last line status e wrote = record { s = ends e.after line status; may = e.may; exact = e.exact; text = wrote }

  pub gave_last : (X : Type 0) (line : List ℕ) (status : ℕ) (end : End) → EndsBy me n d asked line status old.store new.store
      → WroteLast status old.written new.written old.sink new.sink (end_frame line) end → GaveOver {X = X} me n d asked later old new (Err end)
  gave_last X line status (Decided s) e wrote =
      (line, subst (λ x. EndsBy me n d asked line x old.store new.store) (sym wrote.0) e, wrote.1)
  gave_last X line status Source e wrote = absurd wrote
  gave_last X line status Sink e wrote = part_last line status e wrote.1
  gave_last X line status Memory e wrote = inr (part_last line status e wrote)

pub wrote_cause : {X : Type 0} (old new : Outs) (text : List ℕ) (result : Result X End) → Wrote old.written new.written old.sink new.sink text result → IfErr result (GaveCause old new)
wrote_cause old new text (Ok x) wrote = tt
wrote_cause old new text (Err (Decided status)) wrote = absurd wrote
wrote_cause old new text (Err Source) wrote = absurd wrote
wrote_cause old new text (Err Sink) wrote = wrote.0
wrote_cause old new text (Err Memory) wrote = tt

pub last_cause : (old new : Outs) (line : List ℕ) (status : ℕ) (end : End) → GaveCause old new (Decided status) → WroteLast status old.written new.written old.sink new.sink (end_frame line) end
    → GaveCause old new end
last_cause old new line status (Decided s) cause wrote = subst (λ x. GaveCause old new (Decided x)) (sym wrote.0) cause
last_cause old new line status Source cause wrote = absurd wrote
last_cause old new line status Sink cause wrote = wrote.0
last_cause old new line status Memory cause wrote = tt

-- a frame of a node before so many others, which was taken, and the step that it asks
module _ (me most number : ℕ) (n later : NodeState) (f : Frame) (asked : Option NodeEvent) (same : step_of (number_of n) f ≡ asked) (old : Sides) (left' : Option (List ℕ)) (source' : ℕ) (outs' : Outs) (taken : List ℕ)
    (whole : IsWhole n.home.config (number_of n) taken (Ok f)) (consumed : Consumes old.left left' taken) (source : old.source ≤ source') where
  here : Link
  here = record { me = me; node = n; most = suc most; number = number }

  serves_closed : (d : Disk) (s : Served) → MayStep n d asked s → (NoneIsToFail me old.outs.store → Alike s (by_step n d asked))
      → ServesBy (record { me = me; node = n; most = suc most; number = number }) d old taken (closed s)
  serves_closed d s may exact =
      record {
        may = may_closed most number n d taken (Ok f) s whole (subst (λ a. MayStep n d a s) (sym same) may);
        exact =
            λ calm.
            subst (λ x. Alike (closed s) x) (sym (due_closed most number n d taken (Ok f) whole ∙ ap (λ a. closed (by_step n d a)) same))
            (alike_closed s (by_step n d asked) (exact calm));
      }

  gives_writes : (d : Disk) → GivesPart me n d asked old.outs outs' → WritesPart (record { me = me; node = n; most = suc most; number = number }) d old (sides_of left' source' outs') taken
  gives_writes d p =
      part_all (record { me = me; node = n; most = suc most; number = number }) d old (sides_of left' source' outs') taken (closed p.s) (serves_closed d p.s p.may p.exact) p.text

  gave_over : (end : End) (d : Disk) → Tells old.outs.store d → GaveCause old.outs outs' end → GaveOver {X = ℕ} me n d asked later old.outs outs' (Err end)
      → EndOver (record { me = me; node = n; most = suc most; number = number }) d old (sides_of left' source' outs') taken end
  gave_over (Decided status) d tells cause (line, e, text) =
      record {
        s = ends e.after line status;
        serves = serves_closed d (ends e.after line status) e.may e.exact;
        after = e.after;
        end = refl;
        text = text;
        left = e.tells;
      }
  gave_over Source d tells cause gave = absurd cause
  gave_over Sink d tells cause gave = gives_writes d gave
  gave_over Memory d tells cause (inl nothing) =
      part_none (record { me = me; node = n; most = suc most; number = number }) d old (sides_of left' source' outs') taken ([], [], refl, nothing)
  gave_over Memory d tells cause (inr gave) = gives_writes d gave

  gave_cause : (end : End) → GaveCause old.outs outs' end → EndCause old (sides_of left' source' outs') end
  gave_cause (Decided status) (inl (six, rose)) =
      subst (λ x. EndCause old (sides_of left' source' outs') (Decided x)) (sym six) (refl, λ zero. absurd (cc), λ e. rose)
  gave_cause (Decided status) (inr ten) =
      subst (λ x. EndCause old (sides_of left' source' outs') (Decided x)) (sym ten) (refl, λ zero. absurd (cc), λ e. absurd (cc))
  gave_cause Source cause = absurd cause
  gave_cause Sink cause = cause
  gave_cause Memory cause = tt

  pub gave_turned : {X : Type 0} (result : Result X End) → Gave me n asked later old.outs outs' result
      → Turned (record { me = me; node = n; most = suc most; number = number }) (record { me = me; node = later; most = most; number = number + 1 }) old (sides_of left' source' outs') result
  gave_turned (Ok x) g =
      record {
        taken = taken;
        consumed = consumed;
        source = source;
        sink = g.sink;
        counts = g.counts;
        reached =
            λ d tells.
            let o = g.over d tells in
            let first = ap (λ a. by_step n d a) same ∙ o.1.step in
            let may = subst (λ a. MayStep n d a (record { written = o.0; progress = Going later o.1.after })) (sym same) (step_may n later d o.1.after o.0 asked o.1.step) in
            record {
              after = o.1.after;
              tells = o.1.tells;
              written = o.0;
              text = o.2;
              may = λ rest s m. may_on most number n d taken rest (Ok f) o.0 later o.1.after s whole may m;
              exact = λ rest. due_on most number n d taken rest (Ok f) o.0 later o.1.after whole first;
              calm = o.1.calm;
            };
      }
  gave_turned (Err end) g =
      record {
        taken = taken;
        consumed = consumed;
        cause = gave_cause end g.cause;
        over = λ d tells. gave_over end d tells g.cause (g.over d tells);
      }
