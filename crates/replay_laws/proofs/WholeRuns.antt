-- Inputs that are schedules, and what is due to them; and the totals of a trace.
use Rattle.std.proofs.Common.{◌≡◌, refl, sym, ap, subst, ◌∙◌, ℕ, ◌+◌, Bool, true, false, List, [], ◌++◌, append_assoc, append-nil, length, map, inl, inr, arith}
use Rattle.std.specs.List.{flat_map}
use Rattle.pcl_base.specs.Limits.{Sizes}
use Rattle.pcl_base.specs.declared.event.Event.{Event}
use Rattle.pcl_base.specs.declared.event.Header.{Header}
use Rattle.pcl_base.specs.declared.trace.Entry.{Entry}
use Rattle.text_rules.specs.ScheduleLine.{header_line, line_of}
use Rattle.text_rules.specs.BadLine.{bad_text, bad_header_text}
use Rattle.text_rules.specs.TraceText.{ended, echo_text, entry_text}
use Rattle.cluster_rules.specs.Run.{last}
use Rattle.replay_rules.specs.Due.{Place, Told, first_place, only_text, and_then, read_from, at_end, due}
use Rattle.replay_rules.specs.Due.Place.{Going, Stopped}
use Rattle.replay_rules.specs.RunOfInput.{Ending, Whole, BadAt, TooMany, EndsAs, status_of, told_of, IsDueTo}
use Rattle.replay_rules.specs.Schedule.{IsSchedule, whole_text, IsWhole, IsTold, IsSummed}
use Rattle.replay_laws.proofs.Reading.{read-append}
use Rattle.replay_laws.proofs.Inputs.{is_due}
use Rattle.replay_laws.proofs.GoodLines.{input_read, whole_ended}

-- ---- a schedule is told whole

whole_is : (t : Bool) (h : Header) (es : List Event) (trace : List Entry) → (told_of t h es trace Whole).text ≡ whole_text t h trace
whole_is true h es trace = refl
whole_is false h es trace = refl

told_whole : (t : Bool) (h : Header) (c : Sizes) (es : List Event) (told : Told) → told ≡ told_of t h es (last c es).trace Whole → IsWhole t h c es told
told_whole t h c es told e =
    record {
      place = ap (λ x. x.place) e;
      events = ap (λ x. x.events) e;
      entries = ap (λ x. x.entries) e;
      text = ap (λ x. x.text) e ∙ whole_is t h es (last c es).trace;
    }

pub schedule_told : (t : Bool) (h : Header) (c : Sizes) (es : List Event) (input : List ℕ) → IsSchedule h c es input → IsWhole t h c es (due t input)
schedule_told t h c es input s =
    let lines : List ℕ = flat_map ended (map line_of es) in
    told_whole t h c es (due t input)
    (ap (due t) (s.lines ∙ ap (λ l. ended (header_line h) ++ l) (sym (append-nil lines)))
    ∙ input_read t h c es [] Whole s.is_header s.numbers s.are_events s.few refl whole_ended)

-- ---- and only a schedule is told whole

pub status_at : Place → ℕ
status_at (Going r) = 0
status_at (Stopped status) = status

pub same_status : (a b : ℕ) → Stopped a ≡ Stopped b → a ≡ b
unfolding status_at
same_status a b e = ap status_at e

pub three_is_not_zero : Stopped 3 ≡ Stopped 0 → ⊥
three_is_not_zero e = let same = same_status 3 0 e in absurd (omega (arith, same))

seven_is_not_zero : Stopped 7 ≡ Stopped 0 → ⊥
seven_is_not_zero e = let same = same_status 7 0 e in absurd (omega (arith, same))

ends_whole : (n : ℕ) (rest : List ℕ) (ending : Ending) → EndsAs n rest ending → Stopped (status_of ending) ≡ Stopped 0 → (ending ≡ Whole) × (rest ≡ [])
ends_whole n rest Whole ends zero = (refl, ends)
ends_whole n rest (BadAt column why) ends zero = absurd (three_is_not_zero zero)
ends_whole n rest TooMany ends zero = absurd (seven_is_not_zero zero)

told_by_case : (t : Bool) (input : List ℕ) → IsDueTo input (λ u. due u input) → (due t input).place ≡ Stopped 0 → IsTold t input (due t input)
told_by_case t input (inl run) zero =
    let is : due t input ≡ told_of t run.header run.events (last run.sizes run.events).trace run.ending = run.due t in
    let end = ends_whole (length run.events + 1) run.rest run.ending run.ends (sym (ap (λ x. x.place) is) ∙ zero) in
    let lines : List ℕ = flat_map ended (map line_of run.events) in
    record {
      header = run.header;
      sizes = run.sizes;
      events = run.events;
      schedule =
          record {
            is_header = run.is_header;
            numbers = run.numbers;
            are_events = run.are_events;
            few = run.few;
            lines = run.lines ∙ ap (λ l. ended (header_line run.header) ++ l) (ap (λ l. lines ++ l) end.1 ∙ append-nil lines);
          };
      whole =
          told_whole t run.header run.sizes run.events (due t input)
          (is ∙ ap (told_of t run.header run.events (last run.sizes run.events).trace) end.0);
    }
told_by_case t input (inr (inl none)) zero = absurd (three_is_not_zero (sym (ap (λ x. x.place) (none.due t)) ∙ zero))
told_by_case t input (inr (inr other)) zero = absurd (three_is_not_zero (sym (ap (λ x. x.place) (other.due t)) ∙ zero))

pub whole_told : (t : Bool) (input : List ℕ) → (due t input).place ≡ Stopped 0 → IsTold t input (due t input)
whole_told t input zero = told_by_case t input (is_due input) zero

-- ---- the totals are those of the trace

summed_of : (h : Header) (es : List Event) (trace : List Entry) (ending : Ending) → IsSummed (told_of true h es trace ending) (told_of false h es trace ending)
summed_of h es trace Whole =
    record { events = refl; entries = refl; place = refl; totals = λ zero. refl; last_line = λ other. absurd (other refl) }
summed_of h es trace (BadAt column why) =
    record {
      events = refl;
      entries = refl;
      place = refl;
      totals = λ zero. absurd (three_is_not_zero zero);
      last_line = λ other. (echo_text (header_line h) ++ flat_map entry_text trace, refl);
    }
summed_of h es trace TooMany =
    record {
      events = refl;
      entries = refl;
      place = refl;
      totals = λ zero. absurd (seven_is_not_zero zero);
      last_line = λ other. (echo_text (header_line h) ++ flat_map entry_text trace, refl);
    }

summed_stop : (text : List ℕ) → IsSummed (only_text text (Stopped 3)) (only_text text (Stopped 3))
summed_stop text =
    record { events = refl; entries = refl; place = refl; totals = λ zero. absurd (three_is_not_zero zero); last_line = λ other. ([], refl) }

both : (x x' y y' : Told) → x ≡ x' → y ≡ y' → IsSummed x' y' → IsSummed x y
both x x' y y' e f s = subst (λ a. IsSummed a y) (sym e) (subst (λ b. IsSummed x' b) (sym f) s)

summed_by_case : (input : List ℕ) → IsDueTo input (λ t. due t input) → IsSummed (due true input) (due false input)
summed_by_case input (inl run) =
    let trace : List Entry = (last run.sizes run.events).trace in
    both (due true input) (told_of true run.header run.events trace run.ending) (due false input) (told_of false run.header run.events trace run.ending)
    (run.due true) (run.due false) (summed_of run.header run.events trace run.ending)
summed_by_case input (inr (inl none)) =
    let stop : Told = only_text (bad_text 1 none.column none.why) (Stopped 3) in
    both (due true input) stop (due false input) stop (none.due true) (none.due false) (summed_stop (bad_text 1 none.column none.why))
summed_by_case input (inr (inr other)) =
    let stop : Told = only_text (bad_header_text other.fault) (Stopped 3) in
    both (due true input) stop (due false input) stop (other.due true) (other.due false) (summed_stop (bad_header_text other.fault))

pub totals_told : (input : List ℕ) → IsSummed (due true input) (due false input)
totals_told input = summed_by_case input (is_due input)

-- ---- a beginning of an input

pub begun_text : (t : Bool) (a b : List ℕ) → (rest : List ℕ) × ((due t (a ++ b)).text ≡ (read_from t first_place a).text ++ rest)
unfolding due
begun_text t a b =
    let first : Told = read_from t first_place a in
    let second : Told = read_from t first.place b in (
      second.text ++ (at_end t second.place).text,
      ap (λ x. (and_then x (at_end t)).text) (read-append t first_place a b)
          ∙ append_assoc first.text second.text (at_end t second.place).text,
    )
