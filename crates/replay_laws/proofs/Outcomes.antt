-- How a run may end.
use Rattle.std.proofs.Common.{◌≡◌, refl, sym, ap, subst, ◌∙◌, ℕ, ◌==◌, ◌||◌, ◌⊎◌, Bool, true, false, List, [], ◌∷◌, ◌++◌, append-nil, length, Option, Some, None, Result, Ok, Err, inl, inr, arith}
use Rattle.std.proofs.lemmas.Bool.{eqb-true}
use Rattle.std.specs.Io.KnownBytes.{Appends, Consumes, IsAtEnd}
use Rattle.pcl_base.specs.Faults.{Rose}
use Rattle.pcl_base.specs.Limits.{Sizes, config_of}
use Rattle.pcl_base.specs.declared.config.ConfigFault.{ConfigFault}
use Rattle.pcl_base.specs.declared.event.Event.{Event}
use Rattle.pcl_base.specs.declared.event.Header.{Header}
use Rattle.text_rules.specs.ReadLine.{header_of}
use Rattle.text_rules.specs.ReadEvent.{event_of}
use Rattle.node_rules.specs.Words.{pick}
use Rattle.cluster_rules.specs.Clusters.{Cluster}
use Rattle.replay_rules.specs.Due.{Reading, Place, Told, first_place, most_lines, most_bytes, silent, and_then, long, with_sizes, with_header, with_event, judged_by, judged, grown, fed, fed_at, read_from, at_end, due}
use Rattle.replay_rules.specs.Due.Place.{Going, Stopped}
use Rattle.replay_rules.specs.Outcome.{is_judged, so_far, IsJudged, Outcome}
use Rattle.replay_rules.specs.Schedule.{IsSchedule, RanWhole}
use Rattle.replay_laws.proofs.Reading.{read-append}
use Rattle.replay_laws.proofs.WholeRuns.{same_status, schedule_told, whole_told}

-- ---- no line ends a run at status 0

abbrev IsNoEnd : Place → Type 0
IsNoEnd (Going r) = Unit {0}
IsNoEnd (Stopped status) = ¬ (status ≡ 0)

three : IsNoEnd (Stopped 3)
three e = absurd (omega (arith, e))

seven : IsNoEnd (Stopped 7)
seven e = absurd (omega (arith, e))

sizes_no_end : (t : Bool) (r : Reading) (h : Header) (o : Result Sizes ConfigFault) → IsNoEnd (with_sizes t r h o).place
sizes_no_end t r h (Ok c) = tt
sizes_no_end t r h (Err fault) = three

header_no_end : (t : Bool) (r : Reading) (o : Option Header) → IsNoEnd (with_header t r o).place
header_no_end t r (Some h) = sizes_no_end t r h (config_of h.nodes h.pages h.size h.frames)
header_no_end t r None = three

event_no_end : (t : Bool) (r : Reading) (c : Cluster) (o : Option Event) → IsNoEnd (with_event t r c o).place
event_no_end t r c (Some e) = tt
event_no_end t r c None = three

judged_no_end : (t : Bool) (r : Reading) (o : Option Cluster) → IsNoEnd (judged_by t r o).place
judged_no_end t r (Some c) = event_no_end t r c (event_of r.part)
judged_no_end t r None = header_no_end t r (header_of r.part)

line_no_end : (t : Bool) (r : Reading) → IsNoEnd (judged t r).place
unfolding judged
line_no_end t r = judged_no_end t r r.cluster

picked : (b : Bool) (x y : Told) → IsNoEnd x.place → IsNoEnd y.place → IsNoEnd (pick b x y).place
picked true x y p q = p
picked false x y p q = q

byte_no_end : (t : Bool) (r : Reading) (b : ℕ) → IsNoEnd (fed t r b).place
unfolding fed
byte_no_end t r b =
    let more : Reading = record r { part = r.part ++ b ∷ [] } in
    picked (r.lines == most_lines) (long r) (pick (b == 10) (judged t r) (grown t more)) seven
    (picked (b == 10) (judged t r) (grown t more) (line_no_end t r)
    (picked (length more.part == most_bytes) (judged t more) (silent (Going more)) (line_no_end t more) tt))

fed_no_end : (t : Bool) (p : Place) (b : ℕ) → IsNoEnd p → IsNoEnd (fed_at t p b).place
fed_no_end t (Going r) b h = byte_no_end t r b
fed_no_end t (Stopped status) b h = h

bytes_no_end : (t : Bool) (p : Place) (bs : List ℕ) → IsNoEnd p → IsNoEnd (read_from t p bs).place
unfolding read_from
bytes_no_end t p [] h = h
bytes_no_end t p (b ∷ bs) h = bytes_no_end t (fed_at t p b).place bs (fed_no_end t p b h)

-- the bytes taken never end a run at 0 by themselves
no_line_ends : (t : Bool) (taken : List ℕ) → (so_far t taken).place ≡ Stopped 0 → ⊥
no_line_ends t taken e =
    let h : IsNoEnd (Stopped 0) = subst IsNoEnd e (bytes_no_end t first_place taken tt) in h refl

-- ---- a run that ended at status 0

at_the_end : (t : Bool) (taken : List ℕ) (left written written' : Option (List ℕ)) → IsJudged t taken left written written' 0 → IsAtEnd left
at_the_end t taken left written written' j = at_case j.over
  where
    at_case : ((so_far t taken).place ≡ Stopped 0) ⊎ IsAtEnd left → IsAtEnd left
    at_case (inl stop) = absurd (no_line_ends t taken stop)
    at_case (inr end) = end

pub ran_whole : (t : Bool) (left left' written written' : Option (List ℕ)) (source source' sink sink' : ℕ)
    → Outcome t left left' written written' source source' sink sink' 0 → RanWhole t left left' written written'
ran_whole t left left' written written' source source' sink sink' o =
    let j : IsJudged t o.taken left' written written' 0 = o.judged refl in
    let told = whole_told t o.taken j.place in
    record {
      input = o.taken;
      header = told.header;
      sizes = told.sizes;
      events = told.events;
      read = o.consumed;
      end = at_the_end t o.taken left' written written' j;
      schedule = told.schedule;
      text = subst (λ x. Appends written written' x) told.whole.text j.text;
    }

-- ---- a schedule ends at status 0, but for want of memory and failing ends

pub stays : (t : Bool) (status : ℕ) (bs : List ℕ) → (read_from t (Stopped status) bs).place ≡ Stopped status
unfolding read_from
stays t status [] = refl
stays t status (b ∷ bs) = stays t status bs

stopped_due : (t : Bool) (taken more : List ℕ) (status : ℕ) → (so_far t taken).place ≡ Stopped status → (due t (taken ++ more)).place ≡ Stopped status
unfolding due at_end
stopped_due t taken more status stop =
    ap (λ x. (and_then x (at_end t)).place) (read-append t first_place taken more)
    ∙ (ap (λ p. (at_end t (read_from t p more).place).place) stop
    ∙ ap (λ p. (at_end t p).place) (stays t status more))

judged_whole : (t : Bool) (input taken : List ℕ) (left written written' : Option (List ℕ)) (status : ℕ) → (due t input).place ≡ Stopped 0
    → Consumes (Some input) left taken → IsJudged t taken left written written' status → status ≡ 0
judged_whole t input taken None written written' status zero read j = absurd read
judged_whole t input taken (Some more) written written' status zero read j = over_case j.over
  where
    over_case : ((so_far t taken).place ≡ Stopped status) ⊎ (more ≡ []) → status ≡ 0
    over_case (inl stop) = same_status status 0 (sym (stopped_due t taken more status stop) ∙ (ap (λ x. (due t x).place) (sym read) ∙ zero))
    over_case (inr end) =
        same_status status 0 (sym j.place ∙ (ap (λ x. (due t x).place) (sym (read ∙ (ap (λ l. taken ++ l) end ∙ append-nil taken))) ∙ zero))

one_of : (a b : Bool) → (a || b) ≡ true → (a ≡ true) ⊎ (b ≡ true)
one_of true b h = inl refl
one_of false b h = inr h

pub schedule_ends : (t : Bool) (h : Header) (c : Sizes) (es : List Event) (input : List ℕ) (left' written written' : Option (List ℕ)) (source source' sink sink' status : ℕ)
    → IsSchedule h c es input → Outcome t (Some input) left' written written' source source' sink sink' status → ¬ (Rose source source') → ¬ (Rose sink sink')
    → (status ≡ 0) ⊎ (status ≡ 9)
schedule_ends t h c es input left' written written' source source' sink sink' status s o reads writes =
    first (one_of (is_judged status) (status == 4 || (status == 5 || status == 9)) o.known)
  where
    third : (status == 5) ≡ true ⊎ (status == 9) ≡ true → (status ≡ 0) ⊎ (status ≡ 9)
    third (inl five) = absurd (writes (o.failed_sink (eqb-true status 5 five)))
    third (inr nine) = inr (eqb-true status 9 nine)

    second : (status == 4) ≡ true ⊎ (status == 5 || status == 9) ≡ true → (status ≡ 0) ⊎ (status ≡ 9)
    second (inl four) = absurd (reads (o.failed_source (eqb-true status 4 four)).rose)
    second (inr more) = third (one_of (status == 5) (status == 9) more)

    first : (is_judged status ≡ true) ⊎ ((status == 4 || (status == 5 || status == 9)) ≡ true) → (status ≡ 0) ⊎ (status ≡ 9)
    first (inl judged) = inl (judged_whole t input o.taken left' written written' status (schedule_told t h c es input s).place o.consumed (o.judged judged))
    first (inr more) = second (one_of (status == 4) (status == 5 || status == 9) more)
