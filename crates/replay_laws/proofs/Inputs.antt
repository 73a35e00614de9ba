-- What is due to an input as a whole.
use Rattle.std.proofs.Common.{◌≡◌, refl, sym, ap, subst, ◌∙◌, ℕ, ◌+◌, ◌<◌, ◌≤◌, ◌==◌, Bool, true, false, List, [], ◌∷◌, ◌++◌, append_assoc, append-nil, length, Option, Some, None, is_some, Result, Ok, Err, inl, inr, arith}
use Rattle.std.proofs.lemmas.Bool.{eqb-true}
use Rattle.std.proofs.lemmas.Bool.Decides.{nat_tests}
use Rattle.std.specs.List.{flat_map}
use Rattle.pcl_base.specs.Limits.{Sizes, config_of}
use Rattle.pcl_base.specs.declared.config.ConfigFault.{ConfigFault}
use Rattle.pcl_base.specs.declared.event.Event.{Event}
use Rattle.pcl_base.specs.declared.event.Header.{Header}
use Rattle.pcl_base.specs.declared.trace.Entry.{Entry}
use Rattle.text_rules.specs.ReadLine.{header_of}
use Rattle.text_rules.specs.ScheduleLine.{HasHeader, header_line}
use Rattle.text_rules.specs.BadLine.{Why, bad_at, bad_text, bad_header_text, is_line, header_forms}
use Rattle.text_rules.specs.TraceText.{ended, echo_text, entry_text}
use Rattle.line_laws.proofs.EventLines.{header_back}
use Rattle.line_laws.proofs.Rows.{header_lines}
use Rattle.node_rules.specs.Words.{pick}
use Rattle.cluster_rules.specs.Clusters.{opening}
use Rattle.cluster_rules.specs.Run.{last, last_from}
use Rattle.replay_rules.specs.Due.{Reading, Place, Told, first_reading, first_place, most_lines, most_bytes, only_text, silent, joined, in_trace, bad, long, with_sizes, with_header, judged_by, judged, grown, fed, ended_by, read_from, at_end, due}
use Rattle.replay_rules.specs.Due.Place.{Going, Stopped}
use Rattle.replay_rules.specs.RunOfInput.{HasNoNewline, IsNext, EndsAs, status_of, closes, told_of, IsDueTo}
use Rattle.replay_laws.proofs.LineSizes.{header_fits}
use Rattle.replay_laws.proofs.Reading.{told_by, rest_of, rest-cons, due_is}
use Rattle.replay_laws.proofs.Courses.{Goes, bad_somewhere, bad_is}
use Rattle.replay_laws.proofs.Course.{Stands, by_test, one_more, longer, stop_last, bad_last, goes}

-- what is due may be said in another way
is_due_same : (input : List ℕ) (out out' : Bool → Told) → ((t : Bool) → out t ≡ out' t) → IsDueTo input out' → IsDueTo input out
is_due_same input out out' same (inl run) =
    inl (record {
      header = run.header;
      sizes = run.sizes;
      events = run.events;
      rest = run.rest;
      ending = run.ending;
      lines = run.lines;
      is_header = run.is_header;
      are_events = run.are_events;
      few = run.few;
      numbers = run.numbers;
      ends = run.ends;
      due = λ t. same t ∙ run.due t;
    })
is_due_same input out out' same (inr (inl none)) =
    inr (inl (record { column = none.column; why = none.why; bad = none.bad; due = λ t. same t ∙ none.due t }))
is_due_same input out out' same (inr (inr other)) =
    inr (inr (record { header = other.header; fault = other.fault; more = other.more; lines = other.lines; is_header = other.is_header; numbers = other.numbers; due = λ t. same t ∙ other.due t }))

-- a bad first line
no_header : (line : List ℕ) → header_of line ≡ None → is_line header_forms line ≡ false
no_header line none = header_lines line ∙ ap is_some none

headless : (r : Reading) (bytes line : List ℕ) (newline : Bool) → r.lines ≡ 0 → IsNext newline line bytes → HasNoNewline line
    → (newline ≡ true → header_of line ≡ None) → IsDueTo bytes (λ t. bad r (bad_at newline header_forms line))
headless r bytes line newline zero next one none =
    let found = bad_somewhere newline header_forms line (λ h. no_header line (none h)) in
    let at : ℕ × Why = found.0 in
    let first : r.lines + 1 ≡ 1 = omega (arith, zero) in
    inr (inl (record {
      column = at.0;
      why = at.1;
      bad = record { line = line; newline = newline; next = next; one = one; bad = found.1 };
      due = λ t. bad_is r (bad_at newline header_forms line) at found.1 ∙ ap (λ n. only_text (bad_text n at.0 at.1) (Stopped 3)) first;
    }))

-- the text of the header, and that of the entries behind it
both_texts : (t : Bool) (head body end : List ℕ) → in_trace t head ++ (in_trace t body ++ end) ≡ in_trace t (head ++ body) ++ end
both_texts true head body end = refl
both_texts false head body end = sym (append_assoc head body end)

whole_trace : (c : Sizes) (events : List Event) (entries : List Entry) → (last_from (opening c) events).trace ≡ (opening c).trace ++ entries
    → (last c events).trace ≡ entries
unfolding opening
whole_trace c events entries same = same

pub run_told : (h : Header) (c : Sizes) (behind : List ℕ) (place : Place) (out : Bool → Told) (g : Goes 1 (opening c) behind out) (t : Bool)
    → joined (only_text (in_trace t (echo_text (header_line h))) place) (out t) ≡ told_of t h g.events (last c g.events).trace g.ending
run_told h c behind place out g t =
    let count : g.count ≡ length g.events + 1 = let k = g.count_is in omega (arith, k) in
    let trace : List Entry = (last c g.events).trace in
    let same : trace ≡ g.entries = whole_trace c g.events g.entries g.trace in
    let head : List ℕ = echo_text (header_line h) in
    let end : Place = Stopped (status_of g.ending) in
    ap (joined (only_text (in_trace t head) place)) (g.told t)
    ∙ (ap (λ x. told_by g.events g.entries x end) (both_texts t head (flat_map entry_text g.entries) (closes t trace g.count g.ending))
    ∙ (ap (λ x. told_by g.events x (in_trace t (head ++ flat_map entry_text x) ++ closes t trace g.count g.ending) end) (sym same)
    ∙ ap (λ n. told_by g.events trace (in_trace t (head ++ flat_map entry_text trace) ++ closes t trace n g.ending) end) count))

run_is : (h : Header) (c : Sizes) (bytes behind : List ℕ) (place : Place) (out : Bool → Told) → HasHeader h → config_of h.nodes h.pages h.size h.frames ≡ Ok c
    → bytes ≡ ended (header_line h) ++ behind → Goes 1 (opening c) behind out
    → IsDueTo bytes (λ t. joined (only_text (in_trace t (echo_text (header_line h))) place) (out t))
run_is h c bytes behind place out is numbers front g =
    let count : g.count ≡ length g.events + 1 = let k = g.count_is in omega (arith, k) in
    inl (record {
      header = h;
      sizes = c;
      events = g.events;
      rest = g.rest;
      ending = g.ending;
      lines = front ∙ ap (λ l. ended (header_line h) ++ l) g.lines;
      is_header = is;
      are_events = g.has;
      few = subst (λ n. n ≤ most_lines) count g.few;
      numbers = numbers;
      ends = subst (λ n. EndsAs n g.rest g.ending) count g.ends;
      due = run_told h c behind place out g;
    })

-- the reading of the bytes behind, without a header
abbrev Further : List ℕ → Type 0
Further bs = (r : Reading) → r.cluster ≡ None → r.lines ≡ 0 → Stands r → IsDueTo (r.part ++ bs) (λ t. rest_of t (Going r) bs)

-- what a first line gives
abbrev Line : Bool → Reading → Option Header → List ℕ → Told
Line t r o bs = joined (with_header t r o) (rest_of t (with_header t r o).place bs)

line_is : (t : Bool) (r : Reading) (o : Option Header) (bs : List ℕ) → r.cluster ≡ None → header_of r.part ≡ o
    → joined (judged t r) (rest_of t (judged t r).place bs) ≡ Line t r o bs
unfolding judged
line_is t r o bs none read =
    ap (λ x. joined x (rest_of t x.place bs)) (ap (judged_by t r) none ∙ ap (with_header t r) read)

sizes_are : (r : Reading) (h : Header) (bytes bs : List ℕ) (o : Result Sizes ConfigFault) → r.lines ≡ 0 → HasHeader h → config_of h.nodes h.pages h.size h.frames ≡ o
    → bytes ≡ ended (header_line h) ++ bs
    → IsDueTo bytes (λ t. joined (with_sizes t r h o) (rest_of t (with_sizes t r h o).place bs))
sizes_are r h bytes bs (Err fault) zero is numbers front =
    inr (inr (record {
      header = h;
      fault = fault;
      more = bs;
      lines = front;
      is_header = is;
      numbers = numbers;
      due = λ t. stop_last t (bad_header_text fault) 3 bs;
    }))
sizes_are r h bytes bs (Ok c) zero is numbers front =
    let next : Reading = record { lines = r.lines + 1; part = []; cluster = Some (opening c) } in
    let first : r.lines + 1 ≡ 1 = omega (arith, zero) in
    let few : r.lines + 1 < most_lines = omega (arith, zero) in
    run_is h c bytes bs (Going next) (λ t. rest_of t (Going next) bs) is numbers front
    (subst (λ n. Goes n (opening c) bs (λ t. rest_of t (Going next) bs)) first
    (goes bs next (opening c) refl (record { few = omega (arith, few); full = λ h. refl; one = tt; short = omega arith })))

by_newline : (r : Reading) (bs : List ℕ) (o : Option Header) → r.cluster ≡ None → r.lines ≡ 0 → Stands r → header_of r.part ≡ o
    → IsDueTo (r.part ++ 10 ∷ bs) (λ t. joined (judged t r) (rest_of t (judged t r).place bs))
by_newline r bs None none zero s read =
    is_due_same (r.part ++ 10 ∷ bs) (λ t. joined (judged t r) (rest_of t (judged t r).place bs)) (λ t. bad r (bad_at true header_forms r.part))
    (λ t. line_is t r None bs none read ∙ bad_last t r (bad_at true header_forms r.part) bs)
    (headless r (r.part ++ 10 ∷ bs) r.part true zero (bs, inl (refl, s.short)) s.one (λ h. read))
by_newline r bs (Some h) none zero s read =
    is_due_same (r.part ++ 10 ∷ bs) (λ t. joined (judged t r) (rest_of t (judged t r).place bs)) (λ t. Line t r (Some h) bs)
    (λ t. line_is t r (Some h) bs none read)
    (sizes_are r h (r.part ++ 10 ∷ bs) bs (config_of h.nodes h.pages h.size h.frames) zero (header_back r.part h read).0 refl
    (ap (λ l. l ++ 10 ∷ bs) (sym (header_back r.part h read).1) ∙ sym (append_assoc (header_line h) (10 ∷ []) bs)))

by_length : (r : Reading) (bs : List ℕ) (o : Option Header) → r.cluster ≡ None → r.lines ≡ 0 → HasNoNewline r.part → length r.part ≡ most_bytes
    → header_of r.part ≡ o → IsDueTo (r.part ++ bs) (λ t. joined (judged t r) (rest_of t (judged t r).place bs))
by_length r bs None none zero one len read =
    is_due_same (r.part ++ bs) (λ t. joined (judged t r) (rest_of t (judged t r).place bs)) (λ t. bad r (bad_at true header_forms r.part))
    (λ t. line_is t r None bs none read ∙ bad_last t r (bad_at true header_forms r.part) bs)
    (headless r (r.part ++ bs) r.part true zero (bs, inr (refl, len)) one (λ h. read))
by_length r bs (Some h) none zero one len read =
    let back = header_back r.part h read in
    let most = (header_fits h back.0).0 in
    let same : length (header_line h) ≡ length r.part = ap length back.1 in
    absurd (omega (arith, most, same, len))

by_byte : (r : Reading) (b : ℕ) (bs : List ℕ) → r.cluster ≡ None → r.lines ≡ 0 → Stands r → (b == 10) ≡ false → Further bs
    → (let more : Reading = record r { part = r.part ++ b ∷ [] } in
    IsDueTo (r.part ++ b ∷ bs) (λ t. joined (grown t more) (rest_of t (grown t more).place bs)))
by_byte r b bs none zero s other go =
    let more : Reading = record r { part = r.part ++ b ∷ [] } in
    let one : HasNoNewline more.part = one_more r.part b s.one other in
    subst (λ bytes. IsDueTo bytes (λ t. joined (grown t more) (rest_of t (grown t more).place bs))) (append_assoc r.part (b ∷ []) bs)
    (by_test (length more.part == most_bytes)
    (λ test. IsDueTo (more.part ++ bs) (λ t. let x : Told = pick test (judged t more) (silent (Going more)) in joined x (rest_of t x.place bs)))
    (λ full. by_length more bs (header_of more.part) none zero one (eqb-true (length more.part) most_bytes full) refl)
    (λ short. go more none zero (record {
      few = s.few;
      full = λ h. absurd (omega (arith, h, zero));
      one = one;
      short = let l = longer r.part b in let k = s.short in grind (arith, nat_tests, l, k, short);
    })))

by_fed : (r : Reading) (b : ℕ) (bs : List ℕ) → r.cluster ≡ None → r.lines ≡ 0 → Stands r → Further bs
    → IsDueTo (r.part ++ b ∷ bs) (λ t. joined (fed t r b) (rest_of t (fed t r b).place bs))
unfolding fed
by_fed r b bs none zero s go =
    let more : Reading = record r { part = r.part ++ b ∷ [] } in
    by_test (r.lines == most_lines)
    (λ test. IsDueTo (r.part ++ b ∷ bs)
    (λ t. let x : Told = pick test (long r) (pick (b == 10) (judged t r) (grown t more)) in joined x (rest_of t x.place bs)))
    (λ full. absurd (let same = eqb-true r.lines most_lines full in omega (arith, same, zero)))
    (λ room. by_test (b == 10)
    (λ test. IsDueTo (r.part ++ b ∷ bs)
    (λ t. let x : Told = pick test (judged t r) (grown t more) in joined x (rest_of t x.place bs)))
    (λ newline. subst (λ x. IsDueTo (r.part ++ x ∷ bs) (λ t. joined (judged t r) (rest_of t (judged t r).place bs))) (sym (eqb-true b 10 newline))
    (by_newline r bs (header_of r.part) none zero s refl))
    (λ other. by_byte r b bs none zero s other go))

heads : (bs : List ℕ) → Further bs
unfolding read_from at_end
heads [] r none zero s =
    is_due_same (r.part ++ []) (λ t. rest_of t (Going r) []) (λ t. ended_by t r None) (λ t. ap (ended_by t r) none)
    (headless r (r.part ++ []) r.part false zero (append-nil r.part, s.short) s.one (λ h. absurd (cc h)))
heads (b ∷ bs) r none zero s =
    is_due_same (r.part ++ b ∷ bs) (λ t. rest_of t (Going r) (b ∷ bs)) (λ t. joined (fed t r b) (rest_of t (fed t r b).place bs))
    (λ t. rest-cons t (Going r) b bs)
    (by_fed r b bs none zero s (heads bs))

-- what is due to an input
pub is_due : (input : List ℕ) → IsDueTo input (λ t. due t input)
is_due input =
    is_due_same input (λ t. due t input) (λ t. rest_of t first_place input) (λ t. due_is t input)
    (heads input first_reading refl refl (record { few = omega arith; full = λ h. refl; one = tt; short = omega arith }))
