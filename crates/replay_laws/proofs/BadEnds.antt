-- Inputs that come to a bad line or to a line too many, and those whose first line is no header.
use Rattle.std.proofs.Common.{◌≡◌, refl, sym, ap, ◌∙◌, ℕ, ◌+◌, ◌<◌, ◌==◌, Bool, true, false, List, [], ◌∷◌, ◌++◌, append_assoc, append-nil, length, Option, Some, None, is_some, Err, inl, inr, arith}
use Rattle.std.proofs.lemmas.Bool.Decides.{nat_tests}
use Rattle.pcl_base.specs.Limits.{config_of}
use Rattle.pcl_base.specs.declared.config.ConfigFault.{ConfigFault}
use Rattle.pcl_base.specs.declared.event.Event.{Event}
use Rattle.pcl_base.specs.declared.event.Header.{Header}
use Rattle.text_rules.specs.ReadLine.{header_of}
use Rattle.text_rules.specs.ReadEvent.{event_of}
use Rattle.text_rules.specs.ScheduleLine.{HasHeader, header_line}
use Rattle.text_rules.specs.BadLine.{Why, bad_at, bad_text, bad_header_text, event_forms, header_forms}
use Rattle.text_rules.specs.TraceText.{ended}
use Rattle.line_laws.proofs.Columns.{good_line}
use Rattle.line_laws.proofs.EventLines.{header_forth}
use Rattle.line_laws.proofs.Rows.{event_lines, header_lines}
use Rattle.cluster_rules.specs.Clusters.{Cluster}
use Rattle.replay_rules.specs.Due.{Reading, Told, first_reading, first_place, most_lines, most_bytes, only_text, joined, bad, long_text, long, with_event, with_header, with_sizes, judged, fed, read_from, at_end, due}
use Rattle.replay_rules.specs.Due.Place.{Going, Stopped}
use Rattle.replay_rules.specs.RunOfInput.{HasNoNewline, IsNext, IsBadNext, Ending, Whole, BadAt, TooMany}
use Rattle.replay_laws.proofs.LineSizes.{header_fits}
use Rattle.replay_laws.proofs.Reading.{rest_of, rest-cons, due_is}
use Rattle.replay_laws.proofs.Course.{stop_last, longer}
use Rattle.replay_laws.proofs.GoodLines.{between, by_tests, fed_part, Judged, not_longest, part_read, room_of, IsEnded}

-- ---- a line too many

fed_long : (t : Bool) (r : Reading) (b : ℕ) → (r.lines == most_lines) ≡ true → fed t r b ≡ long r
unfolding fed
fed_long t r b full = ap (λ x. by_tests t r b x (b == 10) (length (r.part ++ b ∷ []) == most_bytes)) full

is_most : (n : ℕ) → n ≡ most_lines → (n == most_lines) ≡ true
is_most n e = grind (arith, nat_tests, e)

pub too_many_ended : (rest : List ℕ) → IsEnded rest TooMany
too_many_ended [] t m d ends = absurd (ends.1 refl)
too_many_ended (b ∷ bs) t m d ends =
    rest-cons t (Going (between m d)) b bs
    ∙ (ap (λ x. joined x (rest_of t x.place bs)) (fed_long t (between m d) b (is_most m ends.0)) ∙ stop_last t (long_text m) 7 bs)

-- ---- the bytes of a line that no newline ends

fed_last : (t : Bool) (r : Reading) (b : ℕ) → (r.lines == most_lines) ≡ false → (b == 10) ≡ false → (length (r.part ++ b ∷ []) == most_bytes) ≡ true
    → fed t r b ≡ judged t (record r { part = r.part ++ b ∷ [] })
unfolding fed
fed_last t r b room other full =
    ap (λ x. by_tests t r b x (b == 10) (length (r.part ++ b ∷ []) == most_bytes)) room
    ∙ (ap (λ x. by_tests t r b false x (length (r.part ++ b ∷ []) == most_bytes)) other
    ∙ ap (λ x. by_tests t r b false false x) full)

is_longest : (part : List ℕ) (b : ℕ) → length part + 1 ≡ most_bytes → (length (part ++ b ∷ []) == most_bytes) ≡ true
is_longest part b e = let l = longer part b in grind (arith, nat_tests, l, e)

-- as many as are needed
part_long : (t : Bool) (b : ℕ) (line : List ℕ) (r : Reading) (bs : List ℕ) → (r.lines == most_lines) ≡ false → HasNoNewline (b ∷ line)
    → length r.part + length (b ∷ line) ≡ most_bytes
    → rest_of t (Going r) (b ∷ (line ++ bs)) ≡ Judged t (record r { part = r.part ++ b ∷ line }) bs
part_long t b [] r bs room one long =
    rest-cons t (Going r) b bs
    ∙ ap (λ x. joined x (rest_of t x.place bs)) (fed_last t r b room one.0 (is_longest r.part b (omega (arith, long))))
part_long t b (c ∷ line) r bs room one long =
    let more : Reading = record r { part = r.part ++ b ∷ [] } in
    rest-cons t (Going r) b (c ∷ (line ++ bs))
    ∙ (ap (λ x. joined x (rest_of t x.place (c ∷ (line ++ bs)))) (fed_part t r b room one.0 (not_last r.part b c line long))
    ∙ (part_long t c line more bs room one.1 (let l = longer r.part b in omega (arith, l, long))
    ∙ ap (λ part. Judged t (record r { part = part }) bs) (append_assoc r.part (b ∷ []) (c ∷ line))))
  where
    not_last : (part : List ℕ) (b c : ℕ) (line : List ℕ) → length part + length (b ∷ c ∷ line) ≡ most_bytes → (length (part ++ b ∷ []) == most_bytes) ≡ false
    not_last part b c line long = let l = longer part b in grind (arith, nat_tests, l, long)

-- fewer, at the end of the input
part_ended : (t : Bool) (line : List ℕ) (r : Reading) → (r.lines == most_lines) ≡ false → HasNoNewline line → length r.part + length line < most_bytes
    → rest_of t (Going r) line ≡ at_end t (Going (record r { part = r.part ++ line }))
unfolding read_from
part_ended t [] r room one short = ap (λ part. at_end t (Going (record r { part = part }))) (sym (append-nil r.part))
part_ended t (b ∷ line) r room one short =
    let more : Reading = record r { part = r.part ++ b ∷ [] } in
    rest-cons t (Going r) b line
    ∙ (ap (λ x. joined x (rest_of t x.place line)) (fed_part t r b room one.0 (not_longest r.part b line short))
    ∙ (part_ended t line more room one.1 (let l = longer r.part b in omega (arith, l, short))
    ∙ ap (λ part. at_end t (Going (record r { part = part }))) (append_assoc r.part (b ∷ []) line)))

-- ---- a bad line of an event

not_event : (line : List ℕ) (at : ℕ × Why) → bad_at true event_forms line ≡ Some at → event_of line ≡ None
not_event line at found = by (event_of line) refl
  where
    by : (o : Option Event) → event_of line ≡ o → event_of line ≡ None
    by None e = e
    by (Some x) e = let good = good_line event_forms line (event_lines line ∙ ap is_some e) in absurd (cc (good, found))

event_judged : (t : Bool) (m : ℕ) (d : Cluster) (line bs : List ℕ) (at : ℕ × Why) → bad_at true event_forms line ≡ Some at
    → Judged t (record { lines = m; part = line; cluster = Some d }) bs ≡ only_text (bad_text (m + 1) at.0 at.1) (Stopped 3)
unfolding judged
event_judged t m d line bs at found =
    let r : Reading = record { lines = m; part = line; cluster = Some d } in
    ap (λ o. let x : Told = with_event t r d o in joined x (rest_of t x.place bs)) (not_event line at found)
    ∙ (ap (λ o. let x : Told = bad r o in joined x (rest_of t x.place bs)) found ∙ stop_last t (bad_text (m + 1) at.0 at.1) 3 bs)

event_bad : (newline : Bool) (line rest : List ℕ) (at : ℕ × Why) (t : Bool) (m : ℕ) (d : Cluster) → m < most_lines → ¬ (rest ≡ []) → IsNext newline line rest
    → HasNoNewline line → bad_at newline event_forms line ≡ Some at
    → rest_of t (Going (between m d)) rest ≡ only_text (bad_text (m + 1) at.0 at.1) (Stopped 3)
unfolding at_end
event_bad true line rest at t m d room some (more, inl next) one found =
    ap (rest_of t (Going (between m d))) next.0
    ∙ (part_read t line (between m d) more (room_of m room) one (let l = next.1 in omega (arith, l)) ∙ event_judged t m d line more at found)
event_bad true [] rest at t m d room some (more, inr next) one found = let none : 0 ≡ most_bytes = next.1 in absurd (omega (arith, none))
event_bad true (b ∷ line) rest at t m d room some (more, inr next) one found =
    ap (rest_of t (Going (between m d))) next.0
    ∙ (part_long t b line (between m d) more (room_of m room) one (let l = next.1 in omega (arith, l)) ∙ event_judged t m d (b ∷ line) more at found)
event_bad false [] rest at t m d room some next one found = absurd (some next.0)
event_bad false (b ∷ line) rest at t m d room some next one found =
    ap (rest_of t (Going (between m d))) next.0
    ∙ (part_ended t (b ∷ line) (between m d) (room_of m room) one (let l = next.1 in omega (arith, l))
    ∙ ap (bad (record { lines = m; part = b ∷ line; cluster = Some d })) found)

pub bad_ended : (rest : List ℕ) (column : ℕ) (why : Why) → IsEnded rest (BadAt column why)
bad_ended rest column why t m d ends =
    let next : IsBadNext event_forms rest column why = ends.2 in
    event_bad next.newline next.line rest (column, why) t m d ends.0 ends.1 next.next next.one next.bad

-- however an input ends behind its good lines
pub all_ended : (rest : List ℕ) (ending : Ending) → IsEnded rest ending
unfolding read_from at_end
all_ended rest TooMany t m d ends = too_many_ended rest t m d ends
all_ended rest (BadAt column why) t m d ends = bad_ended rest column why t m d ends
all_ended [] Whole t m d ends = refl
all_ended (b ∷ bs) Whole t m d ends = absurd (cc ends)

-- ---- a first line that is no header

not_header : (line : List ℕ) (at : ℕ × Why) → bad_at true header_forms line ≡ Some at → header_of line ≡ None
not_header line at found = by (header_of line) refl
  where
    by : (o : Option Header) → header_of line ≡ o → header_of line ≡ None
    by None e = e
    by (Some x) e = let good = good_line header_forms line (header_lines line ∙ ap is_some e) in absurd (cc (good, found))

header_judged : (t : Bool) (line bs : List ℕ) (at : ℕ × Why) → bad_at true header_forms line ≡ Some at
    → Judged t (record { lines = 0; part = line; cluster = None }) bs ≡ only_text (bad_text 1 at.0 at.1) (Stopped 3)
unfolding judged
header_judged t line bs at found =
    let r : Reading = record { lines = 0; part = line; cluster = None } in
    ap (λ o. let x : Told = with_header t r o in joined x (rest_of t x.place bs)) (not_header line at found)
    ∙ (ap (λ o. let x : Told = bad r o in joined x (rest_of t x.place bs)) found ∙ stop_last t (bad_text 1 at.0 at.1) 3 bs)

header_bad : (newline : Bool) (line input : List ℕ) (at : ℕ × Why) (t : Bool) → IsNext newline line input → HasNoNewline line
    → bad_at newline header_forms line ≡ Some at → rest_of t first_place input ≡ only_text (bad_text 1 at.0 at.1) (Stopped 3)
unfolding at_end
header_bad true line input at t (more, inl next) one found =
    ap (rest_of t first_place) next.0
    ∙ (part_read t line first_reading more refl one (let l = next.1 in omega (arith, l)) ∙ header_judged t line more at found)
header_bad true [] input at t (more, inr next) one found = let none : 0 ≡ most_bytes = next.1 in absurd (omega (arith, none))
header_bad true (b ∷ line) input at t (more, inr next) one found =
    ap (rest_of t first_place) next.0
    ∙ (part_long t b line first_reading more refl one (let l = next.1 in omega (arith, l)) ∙ header_judged t (b ∷ line) more at found)
header_bad false line input at t next one found =
    ap (rest_of t first_place) next.0
    ∙ (part_ended t line first_reading refl one (let l = next.1 in omega (arith, l))
    ∙ ap (bad (record { lines = 0; part = line; cluster = None })) found)

pub headless_told : (t : Bool) (input : List ℕ) (column : ℕ) (why : Why) → IsBadNext header_forms input column why
    → due t input ≡ only_text (bad_text 1 column why) (Stopped 3)
headless_told t input column why next =
    due_is t input ∙ header_bad next.newline next.line input (column, why) t next.next next.one next.bad

pub outside_told : (t : Bool) (h : Header) (fault : ConfigFault) (more : List ℕ) → HasHeader h → config_of h.nodes h.pages h.size h.frames ≡ Err fault
    → due t (ended (header_line h) ++ more) ≡ only_text (bad_header_text fault) (Stopped 3)
unfolding judged
outside_told t h fault more has numbers =
    let fits = header_fits h has in
    let short : 0 + length (header_line h) < most_bytes = let l = fits.0 in omega (arith, l) in
    let r : Reading = record { lines = 0; part = header_line h; cluster = None } in
    due_is t (ended (header_line h) ++ more)
    ∙ (ap (rest_of t first_place) (append_assoc (header_line h) (10 ∷ []) more)
    ∙ (part_read t (header_line h) first_reading more refl fits.1 short
    ∙ (ap (λ o. let x : Told = with_header t r o in joined x (rest_of t x.place more)) (header_forth h has)
    ∙ (ap (λ o. let x : Told = with_sizes t r h o in joined x (rest_of t x.place more)) numbers
    ∙ stop_last t (bad_header_text fault) 3 more))))
