-- Lines of the grammar are read one by one.
use Rattle.std.proofs.Common.{◌≡◌, refl, sym, ap, subst, ◌∙◌, ℕ, ◌+◌, ◌<◌, ◌≤◌, ◌==◌, Bool, true, false, List, [], ◌∷◌, ◌++◌, append_assoc, append-nil, length, map, Some, None, Ok, arith}
use Rattle.std.proofs.lemmas.Bool.Decides.{nat_tests}
use Rattle.std.specs.List.{flat_map, AllByRecursion}
use Rattle.pcl_base.specs.Limits.{Sizes, config_of}
use Rattle.pcl_base.specs.declared.event.Event.{Event}
use Rattle.pcl_base.specs.declared.event.Header.{Header}
use Rattle.text_rules.specs.ScheduleLine.{HasLine, HasHeader, header_line, line_of}
use Rattle.text_rules.specs.TraceText.{ended, echo_text}
use Rattle.line_laws.proofs.EventLines.{event_forth, header_forth}
use Rattle.node_rules.specs.Words.{pick}
use Rattle.cluster_rules.specs.Clusters.{Cluster, opening}
use Rattle.cluster_rules.specs.ClusterStep.{step}
use Rattle.cluster_rules.specs.Run.{last}
use Rattle.replay_rules.specs.Due.{Reading, Told, first_reading, first_place, most_lines, most_bytes, only_text, silent, joined, in_trace, long, added, with_event, with_header, with_sizes, judged, fed, read_from, at_end, due}
use Rattle.replay_rules.specs.Due.Place.{Going, Stopped}
use Rattle.replay_rules.specs.RunOfInput.{HasNoNewline, Ending, Whole, EndsAs, status_of, closes, told_of}
use Rattle.replay_laws.proofs.LineSizes.{event_fits, header_fits}
use Rattle.replay_laws.proofs.Reading.{rest_of, rest-cons, due_is}
use Rattle.replay_laws.proofs.Courses.{Goes, goes_same, goes_stopped, goes_event, with_one}
use Rattle.replay_laws.proofs.Course.{longer}
use Rattle.replay_laws.proofs.Inputs.{run_told}

-- between two lines
abbrev pub between : ℕ → Cluster → Reading
between n c = record { lines = n; part = []; cluster = Some c }

-- a byte that ends no line, and one that does
abbrev pub by_tests : Bool → Reading → ℕ → Bool → Bool → Bool → Told
by_tests t r b full newline longest =
    let more : Reading = record r { part = r.part ++ b ∷ [] } in
    pick full (long r) (pick newline (judged t r) (pick longest (judged t more) (silent (Going more))))

pub fed_part : (t : Bool) (r : Reading) (b : ℕ) → (r.lines == most_lines) ≡ false → (b == 10) ≡ false → (length (r.part ++ b ∷ []) == most_bytes) ≡ false
    → fed t r b ≡ silent (Going (record r { part = r.part ++ b ∷ [] }))
unfolding fed
fed_part t r b room other short =
    ap (λ x. by_tests t r b x (b == 10) (length (r.part ++ b ∷ []) == most_bytes)) room
    ∙ (ap (λ x. by_tests t r b false x (length (r.part ++ b ∷ []) == most_bytes)) other
    ∙ ap (λ x. by_tests t r b false false x) short)

fed_newline : (t : Bool) (r : Reading) → (r.lines == most_lines) ≡ false → fed t r 10 ≡ judged t r
unfolding fed
fed_newline t r room = ap (λ x. by_tests t r 10 x true (length (r.part ++ 10 ∷ []) == most_bytes)) room

-- what the bytes give of which a line is judged
abbrev pub Judged : Bool → Reading → List ℕ → Told
Judged t r bs = joined (judged t r) (rest_of t (judged t r).place bs)

pub not_longest : (part : List ℕ) (b : ℕ) (line : List ℕ) → length part + length (b ∷ line) < most_bytes → (length (part ++ b ∷ []) == most_bytes) ≡ false
not_longest part b line short = let l = longer part b in grind (arith, nat_tests, l, short)

-- the bytes of a line, and its newline
pub part_read : (t : Bool) (line : List ℕ) (r : Reading) (bs : List ℕ) → (r.lines == most_lines) ≡ false → HasNoNewline line
    → length r.part + length line < most_bytes
    → rest_of t (Going r) (line ++ 10 ∷ bs) ≡ Judged t (record r { part = r.part ++ line }) bs
part_read t [] r bs room one short =
    rest-cons t (Going r) 10 bs
    ∙ (ap (λ x. joined x (rest_of t x.place bs)) (fed_newline t r room)
    ∙ ap (λ part. Judged t (record r { part = part }) bs) (sym (append-nil r.part)))
part_read t (b ∷ line) r bs room one short =
    let more : Reading = record r { part = r.part ++ b ∷ [] } in
    rest-cons t (Going r) b (line ++ 10 ∷ bs)
    ∙ (ap (λ x. joined x (rest_of t x.place (line ++ 10 ∷ bs))) (fed_part t r b room one.0 (not_longest r.part b line short))
    ∙ (part_read t line more bs room one.1 (let l = longer r.part b in omega (arith, l, short))
    ∙ ap (λ part. Judged t (record r { part = part }) bs) (append_assoc r.part (b ∷ []) line)))

pub room_of : (n : ℕ) → n < most_lines → (n == most_lines) ≡ false
room_of n few = grind (arith, nat_tests, few)

-- the line of an event
pub event_read : (t : Bool) (n : ℕ) (c : Cluster) (e : Event) (bs : List ℕ) → n < most_lines → HasLine e
    → rest_of t (Going (between n c)) (ended (line_of e) ++ bs)
    ≡ with_one t e (added c (step c e)) (rest_of t (Going (between (n + 1) (step c e))) bs)
unfolding judged
event_read t n c e bs few has =
    let fits = event_fits e has in
    let short : 0 + length (line_of e) < most_bytes = let l = fits.0 in omega (arith, l) in
    ap (rest_of t (Going (between n c))) (append_assoc (line_of e) (10 ∷ []) bs)
    ∙ (part_read t (line_of e) (between n c) bs (room_of n few) fits.1 short
    ∙ ap (λ o. let x : Told = with_event t (record { lines = n; part = line_of e; cluster = Some c }) c o in joined x (rest_of t x.place bs)) (event_forth e has))

-- the line of a header
pub header_read : (t : Bool) (h : Header) (c : Sizes) (bs : List ℕ) → HasHeader h → config_of h.nodes h.pages h.size h.frames ≡ Ok c
    → rest_of t first_place (ended (header_line h) ++ bs)
    ≡ joined (only_text (in_trace t (echo_text (header_line h))) (Going (between 1 (opening c)))) (rest_of t (Going (between 1 (opening c))) bs)
unfolding judged
header_read t h c bs has numbers =
    let fits = header_fits h has in
    let short : 0 + length (header_line h) < most_bytes = let l = fits.0 in omega (arith, l) in
    let r : Reading = record { lines = 0; part = header_line h; cluster = None } in
    ap (rest_of t first_place) (append_assoc (header_line h) (10 ∷ []) bs)
    ∙ (part_read t (header_line h) first_reading bs refl fits.1 short
    ∙ (ap (λ o. let x : Told = with_header t r o in joined x (rest_of t x.place bs)) (header_forth h has)
    ∙ ap (λ o. let x : Told = with_sizes t r h o in joined x (rest_of t x.place bs)) numbers))

-- what is due behind the good lines
abbrev pub IsEnded : List ℕ → Ending → Type 0
IsEnded rest ending =
    (t : Bool) (m : ℕ) (d : Cluster) → EndsAs m rest ending
    → rest_of t (Going (between m d)) rest ≡ only_text (closes t d.trace m ending) (Stopped (status_of ending))

record Runs (es : List Event) (ending : Ending) (n : ℕ) (c : Cluster) (bytes : List ℕ) (out : Bool → Told) : Type 0 where
  goes : Goes n c bytes out
  events : goes.events ≡ es
  ends : goes.ending ≡ ending

events_read : (es : List Event) (rest : List ℕ) (ending : Ending) (n : ℕ) (c : Cluster) → AllByRecursion HasLine es → n + length es ≤ most_lines
    → EndsAs (n + length es) rest ending → IsEnded rest ending
    → Runs es ending n c (flat_map ended (map line_of es) ++ rest) (λ t. rest_of t (Going (between n c)) (flat_map ended (map line_of es) ++ rest))
unfolding goes_same goes_stopped goes_event
events_read [] rest ending n c has few ends is =
    let here : EndsAs n rest ending = subst (λ m. EndsAs m rest ending) (let e : n + 0 ≡ n = omega arith in e) ends in
    record {
      goes =
          goes_same n c rest (λ t. rest_of t (Going (between n c)) rest) (λ t. only_text (closes t c.trace n ending) (Stopped (status_of ending)))
          (λ t. is t n c here) (goes_stopped n c rest rest ending refl (omega (arith, few)) here);
      events = refl;
      ends = refl;
    }
events_read (e ∷ es) rest ending n c has few ends is =
    let behind : List ℕ = flat_map ended (map line_of es) ++ rest in
    let bytes : List ℕ = flat_map ended (map line_of (e ∷ es)) ++ rest in
    let regroup : bytes ≡ ended (line_of e) ++ behind = append_assoc (ended (line_of e)) (flat_map ended (map line_of es)) rest in
    let count : n + length (e ∷ es) ≡ (n + 1) + length es = omega arith in
    let room : n < most_lines = omega (arith, few) in
    let g = events_read es rest ending (n + 1) (step c e) has.1 (omega (arith, few)) (subst (λ m. EndsAs m rest ending) count ends) is in
    record {
      goes =
          goes_same n c bytes (λ t. rest_of t (Going (between n c)) bytes)
          (λ t. with_one t e (added c (step c e)) (rest_of t (Going (between (n + 1) (step c e))) behind))
          (λ t. ap (rest_of t (Going (between n c))) regroup ∙ event_read t n c e behind room has.0)
          (goes_event n c e bytes behind (λ t. rest_of t (Going (between (n + 1) (step c e))) behind) has.0 regroup g.goes);
      events = ap (λ l. e ∷ l) g.events;
      ends = g.ends;
    }

-- what is due to an input of good lines and how it ends
pub input_read : (t : Bool) (h : Header) (c : Sizes) (es : List Event) (rest : List ℕ) (ending : Ending) → HasHeader h
    → config_of h.nodes h.pages h.size h.frames ≡ Ok c → AllByRecursion HasLine es → length es + 1 ≤ most_lines
    → EndsAs (length es + 1) rest ending → IsEnded rest ending
    → due t (ended (header_line h) ++ (flat_map ended (map line_of es) ++ rest)) ≡ told_of t h es (last c es).trace ending
input_read t h c es rest ending header numbers has few ends is =
    let behind : List ℕ = flat_map ended (map line_of es) ++ rest in
    let count : length es + 1 ≡ 1 + length es = omega arith in
    let g = events_read es rest ending 1 (opening c) has (omega (arith, few)) (subst (λ m. EndsAs m rest ending) count ends) is in
    due_is t (ended (header_line h) ++ behind)
    ∙ (header_read t h c behind header numbers
    ∙ (run_told h c behind (Going (between 1 (opening c))) (λ u. rest_of u (Going (between 1 (opening c))) behind) g.goes t
    ∙ (ap (λ l. told_of t h l (last c l).trace g.goes.ending) g.events
    ∙ ap (told_of t h es (last c es).trace) g.ends)))

-- an input that ends behind a good line
pub whole_ended : IsEnded [] Whole
unfolding read_from at_end
whole_ended t m d ends = refl
