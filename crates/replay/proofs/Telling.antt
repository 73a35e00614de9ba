-- What a reader tells of a line, of a byte, and of the end of the input.
use Rattle.std.proofs.Common.{◌≡◌, ℕ, ◌+◌, ◌==◌, Bool, true, false, List, [], ◌∷◌, ◌++◌, length, append-nil, Option, Some, None, is_some, Result, Ok, Err, refl, sym, ap, subst, ◌∙◌, inl, inr, arith}
use Rattle.std.specs.Prelude.{IsSome, IfOk, OnOk}
use Rattle.std.specs.Option.{option_map}
use Rattle.std.proofs.lemmas.Bool.{eqb-true}
use Rattle.pcl_base.specs.Limits.{Sizes}
use Rattle.pcl_base.specs.declared.event.Event.{Event}
use Rattle.pcl_base.specs.declared.trace.Entry.{Entry}
use Rattle.text_rules.specs.ReadLine.{header_of}
use Rattle.text_rules.specs.ReadEvent.{event_of}
use Rattle.text_rules.specs.BadLine.{bad_at, bad_text, event_forms}
use Rattle.text_rules.specs.TraceText.{end_text}
use Rattle.text_rules.specs.Totals.{Totals, totals_of, totals_text}
use Rattle.schedule_text.specs.LineAnswer.{why_of}
use Rattle.schedule_text.specs.declared.fault.LineReason.{LineReason}
use Rattle.node_rules.specs.Words.{pick}
use Rattle.cluster_rules.specs.Clusters.{Cluster, opening}
use Rattle.cluster_parts.specs.Ends.{Ends}
use Rattle.cluster_parts.specs.declared.fault.ClusterFault.{ClusterFault}
use Rattle.cluster_parts.specs.declared.fault.ClusterFault.TheVariants.{Differs}
use Rattle.cluster_parts.specs.State.{ClusterView, cluster_of}
use Rattle.replay_rules.specs.Due.{Reading, Told, most_lines, most_bytes, silent, bad_line, long, long_text, with_header, judged_by, judged, fed, closing, ended_after, ended_by, at_end}
use Rattle.replay_rules.specs.Due.Place.{Going, Stopped}
use Rattle.replay.specs.Outcome.{later_text}
use Rattle.replay.specs.ReaderView.{ReaderView, HasCounts, place_of, trace_of}
use Rattle.replay.specs.Told.{IsRuleStop, Tells, TellsLast, TellsSome, Feeds, line_told, closing_of}
use Rattle.replay.proofs.BadLineLemmas.{IsFound, event_text}
use Rattle.replay.proofs.Lines.{too_long}
use Rattle.replay.proofs.Steps.{stepped, step_tells, step_left}

-- ---- a cluster that is there or not

pub none_there : (o : Option ClusterView) → is_some o ≡ false → option_map cluster_of o ≡ None
none_there None h = refl
none_there (Some x) h = absurd (cc (h))

pub some_there : (o : Option ClusterView) → is_some o ≡ true → IsSome (option_map cluster_of o)
some_there None h = absurd (cc (h))
some_there (Some x) h = refl

-- ---- a bad line

bad_place : (v : ReaderView) (o : Option Cluster) → event_of v.reading.part ≡ None → (line_told v o (event_of v.reading.part)).place ≡ Stopped 3
bad_place v (Some c) none = ap (λ e. (line_told v (Some c) e).place) none
bad_place v None none = refl

pub bad_tells : {E : Type 0} (v w : ReaderView) (column : ℕ) (reason : LineReason) (old new : List ℕ) (r : Result (Option ℕ) E) → IsSome v.reading.cluster
    → IsFound event_of event_forms v.reading.part column reason → OnOk r (new ≡ old ++ bad_text (v.reading.lines + 1) column (why_of reason))
    → IfOk r (λ s. s ≡ Some 3) → w ≡ v → IfOk r (λ s. Tells (line_told v v.reading.cluster (event_of v.reading.part)) v old new s w)
bad_tells v w column reason old new (Ok s) some found text status same =
    inl (record {
      text = text ∙ ap (λ t. old ++ t) (event_text v v.reading.cluster column reason some found);
      place = bad_place v v.reading.cluster found.0 ∙ sym (ap (λ o. place_of o w.reading) status);
      stop = subst IsRuleStop (sym status) refl;
      totals = ap (λ (x : ReaderView). x.totals) same;
      counts = λ k. subst HasCounts (sym same) k;
    })
bad_tells v w column reason old new (Err fault) some found text status same = tt

-- ---- a whole line

pub header_tells : {E : Type 0} (v w : ReaderView) (old new : List ℕ) (r : Result (Option ℕ) E) → v.reading.cluster ≡ None
    → OnOk r (new ≡ old ++ (with_header v.totals v.reading (header_of v.reading.part)).text)
    → IfOk r (λ s. (with_header v.totals v.reading (header_of v.reading.part)).place ≡ place_of s w.reading) → IfOk r IsRuleStop → OnOk r (w.totals ≡ v.totals)
    → OnOk r (HasCounts v → HasCounts w) → IfOk r (λ s. Tells (judged v.totals v.reading) v old new s w)
unfolding judged
header_tells v w old new (Ok s) none text place stop totals counts =
    inl (record {
      text = text ∙ ap (λ o. old ++ (judged_by v.totals v.reading o).text) (sym none);
      place = ap (λ o. (judged_by v.totals v.reading o).place) none ∙ place;
      stop = stop;
      totals = totals;
      counts = counts;
    })
header_tells v w old new (Err fault) none text place stop totals counts = tt

line_judged : (v : ReaderView) (o : Option Cluster) → IsSome o → line_told v o (event_of v.reading.part) ≡ judged_by v.totals v.reading o
line_judged v (Some c) some = refl
line_judged v None some = let bad : false ≡ true = some in absurd (cc)

pub event_tells : {E : Type 0} (v w : ReaderView) (old new : List ℕ) (r : Result (Option ℕ) E) → IsSome v.reading.cluster
    → IfOk r (λ s. Tells (line_told v v.reading.cluster (event_of v.reading.part)) v old new s w) → IfOk r (λ s. Tells (judged v.totals v.reading) v old new s w)
unfolding judged
event_tells v w old new (Ok s) some told = subst (λ x. Tells x v old new s w) (line_judged v v.reading.cluster some) told
event_tells v w old new (Err fault) some told = tt

-- ---- one byte

abbrev fed_by : Bool → Reading → ℕ → Bool → Bool → Bool → Told
fed_by t r b full newline longest =
    pick full (long r)
    (pick newline (judged t r)
    (pick longest (judged t (record r { part = r.part ++ b ∷ [] })) (silent (Going (record r { part = r.part ++ b ∷ [] })))))

fed_is : (t : Bool) (r : Reading) (b : ℕ) → fed t r b ≡ fed_by t r b (r.lines == most_lines) (b == 10) (length (r.part ++ b ∷ []) == most_bytes)
unfolding fed
fed_is t r b = refl

fed_long : (t : Bool) (r : Reading) (b : ℕ) → (r.lines == most_lines) ≡ true → fed t r b ≡ long r
fed_long t r b full = fed_is t r b ∙ ap (λ x. fed_by t r b x (b == 10) (length (r.part ++ b ∷ []) == most_bytes)) full

fed_newline : (t : Bool) (r : Reading) (b : ℕ) → (r.lines == most_lines) ≡ false → (b == 10) ≡ true → fed t r b ≡ judged t r
fed_newline t r b room newline =
    fed_is t r b
    ∙ (ap (λ x. fed_by t r b x (b == 10) (length (r.part ++ b ∷ []) == most_bytes)) room
    ∙ ap (λ x. fed_by t r b false x (length (r.part ++ b ∷ []) == most_bytes)) newline)

fed_more : (t : Bool) (r : Reading) (b : ℕ) (longest : Bool) → (r.lines == most_lines) ≡ false → (b == 10) ≡ false → (length (r.part ++ b ∷ []) == most_bytes) ≡ longest
    → fed t r b ≡ fed_by t r b false false longest
fed_more t r b longest room other long =
    fed_is t r b
    ∙ (ap (λ x. fed_by t r b x (b == 10) (length (r.part ++ b ∷ []) == most_bytes)) room
    ∙ (ap (λ x. fed_by t r b false x (length (r.part ++ b ∷ []) == most_bytes)) other ∙ ap (λ x. fed_by t r b false false x) long))

-- a byte behind the last line
pub long_feeds : {E : Type 0} (v w : ReaderView) (b : ℕ) (old new : List ℕ) (r : Result (Option ℕ) E) → (v.reading.lines == most_lines) ≡ true
    → OnOk r (new ≡ old ++ long_text v.reading.lines) → IfOk r (λ s. s ≡ Some 7) → w ≡ v → IfOk r (λ s. Feeds (fed v.totals v.reading b) v b old new s w)
long_feeds v w b old new (Ok s) full text status same =
    inl (record {
      text = text ∙ ap (λ (x : Told). old ++ x.text) (sym (fed_long v.totals v.reading b full));
      place = ap (λ (x : Told). x.place) (fed_long v.totals v.reading b full) ∙ sym (ap (λ o. place_of o w.reading) status);
      stop = subst IsRuleStop (sym status) refl;
      totals = ap (λ (x : ReaderView). x.totals) same;
      counts = λ k. subst HasCounts (sym same) k;
    })
long_feeds v w b old new (Err fault) full text status same = tt

-- a newline
newline_case : (v w : ReaderView) (b : ℕ) (old new : List ℕ) (s : Option ℕ) → (b == 10) ≡ true → Tells (fed v.totals v.reading b) v old new s w
    → Feeds (fed v.totals v.reading b) v b old new s w
newline_case v w b old new s newline (inl told) = inl told
newline_case v w b old new s newline (inr off) = inr (eqb-true b 10 newline, off)

pub newline_feeds : {E : Type 0} (v w : ReaderView) (b : ℕ) (old new : List ℕ) (r : Result (Option ℕ) E) → (v.reading.lines == most_lines) ≡ false → (b == 10) ≡ true
    → IfOk r (λ s. Tells (judged v.totals v.reading) v old new s w) → IfOk r (λ s. Feeds (fed v.totals v.reading b) v b old new s w)
newline_feeds v w b old new (Ok s) room newline told =
    newline_case v w b old new s newline (subst (λ x. Tells x v old new s w) (sym (fed_newline v.totals v.reading b room newline)) told)
newline_feeds v w b old new (Err fault) room newline told = tt

-- a reader with one byte more of its line
abbrev pub with_byte : ReaderView → ℕ → ReaderView
with_byte v b = record v { reading = record v.reading { part = v.reading.part ++ b ∷ [] } }

longest_case : (v w : ReaderView) (b : ℕ) (old new : List ℕ) (s : Option ℕ) → (length (v.reading.part ++ b ∷ []) == most_bytes) ≡ true
    → Tells (fed v.totals v.reading b) (with_byte v b) old new s w → Feeds (fed v.totals v.reading b) v b old new s w
longest_case v w b old new s long (inl told) =
    inl (record { text = told.text; place = told.place; stop = told.stop; totals = told.totals; counts = told.counts })
longest_case v w b old new s long (inr off) = absurd (too_long (with_byte v b).reading (eqb-true (length (v.reading.part ++ b ∷ [])) most_bytes long) off.differs)

pub longest_feeds : {E : Type 0} (v w : ReaderView) (b : ℕ) (old new : List ℕ) (r : Result (Option ℕ) E) → (v.reading.lines == most_lines) ≡ false → (b == 10) ≡ false
    → (length (v.reading.part ++ b ∷ []) == most_bytes) ≡ true
    → IfOk r (λ s. Tells (judged (with_byte v b).totals (with_byte v b).reading) (with_byte v b) old new s w) → IfOk r (λ s. Feeds (fed v.totals v.reading b) v b old new s w)
longest_feeds v w b old new (Ok s) room other long told =
    longest_case v w b old new s long
    (subst (λ x. Tells x (with_byte v b) old new s w) (sym (fed_more v.totals v.reading b true room other long)) told)
longest_feeds v w b old new (Err fault) room other long told = tt

-- nothing yet
pub part_feeds : (v : ReaderView) (b : ℕ) (old : List ℕ) → (v.reading.lines == most_lines) ≡ false → (b == 10) ≡ false
    → (length (v.reading.part ++ b ∷ []) == most_bytes) ≡ false → Feeds (fed v.totals v.reading b) v b old old None (with_byte v b)
part_feeds v b old room other short =
    let same = fed_more v.totals v.reading b false room other short in
    inl (record {
      text = sym (append-nil old) ∙ ap (λ (x : Told). old ++ x.text) (sym same);
      place = ap (λ (x : Told). x.place) same;
      stop = tt;
      totals = refl;
      counts = λ k. k;
    })

-- ---- the end of the input

-- behind some bytes of a line
ended_within : (t : Bool) (r : Reading) (c : Cluster) (part : List ℕ) → (length part == 0) ≡ false
    → ((ended_after t r c part).text ≡ bad_line r.lines (bad_at false event_forms part)) × ((ended_after t r c part).place ≡ Stopped 3)
ended_within t r c [] rest = absurd (cc (rest))
ended_within t r c (b ∷ bs) rest = (refl, refl)

ended_with : (t : Bool) (r : Reading) (o : Option Cluster) → IsSome o → (length r.part == 0) ≡ false
    → ((ended_by t r o).text ≡ bad_line r.lines (bad_at false event_forms r.part)) × ((ended_by t r o).place ≡ Stopped 3)
ended_with t r (Some c) some rest = ended_within t r c r.part rest
ended_with t r None some rest = let bad : false ≡ true = some in absurd (cc)

-- behind a whole line
ended_behind : (t : Bool) (r : Reading) (c : Cluster) (part : List ℕ) → (length part == 0) ≡ true
    → ((ended_after t r c part).text ≡ closing t c.trace) × ((ended_after t r c part).place ≡ Stopped 0)
ended_behind t r c [] none = (refl, refl)
ended_behind t r c (b ∷ bs) none = let zero = eqb-true (length (b ∷ bs)) 0 none in absurd (omega (arith, zero))

pub end_event : (t : Bool) (r : Reading) → IsSome r.cluster → (length r.part == 0) ≡ false
    → ((at_end t (Going r)).text ≡ bad_line r.lines (bad_at false event_forms r.part)) × ((at_end t (Going r)).place ≡ Stopped 3)
unfolding at_end
end_event t r some rest = ended_with t r r.cluster some rest

pub end_whole : (t : Bool) (r : Reading) (c : Cluster) → r.cluster ≡ Some c → (length r.part == 0) ≡ true
    → ((at_end t (Going r)).text ≡ closing t c.trace) × ((at_end t (Going r)).place ≡ Stopped 0)
unfolding at_end
end_whole t r c here none =
    let behind = ended_behind t r c r.part none in
    (ap (λ o. (ended_by t r o).text) here ∙ behind.0, ap (λ o. (ended_by t r o).place) here ∙ behind.1)

-- the last lines by what was counted
pub closing_same : (t : Bool) (counts : Totals) (trace : List Entry) → counts ≡ totals_of trace → closing_of t counts ≡ closing t trace
closing_same false counts trace e = ap (λ (x : Totals). end_text x.events x.committed) e
closing_same true counts trace e = ap totals_text e

ended_counted : (v : ReaderView) (o : Option Cluster) → v.reading.cluster ≡ o → IsSome o → (length v.reading.part == 0) ≡ true → HasCounts v
    → closing_of v.totals v.counts ≡ (at_end v.totals (Going v.reading)).text
ended_counted v (Some c) here some none counts =
    closing_same v.totals v.counts c.trace (counts ∙ ap (λ o. totals_of (trace_of o)) here) ∙ sym (end_whole v.totals v.reading c here none).0
ended_counted v None here some none counts = let bad : false ≡ true = some in absurd (cc)

-- the last lines, where the counts are those of the trace
pub end_counted : (v : ReaderView) → IsSome v.reading.cluster → (length v.reading.part == 0) ≡ true → HasCounts v
    → closing_of v.totals v.counts ≡ (at_end v.totals (Going v.reading)).text
end_counted v some none counts = ended_counted v v.reading.cluster refl some none counts

-- ---- the trace

-- a cluster that opens has no trace
pub opened_trace : (k : Sizes) → (opening k).trace ≡ []
unfolding opening
opened_trace k = refl

-- the last line at an event that is left
pub later_some : {E : Type 0} (old new : List ℕ) (line : ℕ) (r : Result (Option ℕ) E) → OnOk r (new ≡ old ++ later_text line) → IfOk r (TellsSome old new)
later_some old new line (Ok s) text = record { more = later_text line; text = text; last = λ e. ([], line, refl) }
later_some old new line (Err fault) text = tt

-- ---- a step

-- what was told of a step that was made
pub made_tells : {E : Type 0} {T : Type 0} (v w : ReaderView) (c d : Cluster) (e : Event) (x : T) (old new : List ℕ) (r : Result (Option ℕ) E) → v.reading.cluster ≡ Some c
    → event_of v.reading.part ≡ Some e → Ends c e (Ok x) d → IfOk r (λ s. TellsLast e (stepped v d) old new s w) → IfOk r (TellsSome old new)
    → IfOk r (λ s. Tells (line_told v v.reading.cluster (Some e)) v old new s w)
made_tells v w c d e x old new (Ok s) here line ends told some = step_tells v w c d e old new s here line ends told some
made_tells v w c d e x old new (Err fault) here line ends told some = tt

-- what was told of a step that reads a page that differs
pub left_tells : {E : Type 0} (v w : ReaderView) (c d : Cluster) (e : Event) (fault : ClusterFault) (page expected found : ℕ) (old new : List ℕ) (r : Result (Option ℕ) E)
    → v.reading.cluster ≡ Some c → event_of v.reading.part ≡ Some e → Ends {T = Unit {0}} c e (Err fault) d → fault ≡ Differs page expected found
    → OnOk r (new ≡ old ++ later_text (v.reading.lines + 1)) → IfOk r (λ s. Tells (line_told v v.reading.cluster (Some e)) v old new s w)
left_tells v w c d e fault page expected found old new (Ok s) here line ends is text =
    step_left v w c e page expected found old new s here line (subst (λ f. Ends {T = Unit {0}} c e (Err f) d) is ends) text
left_tells v w c d e fault page expected found old new (Err f) here line ends is text = tt
