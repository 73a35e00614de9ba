-- What is due to the bytes behind a header.
use Rattle.std.proofs.Common.{◌≡◌, refl, sym, ap, ◌∙◌, ℕ, ◌+◌, ◌<◌, ◌≤◌, nat_lt, Bool, true, false, List, [], ◌∷◌, ◌++◌, append_assoc, append-nil, length, map, Option, Some, None, is_some, arith}
use Rattle.std.proofs.lemmas.List.{drop_at}
use Rattle.std.specs.Prelude.{drop}
use Rattle.std.specs.List.{flat_map, AllByRecursion}
use Rattle.pcl_base.specs.declared.event.Event.{Event}
use Rattle.pcl_base.specs.declared.trace.Entry.{Entry}
use Rattle.text_rules.specs.FieldBytes.{pick as text_pick}
use Rattle.text_rules.specs.LineForms.{Piece}
use Rattle.text_rules.specs.ReadEvent.{event_of}
use Rattle.text_rules.specs.ScheduleLine.{HasLine, line_of}
use Rattle.text_rules.specs.BadLine.{Why, Byte, Short, Cut, bad_at, bad_text, front_len, is_line, event_forms}
use Rattle.text_rules.specs.TraceText.{ended, entry_text}
use Rattle.line_laws.proofs.Columns.{bad_line as bad_of_line}
use Rattle.line_laws.proofs.Rows.{event_lines}
use Rattle.cluster_rules.specs.Clusters.{Cluster}
use Rattle.cluster_rules.specs.ClusterStep.{step}
use Rattle.cluster_rules.specs.Run.{last_from}
use Rattle.replay_rules.specs.Due.{Reading, Told, most_lines, most_bytes, only_text, in_trace, bad, added, ended_after}
use Rattle.replay_rules.specs.Due.Place.{Stopped}
use Rattle.replay_rules.specs.RunOfInput.{HasNoNewline, IsNext, Ending, Whole, BadAt, EndsAs, status_of, closes}
use Rattle.replay_rules.specs.StepTrace.{AddsOne}
use Rattle.replay_rules.proofs.StepTraces.{step_adds}
use Rattle.replay_laws.proofs.Reading.{told_by}

-- What is due to some bytes behind n lines and a cluster: events of whole lines, their entries, and
-- how the bytes end.
pub record Goes (n : ℕ) (c : Cluster) (bytes : List ℕ) (out : Bool → Told) : Type 0 where
  pub events : List Event
  pub entries : List Entry
  pub rest : List ℕ
  pub ending : Ending
  pub count : ℕ
  pub count_is : count ≡ n + length events
  pub has : AllByRecursion HasLine events
  pub lines : bytes ≡ flat_map ended (map line_of events) ++ rest
  pub few : count ≤ most_lines
  pub ends : EndsAs count rest ending
  pub trace : (last_from c events).trace ≡ c.trace ++ entries
  pub told : (t : Bool) → out t
      ≡ told_by events entries (in_trace t (flat_map entry_text entries) ++ closes t (last_from c events).trace count ending) (Stopped (status_of ending))

unfoldable pub goes_same : (n : ℕ) (c : Cluster) (bytes : List ℕ) (out out' : Bool → Told) → ((t : Bool) → out t ≡ out' t) → Goes n c bytes out' → Goes n c bytes out
goes_same n c bytes out out' same g =
    record {
      events = g.events;
      entries = g.entries;
      rest = g.rest;
      ending = g.ending;
      count = g.count;
      count_is = g.count_is;
      has = g.has;
      lines = g.lines;
      few = g.few;
      ends = g.ends;
      trace = g.trace;
      told = λ t. same t ∙ g.told t;
    }

-- no event more
pub no_trace : (t : Bool) (x : List ℕ) → x ≡ in_trace t [] ++ x
no_trace true x = refl
no_trace false x = refl

unfoldable pub goes_stopped : (n : ℕ) (c : Cluster) (bytes rest : List ℕ) (ending : Ending) → bytes ≡ rest → n ≤ most_lines → EndsAs n rest ending
    → Goes n c bytes (λ t. only_text (closes t c.trace n ending) (Stopped (status_of ending)))
goes_stopped n c bytes rest ending same few ends =
    record {
      events = [];
      entries = [];
      rest = rest;
      ending = ending;
      count = n;
      count_is = omega arith;
      has = tt;
      lines = same;
      few = few;
      ends = ends;
      trace = sym (append-nil c.trace);
      told = λ t. ap (λ x. only_text x (Stopped (status_of ending))) (no_trace t (closes t c.trace n ending));
    }

-- a step adds its entry alone
pub one_added : (c : Cluster) (e : Event) (a : AddsOne c e (step c e)) → added c (step c e) ≡ a.entry ∷ []
one_added c e a = ap (drop (length c.trace)) a.trace ∙ drop_at c.trace (a.entry ∷ []) (length c.trace) refl

pub one_text : (t : Bool) (x : Entry) (xs : List Entry) (end : List ℕ)
    → in_trace t (flat_map entry_text (x ∷ [])) ++ (in_trace t (flat_map entry_text xs) ++ end) ≡ in_trace t (flat_map entry_text (x ∷ xs)) ++ end
one_text true x xs end = refl
one_text false x xs end =
    ap (λ l. l ++ (flat_map entry_text xs ++ end)) (append-nil (entry_text x)) ∙ sym (append_assoc (entry_text x) (flat_map entry_text xs) end)

-- what is due behind an event, with the event before it
abbrev pub with_one : Bool → Event → List Entry → Told → Told
with_one t e entries out = told_by (e ∷ out.events) (entries ++ out.entries) (in_trace t (flat_map entry_text entries) ++ out.text) out.place

unfoldable pub goes_event : (n : ℕ) (c : Cluster) (e : Event) (bytes behind : List ℕ) (out : Bool → Told) → HasLine e → bytes ≡ ended (line_of e) ++ behind
    → Goes (n + 1) (step c e) behind out → Goes n c bytes (λ t. with_one t e (added c (step c e)) (out t))
goes_event n c e bytes behind out is front g =
    let a : AddsOne c e (step c e) = step_adds c e in
    record {
      events = e ∷ g.events;
      entries = a.entry ∷ g.entries;
      rest = g.rest;
      ending = g.ending;
      count = g.count;
      count_is = let k = g.count_is in omega (arith, k);
      has = (is, g.has);
      lines =
          front ∙ (ap (λ l. ended (line_of e) ++ l) g.lines
          ∙ sym (append_assoc (ended (line_of e)) (flat_map ended (map line_of g.events)) g.rest));
      few = g.few;
      ends = g.ends;
      trace = g.trace ∙ (ap (λ l. l ++ g.entries) a.trace ∙ append_assoc c.trace (a.entry ∷ []) g.entries);
      told = λ t.
          ap (λ l. with_one t e l (out t)) (one_added c e a)
          ∙ (ap (with_one t e (a.entry ∷ [])) (g.told t)
          ∙ ap (λ x. told_by (e ∷ g.events) (a.entry ∷ g.entries) x (Stopped (status_of g.ending)))
          (one_text t a.entry g.entries (closes t (last_from (step c e) g.events).trace g.count g.ending)));
    }

-- where a line is bad
pub pick_some : (b : Bool) (x y : ℕ × Why) → (at : ℕ × Why) × (text_pick b (Some x) (Some y) ≡ Some at)
pick_some true x y = (x, refl)
pick_some false x y = (y, refl)

pub bad_somewhere : (newline : Bool) (forms : List (List Piece)) (line : List ℕ) → (newline ≡ true → is_line forms line ≡ false)
    → (at : ℕ × Why) × (bad_at newline forms line ≡ Some at)
bad_somewhere true forms line none =
    let found = pick_some (nat_lt (front_len forms line) (length line)) (front_len forms line + 1, Byte) (length line + 1, Short) in
    (found.0, bad_of_line forms line (none refl) ∙ found.1)
bad_somewhere false forms line none =
    pick_some (nat_lt (front_len forms line) (length line)) (front_len forms line + 1, Byte) (length line + 1, Cut)

pub no_event : (line : List ℕ) → event_of line ≡ None → is_line event_forms line ≡ false
no_event line none = event_lines line ∙ ap is_some none

-- a bad line
pub bad_is : (r : Reading) (o : Option (ℕ × Why)) (at : ℕ × Why) → o ≡ Some at → bad r o ≡ only_text (bad_text (r.lines + 1) at.0 at.1) (Stopped 3)
bad_is r o at e = ap (bad r) e

abbrev pub IsSomething : List ℕ → Type 0
IsSomething bytes = ¬ (bytes ≡ [])

pub goes_bad : (r : Reading) (c : Cluster) (bytes line : List ℕ) (newline : Bool) → r.lines < most_lines → IsSomething bytes → IsNext newline line bytes
    → HasNoNewline line → (newline ≡ true → event_of line ≡ None)
    → Goes r.lines c bytes (λ t. bad r (bad_at newline event_forms line))
goes_bad r c bytes line newline few some next one none =
    let found = bad_somewhere newline event_forms line (λ h. no_event line (none h)) in
    let at : ℕ × Why = found.0 in
    goes_same r.lines c bytes (λ t. bad r (bad_at newline event_forms line)) (λ t. only_text (closes t c.trace r.lines (BadAt at.0 at.1)) (Stopped 3))
    (λ t. bad_is r (bad_at newline event_forms line) at found.1)
    (goes_stopped r.lines c bytes bytes (BadAt at.0 at.1) refl (omega (arith, few))
    (few, some, record { line = line; newline = newline; next = next; one = one; bad = found.1 }))

-- the end of the input
pub goes_ended : (r : Reading) (c : Cluster) (part bytes : List ℕ) → r.lines ≤ most_lines → (r.lines ≡ most_lines → part ≡ []) → bytes ≡ part → HasNoNewline part → length part < most_bytes
    → Goes r.lines c bytes (λ t. ended_after t r c part)
goes_ended r c [] bytes few full same one short = goes_stopped r.lines c bytes [] Whole same few refl
goes_ended r c (b ∷ part) bytes few full same one short =
    let some : IsSomething (b ∷ part) = λ e. absurd (cc e) in
    let room : r.lines < most_lines = room_of r.lines (λ e. some (full e)) few in
    goes_bad r c bytes (b ∷ part) false room (λ e. some (sym same ∙ e)) (same, short) one (λ h. absurd (cc h))
  where
    room_of : (n : ℕ) → ¬ (n ≡ most_lines) → n ≤ most_lines → n < most_lines
    room_of n other le = grind (arith, other, le)
