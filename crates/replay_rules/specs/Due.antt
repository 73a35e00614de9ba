-- What is written for an input, and the status: line by line, as the bytes come. Where `totals` is true
-- it is the totals of the trace that are written, and not the trace.
use Rattle.std.specs.Prelude.{ℕ, ◌+◌, ◌==◌, Bool, true, false, List, [], ◌∷◌, ◌++◌, length, drop, flat_map, sum_by, codes, Option, Some, None, Result, Ok, Err}
use Rattle.pcl_base.specs.Limits.{Sizes, config_of}
use Rattle.pcl_base.specs.declared.config.ConfigFault.{ConfigFault}
use Rattle.pcl_base.specs.declared.event.Event.{Event}
use Rattle.pcl_base.specs.declared.event.Header.{Header}
use Rattle.pcl_base.specs.declared.trace.Entry.{Entry}
use Rattle.text_rules.specs.ScheduleLine.{header_line, spaced}
use Rattle.text_rules.specs.ReadLine.{header_of}
use Rattle.text_rules.specs.ReadEvent.{event_of}
use Rattle.text_rules.specs.BadLine.{Why, bad_at, header_forms, event_forms, bad_text, bad_header_text}
use Rattle.text_rules.specs.TraceText.{ended, echo_text, entry_text, entry_commits, end_text}
use Rattle.text_rules.specs.Totals.{totals_of, totals_text}
use Rattle.node_rules.specs.Words.{pick}
use Rattle.cluster_rules.specs.Clusters.{Cluster, opening}
use Rattle.cluster_rules.specs.ClusterStep.{step}

-- the most lines of a schedule, and the most bytes that are needed of a line to judge it
abbrev pub most_lines : ℕ
most_lines = 200000

abbrev pub most_bytes : ℕ
most_bytes = 8235

-- where reading is: the whole lines so far, the bytes of the next one so far, and the cluster once there
-- is a header
pub record Reading : Type 0 where
  pub lines : ℕ
  pub part : List ℕ
  pub cluster : Option Cluster

-- reading goes on, or has come to its end with a status
pub data Place : Type 0 where
  Going : Reading → Place
  Stopped : ℕ → Place

-- what some bytes give: the events that were read, their entries in the trace, the text, and the place
-- after them
pub record Told : Type 0 where
  pub events : List Event
  pub entries : List Entry
  pub text : List ℕ
  pub place : Place

-- the place before the first byte
abbrev pub first_reading : Reading
first_reading = record { lines = 0; part = []; cluster = None }

abbrev pub first_place : Place
first_place = Going first_reading

-- a text without an event
abbrev pub only_text : List ℕ → Place → Told
only_text text place = record { events = []; entries = []; text = text; place = place }

-- nothing is written
abbrev pub silent : Place → Told
silent place = only_text [] place

-- one after the other
abbrev pub joined : Told → Told → Told
joined a b = record { events = a.events ++ b.events; entries = a.entries ++ b.entries; text = a.text ++ b.text; place = b.place }

-- a text of the trace, which the totals leave out
abbrev pub in_trace : Bool → List ℕ → List ℕ
in_trace false text = text
in_trace true text = []

-- the last line at a bad line: its number, the column and why; each line that gives no event and no header
-- has a column and a reason
abbrev pub bad_line : ℕ → Option (ℕ × Why) → List ℕ
bad_line lines (Some at) = bad_text (lines + 1) at.0 at.1
bad_line lines None = []

abbrev pub bad : Reading → Option (ℕ × Why) → Told
bad r at = only_text (bad_line r.lines at) (Stopped 3)

-- the last line at a line too many
abbrev pub long_text : ℕ → List ℕ
long_text lines = ended (codes "long" ++ spaced (lines + 1))

abbrev pub long : Reading → Told
long r = only_text (long_text r.lines) (Stopped 7)

-- the place after a whole line
abbrev pub after_line : Reading → Cluster → Place
after_line r c = Going (record { lines = r.lines + 1; part = []; cluster = Some c })

-- the first line: its numbers make a configuration
abbrev pub with_sizes : Bool → Reading → Header → Result Sizes ConfigFault → Told
with_sizes totals r h (Ok c) = only_text (in_trace totals (echo_text (header_line h))) (after_line r (opening c))
with_sizes totals r h (Err fault) = only_text (bad_header_text fault) (Stopped 3)

abbrev pub with_header : Bool → Reading → Option Header → Told
with_header totals r (Some h) = with_sizes totals r h (config_of h.nodes h.pages h.size h.frames)
with_header totals r None = bad r (bad_at true header_forms r.part)

-- the entries that a step adds to the trace
abbrev pub added : Cluster → Cluster → List Entry
added before after = drop (length before.trace) after.trace

-- a further line: an event, from which a cluster comes to the next one
abbrev pub with_step : Bool → Reading → Event → List Entry → Cluster → Told
with_step totals r e entries next =
    record {
      events = e ∷ [];
      entries = entries;
      text = in_trace totals (flat_map entry_text entries);
      place = after_line r next;
    }

abbrev pub with_next : Bool → Reading → Cluster → Event → Cluster → Told
with_next totals r c e next = with_step totals r e (added c next) next

abbrev pub with_event : Bool → Reading → Cluster → Option Event → Told
with_event totals r c (Some e) = with_next totals r c e (step c e)
with_event totals r c None = bad r (bad_at true event_forms r.part)

-- a whole line
abbrev pub judged_by : Bool → Reading → Option Cluster → Told
judged_by totals r None = with_header totals r (header_of r.part)
judged_by totals r (Some c) = with_event totals r c (event_of r.part)

unfoldable pub judged : Bool → Reading → Told
judged totals r = judged_by totals r r.cluster

-- behind a byte that ends no line; a line of so many bytes is judged without its end
abbrev pub grown : Bool → Reading → Told
grown totals r = pick (length r.part == most_bytes) (judged totals r) (silent (Going r))

-- one byte more
unfoldable pub fed : Bool → Reading → ℕ → Told
fed totals r b =
    pick (r.lines == most_lines) (long r)
    (pick (b == 10) (judged totals r) (grown totals (record r { part = r.part ++ b ∷ [] })))

abbrev pub fed_at : Bool → Place → ℕ → Told
fed_at totals (Going r) b = fed totals r b
fed_at totals (Stopped status) b = silent (Stopped status)

-- what some bytes give, and then what follows from the place after them
abbrev pub and_then : Told → (Place → Told) → Told
and_then told go = joined told (go told.place)

-- all bytes of a list
unfoldable pub read_from : Bool → Place → List ℕ → Told
read_from totals place [] = silent place
read_from totals place (b ∷ bs) = and_then (fed_at totals place b) (λ after. read_from totals after bs)

-- the end of a trace, or its totals
abbrev pub closing : Bool → List Entry → List ℕ
closing false trace = end_text (length trace) (sum_by entry_commits trace)
closing true trace = totals_text (totals_of trace)

-- the end of the input: behind a whole line, or within one, which no newline ends
abbrev pub ended_after : Bool → Reading → Cluster → List ℕ → Told
ended_after totals r c [] = only_text (closing totals c.trace) (Stopped 0)
ended_after totals r c (b ∷ bs) = bad r (bad_at false event_forms (b ∷ bs))

abbrev pub ended_by : Bool → Reading → Option Cluster → Told
ended_by totals r None = bad r (bad_at false header_forms r.part)
ended_by totals r (Some c) = ended_after totals r c r.part

unfoldable pub at_end : Bool → Place → Told
at_end totals (Going r) = ended_by totals r r.cluster
at_end totals (Stopped status) = silent (Stopped status)

-- what is due to an input as a whole
unfoldable pub due : Bool → List ℕ → Told
due totals input = and_then (read_from totals first_place input) (at_end totals)
