-- What a reader tells of a byte, of a line, and of an entry of the trace.
use Rattle.std.specs.Prelude.{◌≡◌, ℕ, ◌+◌, ◌==◌, ◌||◌, ◌⊎◌, Bool, true, false, List, [], ◌∷◌, ◌++◌, Option, Some, None, IsTrue}
use Rattle.pcl_base.specs.declared.event.Event.{Event}
use Rattle.pcl_base.specs.declared.trace.Entry.{Entry}
use Rattle.text_rules.specs.TraceText.{entry_text, end_text}
use Rattle.text_rules.specs.Totals.{Totals, totals_of, totals_text}
use Rattle.cluster_rules.specs.Clusters.{Cluster}
use Rattle.replay_rules.specs.Due.{Reading, Told, bad, in_trace, with_event}
use Rattle.replay_rules.specs.Outcome.{is_stop}
use Rattle.replay.specs.Outcome.{DiffersNext, IsLast}
use Rattle.replay.specs.ReaderView.{ReaderView, HasCounts, place_of, trace_of}

-- a status that a line decides by the rules, if any
abbrev pub IsRuleStop : Option ℕ → Type 0
IsRuleStop None = Unit {0}
IsRuleStop (Some status) = IsTrue (is_stop status)

-- a status that a line decides, if any
abbrev pub IsStop : Option ℕ → Type 0
IsStop None = Unit {0}
IsStop (Some status) = IsTrue (is_stop status || status == 8)

-- what is due was told, and the reader stands behind it
pub record IsTold (told : Told) (v : ReaderView) (old new : List ℕ) (status : Option ℕ) (w : ReaderView) : Type 0 where
  pub text : new ≡ old ++ told.text
  pub place : told.place ≡ place_of status w.reading
  pub stop : IsRuleStop status
  pub totals : w.totals ≡ v.totals
  pub counts : HasCounts v → HasCounts w

-- in the step of this line a page differs, and at status 8 the last line says that it is left
pub record IsOff (r : Reading) (old new : List ℕ) (status : Option ℕ) : Type 0 where
  pub differs : DiffersNext r
  pub more : List ℕ
  pub text : new ≡ old ++ more
  pub last : IsLast status more

-- what a line gives
abbrev pub Tells : Told → ReaderView → List ℕ → List ℕ → Option ℕ → ReaderView → Type 0
Tells told v old new status w = IsTold told v old new status w ⊎ IsOff v.reading old new status

-- what a byte gives: a line ends at a newline
abbrev pub Feeds : Told → ReaderView → ℕ → List ℕ → List ℕ → Option ℕ → ReaderView → Type 0
Feeds told v b old new status w = IsTold told v old new status w ⊎ ((b ≡ 10) × IsOff v.reading old new status)

-- a further line, where there is a cluster
abbrev pub line_told : ReaderView → Option Cluster → Option Event → Told
line_told v (Some c) event = with_event v.totals v.reading c event
line_told v None event = bad v.reading None

-- an entry was told and counted, and its line is over
pub record IsEntryTold (e : Entry) (before : List Entry) (v : ReaderView) (old new : List ℕ) (status : Option ℕ) (w : ReaderView) : Type 0 where
  pub text : new ≡ old ++ in_trace v.totals (entry_text e)
  pub none : status ≡ None
  pub reading : w.reading ≡ record { lines = v.reading.lines + 1; part = []; cluster = v.reading.cluster }
  pub totals : w.totals ≡ v.totals
  pub counts : v.counts ≡ totals_of before → w.counts ≡ totals_of (before ++ e ∷ [])

-- the last entry of the trace was told, if its event is this one
abbrev pub TellsLast : Event → ReaderView → List ℕ → List ℕ → Option ℕ → ReaderView → Type 0
TellsLast event v old new status w =
    (e : Entry) (before : List Entry) → trace_of v.reading.cluster ≡ before ++ e ∷ [] → e.event ≡ event
    → IsEntryTold e before v old new status w

-- something was told, and at status 8 its last line says what is left
pub record TellsSome (old new : List ℕ) (status : Option ℕ) : Type 0 where
  pub more : List ℕ
  pub text : new ≡ old ++ more
  pub last : IsLast status more

-- the last lines of a whole run, by what was counted
abbrev pub closing_of : Bool → Totals → List ℕ
closing_of false t = end_text t.events t.committed
closing_of true t = totals_text t
