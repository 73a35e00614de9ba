-- What a run leaves of the input and of the output, by its status.
use Rattle.std.specs.Prelude.{◌≡◌, ℕ, ◌==◌, ◌||◌, ◌⊎◌, Bool, List, ◌∷◌, ◌++◌, codes, Option, Some, IsTrue}
use Rattle.std.specs.Io.KnownBytes.{Appends, Consumes}
use Rattle.pcl_base.specs.Faults.{Rose}
use Rattle.pcl_base.specs.declared.event.Event.{Event}
use Rattle.text_rules.specs.ReadEvent.{event_of}
use Rattle.text_rules.specs.ScheduleLine.{spaced}
use Rattle.text_rules.specs.TraceText.{ended}
use Rattle.cluster_rules.specs.Clusters.{Cluster}
use Rattle.cluster_parts.specs.Ends.{StepDiffers}
use Rattle.replay_rules.specs.Due.{Reading, Place, first_place, read_from}
use Rattle.replay_rules.specs.Due.Place.{Going}
use Rattle.replay_rules.specs.Outcome.{is_judged}
use Rattle.replay_rules.specs.Outcome.{Outcome as OutcomeOfRules}
use Rattle.replay.specs.TracedRun.{IsTraced}

-- the line that was read is an event, in whose step of the rules a node reads a page that differs
pub record DiffersNext (r : Reading) : Type 0 where
  pub cluster : Cluster
  pub event : Event
  pub page : ℕ
  pub expected : ℕ
  pub found : ℕ
  pub here : r.cluster ≡ Some cluster
  pub line : event_of r.part ≡ Some event
  pub step : StepDiffers cluster event page expected found

-- the last line at an event that is left
abbrev pub later_text : ℕ → List ℕ
later_text line = ended (codes "later" ++ spaced line)

-- at status 8 a text ends with that line
abbrev pub IsLast : Option ℕ → List ℕ → Type 0
IsLast status text = status ≡ Some 8 → (before : List ℕ) × (line : ℕ) × (text ≡ before ++ later_text line)

-- Behind a front of some bytes, by the rules, comes a line in whose step a page differs. The text due to
-- that front was written. Nothing is said of what was written behind it, but of the last line at status 8.
pub record HasDiffered (totals : Bool) (from : Place) (bytes : List ℕ) (written written' : Option (List ℕ)) (status : Option ℕ) : Type 0 where
  pub front : List ℕ
  pub rest : List ℕ
  pub reading : Reading
  pub more : List ℕ
  pub split : bytes ≡ front ++ 10 ∷ rest
  pub place : (read_from totals from front).place ≡ Going reading
  pub differs : DiffersNext reading
  pub text : Appends written written' ((read_from totals from front).text ++ more)
  pub last : IsLast status more

-- What a run comes to: it is that of the rules; and at 0 the whole run of a schedule was told.
pub record Outcome (totals : Bool) (left left' written written' : Option (List ℕ)) (source source' sink sink' status : ℕ) : Type 0 where
  pub outcome : OutcomeOfRules totals left left' written written' source source' sink sink' status
  pub traced : status ≡ 0 → IsTraced totals left left' written written'

-- the statuses of a run
abbrev pub is_status : ℕ → Bool
is_status status = is_judged status || (status == 4 || (status == 5 || (status == 8 || status == 9)))

-- What the text of the functions alone shows of a run, of which `taken` are the bytes that the source gave:
-- its outcome is that of the rules, unless somewhere in the bytes taken a step of the rules reads a page
-- that differs. Only then 8 comes. No step does (proofs/Never).
pub record OutcomeOrDifference (totals : Bool) (left left' written written' : Option (List ℕ)) (source source' sink sink' status : ℕ) : Type 0 where
  pub taken : List ℕ
  pub consumed : Consumes left left' taken
  pub known : IsTrue (is_status status)
  pub failed_source : status ≡ 4 → Rose source source'
  pub failed_sink : status ≡ 5 → Rose sink sink'
  pub runs : Outcome totals left left' written written' source source' sink sink' status ⊎ HasDiffered totals first_place taken written written' (Some status)
