-- The machine that gives the events of a schedule, one after the other.
use Rattle.std.specs.Prelude.{◌≡◌, Bool, true, false, ◌+◌, ◌-◌, ◌≤◌, ◌<◌, List, [], ◌∷◌, ◌++◌, length, take, Option, Some, None}
use Rattle.std.specs.List.{AllByRecursion}
use Rattle.pcl_base.specs.Limits.{InLimits}
use Rattle.pcl_base.specs.declared.event.Event.{Event}
use Rattle.text_rules.specs.ScheduleLine.{HasTx, HasLine}
use Rattle.text_rules.specs.Generator.{Making}
use Rattle.schedule_gen.specs.declared.machine.Machine.{Machine}
use Rattle.schedule_gen.specs.declared.stage.Turn.{Turn}
use Rattle.schedule_gen.specs.declared.stage.Turn.TheVariants.{First, Second, Third}
use Rattle.schedule_gen.specs.declared.stage.Stage.{Stage}
use Rattle.schedule_gen.specs.declared.stage.Stage.TheVariants.{BeginFirst, BeginSecond, AccessFirst, AccessSecond, Crash, View, Install, CommitFirst, AbortFirst, CommitSecond, AbortSecond}
use Rattle.schedule_gen.specs.Links.{links_of, delivered}
use Rattle.schedule_gen.specs.Rest.{Round, rest, is_due}

-- the round that goes on; at most as many rounds come after it as lines are asked for
abbrev pub round_of : Machine → Round
round_of m = record { sizes = m.config; number = m.rounds; later = m.lines - m.rounds; first = m.first; second = m.second }

-- the events that would follow, and those of them that are asked for
abbrev pub following : Machine → List Event
following m = delivered m.sweeps.due ++ rest (round_of m) m.stage m.kept

abbrev pub left : Machine → List Event
left m = take (m.lines - m.given) (following m)

-- the stage after a turn
abbrev pub stage_if : Bool → Stage
stage_if true = Crash
stage_if false = AccessFirst Second

abbrev pub stage_after : Machine → Turn → Stage
stage_after m First = stage_if (is_due (round_of m) m.kept)
stage_after m Second = AccessFirst Third
stage_after m Third = CommitFirst

-- what a stage needs of what is kept
abbrev pub IsStage : Stage → Making → Type 0
IsStage BeginFirst s = Unit {0}
IsStage (BeginSecond node) s = node < length s.serials
IsStage (AccessFirst turn) s = Unit {0}
IsStage (AccessSecond turn) s = Unit {0}
IsStage Crash s = 2 ≤ length s.live
IsStage View s = Unit {0}
IsStage (Install place) s = place < length s.live
IsStage CommitFirst s = Unit {0}
IsStage AbortFirst s = Unit {0}
IsStage CommitSecond s = Unit {0}
IsStage AbortSecond s = Unit {0}

-- what holds of the machine between two events
pub record IsSound (m : Machine) : Type 0 where
  pub limits : InLimits m.config
  pub nodes : m.config.nodes ≡ length m.kept.serials
  pub rounds : m.rounds ≤ m.given
  pub given : m.given ≤ m.lines
  pub lines : m.lines ≤ 4294967295
  pub serials : AllByRecursion (λ n. n ≤ m.given) m.kept.serials
  pub sweep : m.sweeps.sweep ≡ links_of m.kept.live
  pub first : HasTx m.first
  pub second : HasTx m.second
  pub stage : IsStage m.stage m.kept

-- at a stage whose event is next: one more is asked for, and no delivery is due before it
pub record IsAt (stage : Stage) (m : Machine) : Type 0 where
  pub sound : IsSound m
  pub more : m.given < m.lines
  pub none_due : m.sweeps.due ≡ []
  pub here : m.stage ≡ stage

-- the event that follows is given
pub record Gives (before after : Machine) (event : Event) : Type 0 where
  pub following : following before ≡ event ∷ following after
  pub given : after.given ≡ before.given + 1
  pub lines : after.lines ≡ before.lines
  pub sound : IsSound after
  pub has_line : HasLine event

-- a delivery that is due is given
abbrev pub Delivers : Machine → Machine → Option Event → Type 0
Delivers before after (Some event) = Gives before after event
Delivers before after None = (after ≡ before) × (before.sweeps.due ≡ [])
