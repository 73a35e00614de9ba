-- What the frame of a number comes to, where it is one to the node.
use Rattle.std.specs.Prelude.{◌≡◌, ℕ, ◌≤◌, ◌⊎◌, List, [], Option, Result, Ok, Err, IfErr, ⊤}
use Rattle.std.specs.Io.KnownBytes.{Appends}
use Rattle.pcl_base.specs.Faults.{Rose}
use Rattle.pcl_base.specs.declared.trace.Call.{Call}
use Rattle.run_rules.specs.Disk.{Disk}
use Rattle.node_rules.specs.NodeState.{NodeState, NodeEvent}
use Rattle.frame_rules.specs.Serving.{Going, Served, ends, by_step}
use Rattle.frame_rules.specs.Halting.{MayStep}
use Rattle.frame_rules.specs.WrittenFrames.{end_frame}
use Rattle.node_frames.specs.Written.{AppendsPart}
use Rattle.serving_parts.specs.declared.end.End.{End}
use Rattle.serving_parts.specs.declared.end.End.TheVariants.{Decided, Source, Sink, Memory}
use Rattle.serving_parts.specs.Sides.{Store, Outs, Tells, NoneIsToFail}
use Rattle.serving_parts.specs.Outcome.{Alike}

-- the node goes on behind what the rules give, and the text is theirs
pub record GoesOn (me : ℕ) (n : NodeState) (d : Disk) (asked : Option NodeEvent) (text : List ℕ) (later : NodeState) (old new : Store) : Type 0 where
  pub after : Disk
  pub tells : Tells new after
  pub step : by_step n d asked ≡ record { written = text; progress = Going later after }
  pub calm : NoneIsToFail me old → NoneIsToFail me new

-- the step ends serving with a line and a status
pub record EndsBy (me : ℕ) (n : NodeState) (d : Disk) (asked : Option NodeEvent) (line : List ℕ) (status : ℕ) (old new : Store) : Type 0 where
  pub after : Disk
  pub tells : Tells new after
  pub may : MayStep n d asked (ends after line status)
  pub exact : NoneIsToFail me old → Alike (ends after line status) (by_step n d asked)

-- a beginning is written of what the step may give, or nothing
pub record GivesPart (me : ℕ) (n : NodeState) (d : Disk) (asked : Option NodeEvent) (old new : Outs) : Type 0 where
  pub s : Served
  pub may : MayStep n d asked s
  pub exact : NoneIsToFail me old.store → Alike s (by_step n d asked)
  pub text : AppendsPart old.written new.written s.written

-- what a step leaves over a disk, by how it ends
abbrev pub GaveOver : {X : Type 0} → ℕ → NodeState → Disk → Option NodeEvent → NodeState → Outs → Outs → Result X End → Type 0
GaveOver me n d asked later old new (Ok x) =
    (text : List ℕ) × GoesOn me n d asked text later old.store new.store × Appends old.written new.written text
GaveOver me n d asked later old new (Err (Decided status)) =
    (line : List ℕ) × EndsBy me n d asked line status old.store new.store × Appends old.written new.written (end_frame line)
GaveOver me n d asked later old new (Err Source) = ⊥
GaveOver me n d asked later old new (Err Sink) = GivesPart me n d asked old new
GaveOver me n d asked later old new (Err Memory) = Appends old.written new.written [] ⊎ GivesPart me n d asked old new

-- why a step ended serving: a call of the storage failed, a page differs, the sink failed, or memory is wanted
abbrev pub GaveCause : Outs → Outs → End → Type 0
GaveCause old new (Decided status) =
    ((status ≡ 6) × ((c : Call) × Rose (old.store.counts c) (new.store.counts c))) ⊎ (status ≡ 10)
GaveCause old new Source = ⊥
GaveCause old new Sink = Rose old.sink new.sink
GaveCause old new Memory = ⊤

-- what a step gave
pub record Gave {X : Type 0} (me : ℕ) (n : NodeState) (asked : Option NodeEvent) (later : NodeState) (old new : Outs) (result : Result X End) : Type 0 where
  pub sink : old.sink ≤ new.sink
  pub counts : (c : Call) → old.store.counts c ≤ new.store.counts c
  pub cause : IfErr result (GaveCause old new)
  pub over : (d : Disk) → Tells old.store d → GaveOver me n d asked later old new result
