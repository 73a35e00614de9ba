-- What is written of a generated schedule.
use Rattle.std.specs.Prelude.{◌≡◌, ℕ, ◌≤◌, ◌⊎◌, List, ◌++◌, Option, Result, OnOk, OnErr, IfErr}
use Rattle.std.specs.List.{flat_map}
use Rattle.std.specs.Io.KnownBytes.{Appends}
use Rattle.pcl_base.specs.Faults.{Rose}
use Rattle.pcl_base.specs.declared.event.Event.{Event}
use Rattle.text_rules.specs.ScheduleLine.{line_of}
use Rattle.text_rules.specs.TraceText.{ended}
use Rattle.replay_rules.specs.Outcome.{AppendsPart}
use Rattle.pcl_cli.specs.declared.make.Stop.{Stop}
use Rattle.pcl_cli.specs.declared.make.Stop.TheVariants.{Sink, Memory}

-- the lines of some events
abbrev pub lines_of : List Event → List ℕ
lines_of events = flat_map (λ e. ended (line_of e)) events

-- of the text a part was appended, and the rest is kept to be written
pub record Passes (old new : Option (List ℕ)) (text rest : List ℕ) : Type 0 where
  pub piece : List ℕ
  pub written : Appends old new piece
  pub whole : text ≡ piece ++ rest

-- the sink failed, or memory ran out
abbrev pub IsCause : ℕ → ℕ → Stop → Type 0
IsCause sink sink' Sink = Rose sink sink'
IsCause sink sink' Memory = Unit {0}

-- a text was passed on, with a rest that is kept, or a beginning of it was written
pub record Passed {X : Type 0} (old new : Option (List ℕ)) (sink sink' : ℕ) (text rest : List ℕ) (result : Result X Stop) : Type 0 where
  pub later : sink ≤ sink'
  pub ok : OnOk result (Passes old new text rest)
  pub err : OnErr result (AppendsPart old new text)
  pub cause : IfErr result (IsCause sink sink')

-- The outcome of making a schedule of this text: at 0 it was written; 5 comes only where the sink
-- failed; at 5 and at 9, want of memory, a beginning of it was written.
pub record IsMade (written written' : Option (List ℕ)) (sink sink' status : ℕ) (text : List ℕ) : Type 0 where
  pub later : sink ≤ sink'
  pub told : (status ≡ 0 × Appends written written' text) ⊎ ((status ≡ 5 × Rose sink sink' × AppendsPart written written' text) ⊎ (status ≡ 9 × AppendsPart written written' text))
