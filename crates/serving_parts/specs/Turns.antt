-- How serving goes on and ends, from any frame on.
use Rattle.std.specs.Prelude.{◌≡◌, ℕ, ◌≤◌, List, ◌++◌, Result, Ok, Err, IsTrue, ⊤}
use Rattle.std.specs.Io.KnownBytes.{Appends, Consumes, IsAtEnd}
use Rattle.pcl_base.specs.Faults.{Rose}
use Rattle.pcl_base.specs.declared.trace.Call.{Call}
use Rattle.run_rules.specs.Disk.{Disk}
use Rattle.frame_rules.specs.Serving.{Served, joined}
use Rattle.serving_parts.specs.declared.end.End.{End}
use Rattle.serving_parts.specs.declared.end.End.TheVariants.{Decided, Source, Sink, Memory}
use Rattle.serving_parts.specs.Sides.{Sides, Tells, NoneIsToFail}
use Rattle.serving_parts.specs.Outcome.{Link, MayBe, due, IsOver, IsUnread, WritesPart, is_served}

-- the status of an end
abbrev pub status_of : End → ℕ
status_of (Decided status) = status
status_of Source = 4
status_of Sink = 5
status_of Memory = 9

-- why serving ended
abbrev pub EndCause : Sides → Sides → End → Type 0
EndCause old new (Decided status) =
    IsTrue (is_served status)
    × (status ≡ 0 → IsAtEnd new.left)
    × (status ≡ 6 → (c : Call) × Rose (old.outs.store.counts c) (new.outs.store.counts c))
EndCause old new Source = Rose old.source new.source
EndCause old new Sink = Rose old.outs.sink new.outs.sink
EndCause old new Memory = ⊤

-- what an end leaves over a disk
abbrev pub EndOver : Link → Disk → Sides → Sides → List ℕ → End → Type 0
EndOver k d old new taken (Decided status) = IsOver k d old new taken status
EndOver k d old new taken Source = IsUnread k d old new taken
EndOver k d old new taken Sink = WritesPart k d old new taken
EndOver k d old new taken Memory = WritesPart k d old new taken

-- serving ended
pub record Ran (k : Link) (old new : Sides) (end : End) : Type 0 where
  pub taken : List ℕ
  pub consumed : Consumes old.left new.left taken
  pub cause : EndCause old new end
  pub over : (d : Disk) → Tells old.outs.store d → EndOver k d old new taken end

-- a node has come over a disk from one link to another by some bytes: what may be served of whatever follows
-- them may be served behind what was written, and what the rules serve of it they serve of all
pub record Reached (k later : Link) (old new : Sides) (taken : List ℕ) (d : Disk) : Type 0 where
  pub after : Disk
  pub tells : Tells new.outs.store after
  pub written : List ℕ
  pub text : Appends old.outs.written new.outs.written written
  pub may : (rest : List ℕ) (s : Served) → MayBe later after rest s → MayBe k d (taken ++ rest) (joined written s)
  pub exact : (rest : List ℕ) → due k d (taken ++ rest) ≡ joined written (due later after rest)
  pub calm : NoneIsToFail k.me old.outs.store → NoneIsToFail later.me new.outs.store

-- serving has come from one link to another, and goes on
pub record Moves (k later : Link) (old new : Sides) : Type 0 where
  pub taken : List ℕ
  pub consumed : Consumes old.left new.left taken
  pub source : old.source ≤ new.source
  pub sink : old.outs.sink ≤ new.outs.sink
  pub counts : (c : Call) → old.outs.store.counts c ≤ new.outs.store.counts c
  pub reached : (d : Disk) → Tells old.outs.store d → Reached k later old new taken d

-- a frame lets serving go on at another link, or it ends
abbrev pub Turned : {X : Type 0} → Link → Link → Sides → Sides → Result X End → Type 0
Turned k later old new (Ok x) = Moves k later old new
Turned k later old new (Err end) = Ran k old new end
