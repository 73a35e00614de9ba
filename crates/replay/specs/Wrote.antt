-- What a part of a run reads and writes.
use Rattle.std.specs.Prelude.{◌≡◌, ℕ, ◌≤◌, ◌⊎◌, List, Option, None, Result, Ok, Err, OnOk, OnErr, IfErr}
use Rattle.std.specs.Io.KnownBytes.{Appends, Consumes}
use Rattle.pcl_base.specs.Faults.{Rose}
use Rattle.replay_rules.specs.Due.{read_from, at_end}
use Rattle.replay_rules.specs.Due.Place.{Going}
use Rattle.replay_rules.specs.Outcome.{AppendsPart}
use Rattle.replay.specs.declared.ends.Fault.{Fault}
use Rattle.replay.specs.declared.ends.Fault.TheVariants.{Source, Sink, Memory}
use Rattle.replay.specs.Outcome.{HasDiffered}
use Rattle.replay.specs.ReaderView.{ReaderView, HasCounts, place_of}
use Rattle.replay.specs.Told.{IsRuleStop}

-- the sink failed, or memory ran out
abbrev pub IsWriteFault : ℕ → ℕ → Fault → Type 0
IsWriteFault sink sink' Source = ⊥
IsWriteFault sink sink' Sink = Rose sink sink'
IsWriteFault sink sink' Memory = Unit {0}

-- the count of the sink never falls, and a fault is that of the sink or of memory
pub record HasBlame {X : Type 0} (sink sink' : ℕ) (result : Result X Fault) : Type 0 where
  pub later : sink ≤ sink'
  pub cause : IfErr result (IsWriteFault sink sink')

-- the whole text was written, or a beginning of it and then there was a fault
pub record Wrote {X : Type 0} (old new : Option (List ℕ)) (text : List ℕ) (result : Result X Fault) : Type 0 where
  pub whole : OnOk result (Appends old new text)
  pub part : OnErr result (AppendsPart old new text)

-- bytes were read as the rules say, and their text was written
pub record GoesOn (v : ReaderView) (bytes : List ℕ) (written written' : Option (List ℕ)) (status : Option ℕ) (w : ReaderView) : Type 0 where
  pub place : (read_from v.totals (Going v.reading) bytes).place ≡ place_of status w.reading
  pub text : Appends written written' (read_from v.totals (Going v.reading) bytes).text
  pub stop : IsRuleStop status
  pub totals : w.totals ≡ v.totals
  pub counts : HasCounts v → HasCounts w

-- bytes were read, as the rules say or with a page that differs
abbrev pub Went : ReaderView → List ℕ → Option (List ℕ) → Option (List ℕ) → Option ℕ → ReaderView → Type 0
Went v bytes written written' status w =
    GoesOn v bytes written written' status w ⊎ HasDiffered v.totals (Going v.reading) bytes written written' status

-- a fault came while bytes were read
abbrev pub Broke : ReaderView → List ℕ → Option (List ℕ) → Option (List ℕ) → Type 0
Broke v bytes written written' =
    AppendsPart written written' (read_from v.totals (Going v.reading) bytes).text
    ⊎ HasDiffered v.totals (Going v.reading) bytes written written' None

-- what became of some bytes
abbrev pub Took : ReaderView → List ℕ → Option (List ℕ) → Option (List ℕ) → Result (Option ℕ) Fault → ReaderView → Type 0
Took v bytes written written' (Ok status) w = Went v bytes written written' status w
Took v bytes written written' (Err fault) w = Broke v bytes written written'

-- what became of the end of the input: some text was written, which is due where the counts are those of
-- the trace
pub record Closes (v : ReaderView) (written written' : Option (List ℕ)) (result : Result ℕ Fault) : Type 0 where
  pub text : List ℕ
  pub wrote : Wrote written written' text result
  pub due : HasCounts v → text ≡ (at_end v.totals (Going v.reading)).text

-- bytes were read so far, and reading goes on
pub record Reached (v : ReaderView) (left left' written written' : Option (List ℕ)) (source source' sink sink' : ℕ) (w : ReaderView) : Type 0 where
  pub taken : List ℕ
  pub consumed : Consumes left left' taken
  pub went : Went v taken written written' None w
  pub later_source : source ≤ source'
  pub later_sink : sink ≤ sink'

-- the status of a run
abbrev pub status_of : Result ℕ Fault → ℕ
status_of (Ok status) = status
status_of (Err Source) = 4
status_of (Err Sink) = 5
status_of (Err Memory) = 9
