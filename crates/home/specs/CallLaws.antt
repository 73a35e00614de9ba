-- The laws of changing calls that are made.
use Rattle.std.specs.Prelude.{◌≡◌, ℕ, ◌-◌, List, ◌++◌, length, Option, Some, None, slice_index_or, slice_set}
use Rattle.pcl_base.specs.declared.trace.Call.{Call}
use Rattle.run_rules.specs.Disk.{Disk}
use Rattle.disk_model.specs.declared.stop.Stop.{Stop}
use Rattle.disk_model.specs.Stops.{Stops}
use Rattle.node_rules.specs.DiskCalls.{DiskCall, Stop as RuleStop, Left, all_done, left_by}
use Rattle.home.specs.Device.{Told, told_by, Made}

-- what is told where a disk is told, and perhaps the stops
abbrev pub told_on : Disk → Stops → Told
told_on d stops = told_by (Some d.pages) (Some d.logs) stops

-- an armed stop as the rules count it: by the calls before the one that it stops
abbrev pub rule_stop : Stop → RuleStop
rule_stop s = record { before = s.call - 1; kept = s.kept }

-- a stop that is so many calls nearer
abbrev pub nearer : Stop → ℕ → Stop
nearer s n = record s { call = s.call - n }

-- two lists of calls that are made one after the other are made as one; after one that failed none of
-- the second is made
abbrev pub CallsJoin : Type 0
CallsJoin =
    (n : ℕ) (xs ys : List DiskCall) (old mid : Told) (o : Option Call) (new : Told) → Made n xs old None mid
    → Made n ys mid o new → Made n (xs ++ ys) old o new

abbrev pub NoneFollows : Type 0
NoneFollows =
    (n : ℕ) (xs ys : List DiskCall) (old : Told) (k : Call) (new : Told) → Made n xs old (Some k) new
    → Made n (xs ++ ys) old (Some k) new

-- without an armed stop all calls are done, and the stops stay
abbrev pub UnstoppedAreDone : Type 0
UnstoppedAreDone =
    (n : ℕ) (calls : List DiskCall) (d : Disk) (stops : List (Option Stop)) (o : Option Call) (new : Told)
    → slice_index_or stops n None ≡ None → Made n calls (told_on d (Some stops)) o new
    → (o ≡ None) × (new ≡ told_on (all_done n d calls) (Some stops))

-- calls are all done where the armed stop is behind them, and it is nearer by their number then
abbrev pub ArmedAreDone : Type 0
ArmedAreDone =
    (n : ℕ) (calls : List DiskCall) (d : Disk) (stops : List (Option Stop)) (s : Stop) (new : Told)
    → slice_index_or stops n None ≡ Some s → Made n calls (told_on d (Some stops)) None new
    → (left_by n d calls (rule_stop s) ≡ None)
    × (new ≡ told_on (all_done n d calls) (Some (slice_set stops n (Some (nearer s (length calls))))))

-- one of them failed where the armed stop is at it, which leaves what the rules say, and is gone then
abbrev pub ArmedAreStopped : Type 0
ArmedAreStopped =
    (n : ℕ) (calls : List DiskCall) (d : Disk) (stops : List (Option Stop)) (s : Stop) (k : Call) (new : Told)
    → slice_index_or stops n None ≡ Some s → Made n calls (told_on d (Some stops)) (Some k) new
    → (l : Left) × (left_by n d calls (rule_stop s) ≡ Some l) × (l.call ≡ k)
    × (new ≡ told_on l.disk (Some (slice_set stops n None)))

-- whatever is told of stops, calls that are all done leave the disk of the rules, and where one failed
-- there is a stop that leaves what it leaves
abbrev pub DoneAreAll : Type 0
DoneAreAll =
    (n : ℕ) (calls : List DiskCall) (d : Disk) (stops : Stops) (new : Told) → Made n calls (told_on d stops) None new
    → new ≡ told_on (all_done n d calls) new.stops

abbrev pub FailedAreStopped : Type 0
FailedAreStopped =
    (n : ℕ) (calls : List DiskCall) (d : Disk) (stops : Stops) (k : Call) (new : Told)
    → Made n calls (told_on d stops) (Some k) new
    → (s : RuleStop) × (l : Left) × (left_by n d calls s ≡ Some l) × (l.call ≡ k) × (new ≡ told_on l.disk new.stops)
