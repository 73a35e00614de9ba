-- The laws of how a step ends, by what became of its changing calls.
use Rattle.std.specs.Prelude.{◌≡◌, ℕ, List, ◌++◌, Option, Some, None, Ok, Err, IsSome, IfSome}
use Rattle.std.specs.Option.{option_map}
use Rattle.pcl_base.specs.declared.trace.Call.{Call}
use Rattle.pcl_base.specs.declared.tx.TxId.{TxId}
use Rattle.run_rules.specs.Disk.{Disk}
use Rattle.disk_model.specs.declared.stop.Stop.{Stop}
use Rattle.node_rules.specs.DiskCalls.{DiskCall}
use Rattle.node_rules.specs.NodeStep.{Plan}
use Rattle.node_rules.specs.Work.{Goes}
use Rattle.cluster_rules.specs.ClusterStep.{left_of}
use Rattle.home.specs.CallLaws.{told_on, rule_stop}
use Rattle.home.specs.Device.{Told, Made}
use Rattle.node_parts.specs.declared.fault.StepFault.TheVariants.{Halted}
use Rattle.step_ends.specs.Ran.{Stand, Ran, OthersStayArmed, armed_at}

-- a step whose changing calls are all made, and which gave what its plan gives, is carried out
abbrev pub MadeIsRan : Type 0
MadeIsRan =
    (me : ℕ) (d : Disk) (stops : List (Option Stop)) (p : Plan) (before after : Stand) → after.node ≡ p.node
    → after.replies ≡ before.replies ++ p.replies → after.sends ≡ before.sends ++ p.sends
    → Made me p.calls (told_on d (Some stops)) None after.told → Ran {T = Unit {0}} me d stops (Goes p) (Ok tt) before after

-- the transaction whose whole record an armed stop leaves, if it comes due in these calls
abbrev pub KeepsTx : ℕ → Disk → List DiskCall → List (Option Stop) → Option TxId → Type 0
KeepsTx me d calls stops kept = IfSome (left_of me d calls (option_map rule_stop (armed_at stops me))) (λ l. kept ≡ l.kept)

-- a step of which a changing call failed is ended by the armed stop
abbrev pub FailedIsHalted : Type 0
FailedIsHalted =
    (me : ℕ) (d : Disk) (stops : List (Option Stop)) (p : Plan) (k : Call) (kept : Option TxId) (before after : Stand)
    → Made me p.calls (told_on d (Some stops)) (Some k) after.told → KeepsTx me d p.calls stops kept
    → Ran {T = Unit {0}} me d stops (Goes p) (Err (Halted k kept)) before after

-- a changing call fails only where a stop is armed
abbrev pub FailedIsArmed : Type 0
FailedIsArmed =
    (me : ℕ) (calls : List DiskCall) (d : Disk) (stops : List (Option Stop)) (k : Call) (new : Told)
    → Made me calls (told_on d (Some stops)) (Some k) new → IsSome (armed_at stops me)

-- changing calls of a node leave the stops of others
abbrev pub OthersAreLeft : Type 0
OthersAreLeft = (me : ℕ) (calls : List DiskCall) (old : Told) (o : Option Call) (new : Told) → Made me calls old o new → OthersStayArmed me old.stops new.stops
