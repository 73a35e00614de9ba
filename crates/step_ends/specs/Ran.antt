-- What a step of a node comes to, where the storage tells its pages, its logs and its stops.
use Rattle.std.specs.Prelude.{◌≡◌, ℕ, List, ◌++◌, length, Option, Some, None, Result, Ok, Err, ⊤, slice_index_or, slice_set, IsSome}
use Rattle.std.specs.Option.{option_map}
use Rattle.pcl_base.specs.declared.reply.Reply.{Reply}
use Rattle.pcl_base.specs.declared.trace.Call.{Call}
use Rattle.pcl_base.specs.declared.tx.TxId.{TxId}
use Rattle.run_rules.specs.Disk.{Disk}
use Rattle.disk_model.specs.declared.stop.Stop.{Stop}
use Rattle.disk_model.specs.Stops.{Stops}
use Rattle.node_rules.specs.NodeState.{NodeState, Outgoing}
use Rattle.node_rules.specs.DiskCalls.{Left, all_done}
use Rattle.node_rules.specs.Work.{Outcome, Goes, Differs as differs}
use Rattle.node_rules.specs.NodeStep.{Plan}
use Rattle.cluster_rules.specs.ClusterStep.{left_of}
use Rattle.home.specs.CallLaws.{told_on, rule_stop, nearer}
use Rattle.home.specs.Device.{Told}
use Rattle.node_parts.specs.declared.fault.StepFault.{StepFault}
use Rattle.node_parts.specs.declared.fault.StepFault.TheVariants.{NoMemory, Halted, Differs}

-- a node, its replies and sends, and what its storage tells
pub record Stand : Type 0 where
  pub node : NodeState
  pub replies : List Reply
  pub sends : List Outgoing
  pub told : Told

-- the armed stop of a node
abbrev pub armed_at : List (Option Stop) → ℕ → Option Stop
armed_at stops n = slice_index_or stops n None

-- the stops once a node has made so many calls: its own is nearer
abbrev pub stops_after : List (Option Stop) → ℕ → ℕ → List (Option Stop)
stops_after stops n calls = slice_set stops n (option_map (λ s. nearer s calls) (armed_at stops n))

-- a plan that was carried out
pub record IsMade (me : ℕ) (d : Disk) (stops : List (Option Stop)) (p : Plan) (before after : Stand) : Type 0 where
  pub node : after.node ≡ p.node
  pub replies : after.replies ≡ before.replies ++ p.replies
  pub sends : after.sends ≡ before.sends ++ p.sends
  pub told : after.told ≡ told_on (all_done me d p.calls) (Some (stops_after stops me (length p.calls)))

-- a plan that a stop has ended, which is gone then
pub record IsHalted (me : ℕ) (stops : List (Option Stop)) (l : Left) (call : Call) (kept : Option TxId) (after : Stand) : Type 0 where
  pub same_call : call ≡ l.call
  pub same_kept : kept ≡ l.kept
  pub told : after.told ≡ told_on l.disk (Some (slice_set stops me None))

-- a plan is carried out, or ended by what a stop leaves of it; memory may be wanted before
abbrev pub RanPlan : {T : Type 0} → ℕ → Disk → List (Option Stop) → Plan → Option Left → Result T StepFault → Stand → Stand → Type 0
RanPlan me d stops p None (Ok x) before after = IsMade me d stops p before after
RanPlan me d stops p (Some l) (Ok x) before after = ⊥
RanPlan me d stops p None (Err (Halted call kept)) before after = ⊥
RanPlan me d stops p (Some l) (Err (Halted call kept)) before after = IsHalted me stops l call kept after
RanPlan me d stops p o (Err (Differs page expected found)) before after = ⊥
RanPlan me d stops p o (Err NoMemory) before after = ⊤

-- where a page that the plan reads differs, the step says so with the same numbers, or is ended by a stop at
-- a call before the reading; memory may be wanted before
abbrev pub RanNot : {T : Type 0} → Option Stop → ℕ → ℕ → ℕ → Result T StepFault → Type 0
RanNot stop p e f (Ok x) = ⊥
RanNot stop p e f (Err (Halted call kept)) = IsSome stop
RanNot stop p e f (Err (Differs page expected found)) = (p ≡ page) × (e ≡ expected) × (f ≡ found)
RanNot stop p e f (Err NoMemory) = ⊤

-- a step comes to its plan
abbrev pub Ran : {T : Type 0} → ℕ → Disk → List (Option Stop) → Outcome Plan → Result T StepFault → Stand → Stand → Type 0
Ran me d stops (Goes p) result before after =
    RanPlan me d stops p (left_of me d p.calls (option_map rule_stop (armed_at stops me))) result before after
Ran me d stops (differs p e f) result before after = RanNot (armed_at stops me) p e f result

-- of the armed stops, where they are told, only that of node n may have changed
abbrev pub OthersStayArmed : ℕ → Stops → Stops → Type 0
OthersStayArmed n old new = (l : List (Option Stop)) → old ≡ Some l → (s : Option Stop) × (new ≡ Some (slice_set l n s))
