-- One node over frames where calls of the storage may fail: what it may write, frame by frame, with the
-- status and what is on disk then.
use Rattle.std.specs.Prelude.{◌≡◌, ℕ, zero, suc, ◌+◌, ◌⊎◌, List, take, Option, Some, None, Result, Ok, Err}
use Rattle.std.specs.List.{fold}
use Rattle.pcl_base.specs.Limits.{Sizes}
use Rattle.pcl_base.specs.declared.trace.Call.TheVariants as call
use Rattle.pcl_base.specs.declared.trace.Halt.{Halt}
use Rattle.run_rules.specs.Disk.{Disk}
use Rattle.node_rules.specs.NodeState.{NodeState, NodeEvent, number_of, start_node}
use Rattle.node_rules.specs.DiskCalls.{DiskCall, Stop, Left, all_done, forced, left_by}
use Rattle.node_rules.specs.Work.{Outcome, Goes, Differs}
use Rattle.node_rules.specs.NodeStep.{Plan, nodestep}
use Rattle.frame_rules.specs.Frames.{Frame, step_of}
use Rattle.frame_rules.specs.ReadFrame.{BadFrame, Front, AtEnd, Bad, Whole, front_of, frame_of}
use Rattle.frame_rules.specs.WrittenFrames.{bad_frame_text, differs_text, halted_text}
use Rattle.frame_rules.specs.Serving.{Progress, Going, Ended, Served, ends, by_plan, by_step, by_frame, at_end, joined, serve_from}

-- a reading call of node n failed behind some of the step's changing calls: these are done, and the
-- halt names the transaction whose record they appended
pub record ReadFailed (n : ℕ) (d : Disk) (calls : List DiskCall) (h : Halt) (after : Disk) : Type 0 where
  pub reading : (h.call ≡ call.Read) ⊎ (h.call ≡ call.Log)
  pub count : ℕ
  pub disk : after ≡ all_done n d (take count calls)
  pub kept : h.kept ≡ fold forced None (take count calls)

-- a changing call of node n failed: those before it are done, and it is undone or done, or in part
-- where it is a force; the halt names it, and no transaction but one whose whole record was appended
pub record ChangeFailed (n : ℕ) (d : Disk) (calls : List DiskCall) (h : Halt) (after : Disk) : Type 0 where
  pub stop : Stop
  pub left : Left
  pub leaves : left_by n d calls stop ≡ Some left
  pub disk : after ≡ left.disk
  pub call : h.call ≡ left.call
  pub kept : (h.kept ≡ left.kept) ⊎ (h.kept ≡ None)

-- a failed call ends a step with these changing calls, and serving with status 6
pub record Halts (n : ℕ) (d : Disk) (calls : List DiskCall) (s : Served) : Type 0 where
  pub halt : Halt
  pub after : Disk
  pub line : s ≡ ends after (halted_text halt) 6
  pub failed : ReadFailed n d calls halt after ⊎ ChangeFailed n d calls halt after

-- what a step may give; one that differs may have done some calls before
abbrev pub MayPlan : NodeState → Disk → Outcome Plan → Served → Type 0
MayPlan n d (Goes p) s = (s ≡ by_plan n d (Goes p)) ⊎ Halts (number_of n) d p.calls s
MayPlan n d (Differs page expected found) s =
    (calls : List DiskCall)
    × ((s ≡ ends (all_done (number_of n) d calls) (differs_text page expected found) 10) ⊎ Halts (number_of n) d calls s)

-- what a frame may give that asks for a step, or names another node
abbrev pub MayStep : NodeState → Disk → Option NodeEvent → Served → Type 0
MayStep n d (Some event) s = MayPlan n d (nodestep n event d) s
MayStep n d None s = s ≡ by_step n d None

-- what the frame of a number may give
abbrev pub MayFrame : ℕ → NodeState → Disk → Result Frame BadFrame → Served → Type 0
MayFrame number n d (Ok f) s = MayStep n d (step_of (number_of n) f) s
MayFrame number n d (Err bad) s = s ≡ by_frame number n d (Err bad)

-- what may be served behind what was written, where serving goes on
abbrev pub MayGoOn : List ℕ → Progress → (NodeState → Disk → Served → Type 0) → Served → Type 0
MayGoOn written (Going n d) go s = (others : Served) × go n d others × (s ≡ joined written others)
MayGoOn written (Ended status d) go s = s ≡ record { written = written; progress = Ended status d }

-- what the front of the bytes may give, and then what is left behind it
abbrev pub MayFront : ℕ → NodeState → Disk → Front → (List ℕ → NodeState → Disk → Served → Type 0) → Served → Type 0
MayFront number n d AtEnd go s = s ≡ at_end d
MayFront number n d (Bad bad) go s = s ≡ ends d (bad_frame_text number bad) 3
MayFront number n d (Whole body left) go s =
    (first : Served)
    × MayFrame number n d (frame_of n.home.config (number_of n) body) first
    × MayGoOn first.written first.progress (go left) s

-- at most so many frames of the bytes that are left; the first of them has a number
unfoldable pub MayServe : ℕ → ℕ → List ℕ → NodeState → Disk → Served → Type 0
MayServe zero number bytes n d s = s ≡ serve_from zero number bytes n d
MayServe (suc most) number bytes n d s = MayFront number n d (front_of bytes) (MayServe most (number + 1)) s

-- one node of a cluster, in no view at first, over what is on disk
abbrev pub MayBeServed : Sizes → ℕ → ℕ → Disk → List ℕ → Served → Type 0
MayBeServed c me most d input s = MayServe most 1 input (start_node c me 0) d s
