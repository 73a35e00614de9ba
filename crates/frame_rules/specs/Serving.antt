-- One node over frames: what it writes for its input, frame by frame, and the status.
use Rattle.std.specs.Prelude.{ℕ, zero, suc, ◌+◌, List, [], ◌∷◌, ◌++◌, Option, Some, None, Result, Ok, Err}
use Rattle.pcl_base.specs.Limits.{Sizes}
use Rattle.run_rules.specs.Disk.{Disk}
use Rattle.node_rules.specs.NodeState.{NodeState, NodeEvent, number_of, start_node}
use Rattle.node_rules.specs.DiskCalls.{all_done}
use Rattle.node_rules.specs.Work.{Outcome, Goes, Differs}
use Rattle.node_rules.specs.NodeStep.{Plan, nodestep}
use Rattle.frame_rules.specs.Frames.{Frame, step_of}
use Rattle.frame_rules.specs.ReadFrame.{BadFrame, Front, AtEnd, Bad, Whole, front_of, frame_of}
use Rattle.frame_rules.specs.WrittenFrames.{step_frames, other_node_frame, end_frame, bad_frame_text, differs_text, long_text}

-- a node that goes on, or the status with which serving has ended, each with what is on disk
pub data Progress : Type 0 where
  Going : NodeState → Disk → Progress
  Ended : ℕ → Disk → Progress

-- what was written, and how far serving has come by it
pub record Served : Type 0 where
  pub written : List ℕ
  pub progress : Progress

-- a last line with its status
abbrev pub ends : Disk → List ℕ → ℕ → Served
ends d line status = record { written = end_frame line; progress = Ended status d }

-- what a step gives; where a page that is read differs, the disk is left as it was before the step
abbrev pub by_plan : NodeState → Disk → Outcome Plan → Served
by_plan n d (Goes p) =
    record { written = step_frames p.replies p.sends; progress = Going p.node (all_done (number_of n) d p.calls) }
by_plan n d (Differs page expected found) = ends d (differs_text page expected found) 10

-- what a frame gives that asks for a step, or names another node
abbrev pub by_step : NodeState → Disk → Option NodeEvent → Served
by_step n d (Some event) = by_plan n d (nodestep n event d)
by_step n d None = record { written = other_node_frame; progress = Going n d }

-- what the frame of a number gives
abbrev pub by_frame : ℕ → NodeState → Disk → Result Frame BadFrame → Served
by_frame number n d (Ok f) = by_step n d (step_of (number_of n) f)
by_frame number n d (Err bad) = ends d (bad_frame_text number bad) 3

-- the end of the input
abbrev pub at_end : Disk → Served
at_end d = record { written = []; progress = Ended 0 d }

-- one after the other
abbrev pub joined : List ℕ → Served → Served
joined written s = record s { written = written ++ s.written }

-- what follows where serving goes on
abbrev pub from_progress : Progress → (NodeState → Disk → Served) → Served
from_progress (Going n d) go = go n d
from_progress (Ended status d) go = record { written = []; progress = Ended status d }

abbrev pub and_on : Served → (NodeState → Disk → Served) → Served
and_on s go = joined s.written (from_progress s.progress go)

-- what the front of the bytes gives, and then what is left behind it
abbrev pub by_front : ℕ → NodeState → Disk → Front → (List ℕ → NodeState → Disk → Served) → Served
by_front number n d AtEnd go = at_end d
by_front number n d (Bad bad) go = ends d (bad_frame_text number bad) 3
by_front number n d (Whole body left) go =
    and_on (by_frame number n d (frame_of n.home.config (number_of n) body)) (go left)

-- at most so many frames of the bytes that are left; the first of them has a number
unfoldable pub serve_from : ℕ → ℕ → List ℕ → NodeState → Disk → Served
serve_from zero number [] n d = at_end d
serve_from zero number (b ∷ bytes) n d = ends d (long_text number) 7
serve_from (suc most) number bytes n d = by_front number n d (front_of bytes) (serve_from most (number + 1))

-- one node of a cluster, in no view at first, over what is on disk; no call of the storage fails
abbrev pub served : Sizes → ℕ → ℕ → Disk → List ℕ → Served
served c me most d input = serve_from most 1 input (start_node c me 0) d
