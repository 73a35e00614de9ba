-- What was written is read again.
use Rattle.std.specs.Prelude.{◌≡◌, ℕ, ◌<◌, ◌≤◌, ◌^◌, List, ◌++◌, length, Ok, ⊤}
use Rattle.pcl_base.specs.Limits.{Sizes, InLimits}
use Rattle.messages.specs.Laws.{IsBodyOfTypes}
use Rattle.frame_rules.specs.Frames.{Frame, LineFrame, MessageFrame, ViewFrame, IsFrame, body_bytes, frame_bytes, most_length}
use Rattle.frame_rules.specs.ReadFrame.{Whole, front_of, frame_of}

-- the numbers of a frame's message are of their types
abbrev pub IsFrameOfTypes : Frame → Type 0
IsFrameOfTypes (LineFrame e) = ⊤
IsFrameOfTypes (MessageFrame from m) = (m.epoch < 2 ^ 32) × IsBodyOfTypes m.body
IsFrameOfTypes (ViewFrame v) = ⊤

-- the body of a frame of the grammar is that frame
abbrev pub BodiesReadAgain : Type 0
BodiesReadAgain =
    (c : Sizes) (me : ℕ) (f : Frame) → InLimits c → me < c.nodes → IsFrame c me f → IsFrameOfTypes f
    → frame_of c me (body_bytes f) ≡ Ok f

-- bytes that begin with a frame that isn't too long begin with its body, and then what follows it
abbrev pub FramesReadAgain : Type 0
FramesReadAgain =
    (f : Frame) (rest : List ℕ) → length (body_bytes f) ≤ most_length → front_of (frame_bytes f ++ rest) ≡ Whole (body_bytes f) rest
