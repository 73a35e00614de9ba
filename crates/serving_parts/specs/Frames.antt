-- What the next frame of an input is to a node.
use Rattle.std.specs.Prelude.{◌≡◌, ℕ, ◌≤◌, ◌⊎◌, List, [], ◌++◌, Option, Some, None, Result, Ok, Err, ⊤}
use Rattle.std.specs.Io.KnownBytes.{Consumes, IsAtEnd}
use Rattle.pcl_base.specs.Faults.{Rose}
use Rattle.pcl_base.specs.Limits.{Sizes}
use Rattle.frame_rules.specs.Frames.{Frame as frame, IsFrame}
use Rattle.frame_rules.specs.ReadFrame.{BadFrame, bad_frame, front_of, frame_of, Bad as bad_front, Whole}
use Rattle.node_frames.specs.Front.{DecidesNothing}
use Rattle.node_frames.specs.Seen.{frame_in, reason_in}
use Rattle.node_frames.specs.declared.frame.Frame.{Frame}
use Rattle.node_frames.specs.declared.fault.InputFault.{InputFault}
use Rattle.node_frames.specs.declared.fault.InputFault.TheVariants.{Bad, Source, NoMemory}

-- some bytes are a whole frame, whatever follows them, which is told
pub record IsWhole (c : Sizes) (me : ℕ) (taken : List ℕ) (r : Result frame BadFrame) : Type 0 where
  pub body : List ℕ
  pub front : (rest : List ℕ) → front_of (taken ++ rest) ≡ Whole body rest
  pub told : frame_of c me body ≡ r

-- what a body is: a frame to the node, or a bad one
abbrev pub IsTold : Sizes → ℕ → List ℕ → Result (Option Frame) InputFault → Type 0
IsTold c me body (Ok (Some f)) = (frame_of c me body ≡ Ok (frame_in f)) × IsFrame c me (frame_in f)
IsTold c me body (Ok None) = ⊥
IsTold c me body (Err (Bad place reason)) = frame_of c me body ≡ Err (bad_frame place (reason_in reason))
IsTold c me body (Err Source) = ⊥
IsTold c me body (Err NoMemory) = ⊤

-- some bytes are a bad frame: their front is one, or they are whole
abbrev pub IsBad : Sizes → ℕ → List ℕ → BadFrame → Type 0
IsBad c me taken bad = (front_of taken ≡ bad_front bad) ⊎ IsWhole c me taken (Err bad)

-- what some bytes that were taken are: a whole frame to the node, nothing at the end of the input, or a bad
-- frame; or the source failed before they decided anything, or memory is wanted
abbrev pub IsNext : Sizes → ℕ → Option (List ℕ) → ℕ → ℕ → List ℕ → Result (Option Frame) InputFault → Type 0
IsNext c me left' faults faults' taken (Ok (Some f)) = IsWhole c me taken (Ok (frame_in f)) × IsFrame c me (frame_in f)
IsNext c me left' faults faults' taken (Ok None) = (taken ≡ []) × IsAtEnd left'
IsNext c me left' faults faults' taken (Err (Bad place reason)) = IsBad c me taken (bad_frame place (reason_in reason))
IsNext c me left' faults faults' taken (Err Source) = Rose faults faults' × DecidesNothing taken
IsNext c me left' faults faults' taken (Err NoMemory) = ⊤

-- what was taken from the source, and what it is
pub record NextRead (c : Sizes) (me : ℕ) (left left' : Option (List ℕ)) (faults faults' : ℕ) (result : Result (Option Frame) InputFault) : Type 0 where
  pub taken : List ℕ
  pub consumed : Consumes left left' taken
  pub later : faults ≤ faults'
  pub next : IsNext c me left' faults faults' taken result
