-- What reading from a source takes and tells.
use Rattle.std.specs.Prelude.{◌≡◌, ℕ, ◌+◌, ◌<◌, ◌≤◌, ◌⊎◌, Bool, true, false, List, [], ◌∷◌, ◌++◌, length, Option, Some, None, Result, Ok, Err, OnOk, IfErr, ⊤}
use Rattle.std.specs.Io.KnownBytes.{Consumes, IsAtEnd, Keeps}
use Rattle.std.specs.Int.{w32, from_be_bytes}
use Rattle.pcl_base.specs.Faults.{Rose}
use Rattle.frame_rules.specs.Frames.{most_length}
use Rattle.frame_rules.specs.ReadFrame.{Reason, BadLength, CutOff, BadFrame, bad_frame, front_of, Bad as bad_front, Whole}
use Rattle.node_frames.specs.declared.fault.InputFault.{InputFault}
use Rattle.node_frames.specs.declared.fault.InputFault.TheVariants.{Bad, Source, NoMemory}
use Rattle.node_frames.specs.Seen.{reason_in}

-- why reading bytes gave up: the source failed, or memory ran out
abbrev pub IsCause : ℕ → ℕ → InputFault → Type 0
IsCause faults faults' (Bad place reason) = ⊥
IsCause faults faults' Source = Rose faults faults'
IsCause faults faults' NoMemory = ⊤

-- bytes of the source were put behind others
pub record Taken (left left' : Option (List ℕ)) (faults faults' : ℕ) (old new : List ℕ) : Type 0 where
  pub taken : List ℕ
  pub consumed : Consumes left left' taken
  pub later : faults ≤ faults'
  pub bytes : new ≡ old ++ taken

-- bytes of the source were put behind others, up to so many in all, or up to the end of the input;
-- where reading gave up, fewer were taken
pub record Filled {X : Type 0} (left left' : Option (List ℕ)) (faults faults' : ℕ) (old new : List ℕ) (count : ℕ) (result : Result X InputFault) : Type 0 where
  pub taken : List ℕ
  pub consumed : Consumes left left' taken
  pub later : faults ≤ faults'
  pub bytes : OnOk result (new ≡ old ++ taken)
  pub full : OnOk result ((length new ≡ count) ⊎ ((length new < count) × IsAtEnd left'))
  pub cause : IfErr result (IsCause faults faults')
  pub short : IfErr result (λ e. length old + length taken < count)

-- a bad frame: its length was judged as soon as the four bytes of it were there, whatever follows, or
-- the input ends within it
abbrev pub IsBadFront : Option (List ℕ) → List ℕ → ℕ → Reason → Type 0
IsBadFront left' taken place BadLength =
    (length taken ≡ 4) × ((rest : List ℕ) → front_of (taken ++ rest) ≡ bad_front (bad_frame place BadLength))
IsBadFront left' taken place CutOff = IsAtEnd left' × (front_of taken ≡ bad_front (bad_frame place CutOff))
IsBadFront left' taken place reason = ⊥

-- bytes that decide nothing yet: none, or the beginning of a frame, which is bad only if it ends there
abbrev pub DecidesNothing : List ℕ → Type 0
DecidesNothing taken = (taken ≡ []) ⊎ (front_of taken ≡ bad_front (bad_frame (1 + length taken) CutOff))

-- why no frame comes; the source or the memory is at fault only where nothing was decided yet
abbrev pub IsFault : Option (List ℕ) → ℕ → ℕ → List ℕ → InputFault → Type 0
IsFault left' faults faults' taken (Bad place reason) = IsBadFront left' taken place (reason_in reason)
IsFault left' faults faults' taken Source = Rose faults faults' × DecidesNothing taken
IsFault left' faults faults' taken NoMemory = DecidesNothing taken

-- what was taken is a whole frame with this body, whatever follows it, or nothing at the end of the
-- input, or no frame comes
abbrev pub IsFront : Option (List ℕ) → ℕ → ℕ → List ℕ → List ℕ → Result Bool InputFault → Type 0
IsFront left' faults faults' taken body (Ok true) = (rest : List ℕ) → front_of (taken ++ rest) ≡ Whole body rest
IsFront left' faults faults' taken body (Ok false) = (taken ≡ []) × IsAtEnd left'
IsFront left' faults faults' taken body (Err fault) = IsFault left' faults faults' taken fault

-- what was taken from the source, and what it tells of the next frame
pub record FrontRead (left left' : Option (List ℕ)) (faults faults' : ℕ) (body : List ℕ) (result : Result Bool InputFault) : Type 0 where
  pub taken : List ℕ
  pub consumed : Consumes left left' taken
  pub later : faults ≤ faults'
  pub front : IsFront left' faults faults' taken body result

-- bad bytes of a length: all four of them, whatever follows, or fewer, since nothing follows
abbrev pub IsBadHead : List ℕ → ℕ → Reason → Type 0
IsBadHead head place BadLength =
    (length head ≡ 4) × ((rest : List ℕ) → front_of (head ++ rest) ≡ bad_front (bad_frame place BadLength))
IsBadHead head place CutOff = (length head < 4) × (front_of head ≡ bad_front (bad_frame place CutOff))
IsBadHead head place reason = ⊥

-- four bytes are the length n of a frame
pub record IsHead (head : List ℕ) (n : ℕ) : Type 0 where
  pub four : length head ≡ 4
  pub number : from_be_bytes w32 head ≡ n
  pub least : 1 ≤ n
  pub most : n ≤ most_length

-- up to four bytes: none, the length of a frame, or bad ones
abbrev pub HeadTold : List ℕ → Result (Option ℕ) InputFault → Type 0
HeadTold head (Ok None) = head ≡ []
HeadTold head (Ok (Some n)) = IsHead head n
HeadTold head (Err (Bad place reason)) = IsBadHead head place (reason_in reason)
HeadTold head (Err Source) = ⊥
HeadTold head (Err NoMemory) = ⊥

-- what the bytes of a length that were taken from the source tell of the next frame
abbrev pub IsLength : Option (List ℕ) → ℕ → ℕ → List ℕ → Result (Option ℕ) InputFault → Type 0
IsLength left' faults faults' taken (Ok None) = (taken ≡ []) × IsAtEnd left'
IsLength left' faults faults' taken (Ok (Some n)) = IsHead taken n
IsLength left' faults faults' taken (Err fault) = IsFault left' faults faults' taken fault

pub record LengthRead (left left' : Option (List ℕ)) (faults faults' : ℕ) (result : Result (Option ℕ) InputFault) : Type 0 where
  pub taken : List ℕ
  pub consumed : Consumes left left' taken
  pub later : faults ≤ faults'
  pub told : IsLength left' faults faults' taken result

-- the end of the input within a body of n bytes
pub record IsCutBody (left' : Option (List ℕ)) (taken : List ℕ) (n : ℕ) (bad : BadFrame) : Type 0 where
  pub place : bad ≡ bad_frame (5 + length taken) CutOff
  pub short : length taken < n
  pub end : IsAtEnd left'

-- what the bytes of a body that were taken from the source tell of the frame
abbrev pub IsBody : {X : Type 0} → Option (List ℕ) → ℕ → ℕ → List ℕ → List ℕ → ℕ → Result X InputFault → Type 0
IsBody left' faults faults' taken body n (Ok x) = (body ≡ taken) × (length taken ≡ n)
IsBody left' faults faults' taken body n (Err (Bad place reason)) = IsCutBody left' taken n (bad_frame place (reason_in reason))
IsBody left' faults faults' taken body n (Err Source) = Rose faults faults' × (length taken < n)
IsBody left' faults faults' taken body n (Err NoMemory) = length taken < n

pub record BodyRead {X : Type 0} (left left' : Option (List ℕ)) (faults faults' : ℕ) (body : List ℕ) (n : ℕ) (result : Result X InputFault) : Type 0 where
  pub taken : List ℕ
  pub consumed : Consumes left left' taken
  pub later : faults ≤ faults'
  pub told : IsBody left' faults faults' taken body n result

-- one byte was taken, whatever it is, or none at the end of the input
abbrev pub ByteRead : {E : Type 0} → Option (List ℕ) → Option (List ℕ) → Result Bool E → Type 0
ByteRead left left' (Ok true) = (b : ℕ) × Consumes left left' (b ∷ [])
ByteRead left left' (Ok false) = Consumes left left' [] × IsAtEnd left'
ByteRead left left' (Err e) = Keeps left left'
