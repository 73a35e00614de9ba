-- A turn: the next frame is read, and its step is made or serving ends.
use Rattle.std.proofs.Common.{Bool, true, false, ◌≡◌, refl, sym, ap, subst, ◌∙◌, inl, inr, append-nil, ℕ, zero, suc, ◌+◌, ◌-◌, ◌<◌, List, [], ◌∷◌, Option, Some, None, Result, Ok, Err, arith}
use Rattle.std.specs.Io.KnownBytes.{Consumes, IsAtEnd, Keeps}
use Rattle.std.proofs.KnownBytes.{Consumes-nil, Consumes-kept}
use Rattle.pcl_base.specs.Faults.{Rose}
use Rattle.pcl_base.specs.Limits.{Sizes}
use Rattle.node_rules.specs.NodeState.{NodeState, number_of, start_node}
use Rattle.frame_rules.specs.Frames.{Frame as frame, IsFrame, step_of}
use Rattle.frame_rules.specs.ReadFrame.{BadFrame, bad_frame, front_of, Bad as bad_front, Reason, BadLength, CutOff, NoKind, InLine, InField}
use Rattle.frame_rules.specs.WrittenFrames.{end_frame, bad_frame_text, long_text}
use Rattle.node_frames.specs.Front.{FrontRead, IsBadFront, ByteRead}
use Rattle.node_frames.specs.Seen.{frame_in, reason_in}
use Rattle.node_frames.specs.declared.frame.Frame.{Frame}
use Rattle.node_frames.specs.declared.fault.FrameReason.{FrameReason}
use Rattle.node_frames.specs.declared.fault.InputFault.{InputFault}
use Rattle.node_frames.specs.declared.fault.InputFault.TheVariants as fault
use Rattle.serving_parts.specs.declared.end.End.{End}
use Rattle.serving_parts.specs.declared.end.End.TheVariants.{Decided, Source, Memory}
use Rattle.serving_parts.specs.Sides.{Outs, Sides, sides_of, outs_of}
use Rattle.serving_parts.specs.Outcome.{Link, Outcome, first_link}
use Rattle.serving_parts.specs.Frames.{IsWhole, IsBad, NextRead}
use Rattle.serving_parts.specs.Written.{WroteLast}
use Rattle.serving_parts.specs.Works.{Gave}
use Rattle.serving_parts.specs.Turns.{Ran, Turned, status_of}
use Rattle.serving_parts.proofs.Ending.{ends_none, ends_unread, ends_wanting, ends_bad, ends_long, ran_outcome}
use Rattle.serving_parts.proofs.Giving.{gave_turned}

-- a bad front
bad_front_is : (left' : Option (List ℕ)) (taken : List ℕ) (place : ℕ) (reason : Reason) → IsBadFront left' taken place reason → front_of taken ≡ bad_front (bad_frame place reason)
bad_front_is left' taken place BadLength bad = ap front_of (sym (append-nil taken)) ∙ bad.1 []
bad_front_is left' taken place CutOff bad = bad.1
bad_front_is left' taken place NoKind bad = absurd bad
bad_front_is left' taken place (InLine why) bad = absurd bad
bad_front_is left' taken place (InField why) bad = absurd bad

-- no whole frame comes
pub next_of_fault : {c : Sizes} {me : ℕ} {left left' : Option (List ℕ)} {faults faults' : ℕ} {body : List ℕ} (why : InputFault)
    → FrontRead left left' faults faults' body (Err why) → NextRead c me left left' faults faults' (Err why)
next_of_fault {left' = left'} (fault.Bad place reason) front =
    record {
      taken = front.taken;
      consumed = front.consumed;
      later = front.later;
      next = inl (bad_front_is left' front.taken place (reason_in reason) front.front);
    }
next_of_fault fault.Source front = record { taken = front.taken; consumed = front.consumed; later = front.later; next = front.front }
next_of_fault fault.NoMemory front = record { taken = front.taken; consumed = front.consumed; later = front.later; next = tt }

module _ (c : Sizes) (me most number : ℕ) (n : NodeState) (config : n.home.config ≡ c) (number_is : number_of n ≡ me) (old : Sides) (left' : Option (List ℕ)) (source' : ℕ) where
  own_whole : (taken : List ℕ) (r : Result frame BadFrame) → IsWhole c me taken r → IsWhole n.home.config (number_of n) taken r
  own_whole taken r w = subst (λ m. IsWhole n.home.config m taken r) (sym number_is) (subst (λ k. IsWhole k me taken r) (sym config) w)

  own_bad : (taken : List ℕ) (bad : BadFrame) → IsBad c me taken bad → IsBad n.home.config (number_of n) taken bad
  own_bad taken bad (inl front) = inl front
  own_bad taken bad (inr whole) = inr (own_whole taken (Err bad) whole)

  -- a frame to the node
  pub next_turned : {X : Type 0} (later : NodeState) (outs' : Outs) (o : Option Frame) (f : Frame) (result : Result X End) → NextRead c me old.left left' old.source source' (Ok o) → o ≡ Some f
      → Gave me n (step_of me (frame_in f)) later old.outs outs' result
      → Turned (record { me = me; node = n; most = suc most; number = number }) (record { me = me; node = later; most = most; number = number + 1 }) old (sides_of left' source' outs') result
  next_turned later outs' o f result read is g =
      let r : NextRead c me old.left left' old.source source' (Ok (Some f)) = subst (λ x. NextRead c me old.left left' old.source source' (Ok x)) is read in
      gave_turned me most number n later (frame_in f) (step_of me (frame_in f)) (ap (λ m. step_of m (frame_in f)) number_is) old left' source' outs' r.taken
      (own_whole r.taken (Ok (frame_in f)) r.next.0) r.consumed r.later result g

  -- what a frame to the node is
  pub next_fits : (o : Option Frame) (f : Frame) → NextRead c me old.left left' old.source source' (Ok o) → o ≡ Some f → IsFrame n.home.config me (frame_in f)
  next_fits o f read is =
      let r : NextRead c me old.left left' old.source source' (Ok (Some f)) = subst (λ x. NextRead c me old.left left' old.source source' (Ok x)) is read in
      subst (λ k. IsFrame k me (frame_in f)) (sym config) r.next.1

  -- the end of the input
  pub next_none : (o : Option Frame) → NextRead c me old.left left' old.source source' (Ok o) → o ≡ None
      → Ran (record { me = me; node = n; most = suc most; number = number }) old (sides_of left' source' old.outs) (Decided 0)
  next_none o read is =
      let r : NextRead c me old.left left' old.source source' (Ok None) = subst (λ x. NextRead c me old.left left' old.source source' (Ok x)) is read in
      ends_none (record { me = me; node = n; most = suc most; number = number }) old left' source' (subst (λ t. Consumes old.left left' t) r.next.0 r.consumed) r.next.1

  -- a bad frame
  pub next_bad : (why : InputFault) (place : ℕ) (reason : FrameReason) (written' : Option (List ℕ)) (sink' : ℕ) (end : End) → NextRead c me old.left left' old.source source' (Err why) → why ≡ fault.Bad place reason
      → WroteLast 3 old.outs.written written' old.outs.sink sink' (end_frame (bad_frame_text number (bad_frame place (reason_in reason)))) end
      → Ran (record { me = me; node = n; most = suc most; number = number }) old (sides_of left' source' (outs_of written' sink' old.outs.store)) end
  next_bad why place reason written' sink' end read is wrote =
      let r : NextRead c me old.left left' old.source source' (Err (fault.Bad place reason)) = subst (λ x. NextRead c me old.left left' old.source source' (Err x)) is read in
      ends_bad me most number n old (sides_of left' source' (outs_of written' sink' old.outs.store)) r.taken (bad_frame place (reason_in reason)) end
      (own_bad r.taken (bad_frame place (reason_in reason)) r.next) refl r.consumed wrote

  -- the source failed
  pub next_unread : (why : InputFault) → NextRead c me old.left left' old.source source' (Err why) → why ≡ fault.Source
      → Ran (record { me = me; node = n; most = suc most; number = number }) old (sides_of left' source' old.outs) Source
  next_unread why read is =
      let r : NextRead c me old.left left' old.source source' (Err fault.Source) = subst (λ x. NextRead c me old.left left' old.source source' (Err x)) is read in
      ends_unread (record { me = me; node = n; most = suc most; number = number }) old left' source' r.taken r.consumed r.next.0 r.next.1

  -- memory is wanted
  pub next_wanting : (why : InputFault) → NextRead c me old.left left' old.source source' (Err why)
      → Ran (record { me = me; node = n; most = suc most; number = number }) old (sides_of left' source' old.outs) Memory
  next_wanting why read =
      ends_wanting (record { me = me; node = n; most = suc most; number = number }) old left' source' read.taken read.consumed

-- whether a further byte was read
pub byte_read : (E : Type 0) (left left' : Option (List ℕ)) (o : Bool) → o ≡ true → ByteRead {E = E} left left' (Ok o) → (b : ℕ) × Consumes left left' (b ∷ [])
byte_read E left left' o is read = subst (λ x. ByteRead {E = E} left left' (Ok x)) is read

pub none_read : (E : Type 0) (left left' : Option (List ℕ)) (o : Bool) → o ≡ false → ByteRead {E = E} left left' (Ok o) → Consumes left left' [] × IsAtEnd left'
none_read E left left' o is read = subst (λ x. ByteRead {E = E} left left' (Ok x)) is read

-- where no frame more may be read
module _ (me number : ℕ) (n : NodeState) (old : Sides) (left' : Option (List ℕ)) (source' : ℕ) where
  pub limit_unread : Keeps old.left left' → Rose old.source source' → Ran (record { me = me; node = n; most = zero; number = number }) old (sides_of left' source' old.outs) Source
  limit_unread kept rose =
      ends_unread (record { me = me; node = n; most = zero; number = number }) old left' source' [] (Consumes-kept _ _ _ _ (Consumes-nil old.left) kept) rose (inl refl)

  pub limit_none : Consumes old.left left' [] → IsAtEnd left' → Ran (record { me = me; node = n; most = zero; number = number }) old (sides_of left' source' old.outs) (Decided 0)
  limit_none consumed end = ends_none (record { me = me; node = n; most = zero; number = number }) old left' source' consumed end

  pub limit_long : (written' : Option (List ℕ)) (sink' : ℕ) (end : End) → ((b : ℕ) × Consumes old.left left' (b ∷ []))
      → WroteLast 7 old.outs.written written' old.outs.sink sink' (end_frame (long_text number)) end
      → Ran (record { me = me; node = n; most = zero; number = number }) old (sides_of left' source' (outs_of written' sink' old.outs.store)) end
  limit_long written' sink' end byte wrote =
      ends_long me number byte.0 n old (sides_of left' source' (outs_of written' sink' old.outs.store)) end refl byte.1 wrote

-- a node that starts
pub start_config : (c : Sizes) (me : ℕ) → (start_node c me 0).home.config ≡ c
unfolding start_node
start_config c me = refl

pub start_number : (c : Sizes) (me : ℕ) → number_of (start_node c me 0) ≡ me
unfolding start_node
start_number c me = refl

-- the outcome, where the node didn't start, and where it did
pub unstarted : (k : Link) (s : Sides) → Outcome k s s 9
unstarted k s = ran_outcome k s s Memory (ends_wanting k s s.left s.source [] (Consumes-nil s.left))

pub started : (c : Sizes) (me limit : ℕ) (n : NodeState) (old new : Sides) (end : End) (status : ℕ) → n ≡ start_node c me 0 → status ≡ status_of end
    → Ran (record { me = me; node = n; most = limit; number = 1 }) old new end → Outcome (first_link c me limit) old new status
started c me limit n old new end status is same ran =
    subst (λ x. Outcome (first_link c me limit) old new x) (sym same)
    (ran_outcome (first_link c me limit) old new end (subst (λ m. Ran (record { me = me; node = m; most = limit; number = 1 }) old new end) is ran))

-- one frame of those that may be read is taken
pub one_less : (limit done : ℕ) → done < limit → limit - done ≡ suc (limit - (done + 1))
one_less limit done less = omega (arith, less)
