-- What becomes of the changing calls of a step, from what the home's call tells of them.
use Rattle.std.proofs.Common.{◌≡◌, ℕ, ◌++◌, nat_lt, Bool, true, false, List, [], ◌∷◌, Option, Some, None, Result, Err, refl, ap, sym, subst, ◌∙◌, inl, inr}
use Rattle.std.specs.Prelude.{⊤}
use Rattle.pcl_base.specs.declared.trace.Call.{Call}
use Rattle.pcl_base.specs.declared.trace.Call.TheVariants as call
use Rattle.node_rules.specs.Words.{pick}
use Rattle.node_rules.specs.BufferRule.{Copy, Slot, clean, copy_at, free_frames, victim}
use Rattle.node_rules.specs.DiskCalls.{DiskCall, WritePage, Force, TrimLog, CutLog}
use Rattle.node_rules.specs.Work.{HomeWork, with_pool, write_page, write_copy, write_back}
use Rattle.node_rules.specs.AccessRule.{let_go, make_room}
use Rattle.home.specs.Answers.{Leaves, refused_as}
use Rattle.home.specs.Device.{Told, Made, told_done}
use Rattle.home.specs.declared.fault.HomeFault.{HomeFault}
use Rattle.home.specs.declared.fault.HomeFault.TheVariants as fault
use Rattle.node_parts.specs.declared.fault.StepFault.{StepFault}
use Rattle.node_parts.specs.declared.fault.StepFault.TheVariants as step
use Rattle.page_owner.specs.Carry.{fault_of, halted_by}
use Rattle.own_steps.specs.Calls.{LeavesCalls, IsWriteFault}

-- page writes and nothing else
abbrev pub AreWrites : List DiskCall → Type 0
AreWrites [] = ⊤
AreWrites (WritePage p bytes ∷ calls) = AreWrites calls
AreWrites (_ ∷ calls) = ⊥

pub writes_both : (xs ys : List DiskCall) → AreWrites xs → AreWrites ys → AreWrites (xs ++ ys)
writes_both [] ys first second = second
writes_both (WritePage p bytes ∷ xs) ys first second = writes_both xs ys first second
writes_both (Force t bytes ∷ xs) ys first second = absurd first
writes_both (TrimLog keep ∷ xs) ys first second = absurd first
writes_both (CutLog count ∷ xs) ys first second = absurd first

-- one of them that failed is a write
pub write_failed : (n : ℕ) (calls : List DiskCall) (old : Told) (k : Call) (new : Told) → AreWrites calls → Made n calls old (Some k) new → k ≡ call.Write
write_failed n [] old k new writes made = absurd made
write_failed n (WritePage p bytes ∷ calls) old k new writes (inl fails) = fails.0
write_failed n (WritePage p bytes ∷ calls) old k new writes (inr rest) = write_failed n calls (told_done n (WritePage p bytes) old) k new writes rest.1
write_failed n (Force t bytes ∷ calls) old k new writes made = absurd writes
write_failed n (TrimLog keep ∷ calls) old k new writes made = absurd writes
write_failed n (CutLog count ∷ calls) old k new writes made = absurd writes

-- what a step leaves whose home ended early
module _ (X Y : Type 0) (n : ℕ) (calls : List DiskCall) (old new : Told) (writes : AreWrites calls) where
  pub step_leaves : (e : HomeFault) (f : StepFault) → f ≡ fault_of e → Leaves {T = X} n (Err e) calls old new → LeavesCalls {T = Y} n (Err f) calls old new
  step_leaves e f is left = subst (λ (z : StepFault). LeavesCalls {T = Y} n (Err z) calls old new) (sym is) (by e left)
    where
      by : (e : HomeFault) → Leaves {T = X} n (Err e) calls old new → LeavesCalls {T = Y} n (Err (fault_of e)) calls old new
      by (fault.Refused r) left = left
      by (fault.Failed k kept) left =
          subst (λ (z : Call). LeavesCalls {T = Y} n (Err (step.Halted z None)) calls old new) (sym write) (subst (λ (z : Call). Made n calls old (Some z) new) write left.1)
        where
          write : k ≡ call.Write
          write = write_failed n calls old k new writes left.1
      by (fault.Differs p m k) left = absurd left
      by fault.NoMemory left = left

  pub step_fault : (e : HomeFault) (f : StepFault) → f ≡ fault_of e → Leaves {T = X} n (Err e) calls old new → IsWriteFault f
  step_fault e f is left = subst IsWriteFault (sym is) (by e left)
    where
      by : (e : HomeFault) → Leaves {T = X} n (Err e) calls old new → IsWriteFault (fault_of e)
      by (fault.Refused r) left = tt
      by (fault.Failed k kept) left = subst (λ (z : Call). IsWriteFault (step.Halted z None)) (sym (write_failed n calls old k new writes left.1)) refl
      by (fault.Differs p m k) left = absurd left
      by fault.NoMemory left = tt

-- the call that halted a step failed at home
pub halted_failed : (X Y : Type 0) (e : HomeFault) (f : StepFault) (k : Call) → f ≡ fault_of e → halted_by {X = Y} (Err f) ≡ Some k
    → (kept : Bool) × ((let z : Result X HomeFault = Err e in z) ≡ Err (fault.Failed k kept))
halted_failed X Y e f k is halted = by e (ap (λ (z : StepFault). halted_by {X = Y} (Err z)) (sym is) ∙ halted)
  where
    by : (e : HomeFault) → halted_by {X = Y} (Err (fault_of e)) ≡ Some k → (kept : Bool) × ((let z : Result X HomeFault = Err e in z) ≡ Err (fault.Failed k kept))
    by (fault.Refused r) halted = absurd (cc)
    by (fault.Failed c kept) halted = (kept, cc)
    by (fault.Differs p m c) halted = absurd (cc)
    by fault.NoMemory halted = absurd (cc)

-- a step that wants memory is one whose home did, where that wasn't refused
pub wants_home : (X Y : Type 0) (e : HomeFault) (f : StepFault) → f ≡ fault_of e → refused_as {T = X} (Err e) ≡ None → f ≡ step.NoMemory → e ≡ fault.NoMemory
wants_home X Y (fault.Refused r) f is none wants = absurd (cc)
wants_home X Y (fault.Failed c kept) f is none wants = absurd (cc)
wants_home X Y (fault.Differs p m c) f is none wants = absurd (cc)
wants_home X Y fault.NoMemory f is none wants = refl

-- the calls of writing a copy back, and of making room, are writes
pub back_writes : (p : ℕ) (w : HomeWork) → AreWrites w.calls → AreWrites (write_back p w).calls
unfolding write_back
back_writes p w writes = by_copy (copy_at w.home.pool p)
  where
    by_copy : (o : Option Copy) → AreWrites (write_copy p o w).calls
    by_copy None = writes
    by_copy (Some c) = by c.dirty
      where
        by : (d : Bool) → AreWrites (pick d (record (write_page p (record { version = c.version; bytes = c.bytes }) w) { home = with_pool w.home (clean w.home.pool p) }) w).calls
        by true = writes_both w.calls (WritePage p _ ∷ []) writes tt
        by false = writes

pub room_writes : (keep : ℕ) (w : HomeWork) → AreWrites w.calls → AreWrites (make_room keep w).calls
unfolding make_room
room_writes keep w writes = by (nat_lt 0 (free_frames w.home.pool)) (victim w.home.pool keep)
  where
    by : (d : Bool) (o : Option Slot) → AreWrites (pick d w (let_go o w)).calls
    by true o = writes
    by false None = writes
    by false (Some s) = back_writes s.page w writes
