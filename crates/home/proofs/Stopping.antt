-- What calls leave that are made over a told disk.
use Rattle.std.proofs.Common.{◌≡◌, ℕ, zero, suc, ◌-◌, ◌≤◌, ◌==◌, ◌++◌, nat_le, Bool, true, false, List, [], ◌∷◌, length, take, slice_set, Option, Some, None, refl, ap, sym, subst, ◌∙◌, inl, inr, arith}
use Rattle.std.proofs.lemmas.Bool.Decides.{nat_tests}
use Rattle.std.specs.Prelude.{◌≢◌, min, slice_index_or}
use Rattle.pcl_base.specs.declared.tx.TxId.{TxId}
use Rattle.pcl_base.specs.declared.trace.Call.{Call}
use Rattle.run_rules.specs.Disk.{Disk, log_at}
use Rattle.disk_model.specs.declared.stop.Stop.{Stop}
use Rattle.disk_model.specs.Stops.{Stops, Fate, change_fate, after_change, stop_fate, stop_after, pick as chosen}
use Rattle.node_rules.specs.Words.{pick}
use Rattle.node_rules.specs.DiskCalls.{DiskCall, WritePage, Force, TrimLog, CutLog, Stop as RuleStop, Left, with_log, done, all_done, stopped, stopped_in, left_at, forced, word_of}
use Rattle.home.specs.Device.{Told, told_done, told_left, Made, IsUnstopped}
use Rattle.home.specs.CallLaws.{told_on, nearer, UnstoppedAreDone, ArmedAreDone, ArmedAreStopped, DoneAreAll, FailedAreStopped}

-- items of a list that change
set_read : {X : Type 0} (l : List X) (n : ℕ) (d x : X) → slice_index_or l n d ≡ x → slice_set l n x ≡ l
set_read [] n d x e = refl
set_read (y ∷ l) zero d x e = ap (λ z. z ∷ l) (sym e)
set_read (y ∷ l) (suc n) d x e = ap (λ ys. y ∷ ys) (set_read l n d x e)

read_set : {X : Type 0} (l : List (Option X)) (n : ℕ) (x : X) (o : Option X) → slice_index_or l n None ≡ Some x → slice_index_or (slice_set l n o) n None ≡ o
read_set [] n x o e = absurd (cc)
read_set (y ∷ l) zero x o e = refl
read_set (y ∷ l) (suc n) x o e = read_set l n x o e

set_twice : {X : Type 0} (l : List X) (n : ℕ) (x y : X) → slice_set (slice_set l n x) n y ≡ slice_set l n y
set_twice [] n x y = refl
set_twice (z ∷ l) zero x y = refl
set_twice (z ∷ l) (suc n) x y = ap (λ zs. z ∷ zs) (set_twice l n x y)

take_min : (n : ℕ) (l : List ℕ) → take (min n (length l)) l ≡ take n l
take_min zero l = let none : min 0 (length l) ≡ 0 = omega arith in ap (λ k. take k l) none
take_min (suc n) [] = let nil : List ℕ = [] in let none : min (suc n) 0 ≡ 0 = omega arith in ap (λ k. take k nil) none
take_min (suc n) (x ∷ l) =
    let one : min (suc n) (suc (length l)) ≡ suc (min n (length l)) = omega arith in ap (λ k. take k (x ∷ l)) one ∙ ap (λ xs. x ∷ xs) (take_min n l)

-- a call that is done, and one that failed
call_done : (n : ℕ) (call : DiskCall) (d : Disk) (stops : Stops) → told_done n call (told_on d stops) ≡ told_on (done n d call) (after_change stops n)
unfolding done
call_done n (WritePage p bytes) d stops = refl
call_done n (Force t bytes) d stops = refl
call_done n (TrimLog keep) d stops = refl
call_done n (CutLog count) d stops = refl

picked : (b : Bool) (x y : Disk) (stops : Stops) → chosen b (told_on x stops) (told_on y stops) ≡ told_on (pick b x y) stops
picked true x y stops = refl
picked false x y stops = refl

call_left : (n : ℕ) (call : DiskCall) (kept : ℕ) (d : Disk) (stops : Stops) → told_left n call kept (told_on d stops) ≡ told_on (stopped n d call kept) (after_change stops n)
unfolding done stopped
call_left n (WritePage p bytes) kept d stops = picked (kept == 0) d (done n d (WritePage p bytes)) (after_change stops n)
call_left n (Force t bytes) kept d stops = ap (λ l. told_on (with_log d n (log_at d n ++ l)) (after_change stops n)) (take_min kept bytes)
call_left n (TrimLog keep) kept d stops = picked (kept == 0) d (done n d (TrimLog keep)) (after_change stops n)
call_left n (CutLog count) kept d stops = picked (kept == 0) d (done n d (CutLog count)) (after_change stops n)

at_disk : (n : ℕ) (d : Disk) (t : Option TxId) (call : DiskCall) (kept : ℕ) → (left_at n d t call kept).disk ≡ stopped n d call kept
at_disk n d None call kept = refl
at_disk n d (Some t) call kept = refl

at_call : (n : ℕ) (d : Disk) (t : Option TxId) (call : DiskCall) (kept : ℕ) → (left_at n d t call kept).call ≡ word_of call
at_call n d None call kept = refl
at_call n d (Some t) call kept = refl

-- without an armed stop
pub unstopped_are_done : UnstoppedAreDone
unstopped_are_done n [] d stops None new none made = (refl, made)
unstopped_are_done n [] d stops (Some k) new none made = absurd made
unstopped_are_done n (call ∷ calls) d stops None new none (free, rest) =
    let same = ap (λ o. slice_set stops n (stop_after o)) none ∙ set_read stops n None None none in
    let after = call_done n call d (Some stops) ∙ ap (λ l. told_on (done n d call) (Some l)) same in
    unstopped_are_done n calls (done n d call) stops None new none (subst (λ x. Made n calls x None new) after rest)
unstopped_are_done n (call ∷ calls) d stops (Some k) new none (inl (kind, fails)) = absurd (fails.fate (ap stop_fate none))
unstopped_are_done n (call ∷ calls) d stops (Some k) new none (inr (free, rest)) =
    let same = ap (λ o. slice_set stops n (stop_after o)) none ∙ set_read stops n None None none in
    let after = call_done n call d (Some stops) ∙ ap (λ l. told_on (done n d call) (Some l)) same in
    unstopped_are_done n calls (done n d call) stops (Some k) new none (subst (λ x. Made n calls x (Some k) new) after rest)

-- an armed stop that isn't at the next call, and one that is
module _ (n : ℕ) (call : DiskCall) (d : Disk) (stops : List (Option Stop)) (s : Stop) (found : slice_index_or stops n None ≡ Some s) where
  far : IsUnstopped n (told_on d (Some stops)) → nat_le s.call 1 ≡ false
  far free = by_case (nat_le s.call 1) refl
    where
      by_case : (b : Bool) → nat_le s.call 1 ≡ b → nat_le s.call 1 ≡ false
      by_case false e = e
      by_case true e = absurd (free s.kept (ap stop_fate found ∙ ap (λ b. chosen b (Fate.Stopped s.kept) Fate.Done) e))

  near : change_fate (Some stops) n ≢ Fate.Done → nat_le s.call 1 ≡ true
  near fate = by_case (nat_le s.call 1) refl
    where
      by_case : (b : Bool) → nat_le s.call 1 ≡ b → nat_le s.call 1 ≡ true
      by_case true e = e
      by_case false e = absurd (fate (ap stop_fate found ∙ ap (λ b. chosen b (Fate.Stopped s.kept) Fate.Done) e))

  stops_then : (b : Bool) → nat_le s.call 1 ≡ b → slice_set stops n (stop_after (slice_index_or stops n None)) ≡ slice_set stops n (chosen b None (Some (nearer s 1)))
  stops_then b e = ap (λ o. slice_set stops n (stop_after o)) found ∙ ap (λ c. slice_set stops n (chosen c None (Some (nearer s 1)))) e

  done_far : nat_le s.call 1 ≡ false → told_done n call (told_on d (Some stops)) ≡ told_on (done n d call) (Some (slice_set stops n (Some (nearer s 1))))
  done_far e = call_done n call d (Some stops) ∙ ap (λ l. told_on (done n d call) (Some l)) (stops_then false e)

  left_near : nat_le s.call 1 ≡ true → told_left n call s.kept (told_on d (Some stops)) ≡ told_on (stopped n d call s.kept) (Some (slice_set stops n None))
  left_near e = call_left n call s.kept d (Some stops) ∙ ap (λ l. told_on (stopped n d call s.kept) (Some l)) (stops_then true e)

  fate_near : nat_le s.call 1 ≡ true → change_fate (Some stops) n ≡ Fate.Stopped s.kept
  fate_near e = ap stop_fate found ∙ ap (λ b. chosen b (Fate.Stopped s.kept) Fate.Done) e

before_far : (c : ℕ) → nat_le c 1 ≡ false → c - 1 ≡ suc (c - 1 - 1)
before_far c e = let more : 2 ≤ c = grind (arith, nat_tests) in omega (arith, more)

before_near : (c : ℕ) → nat_le c 1 ≡ true → c - 1 ≡ 0
before_near c e = let less : c ≤ 1 = grind (arith, nat_tests) in omega (arith, less)

nearer_none : (s : Stop) → Some (nearer s 0) ≡ Some s
nearer_none s = let same : s.call - 0 ≡ s.call = omega arith in ap (λ c. Some (record s { call = c })) same

nearer_more : (s : Stop) (m : ℕ) → nearer (nearer s 1) m ≡ nearer s (suc m)
nearer_more s m = let less : s.call - 1 - m ≡ s.call - suc m = omega arith in ap (λ c. record s { call = c }) less

-- the calls are done where the stop is behind them
armed_done : (n : ℕ) (t : Option TxId) (calls : List DiskCall) (d : Disk) (stops : List (Option Stop)) (s : Stop) (new : Told)
    → slice_index_or stops n None ≡ Some s → Made n calls (told_on d (Some stops)) None new
    → (stopped_in n d t calls (s.call - 1) s.kept ≡ None) × (new ≡ told_on (all_done n d calls) (Some (slice_set stops n (Some (nearer s (length calls))))))
unfolding stopped_in
armed_done n t [] d stops s new found made =
    (refl, made ∙ ap (λ l. told_on d (Some l)) (sym (set_read stops n None (Some (nearer s 0)) (found ∙ sym (nearer_none s)))))
armed_done n t (call ∷ calls) d stops s new found (free, rest) =
    let e = far n call d stops s found free in
    let next : List (Option Stop) = slice_set stops n (Some (nearer s 1)) in
    let more = armed_done n (forced t call) calls (done n d call) next (nearer s 1) new (read_set stops n s (Some (nearer s 1)) found) (subst (λ x. Made n calls x None new) (done_far n call d stops s found e) rest) in (
      ap (λ b. stopped_in n d t (call ∷ calls) b s.kept) (before_far s.call e) ∙ more.0,
      more.1
          ∙ ap (λ l. told_on (all_done n (done n d call) calls) (Some l))
          (set_twice stops n (Some (nearer s 1)) (Some (nearer (nearer s 1) (length calls))) ∙ ap (λ x. slice_set stops n (Some x)) (nearer_more s (length calls))),
    )

pub armed_are_done : ArmedAreDone
armed_are_done n calls d stops s new found made = armed_done n None calls d stops s new found made

-- one is stopped where the stop is at it
armed_stopped : (n : ℕ) (t : Option TxId) (calls : List DiskCall) (d : Disk) (stops : List (Option Stop)) (s : Stop) (k : Call) (new : Told)
    → slice_index_or stops n None ≡ Some s → Made n calls (told_on d (Some stops)) (Some k) new
    → (l : Left) × (stopped_in n d t calls (s.call - 1) s.kept ≡ Some l) × (l.call ≡ k) × (new ≡ told_on l.disk (Some (slice_set stops n None)))
unfolding stopped_in
armed_stopped n t [] d stops s k new found made = absurd made
armed_stopped n t (call ∷ calls) d stops s k new found (inl (kind, fails)) =
    let e = near n call d stops s found fails.fate in (
      left_at n d t call s.kept,
      ap (λ b. stopped_in n d t (call ∷ calls) b s.kept) (before_near s.call e),
      at_call n d t call s.kept ∙ sym kind,
      fails.stopped s.kept (fate_near n call d stops s found e) ∙ left_near n call d stops s found e
          ∙ ap (λ x. told_on x (Some (slice_set stops n None))) (sym (at_disk n d t call s.kept)),
    )
armed_stopped n t (call ∷ calls) d stops s k new found (inr (free, rest)) =
    let e = far n call d stops s found free in
    let next : List (Option Stop) = slice_set stops n (Some (nearer s 1)) in
    let more = armed_stopped n (forced t call) calls (done n d call) next (nearer s 1) k new (read_set stops n s (Some (nearer s 1)) found) (subst (λ x. Made n calls x (Some k) new) (done_far n call d stops s found e) rest) in (
      more.0,
      ap (λ b. stopped_in n d t (call ∷ calls) b s.kept) (before_far s.call e) ∙ more.1,
      more.2,
      more.3 ∙ ap (λ l. told_on more.0.disk (Some l)) (set_twice stops n (Some (nearer s 1)) None),
    )

pub armed_are_stopped : ArmedAreStopped
armed_are_stopped n calls d stops s k new found made = armed_stopped n None calls d stops s k new found made

-- whatever is told of stops
pub done_are_all : DoneAreAll
done_are_all n [] d stops new made = made ∙ ap (λ x. told_on d x) (sym (ap (λ (x : Told). x.stops) made))
done_are_all n (call ∷ calls) d stops new (free, rest) =
    done_are_all n calls (done n d call) (after_change stops n) new (subst (λ x. Made n calls x None new) (call_done n call d stops) rest)

failed_stopped : (n : ℕ) (t : Option TxId) (calls : List DiskCall) (d : Disk) (stops : Stops) (k : Call) (new : Told) → Made n calls (told_on d stops) (Some k) new
    → (s : RuleStop) × (l : Left) × (stopped_in n d t calls s.before s.kept ≡ Some l) × (l.call ≡ k) × (new ≡ told_on l.disk new.stops)
unfolding stopped_in
failed_stopped n t [] d stops k new made = absurd made
failed_stopped n t (call ∷ calls) d stops k new (inl (kind, fails)) =
    let same = fails.same ∙ call_left n call fails.kept d stops in (
      record { before = 0; kept = fails.kept },
      left_at n d t call fails.kept,
      refl,
      at_call n d t call fails.kept ∙ sym kind,
      same ∙ ap (λ x. told_on (stopped n d call fails.kept) x) (sym (ap (λ (x : Told). x.stops) same))
          ∙ ap (λ x. told_on x new.stops) (sym (at_disk n d t call fails.kept)),
    )
failed_stopped n t (call ∷ calls) d stops k new (inr (free, rest)) =
    let more = failed_stopped n (forced t call) calls (done n d call) (after_change stops n) k new (subst (λ x. Made n calls x (Some k) new) (call_done n call d stops) rest) in
    (record { before = suc more.0.before; kept = more.0.kept }, more.1, more.2, more.3, more.4)

pub failed_are_stopped : FailedAreStopped
failed_are_stopped n calls d stops k new made = failed_stopped n None calls d stops k new made
