-- Changing calls and the stops of other nodes.
use Rattle.std.proofs.Common.{◌≡◌, refl, ap, sym, ◌∙◌, ℕ, zero, suc, ◌==◌, Bool, true, false, List, [], ◌∷◌, Option, Some, None, inl, inr, slice_index_or, slice_set}
use Rattle.disk_model.specs.declared.stop.Stop.{Stop}
use Rattle.disk_model.specs.Stops.{Stops, after_change, pick, stop_after}
use Rattle.node_rules.specs.DiskCalls.{DiskCall, WritePage, Force, TrimLog, CutLog}
use Rattle.home.specs.Device.{Told, told_done, told_left, told_undone}
use Rattle.step_ends.specs.Ran.{OthersStayArmed}
use Rattle.step_ends.specs.Laws.{OthersAreLeft}

module _ {X : Type 0} where
  -- what stands at a place can be put there, and the last one that was put stays
  pub put_same : (d : X) (xs : List X) (i : ℕ) → slice_set xs i (slice_index_or xs i d) ≡ xs
  put_same d [] i = refl
  put_same d (x ∷ xs) zero = refl
  put_same d (x ∷ xs) (suc i) = ap (λ (l : List X). x ∷ l) (put_same d xs i)

  pub put_twice : (xs : List X) (i : ℕ) (y z : X) → slice_set (slice_set xs i y) i z ≡ slice_set xs i z
  put_twice [] i y z = refl
  put_twice (x ∷ xs) zero y z = refl
  put_twice (x ∷ xs) (suc i) y z = ap (λ (l : List X). x ∷ l) (put_twice xs i y z)

same_armed : (n : ℕ) (old new : Stops) → new ≡ old → OthersStayArmed n old new
same_armed n old new same = λ l is. (slice_index_or l n None, same ∙ is ∙ ap (λ (x : List (Option Stop)). Some x) (sym (put_same None l n)))

-- one changing call, and others after it
one_armed : (n : ℕ) (old new : Stops) → new ≡ after_change old n → OthersStayArmed n old new
one_armed n old new same = λ l is. (stop_after (slice_index_or l n None), same ∙ ap (λ (s : Stops). after_change s n) is)

then_armed : (n : ℕ) (old mid new : Stops) → OthersStayArmed n old mid → OthersStayArmed n mid new → OthersStayArmed n old new
then_armed n old mid new first rest = λ l is.
    let x = first l is in
    let y = rest (slice_set l n x.0) x.1 in (y.0, y.1 ∙ ap (λ (s : List (Option Stop)). Some s) (put_twice l n x.0 y.0))

done_stops : (n : ℕ) (call : DiskCall) (d : Told) → (told_done n call d).stops ≡ after_change d.stops n
done_stops n (WritePage p bytes) d = refl
done_stops n (Force t bytes) d = refl
done_stops n (TrimLog keep) d = refl
done_stops n (CutLog count) d = refl

left_stops : (n : ℕ) (call : DiskCall) (kept : ℕ) (d : Told) → (told_left n call kept d).stops ≡ after_change d.stops n
left_stops n (Force t bytes) kept d = refl
left_stops n (WritePage p bytes) kept d = by (kept == 0)
  where
    by : (b : Bool) → (pick b (told_undone n d) (told_done n (WritePage p bytes) d)).stops ≡ after_change d.stops n
    by true = refl
    by false = refl
left_stops n (TrimLog keep) kept d = by (kept == 0)
  where
    by : (b : Bool) → (pick b (told_undone n d) (told_done n (TrimLog keep) d)).stops ≡ after_change d.stops n
    by true = refl
    by false = refl
left_stops n (CutLog count) kept d = by (kept == 0)
  where
    by : (b : Bool) → (pick b (told_undone n d) (told_done n (CutLog count) d)).stops ≡ after_change d.stops n
    by true = refl
    by false = refl

pub others_are_left : OthersAreLeft
others_are_left n [] old None new same = same_armed n old.stops new.stops (ap (λ (t : Told). t.stops) same)
others_are_left n [] old (Some k) new bad = absurd bad
others_are_left n (call ∷ calls) old None new made =
    then_armed n old.stops (told_done n call old).stops new.stops (one_armed n old.stops (told_done n call old).stops (done_stops n call old)) (others_are_left n calls (told_done n call old) None new made.1)
others_are_left n (call ∷ calls) old (Some k) new (inl failed) =
    one_armed n old.stops new.stops (ap (λ (t : Told). t.stops) failed.1.same ∙ left_stops n call failed.1.kept old)
others_are_left n (call ∷ calls) old (Some k) new (inr made) =
    then_armed n old.stops (told_done n call old).stops new.stops (one_armed n old.stops (told_done n call old).stops (done_stops n call old)) (others_are_left n calls (told_done n call old) (Some k) new made.1)
