use Rattle.std.proofs.Common.{◌≡◌, ℕ, List, length, drop}
use Rattle.pcl_model.specs.Cells.{next, IsEven, IsWorkOf, MayRise}
use Rattle.pcl_model.proofs.work.keep.Given as goal

abbrev pub invariant-loop-step : goal.invariant-loop-step
invariant-loop-step l =
    record {
      next : (zeros : List ℕ) → next zeros l.cells ≡ next zeros l.initial.cells;
      within : IsWorkOf (drop l.step-index l.steps) l.cells;
      rise : MayRise l.cells;
      even : (zeros : List ℕ) → IsEven zeros l.initial.cells → IsEven zeros l.cells;
      pages : length l.cells ≡ length l.initial.cells;
    }
