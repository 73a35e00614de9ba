use Rattle.std.proofs.Common.{◌≡◌, ℕ, List, length, drop}
use Rattle.pcl_model.specs.Cells.{kept, IsEven, IsWorkOf}
use Rattle.pcl_model.proofs.work.forget.Given as goal

abbrev pub invariant-loop-step : goal.invariant-loop-step
invariant-loop-step l =
    record {
      kept : (zeros : List ℕ) → kept zeros l.cells ≡ kept zeros l.initial.cells;
      within : IsWorkOf (drop l.step-index l.steps) l.cells;
      even : (zeros : List ℕ) → IsEven zeros l.initial.cells → IsEven zeros l.cells;
      pages : length l.cells ≡ length l.initial.cells;
    }
