use Rattle.std.proofs.Common.{◌≡◌, length, drop}
use Rattle.run_rules.specs.Running.{worked}
use Rattle.pcl_model.specs.Cells.{kept, working, IsEven, IsWorkUpTo}
use Rattle.pcl_model.proofs.work.work.Given as goal

abbrev pub invariant-loop-place : goal.invariant-loop-place
invariant-loop-place l =
    record {
      rest : worked (working l.zeros l.initial.cells) 0 l.steps ≡ worked (working l.zeros l.cells) l.place (drop l.place l.steps);
      even : IsEven l.zeros l.cells;
      kept : kept l.zeros l.cells ≡ kept l.zeros l.initial.cells;
      upto : IsWorkUpTo l.steps (drop l.place l.steps) l.cells;
      pages : length l.cells ≡ length l.initial.cells;
    }
