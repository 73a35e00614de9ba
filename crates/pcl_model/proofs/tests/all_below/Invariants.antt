use Rattle.std.proofs.Common.{◌≡◌, drop}
use Rattle.std.specs.List.{list_all}
use Rattle.run_rules.specs.Running.{is_below_last}
use Rattle.pcl_model.proofs.tests.all_below.Given as goal

abbrev pub invariant-loop-step : goal.invariant-loop-step
invariant-loop-step l =
    list_all (is_below_last l.base.pages) l.script.steps
    ≡ list_all (is_below_last l.base.pages) (drop l.step-index l.script.steps)
