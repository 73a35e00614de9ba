use Rattle.std.proofs.Common.{◌≡◌, drop}
use Rattle.std.specs.List.{list_all}
use Rattle.run_rules.specs.Running.{step_fits}
use Rattle.audit.proofs.judging.script_within.Given as goal

abbrev pub invariant-loop-step : goal.invariant-loop-step
invariant-loop-step l = list_all (step_fits l.config.pages l.config.size) l.script.steps ≡ list_all (step_fits l.config.pages l.config.size) (drop l.step-index l.script.steps)
