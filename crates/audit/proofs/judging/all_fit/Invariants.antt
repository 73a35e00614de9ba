use Rattle.std.proofs.Common.{◌≡◌, drop}
use Rattle.std.specs.List.{list_all}
use Rattle.pcl_model.specs.Serial.{script_fits}
use Rattle.audit.proofs.judging.all_fit.Given as goal

abbrev pub invariant-loop-script : goal.invariant-loop-script
invariant-loop-script l = list_all (script_fits l.config) l.scripts ≡ list_all (script_fits l.config) (drop l.script-index l.scripts)
