use Rattle.std.proofs.Common.{◌≡◌, map, drop}
use Rattle.run_rules.specs.Base.{first_base}
use Rattle.run_rules.specs.Running.{run_scripts, run_from}
use Rattle.pcl_model.specs.Serial.{AtMost, steps_of}
use Rattle.pcl_model.proofs.serial.judge_serial.Given as goal

abbrev pub invariant-loop-index : goal.invariant-loop-index
invariant-loop-index l =
    record {
      rest : run_scripts (first_base l.config) (map steps_of l.scripts) ≡ run_from l.index (map steps_of (drop l.index l.scripts)) l.base.pages;
      sizes : l.base.sizes ≡ l.config;
      versions : AtMost l.index l.base.pages;
    }
