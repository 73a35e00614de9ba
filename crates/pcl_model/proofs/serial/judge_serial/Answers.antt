-- After the last script the run is done.
use Rattle.std.proofs.Common.{◌≡◌, ◌≤◌, ap, ◌∙◌, List, [], map, length, drop, arith}
use Rattle.std.proofs.lemmas.List.{drop_all}
use Rattle.pcl_base.specs.declared.script.Script.{Script}
use Rattle.run_rules.specs.Running.{run_from}
use Rattle.pcl_model.specs.Serial.{steps_of}
use Rattle.pcl_model.proofs.serial.judge_serial.Goals as goal

pub returns-clause-ok : goal.returns-clause-ok
unfolding run_from
returns-clause-ok c =
    let past : length c.args.scripts.now ≤ c.loop-index.index = omega arith in
    let none : drop c.loop-index.index c.args.scripts.now ≡ [] = drop_all c.loop-index.index c.args.scripts.now past in
    c.loop-index.invariant.rest
    ∙ ap (λ (scripts : List Script). run_from c.loop-index.index (map steps_of scripts) c.loop-index.base.pages) none
