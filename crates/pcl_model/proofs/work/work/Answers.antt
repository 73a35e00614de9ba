-- After the last step the run is done.
use Rattle.std.proofs.Common.{◌≡◌, ap, ◌∙◌, List, [], drop, length, ◌≤◌, arith}
use Rattle.std.proofs.lemmas.List.{drop_all}
use Rattle.pcl_base.specs.declared.script.Step.{Step}
use Rattle.run_rules.specs.Running.{worked}
use Rattle.pcl_model.specs.Cells.{working}
use Rattle.pcl_model.proofs.work.work.Goals as goal

pub returns-clause-ok : goal.returns-clause-ok
unfolding worked
returns-clause-ok c =
    let past : length c.args.steps.now ≤ c.loop-place.place = omega arith in
    let none : drop c.loop-place.place c.args.steps.now ≡ [] = drop_all c.loop-place.place c.args.steps.now past in
    c.loop-place.invariant.rest
    ∙ ap (λ (steps : List Step). worked (working c.args.zeros.now c.loop-place.cells) c.loop-place.place steps) none
