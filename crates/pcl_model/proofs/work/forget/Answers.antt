-- What one more step leaves.
use Rattle.std.proofs.Common.{sym, ap, ◌∷◌, subst, ◌∙◌, List, ◌+◌, ◌<◌, length, drop, arith}
use Rattle.std.proofs.lemmas.List.{drop_more}
use Rattle.pcl_base.specs.declared.script.Step.{Step}
use Rattle.pcl_model.specs.Cells.{IsWorkOf}
use Rattle.pcl_model.proofs.work.forget.Goals as goal

pub loop-step-preserved : goal.loop-step-preserved
loop-step-preserved c =
    let inside : c.loop-step.step-index < length c.args.steps.now = omega arith in
    record {
      kept = λ zeros. c.forget_step.ensures.kept zeros ∙ c.loop-step.invariant.kept zeros;
      within =
          c.forget_step.ensures.within (drop (c.loop-step.step-index + 1) c.args.steps.now)
          (subst (λ (steps : List Step). IsWorkOf steps c.loop-step.cells)
          (drop_more c.args.steps.now c.loop-step.step-index c.step-item.result inside ∙ ap (λ (s : Step). s ∷ drop (c.loop-step.step-index + 1) c.args.steps.now) (sym c.step-item.is)) c.loop-step.invariant.within);
      even = λ zeros even. c.forget_step.ensures.even zeros (c.loop-step.invariant.even zeros even);
      pages = omega arith;
    }
