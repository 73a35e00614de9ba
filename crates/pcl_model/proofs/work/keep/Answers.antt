-- What one more step leaves, and what the last one does.
use Rattle.std.proofs.Common.{◌≡◌, sym, ap, ◌∷◌, subst, ◌∙◌, List, [], ◌+◌, ◌<◌, length, drop, ◌≤◌, arith}
use Rattle.std.proofs.lemmas.List.{drop_more, drop_all}
use Rattle.pcl_base.specs.declared.script.Step.{Step}
use Rattle.pcl_model.specs.Cells.{IsWorkOf}
use Rattle.pcl_model.proofs.CellLemmas.{kept-next, IsIdle-all}
use Rattle.pcl_model.proofs.work.keep.Goals as goal

pub loop-step-preserved : goal.loop-step-preserved
loop-step-preserved c =
    let inside : c.loop-step.step-index < length c.args.steps.now = omega arith in
    record {
      next = λ zeros. c.keep_step.ensures.next zeros ∙ c.loop-step.invariant.next zeros;
      within =
          c.keep_step.ensures.within (drop (c.loop-step.step-index + 1) c.args.steps.now)
          (subst (λ (steps : List Step). IsWorkOf steps c.loop-step.cells)
          (drop_more c.args.steps.now c.loop-step.step-index c.step-item.result inside ∙ ap (λ (s : Step). s ∷ drop (c.loop-step.step-index + 1) c.args.steps.now) (sym c.step-item.is)) c.loop-step.invariant.within);
      rise = c.keep_step.ensures.below;
      even = λ zeros even. c.keep_step.ensures.even zeros (c.loop-step.invariant.even zeros even);
      pages = omega arith;
    }

pub returns-clause-next : goal.returns-clause-next
returns-clause-next c zeros =
    let past : length c.args.steps.now ≤ c.loop-step.step-index = omega arith in
    let none : drop c.loop-step.step-index c.args.steps.now ≡ [] = drop_all c.loop-step.step-index c.args.steps.now past in
    let within : IsWorkOf [] c.loop-step.cells
    = subst (λ (steps : List Step). IsWorkOf steps c.loop-step.cells) none c.loop-step.invariant.within in
    kept-next zeros c.loop-step.cells (IsIdle-all c.loop-step.cells within) ∙ c.loop-step.invariant.next zeros
