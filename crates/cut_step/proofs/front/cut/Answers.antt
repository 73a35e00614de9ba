use Rattle.std.proofs.Common.{◌≡◌, ◌++◌, Err, sym, ap, subst, ◌∙◌}
use Rattle.run_rules.specs.Disk.{log_at}
use Rattle.home.specs.Device.{told_by}
use Rattle.node_rules.specs.CutRule.{cuttable}
use Rattle.node_rules.specs.NodeState.{number_of}
use Rattle.node_rules.specs.NodeStep.{cut_front, cut_log}
use Rattle.node_rules.specs.Work.{Goes}
use Rattle.node_parts.specs.Comes.{Comes, work_of}
use Rattle.node_parts.specs.State.{node_of}
use Rattle.log_cut.specs.Cutting.{AnswersCut}
use Rattle.cut_step.specs.Cuts.{cut_calls, front_of}
use Rattle.cut_step.proofs.Cutting.{fault_comes, front_comes, front_found, own_log}
use Rattle.cut_step.proofs.front.cut.Goals as goal

pub returns-in-Ok-clause-comes : goal.returns-in-Ok-clause-comes
returns-in-Ok-clause-comes g c = λ d cs p l.
    let n = node_of c.args.parts.now in
    let same : c.config-config.result.now ≡ n.home.config = c.config-config.ensures.value ∙ ap (λ v. v.home.config) c.parts.view_is in
    let found = subst (λ k. cuttable k d.pages (log_at d (number_of n)) ≡ Goes c.in-Ok.count) same (c.in-Ok.ensures.value d.pages (log_at d (number_of n)) p (own_log _ d _ (number_of n) _ l (ap (λ v. v.me) c.parts.view_is ∙ c.requires.parts.number) c.requires.parts.node.number c.requires.sizes.logs_told)) in
    front_comes _ d n cs c.args.out.now c.reserve.new.self c.cut_front.new.out c.in-Ok.count c.cut_front.result found c.cut_front.ensures.replies c.cut_front.ensures.sends
    c.in_ok-reserve.ensures.replies c.in_ok-reserve.ensures.sends c.cut_front.ensures.called

pub returns-in-Ok-clause-made : goal.returns-in-Ok-clause-made
returns-in-Ok-clause-made g c = λ d p l.
    let n = node_of c.args.parts.now in
    let same : c.config-config.result.now ≡ n.home.config = c.config-config.ensures.value ∙ ap (λ v. v.home.config) c.parts.view_is in
    let found = subst (λ k. cuttable k d.pages (log_at d (number_of n)) ≡ Goes c.in-Ok.count) same (c.in-Ok.ensures.value d.pages (log_at d (number_of n)) p (own_log _ d _ (number_of n) _ l (ap (λ v. v.me) c.parts.view_is ∙ c.requires.parts.number) c.requires.parts.node.number c.requires.sizes.logs_told)) in
    front_found _ c.args.parts.now.me d n c.in-Ok.count c.cut_front.result (told_by (g.S.Storage.pages c.args.s.now) (g.S.Storage.logs c.args.s.now) (g.S.Storage.stops c.args.s.now)) _ _ found
    (λ i. told_by (c.in-Ok.ensures.pages i) (c.in-Ok.ensures.logs i) (c.in-Ok.ensures.stops i)) c.cut_front.ensures.made

pub returns-clause-comes : goal.returns-clause-comes
returns-clause-comes g c = λ d cs p l.
    let n = node_of c.args.parts.now in
    let same : c.config-config.result.now ≡ n.home.config = c.config-config.ensures.value ∙ ap (λ v. v.home.config) c.parts.view_is in
    let answer = subst (λ k. AnswersCut (cuttable k d.pages (log_at d (number_of n))) (Err c.in-Err.fault)) same (c.in-Err.ensures.value d.pages (log_at d (number_of n)) p (own_log _ d _ (number_of n) _ l (ap (λ v. v.me) c.parts.view_is ∙ c.requires.parts.number) c.requires.parts.node.number c.requires.sizes.logs_told)) in
    subst (λ f. Comes {T = Unit {0}} (cut_log d (work_of n d.pages cs c.args.out.now)) (Err f) (work_of n d.pages (cs ++ cut_calls (front_of d n)) c.reserve.new.self)) (sym c.halt.ensures)
    (fault_comes (Unit {0}) _ (cut_front (work_of n d.pages cs c.args.out.now)) c.in-Err.fault _ answer)
