use Rattle.std.proofs.Common.{◌≡◌, ap, sym, ◌∙◌}
use Rattle.pcl_base.specs.declared.lock.Verdict.TheVariants as verdict
use Rattle.pcl_base.specs.declared.reply.Reply.TheVariants as reply
use Rattle.node_rules.specs.NodeState.{NodeState, number_of}
use Rattle.node_rules.specs.NodeStep.{judge_in, partition_of}
use Rattle.node_parts.specs.State.{node_of}
use Rattle.node_core.specs.Steps.{seen_by}
use Rattle.node_core.proofs.ReportParts.{answered_step, is_dropped, is_held, judged}
use Rattle.node_core.proofs.reporting.step_report.Goals as goal

pub returns-in-Held-clause-step : goal.returns-in-Held-clause-step
returns-in-Held-clause-step g c =
    let e = c.answer.ensures in
    let judging : judge_in c.args.parts.now.view (number_of (node_of c.args.parts.now)) c.args.from c.args.m.now.epoch (partition_of c.args.parts.now.home.config c.args.m.now.body) ≡ verdict.Held = sym c.judge.ensures ∙ c.in-Held.is in
    answered_step c.args.parts.now c.args.out.now c.answer.new.out (seen_by (g.S.Storage.pages c.args.s.now) (g.S.Storage.logs c.args.s.now) (g.S.Storage.stops c.args.s.now) (g.S.Storage.failing c.args.s.now) (g.S.Storage.rooms c.args.s.now) (g.S.Storage.faults c.args.s.now)) c.answer.result c.requires.parts c.requires.replies c.requires.sends
    c.args.from c.args.m.now reply.Held c.requires.none (λ d w same. is_held d c.args.from c.args.m.now w (ap (λ (n : NodeState). judged n c.args.from c.args.m.now) same ∙ judging)) e.replies e.sends e.err e.fault c.requires.sizes

pub returns-in-Dropped-clause-step : goal.returns-in-Dropped-clause-step
returns-in-Dropped-clause-step g c =
    let e = c.answer-in-Dropped.ensures in
    let judging : judge_in c.args.parts.now.view (number_of (node_of c.args.parts.now)) c.args.from c.args.m.now.epoch (partition_of c.args.parts.now.home.config c.args.m.now.body) ≡ verdict.Dropped = sym c.judge.ensures ∙ c.in-Dropped.is in
    answered_step c.args.parts.now c.args.out.now c.answer-in-Dropped.new.out (seen_by (g.S.Storage.pages c.args.s.now) (g.S.Storage.logs c.args.s.now) (g.S.Storage.stops c.args.s.now) (g.S.Storage.failing c.args.s.now) (g.S.Storage.rooms c.args.s.now) (g.S.Storage.faults c.args.s.now)) c.answer-in-Dropped.result c.requires.parts c.requires.replies c.requires.sends
    c.args.from c.args.m.now reply.Dropped c.requires.none (λ d w same. is_dropped d c.args.from c.args.m.now w (ap (λ (n : NodeState). judged n c.args.from c.args.m.now) same ∙ judging)) e.replies e.sends e.err e.fault c.requires.sizes
