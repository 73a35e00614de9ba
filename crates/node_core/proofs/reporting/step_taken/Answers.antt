use Rattle.std.proofs.Common.{◌≡◌, rules, subst}
use Rattle.pcl_base.specs.declared.message.Body.TheVariants as body
use Rattle.text_rules.specs.MessageBytes.{IsBody}
use Rattle.install_plans.proofs.Named.{reports_name_their_own_law}
use Rattle.node_core.specs.Steps.{seen_by}
use Rattle.node_core.proofs.ReportParts.{taken_step}
use Rattle.node_core.proofs.reporting.step_taken.Goals as goal

pub returns-clause-step : goal.returns-clause-step
returns-clause-step g c =
    let e = c.take_report.ensures in
    let is : c.args.m.now.body ≡ body.Report c.in-Report.report = search rules in
    let own = reports_name_their_own_law c.args.parts.now.home.config c.in-Report.report (subst (IsBody c.args.parts.now.home.config) is c.requires.message.body) in
    taken_step c.args.parts.now c.take_report.new.parts c.args.out.now c.take_report.new.out (seen_by (g.S.Storage.pages c.args.s.now) (g.S.Storage.logs c.args.s.now) (g.S.Storage.stops c.args.s.now) (g.S.Storage.failing c.args.s.now) (g.S.Storage.rooms c.args.s.now) (g.S.Storage.faults c.args.s.now)) (seen_by (g.S.Storage.pages c.take_report.new.s) (g.S.Storage.logs c.take_report.new.s) (g.S.Storage.stops c.take_report.new.s) (g.S.Storage.failing c.take_report.new.s) (g.S.Storage.rooms c.take_report.new.s) (g.S.Storage.faults c.take_report.new.s)) c.take_report.result c.requires.parts c.requires.replies c.requires.sends
    c.args.from c.args.m.now c.in-Report.report is c.requires.taken c.requires.none own.partition e.comes e.made e.node e.lists e.told e.same e.fault e.sizes e.calm e.quiet (e.counts, e.cause)
