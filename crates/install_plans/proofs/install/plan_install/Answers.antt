use Rattle.std.proofs.Common.{◌∷◌, [], ℕ, sym, ◌∙◌, subst, arith}
use Rattle.std.specs.List.{AllByRecursion}
use Rattle.node_rules.specs.InstallRule.{in_view}
use Rattle.install_laws.specs.InstallPlans.{plan_install, plan_partition}
use Rattle.install_laws.proofs.Redoing.{all_append}
use Rattle.node_parts.specs.State.{node_of}
use Rattle.redo_log.specs.Told.{NoneFails}
use Rattle.install_plans.specs.declared.plan.PartitionPlan.{PartitionPlan as Made}
use Rattle.install_plans.specs.Plans.{Fits}
use Rattle.install_plans.proofs.Planning.{one_more, no_more, ended_planned, ended_fits, fits_same}
use Rattle.install_plans.proofs.install.plan_install.Goals as goal

pub returns-in-Err-clause-planned : goal.returns-in-Err-clause-planned
returns-in-Err-clause-planned g c = λ d pages logs.
    let x = c.args.parts.now in
    let n = in_view c.args.view.now (node_of x) in
    let inv = c.loop-q.invariant in
    ended_planned d (node_of x) (λ q. plan_partition d d.pages x.view c.args.view.now q n) c.nodes-q-end.result c.loop-q.plans c.loop-q.q (plan_install d d.pages x.view c.args.view.now n) c.in-Err.fault c.ended.result
    c.loop-q-test.true (c.in-Err.ensures.planned d (inv.pages ∙ pages) (inv.logs ∙ logs)) (inv.done d pages logs) c.ended.ensures

pub returns-in-Err-clause-fits : goal.returns-in-Err-clause-fits
returns-in-Err-clause-fits g c = ended_fits c.args.parts.now.home.config c.args.parts.now.me _ _ c.loop-q.plans c.in-Err.fault c.ended.result c.loop-q.invariant.fits c.ended.ensures

pub loop-q-preserved : goal.loop-q-preserved
loop-q-preserved g c =
    let x = c.args.parts.now in
    let k = x.home.config in
    let n = in_view c.args.view.now (node_of x) in
    let q = c.loop-q.q in
    let inv = c.loop-q.invariant in
    let e = c.plan_partition.ensures in
    let by = c.planner_of-by.ensures in
    let items = c.in_ok-push-in-Ok.ensures.items in
    let fit : Fits k x.me q (g.S.Storage.pages c.args.s.now) (g.S.Storage.logs c.args.s.now) c.in-Ok.plan =
    fits_same _ _ _ _ q _ _ _ _ c.in-Ok.plan by.config by.me inv.pages inv.logs c.in-Ok.ensures.fits in
    record {
      pages = e.pages ∙ inv.pages;
      logs = e.logs ∙ inv.logs;
      rooms = e.rooms ∙ inv.rooms;
      stops = e.stops ∙ inv.stops;
      calm = λ f none. subst (λ m. NoneFails (g.S.Storage.failing c.plan_partition.new.s) m f) by.me
          (e.calm f (subst (λ m. NoneFails (g.S.Storage.failing c.loop-q.s) m f) (sym by.me) (inv.calm f none)));
      counts = λ kind. let a = e.counts kind in let b = inv.counts kind in omega (arith, a, b);
      end = inv.end;
      fits = subst (AllByRecursion (λ (y : ℕ × Made). Fits k x.me y.0 (g.S.Storage.pages c.args.s.now) (g.S.Storage.logs c.args.s.now) y.1)) (sym items)
          (all_append (λ (y : ℕ × Made). Fits k x.me y.0 (g.S.Storage.pages c.args.s.now) (g.S.Storage.logs c.args.s.now) y.1) c.loop-q.plans.items ((q, c.in-Ok.plan) ∷ []) inv.fits (fit, tt));
      done = λ d pages logs.
          one_more d (node_of x) (λ r. plan_partition d d.pages x.view c.args.view.now r n) c.nodes-q-end.result c.loop-q.plans.items c.push.new.self.items q c.in-Ok.plan (plan_install d d.pages x.view c.args.view.now n)
          c.loop-q-test.true (c.in-Ok.ensures.planned d (inv.pages ∙ pages) (inv.logs ∙ logs)) items (inv.done d pages logs);
    }

pub returns-clause-planned : goal.returns-clause-planned
returns-clause-planned g c = λ d pages logs.
    let x = c.args.parts.now in
    let n = in_view c.args.view.now (node_of x) in
    no_more d (node_of x) (λ q. plan_partition d d.pages x.view c.args.view.now q n) c.nodes-q-end.result c.loop-q.plans.items c.loop-q.q (plan_install d d.pages x.view c.args.view.now n)
    c.loop-q-test.false (c.loop-q.invariant.done d pages logs)
