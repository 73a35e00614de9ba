use Rattle.std.proofs.Common.{◌≡◌, ◌≤◌, ◌-◌, ℕ, List, Option, Some, map}
use Rattle.std.specs.List.{AllByRecursion}
use Rattle.pcl_base.specs.declared.trace.Call.{Call as Kind}
use Rattle.run_rules.specs.Disk.{Disk}
use Rattle.run_rules.specs.Views.{count_from}
use Rattle.node_rules.specs.InstallRule.{in_view}
use Rattle.install_laws.specs.InstallPlans.{plan_all, plan_install, plan_partition}
use Rattle.node_parts.specs.State.{node_of}
use Rattle.redo_log.specs.Told.{NoneFails}
use Rattle.install_plans.specs.Plans.{Fits}
use Rattle.install_plans.proofs.Planning.{before_all, seen_plan}
use Rattle.install_plans.proofs.install.plan_install.Given as goal

abbrev pub invariant-loop-q : goal.invariant-loop-q
invariant-loop-q g l = record {
  pages : g.S.Storage.pages l.s ≡ g.S.Storage.pages l.fn.s;
  logs : g.S.Storage.logs l.s ≡ g.S.Storage.logs l.fn.s;
  rooms : g.S.Storage.rooms l.s ≡ g.S.Storage.rooms l.fn.s;
  stops : g.S.Storage.stops l.s ≡ g.S.Storage.stops l.fn.s;
  calm : (f : List (Option ℕ)) → NoneFails (g.S.Storage.failing l.fn.s) l.parts.me f → NoneFails (g.S.Storage.failing l.s) l.parts.me f;
  counts : (k : Kind) → g.S.Storage.faults l.fn.s k ≤ g.S.Storage.faults l.s k;
  end : l.q-end ≡ l.parts.home.config.nodes;
  fits : AllByRecursion (λ x. Fits l.parts.home.config l.parts.me x.0 (g.S.Storage.pages l.fn.s) (g.S.Storage.logs l.fn.s) x.1) l.plans.items;
  done : (d : Disk) → g.S.Storage.pages l.fn.s ≡ Some d.pages → g.S.Storage.logs l.fn.s ≡ Some d.logs
      → plan_install d d.pages l.parts.view l.view (in_view l.view (node_of l.parts))
      ≡ before_all (map (seen_plan d (node_of l.parts)) l.plans.items) (plan_all (λ q. plan_partition d d.pages l.parts.view l.view q (in_view l.view (node_of l.parts))) (count_from l.q (l.q-end - l.q)));
}
