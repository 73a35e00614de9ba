use Rattle.std.proofs.Common.{◌≡◌, ◌≤◌, ◌-◌, ℕ, List, Option, Some, length, drop}
use Rattle.pcl_base.specs.declared.trace.Call.{Call}
use Rattle.home.specs.Moves.{MoveListView, Lists}
use Rattle.install_laws.specs.InstallPlans.{carry_due}
use Rattle.node_rules.specs.NodeState.{NodeState}
use Rattle.node_rules.specs.DiskCalls.{DiskCall}
use Rattle.node_rules.specs.Work.{for_each}
use Rattle.page_owner.specs.Carry.{HasMemory, SameNode, UsesMany, work_with}
use Rattle.redo_log.specs.Told.{NoneFails}
use Rattle.partition_steps.proofs.dues.carry_dues.Given as goal

abbrev pub invariant-loop-due : goal.invariant-loop-due
invariant-loop-due g l = record {
  same : SameNode l.fn.home l.home;
  listed : (list : MoveListView) → Lists list l.fn.home → Lists list l.home;
  pages : g.S.Storage.pages l.s ≡ g.S.Storage.pages l.fn.s;
  logs : g.S.Storage.logs l.s ≡ g.S.Storage.logs l.fn.s;
  rooms : g.S.Storage.rooms l.s ≡ g.S.Storage.rooms l.fn.s;
  stops : g.S.Storage.stops l.s ≡ g.S.Storage.stops l.fn.s;
  calm : (f : List (Option ℕ)) → NoneFails (g.S.Storage.failing l.fn.s) l.me f → NoneFails (g.S.Storage.failing l.s) l.me f;
  counts : (k : Call) → g.S.Storage.faults l.fn.s k ≤ g.S.Storage.faults l.s k;
  size : l.stock.size ≡ l.fn.stock.size;
  memory : HasMemory (l.due-index-end - l.due-index) l.stock l.out;
  within : l.due-index ≤ length l.dues;
  used : UsesMany l.due-index l.fn.stock l.stock l.fn.out l.out;
  rest : (n : NodeState) (ps : List (List ℕ)) (cs : List DiskCall) → n.epoch ≡ l.epoch → g.S.Storage.pages l.fn.s ≡ Some ps
      → for_each carry_due (drop l.due-index l.dues) (work_with n l.home ps cs l.out) ≡ for_each carry_due l.dues (work_with n l.fn.home ps cs l.fn.out);
}
