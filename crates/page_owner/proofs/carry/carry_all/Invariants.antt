use Rattle.std.proofs.Common.{◌≡◌, ◌≤◌, ◌-◌, ℕ, List, Option, Some, length, drop}
use Rattle.pcl_base.specs.declared.trace.Call.{Call}
use Rattle.node_rules.specs.NodeState.{NodeState}
use Rattle.node_rules.specs.DiskCalls.{DiskCall}
use Rattle.node_rules.specs.Work.{for_each}
use Rattle.node_rules.specs.OwnerRule.{carry_out}
use Rattle.page_owner.specs.Carry.{HasMemory, SameNode, UsesMany, work_with}
use Rattle.redo_log.specs.Told.{NoneFails}
use Rattle.page_owner.proofs.carry.carry_all.Given as goal

abbrev pub invariant-loop-decision : goal.invariant-loop-decision
invariant-loop-decision g l = record {
  same : SameNode l.fn.home l.home;
  pages : g.S.Storage.pages l.s ≡ g.S.Storage.pages l.fn.s;
  logs : g.S.Storage.logs l.s ≡ g.S.Storage.logs l.fn.s;
  rooms : g.S.Storage.rooms l.s ≡ g.S.Storage.rooms l.fn.s;
  stops : g.S.Storage.stops l.s ≡ g.S.Storage.stops l.fn.s;
  calm : (f : List (Option ℕ)) → NoneFails (g.S.Storage.failing l.fn.s) l.fn.at.me f → NoneFails (g.S.Storage.failing l.s) l.fn.at.me f;
  counts : (k : Call) → g.S.Storage.faults l.fn.s k ≤ g.S.Storage.faults l.s k;
  size : l.stock.size ≡ l.fn.stock.size;
  memory : HasMemory (l.decision-index-end - l.decision-index) l.stock l.out;
  within : l.decision-index ≤ length l.decisions;
  used : UsesMany l.decision-index l.fn.stock l.stock l.fn.out l.out;
  rest : (n : NodeState) (ps : List (List ℕ)) (cs : List DiskCall) → n.epoch ≡ l.fn.at.epoch → g.S.Storage.pages l.fn.s ≡ Some ps
      → for_each (carry_out l.fn.at.page l.fn.at.version) (drop l.decision-index l.decisions) (work_with n l.home ps cs l.out)
      ≡ for_each (carry_out l.fn.at.page l.fn.at.version) l.decisions (work_with n l.fn.home ps cs l.fn.out);
}
