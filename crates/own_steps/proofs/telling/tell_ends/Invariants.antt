use Rattle.std.proofs.Common.{◌≡◌, ◌≤◌, ℕ, List, Option, Some, length, map}
use Rattle.std.specs.Vec.Iter.{into_iter_items, into_iter_len}
use Rattle.pcl_base.specs.declared.trace.Call.{Call}
use Rattle.redo_log.specs.Told.{NoneFails}
use Rattle.node_rules.specs.DiskCalls.{DiskCall}
use Rattle.node_rules.specs.OwnerRule.{tell_end}
use Rattle.node_rules.specs.Work.{for_each}
use Rattle.node_parts.specs.Comes.{work_of}
use Rattle.node_parts.specs.State.{node_of}
use Rattle.page_owner.specs.Carry.{SameNode}
use Rattle.page_owner.specs.Planned.{SameView}
use Rattle.own_steps.specs.Ends.{AwaitsEnds, HasMemoryFor, due}
use Rattle.own_steps.proofs.telling.tell_ends.Given as goal

abbrev pub decreases-loop-plan : goal.decreases-loop-plan
decreases-loop-plan g l = into_iter_len l.plans

abbrev pub invariant-loop-plan : goal.invariant-loop-plan
invariant-loop-plan g l = record {
  awaits : AwaitsEnds l.parts l.tx (map due (into_iter_items l.ends)) (into_iter_items l.plans);
  view : SameView l.fn.parts l.parts;
  same : SameNode l.fn.parts.home l.parts.home;
  memory : HasMemoryFor (into_iter_items l.plans) l.stock l.out;
  size : l.stock.size ≡ l.fn.stock.size;
  pages : g.S.Storage.pages l.s ≡ g.S.Storage.pages l.fn.s;
  logs : g.S.Storage.logs l.s ≡ g.S.Storage.logs l.fn.s;
  rooms : g.S.Storage.rooms l.s ≡ g.S.Storage.rooms l.fn.s;
  stops : g.S.Storage.stops l.s ≡ g.S.Storage.stops l.fn.s;
  calm : (f : List (Option ℕ)) → NoneFails (g.S.Storage.failing l.fn.s) l.fn.parts.me f → NoneFails (g.S.Storage.failing l.s) l.fn.parts.me f;
  counts : (k : Call) → g.S.Storage.faults l.fn.s k ≤ g.S.Storage.faults l.s k;
  plans_len : into_iter_len l.plans ≡ length (into_iter_items l.plans);
  ends_len : into_iter_len l.ends ≡ length (into_iter_items l.ends);
  rest : (ps : List (List ℕ)) (cs : List DiskCall) → g.S.Storage.pages l.fn.s ≡ Some ps
      → for_each (tell_end l.tx) (into_iter_items l.ends) (work_of (node_of l.parts) ps cs l.out)
      ≡ for_each (tell_end l.tx) l.fn.ends.items (work_of (node_of l.fn.parts) ps cs l.fn.out);
}
