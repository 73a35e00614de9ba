use Rattle.std.proofs.Common.{◌≡◌, ℕ, List, drop}
use Rattle.node_rules.specs.DiskCalls.{DiskCall}
use Rattle.node_rules.specs.OwnerRule.{clean_unserved}
use Rattle.node_parts.specs.Comes.{work_of}
use Rattle.node_parts.specs.Outputs.{OutputsView}
use Rattle.node_parts.specs.State.{node_of}
use Rattle.page_owner.specs.Carry.{SameNode}
use Rattle.own_steps.proofs.tell_all.clean_copies.Given as goal

abbrev pub invariant-loop-end : goal.invariant-loop-end
invariant-loop-end l = record {
  clean : (ps : List (List ℕ)) (cs : List DiskCall) (o : OutputsView) → clean_unserved (drop l.end-index l.ends) (work_of (node_of l.parts) ps cs o) ≡ clean_unserved l.ends (work_of (node_of l.fn.parts) ps cs o);
  rest : l.parts ≡ record (l.fn.parts) { home = l.parts.home };
  same : SameNode l.fn.parts.home l.parts.home;
}
