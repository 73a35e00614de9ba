use Rattle.std.proofs.Common.{◌≡◌, ◌-◌, ◌≤◌, ◌++◌, take, drop, length}
use Rattle.smallvec.specs.SmallVec.{HasRoomFor}
use Rattle.node_rules.specs.NodeState.{cover}
use Rattle.home.proofs.runs.put_run.Given as goal

abbrev pub invariant-loop-at : goal.invariant-loop-at
invariant-loop-at l = record {
  rest : take l.at l.runs.items ++ cover (drop l.at l.runs.items) l.run.from l.run.to ≡ cover l.fn.runs.items l.fn.from l.fn.to;
  room : HasRoomFor l.runs 1;
  within : l.at ≤ length l.runs.items;
}

abbrev pub decreases-loop-at : goal.decreases-loop-at
decreases-loop-at l = length l.runs.items - l.at
