use Rattle.std.proofs.Common.{◌≡◌, map, drop}
use Rattle.node_rules.specs.EndRule.{unpin_all}
use Rattle.home_laws.specs.EndNeeds.{MayUnpin}
use Rattle.home.proofs.Unpinned.{page_of}
use Rattle.home.proofs.leave.unpin_all.Given as goal

abbrev pub invariant-loop-end : goal.invariant-loop-end
invariant-loop-end l = record {
  rest : unpin_all l.pool (map page_of (drop l.end-index l.ends)) ≡ unpin_all l.initial.pool (map page_of l.ends);
  may : MayUnpin (map page_of (drop l.end-index l.ends)) l.pool;
}
