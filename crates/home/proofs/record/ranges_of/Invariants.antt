use Rattle.std.proofs.Common.{◌≡◌, ◌++◌, drop, map}
use Rattle.node_rules.specs.EndRule.{range_of}
use Rattle.home.proofs.record.ranges_of.Given as goal

abbrev pub invariant-loop-run : goal.invariant-loop-run
invariant-loop-run l = l.ranges ++ map (range_of l.page) (drop l.run-index l.runs) ≡ map (range_of l.page) l.runs
