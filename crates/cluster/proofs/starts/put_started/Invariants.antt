use Rattle.std.proofs.Common.{◌≡◌, length, drop}
use Rattle.cluster.specs.Starts.{with_started}
use Rattle.cluster.proofs.starts.put_started.Given as goal

abbrev pub invariant-loop-i : goal.invariant-loop-i
invariant-loop-i l = record {
  rest : with_started l.nodes (drop l.i l.numbers) (drop l.i l.started.items) ≡ with_started l.fn.nodes l.numbers l.fn.started.items;
  long : length l.nodes ≡ length l.fn.nodes;
  each : length l.started.items ≡ length l.numbers;
}
