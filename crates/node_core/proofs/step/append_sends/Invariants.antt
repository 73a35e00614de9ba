use Rattle.std.proofs.Common.{◌≡◌, ◌≤◌, ◌++◌, length}
use Rattle.std.specs.Vec.Iter.{into_iter_items, into_iter_len}
use Rattle.node_core.proofs.step.append_sends.Given as goal

abbrev pub decreases-loop-sent : goal.decreases-loop-sent
decreases-loop-sent l = into_iter_len l.left

abbrev pub invariant-loop-sent : goal.invariant-loop-sent
invariant-loop-sent l = record {
  replies : l.out.replies ≡ l.fn.out.replies;
  sends : l.out.sends ++ into_iter_items l.left ≡ l.fn.out.sends ++ l.fn.sends.items;
  room : length (into_iter_items l.left) ≤ l.out.send_room;
  len : into_iter_len l.left ≡ length (into_iter_items l.left);
}
