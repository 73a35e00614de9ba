use Rattle.std.proofs.Common.{◌≡◌, ◌≤◌, ◌++◌, length}
use Rattle.std.specs.Vec.Iter.{into_iter_items, into_iter_len}
use Rattle.node_core.proofs.step.append_replies.Given as goal

abbrev pub decreases-loop-reply : goal.decreases-loop-reply
decreases-loop-reply l = into_iter_len l.left

abbrev pub invariant-loop-reply : goal.invariant-loop-reply
invariant-loop-reply l = record {
  replies : l.out.replies ++ into_iter_items l.left ≡ l.fn.out.replies ++ l.fn.replies.items;
  sends : l.out.sends ≡ l.fn.out.sends;
  room : length (into_iter_items l.left) ≤ l.out.reply_room;
  send_room : l.out.send_room ≡ l.fn.out.send_room;
  len : into_iter_len l.left ≡ length (into_iter_items l.left);
}
