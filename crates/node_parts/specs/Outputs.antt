-- What contracts see of the replies and sends of steps.
use Rattle.std.specs.Prelude.{ℕ, ◌≤◌, List}
use Rattle.pcl_base.specs.declared.reply.Reply.{Reply}
use Rattle.node_rules.specs.NodeState.{Outgoing}

-- both lists in order, and for how many more items of each there is room
pub record OutputsView : Type 0 where
  pub replies : List Reply
  pub sends : List Outgoing
  pub reply_room : ℕ
  pub send_room : ℕ

-- there is room for so many more replies and sends
pub record HasRoom (o : OutputsView) (replies sends : ℕ) : Type 0 where
  pub for_replies : replies ≤ o.reply_room
  pub for_sends : sends ≤ o.send_room
