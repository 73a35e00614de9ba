-- The events of a node, in the words of the rules.
use Rattle.std.specs.Prelude.{◌≡◌, length, ⊤}
use Rattle.pcl_base.specs.Limits.{Sizes}
use Rattle.node_rules.specs.NodeState.{NodeEvent as Asked, Begin as begin, Read as read, Write as write, Commit as commit, Abort as abort, Deliver as deliver, Evict as evict, Flush as flush, Install as install, Cut as cut}
use Rattle.node_parts.specs.declared.event.NodeEvent.{NodeEvent}
use Rattle.node_parts.specs.declared.event.NodeEvent.TheVariants.{Begin, Read, Write, Commit, Abort, Deliver, Evict, Flush, Install, Cut}

-- the event of the rules
abbrev pub event_of : NodeEvent → Asked
event_of Begin = begin
event_of (Read tx page) = read tx page
event_of (Write tx page place bytes) = write tx page place bytes
event_of (Commit tx) = commit tx
event_of (Abort tx) = abort tx
event_of (Deliver from message) = deliver from message
event_of (Evict page) = evict page
event_of (Flush page) = flush page
event_of (Install view) = install view
event_of Cut = cut

-- a view that comes with an event has a flag for each node
abbrev pub FitsNodes : Sizes → NodeEvent → Type 0
FitsNodes c (Install view) = length view.live ≡ c.nodes
FitsNodes c _ = ⊤
