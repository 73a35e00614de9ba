use Rattle.std.proofs.Common.{◌≡◌, ◌<◌, ◌-◌, ◌++◌, map, length, true}
use Rattle.text_rules.specs.MessageBytes.{flag_byte}
use Rattle.frame_rules.specs.Frames.{is_live_node}
use Rattle.frame_rules.specs.ReadFrame.{live_fields}
use Rattle.messages.specs.Reading.{prefixed}
use Rattle.node_frames.proofs.view.live_flags.Given as goal

-- the flags that were read before those that are left
abbrev pub invariant-loop-node : goal.invariant-loop-node
invariant-loop-node l =
    (live_fields l.me 0 l.nodes l.initial.fields
    ≡ prefixed l.live.items (live_fields l.me l.node (l.nodes - l.node) l.fields))
    × (l.initial.fields ≡ map flag_byte l.live.items ++ l.fields)
    × (length l.live.items ≡ l.node)
    × (l.me < l.node → is_live_node l.live.items l.me ≡ true)
