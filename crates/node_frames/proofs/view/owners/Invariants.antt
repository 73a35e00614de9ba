use Rattle.std.proofs.Common.{◌≡◌, ◌-◌, ◌++◌, length, true}
use Rattle.std.specs.List.{list_all}
use Rattle.text_rules.specs.FieldBytes.{items}
use Rattle.frame_rules.specs.Frames.{is_live_node}
use Rattle.frame_rules.specs.ReadFrame.{owner_field}
use Rattle.messages.specs.Reading.{prefixed}
use Rattle.node_frames.proofs.view.owners.Given as goal

-- the owners that were read before those that are left
abbrev pub invariant-loop : goal.invariant-loop
invariant-loop l =
    (items l.end (owner_field l.live) l.initial.fields
    ≡ prefixed l.owners.items (items (l.end - l.counter) (owner_field l.live) l.fields))
    × (l.initial.fields ≡ l.owners.items ++ l.fields)
    × (length l.owners.items ≡ l.counter)
    × (list_all (is_live_node l.live) l.owners.items ≡ true)
