use Rattle.std.proofs.Common.{◌≡◌, ◌-◌, ◌++◌, length, true}
use Rattle.std.specs.List.{list_all}
use Rattle.pcl_base.specs.Limits.{is_between}
use Rattle.text_rules.specs.FieldBytes.{items}
use Rattle.frame_rules.specs.Frames.{epochs_bytes}
use Rattle.frame_rules.specs.ReadFrame.{epoch_field}
use Rattle.messages.specs.Reading.{prefixed}
use Rattle.node_frames.proofs.view.epochs.Given as goal

-- the epochs that were read before those that are left
abbrev pub invariant-loop : goal.invariant-loop
invariant-loop l =
    (items l.count (epoch_field l.most) l.initial.fields
    ≡ prefixed l.epochs.items (items (l.count - l.counter) (epoch_field l.most) l.fields))
    × (l.initial.fields ≡ epochs_bytes l.epochs.items ++ l.fields)
    × (length l.epochs.items ≡ l.counter)
    × (list_all (is_between 1 l.most) l.epochs.items ≡ true)
