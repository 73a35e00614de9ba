use Rattle.std.proofs.Common.{◌≡◌, ◌-◌, ◌++◌, map, length}
use Rattle.std.specs.List.{concat, AllByRecursion}
use Rattle.text_rules.specs.FieldBytes.{items}
use Rattle.messages.specs.Reading.{prefixed}
use Rattle.messages.proofs.list.list.Given as goal

-- what was read before what is left to be read is the whole list
abbrev pub invariant-loop : goal.invariant-loop
invariant-loop g l =
    (items l.count (g.T.Item.field l.config l.partition) l.initial.fields
    ≡ prefixed l.items.items (items (l.count - l.counter) (g.T.Item.field l.config l.partition) l.fields))
    × (l.initial.fields ≡ concat (map g.T.Item.bytes l.items.items) ++ l.fields)
    × (length l.items.items ≡ l.counter)
    × AllByRecursion (g.T.Item.IsItem l.config l.partition) l.items.items
