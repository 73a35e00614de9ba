use Rattle.std.proofs.Common.{◌≡◌, ◌++◌, map, drop}
use Rattle.std.specs.List.{concat}
use Rattle.messages.proofs.writing.put_list.Given as goal

-- what was written before what is left to be written is the whole list
abbrev pub invariant-loop-item : goal.invariant-loop-item
invariant-loop-item g l =
    l.out.items ++ concat (map g.T.Put.bytes (drop l.item-index l.items)) ≡ l.initial.out.items ++ concat (map g.T.Put.bytes l.items)
