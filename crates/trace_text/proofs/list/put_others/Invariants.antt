use Rattle.std.proofs.Common.{◌≡◌, ◌++◌, ◌∷◌, flat_map, drop}
use Rattle.trace_text.proofs.list.put_others.Given as goal

-- what was written before what is left to be written is the whole
abbrev pub invariant-loop-item : goal.invariant-loop-item
invariant-loop-item g l =
    l.out.items ++ flat_map (λ x. 44 ∷ g.T.Item.text x) (drop l.item-index l.items)
    ≡ l.initial.out.items ++ flat_map (λ x. 44 ∷ g.T.Item.text x) l.items
