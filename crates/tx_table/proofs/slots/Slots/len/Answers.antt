use Rattle.std.proofs.Common.{◌∙◌, sym, ap, length}
use Rattle.tx_table.proofs.Placed.{length-rows}
use Rattle.tx_table.proofs.slots.Slots.len.Goals as goal

pub returns : goal.returns
returns c =
    c.len.ensures.len
    ∙ (sym (length-rows c.self.inside.slots.slots c.self.inside.keys.entries c.self.invariant) ∙ ap (λ l. length l) c.self.view_is)
