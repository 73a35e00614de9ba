use Rattle.std.proofs.Common.{◌∙◌, sym, ap, nat_eq}
use Rattle.std.specs.Map.{lookup}
use Rattle.tx_table.proofs.Placed.{rows_none, rows_found}
use Rattle.tx_table.proofs.slots.Slots.get.Goals as goal

pub returns-in-None : goal.returns-in-None
returns-in-None c =
    let n = c.args.serial in
    sym (rows_none c.self.inside.slots.slots n c.self.inside.keys.entries (sym c.in-None.ensures.value))
    ∙ ap (λ l. lookup (nat_eq n) l) c.self.view_is

pub returns-in-Some : goal.returns-in-Some
returns-in-Some c =
    let n = c.args.serial in
    c.get-in-Some.ensures
    ∙ (sym (rows_found c.self.inside.slots.slots n c.in-Some.key.now c.self.inside.keys.entries c.self.invariant (sym c.in-Some.ensures.value))
    ∙ ap (λ l. lookup (nat_eq n) l) c.self.view_is)
