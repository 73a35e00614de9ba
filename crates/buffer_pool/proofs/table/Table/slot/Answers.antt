use Rattle.std.proofs.Common.{Some, None, sym, ap, ◌∙◌}
use Rattle.buffer_pool.specs.Entries.{slot_here}
use Rattle.buffer_pool.proofs.Entries.{at_number}
use Rattle.buffer_pool.proofs.Names.{slot_now, table_now}
use Rattle.buffer_pool.proofs.table.Table.slot.Goals as goal

pub returns-in_err-frame-clause-found : goal.returns-in_err-frame-clause-found
returns-in_err-frame-clause-found c = c.from_residual.ensures ∙ slot_now c.self.inside.names.entries c.args.page _ _ _ _ _ _ _ None c.self.invariant c.self.view_is (sym c.in_err-frame.ensures.value)

pub returns-in_err-frame-clause-sound : goal.returns-in_err-frame-clause-sound
returns-in_err-frame-clause-sound c = table_now _ _ _ _ _ _ _ _ c.self.invariant c.self.view_is

pub returns-in_err-peek-clause-found : goal.returns-in_err-peek-clause-found
returns-in_err-peek-clause-found c =
    c.from_residual-in_err-peek.ensures
    ∙ ap (at_number (slot_here c.args.page) c.in_ok-frame.field-0.now) c.in_err-peek.ensures
    ∙ slot_now c.self.inside.names.entries c.args.page _ _ _ _ _ _ _ (Some c.in_ok-frame.field-0.now) c.self.invariant c.self.view_is (sym c.in_ok-frame.ensures.value)

pub returns-in_err-peek-clause-sound : goal.returns-in_err-peek-clause-sound
returns-in_err-peek-clause-sound c = table_now _ _ _ _ _ _ _ _ c.self.invariant c.self.view_is

pub returns-clause-found : goal.returns-clause-found
returns-clause-found c =
    c.slot_of.ensures
    ∙ ap (at_number (slot_here c.args.page) c.in_ok-frame.field-0.now) c.in_ok-peek.ensures
    ∙ slot_now c.self.inside.names.entries c.args.page _ _ _ _ _ _ _ (Some c.in_ok-frame.field-0.now) c.self.invariant c.self.view_is (sym c.in_ok-frame.ensures.value)

pub returns-clause-sound : goal.returns-clause-sound
returns-clause-sound c = table_now _ _ _ _ _ _ _ _ c.self.invariant c.self.view_is
