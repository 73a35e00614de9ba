use Rattle.std.proofs.Common.{Some, None, sym, ap, ◌∙◌}
use Rattle.buffer_pool.specs.Entries.{private_here}
use Rattle.std.specs.Map.{lookup}
use Rattle.buffer_pool.specs.Kept.{same_name}
use Rattle.buffer_pool.proofs.Entries.{at_number}
use Rattle.buffer_pool.proofs.Names.{private_now, table_now}
use Rattle.buffer_pool.proofs.table.Table.private.Goals as goal

pub returns-in_err-frame-clause-found : goal.returns-in_err-frame-clause-found
returns-in_err-frame-clause-found c = c.from_residual.ensures ∙ private_now c.self.inside.names.entries c.args.tx c.args.page _ _ _ _ _ _ _ None c.self.invariant c.self.view_is (ap (λ n. lookup (same_name n) c.self.inside.names.entries) (sym c.private.ensures) ∙ sym c.in_err-frame.ensures.value)

pub returns-in_err-frame-clause-sound : goal.returns-in_err-frame-clause-sound
returns-in_err-frame-clause-sound c = table_now _ _ _ _ _ _ _ _ c.self.invariant c.self.view_is

pub returns-in_err-peek-clause-found : goal.returns-in_err-peek-clause-found
returns-in_err-peek-clause-found c =
    c.from_residual-in_err-peek.ensures
    ∙ ap (at_number (private_here c.args.tx c.args.page) c.in_ok-frame.field-0.now) c.in_err-peek.ensures
    ∙ private_now c.self.inside.names.entries c.args.tx c.args.page _ _ _ _ _ _ _ (Some c.in_ok-frame.field-0.now) c.self.invariant c.self.view_is (ap (λ n. lookup (same_name n) c.self.inside.names.entries) (sym c.private.ensures) ∙ sym c.in_ok-frame.ensures.value)

pub returns-in_err-peek-clause-sound : goal.returns-in_err-peek-clause-sound
returns-in_err-peek-clause-sound c = table_now _ _ _ _ _ _ _ _ c.self.invariant c.self.view_is

pub returns-clause-found : goal.returns-clause-found
returns-clause-found c =
    c.private_of.ensures
    ∙ ap (at_number (private_here c.args.tx c.args.page) c.in_ok-frame.field-0.now) c.in_ok-peek.ensures
    ∙ private_now c.self.inside.names.entries c.args.tx c.args.page _ _ _ _ _ _ _ (Some c.in_ok-frame.field-0.now) c.self.invariant c.self.view_is (ap (λ n. lookup (same_name n) c.self.inside.names.entries) (sym c.private.ensures) ∙ sym c.in_ok-frame.ensures.value)

pub returns-clause-sound : goal.returns-clause-sound
returns-clause-sound c = table_now _ _ _ _ _ _ _ _ c.self.invariant c.self.view_is
