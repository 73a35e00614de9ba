-- An access that isn't refused may be made.
use Rattle.std.proofs.Common.{◌≡◌, None, sym, ◌∙◌, ap, is_some}
use Rattle.lock_table.proofs.Places.{none_of}
use Rattle.node_parts.specs.State.{node_of}
use Rattle.own_steps.proofs.Refusing.{read_allowed}
use Rattle.own_steps.proofs.tests.reads.Goals as goal

pub access-requires-clause-view : goal.access-requires-clause-view
access-requires-clause-view c =
    (read_allowed (node_of c.args.parts.now) c.args.tx 0 (sym c.refusal.ensures ∙ none_of c.refusal.result (sym c.is_some.ensures ∙ c.if-is_some.false))).0

pub access-requires-clause-none : goal.access-requires-clause-none
access-requires-clause-none c =
    (read_allowed (node_of c.args.parts.now) c.args.tx 0 (sym c.refusal.ensures ∙ none_of c.refusal.result (sym c.is_some.ensures ∙ c.if-is_some.false))).1
