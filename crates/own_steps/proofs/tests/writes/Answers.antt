-- An access that isn't refused may be made.
use Rattle.std.proofs.Common.{◌≡◌, Some, None, sym, subst, ◌∙◌}
use Rattle.home_laws.specs.Refused.{access_refusal}
use Rattle.lock_table.proofs.Places.{none_of}
use Rattle.node_parts.specs.State.{node_of}
use Rattle.own_steps.proofs.Refusing.{write_allowed}
use Rattle.own_steps.proofs.tests.writes.Goals as goal

pub access-requires-clause-view : goal.access-requires-clause-view
access-requires-clause-view c =
    (write_allowed (node_of c.args.parts.now) c.args.tx 0 2 c.in_ok-copy.field-0 (sym c.refusal.ensures ∙ none_of c.refusal.result (sym c.is_some.ensures ∙ c.if-is_some.false))).0

pub access-requires-clause-none : goal.access-requires-clause-none
access-requires-clause-none c =
    subst (λ bytes. access_refusal (record { tx = c.args.tx; page = 0; write = Some (2, bytes) }) c.args.parts.now.home ≡ None) c.in_ok-copy.ensures
    (write_allowed (node_of c.args.parts.now) c.args.tx 0 2 c.in_ok-copy.field-0 (sym c.refusal.ensures ∙ none_of c.refusal.result (sym c.is_some.ensures ∙ c.if-is_some.false))).1
