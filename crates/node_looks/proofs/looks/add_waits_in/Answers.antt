use Rattle.std.proofs.Common.{◌++◌, Some, None, ap, sym, ◌∙◌}
use Rattle.std.proofs.lemmas.List.{append-nil}
use Rattle.node_looks.specs.Looks.{waits_in}
use Rattle.node_looks.proofs.Listed.{waits_served, waits_unserved}
use Rattle.node_parts.proofs.Places.{on_ok}
use Rattle.node_looks.proofs.looks.add_waits_in.Goals as goal

pub returns-then-not-serving : goal.returns-then-not-serving
returns-then-not-serving c =
    waits_unserved c.args.table.now c.args.page c.args.items.now.items (sym c.serving.ensures ∙ c.if-not-serving.true)

pub returns-in-None : goal.returns-in-None
returns-in-None c =
    sym (append-nil c.args.items.now.items)
    ∙ ap (λ l. c.args.items.now.items ++ l)
    (waits_served c.args.table.now c.args.page None (sym c.serving.ensures ∙ c.if-not-serving.false) c.find.ensures.entry c.in-None.ensures.found)

pub returns-in-Some : goal.returns-in-Some
returns-in-Some c =
    on_ok _ _ c.add_waiters.result
    (λ made. made
    ∙ (ap (λ ws. c.args.items.now.items ++ waits_in c.args.page ws) c.waiting.ensures
    ∙ ap (λ l. c.args.items.now.items ++ l)
    (waits_served c.args.table.now c.args.page (Some c.in-Some.entry.now) (sym c.serving.ensures ∙ c.if-not-serving.false) c.find.ensures.entry c.in-Some.ensures.found)))
    c.add_waiters.ensures
