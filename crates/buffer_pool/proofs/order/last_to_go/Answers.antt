use Rattle.std.proofs.Common.{ap, sym, ◌∙◌}
use Rattle.node_rules.specs.Words.{or_else}
use Rattle.buffer_pool.specs.Entries.{last_row, page_to_go}
use Rattle.buffer_pool.proofs.Entries.{last_row-none, last_row-push}
use Rattle.buffer_pool.proofs.order.last_to_go.Goals as goal

pub returns-in-Some-page_to_go : goal.returns-in-Some-page_to_go
returns-in-Some-page_to_go c =
    sym
    (c.loop-frame.invariant
    ∙ ap (last_row (page_to_go c.args.keep)) c.in-Some.ensures.steps
    ∙ last_row-push (page_to_go c.args.keep) c.next_back.new.self (c.in-Some._frame.now, c.in-Some.used.now)
    ∙ ap (λ o. or_else o (last_row (page_to_go c.args.keep) c.next_back.new.self)) (sym c.in-Some-page_to_go.ensures))

pub loop-frame-preserved : goal.loop-frame-preserved
loop-frame-preserved c =
    c.loop-frame.invariant
    ∙ ap (last_row (page_to_go c.args.keep)) c.in-Some.ensures.steps
    ∙ last_row-push (page_to_go c.args.keep) c.next_back.new.self (c.in-Some._frame.now, c.in-Some.used.now)
    ∙ ap (λ o. or_else o (last_row (page_to_go c.args.keep) c.next_back.new.self)) (sym c.page_to_go.ensures ∙ c.in_default-page_to_go.is)

pub returns : goal.returns
returns c = sym (c.loop-frame.invariant ∙ ap (last_row (page_to_go c.args.keep)) c.in_default.ensures.steps.0 ∙ last_row-none (page_to_go c.args.keep))
