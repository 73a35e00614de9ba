use Rattle.std.proofs.Common.{ap, ◌∙◌, true, false}
use Rattle.node_rules.specs.OpenTxs.{OpenTxs, locks_of}
use Rattle.node_parts.specs.State.{PartsView}
use Rattle.node_parts.specs.contracts.parts.Parts.{the_view}
use Rattle.node_core.proofs.Committing.{forced_where}
use Rattle.node_core.proofs.commits.forced_tx.Goals as goal

pub returns-then-has_written : goal.returns-then-has_written
returns-then-has_written c =
    forced_where (the_view c.parts.inside).home c.args.parts.now.home c.args.tx c.locks.result.now c.has_written.result true (ap (λ (p : PartsView). p.home) c.parts.view_is) c.txs.ensures.home c.requires
    c.has_written.ensures (c.locks.ensures.value ∙ ap (λ (s : OpenTxs). locks_of s c.args.tx) c.txs.ensures.value) c.if-has_written.true

pub returns : goal.returns
returns c =
    forced_where (the_view c.parts.inside).home c.args.parts.now.home c.args.tx c.locks.result.now c.has_written.result false (ap (λ (p : PartsView). p.home) c.parts.view_is) c.txs.ensures.home c.requires
    c.has_written.ensures (c.locks.ensures.value ∙ ap (λ (s : OpenTxs). locks_of s c.args.tx) c.txs.ensures.value) c.if-has_written.false
