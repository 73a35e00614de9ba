use Rattle.std.proofs.Common.{◌<◌, ◌+◌, arith, rules}
use Rattle.text_rules.specs.LogRecord.{changes_field}
use Rattle.redo_log.proofs.ReadingLemmas.{item_read, item_stopped}
use Rattle.redo_log.proofs.reading.changes.Goals as goal

pub returns-in_err-change-clause-err : goal.returns-in_err-change-clause-err
returns-in_err-change-clause-err c =
    let less : c.loop.counter < c.args.count = omega arith in
    let whole = item_stopped (λ n. changes_field c.args.config.now c.args.whole c.loop.low n) _ _ _ _ _ _ less c.loop.invariant c.in_err-change.ensures.err in
    search (rules, whole)

pub loop-preserved : goal.loop-preserved
loop-preserved c =
    let less : c.loop.counter < c.args.count = omega arith in
    rw c.in_ok-push.ensures.items
    (item_read (λ n. changes_field c.args.config.now c.args.whole c.loop.low n) (λ n. changes_field c.args.config.now c.args.whole (c.in_ok-change.change.page + 1) n) _ _ _ _ _ _ _ less c.loop.invariant c.in_ok-change.ensures.ok)
