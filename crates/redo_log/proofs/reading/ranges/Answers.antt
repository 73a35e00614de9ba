use Rattle.std.proofs.Common.{◌<◌, ◌+◌, length, arith, rules}
use Rattle.text_rules.specs.LogRecord.{ranges_field}
use Rattle.redo_log.proofs.ReadingLemmas.{item_read, item_stopped}
use Rattle.redo_log.proofs.reading.ranges.Goals as goal

pub returns-in_err-range-clause-err : goal.returns-in_err-range-clause-err
returns-in_err-range-clause-err c =
    let less : c.loop.counter < c.args.count = omega arith in
    let whole = item_stopped (λ n. ranges_field c.args.size c.loop.low n) _ _ _ _ _ _ less c.loop.invariant.all c.in_err-range.ensures.err in
    search (rules, whole)

pub loop-preserved : goal.loop-preserved
loop-preserved c =
    let less : c.loop.counter < c.args.count = omega arith in
    rw (c.in_ok-push.ensures.items, c.len.ensures) (record {
      all = item_read (λ n. ranges_field c.args.size c.loop.low n) (λ n. ranges_field c.args.size (c.in_ok-range.range.place + length c.in_ok-range.range.bytes + 1) n) _ _ _ _ _ _ _ less c.loop.invariant.all c.in_ok-range.ensures.ok;
      most = omega (arith, c.in_ok-range.ensures.within);
    })
