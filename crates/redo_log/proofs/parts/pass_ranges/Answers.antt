use Rattle.std.proofs.Common.{◌≡◌, ◌<◌, Some, arith, rules}
use Rattle.disk_model.specs.Disk.{told_at}
use Rattle.text_rules.specs.LogRecord.{ranges_field}
use Rattle.redo_log.specs.Told.{IsLog}
use Rattle.redo_log.specs.Walks.{left_of, rest_of}
use Rattle.redo_log.proofs.PassingLemmas.{step_passed, step_broken}
use Rattle.redo_log.proofs.parts.pass_ranges.Goals as goal

pub returns-in_err-low-clause-err : goal.returns-in_err-low-clause-err
returns-in_err-low-clause-err g c =
    let less : c.loop.counter < c.args.count = omega arith in
    let broken = step_broken _
    (λ log. IsLog (g.S.Storage.logs c.args.s.now) c.args.reader.now.node log)
    (λ log. IsLog (g.S.Storage.logs c.loop.s) c.loop.reader.node log)
    (λ log n. rest_of (ranges_field c.args.size c.loop.low n (left_of c.loop.reader log)))
    (λ log. rest_of (ranges_field c.args.size 0 c.args.count (left_of c.args.reader.now log)))
    c.args.count c.loop.counter less (λ log told. rw (c.loop.invariant.logs, c.loop.invariant.node) told) c.loop.invariant.rest c.in_err-low.ensures.err in
    search (rules, broken)

pub loop-preserved : goal.loop-preserved
loop-preserved g c = record {
  most = search rules;
  node = search rules;
  end = search rules;
  limit = search rules;
  pages = search rules;
  rooms = search rules;
  stops = search rules;
  logs = search rules;
  reads = search rules;
  calm = search rules;
  counts = search rules;
  rest = λ log told.
      let less : c.loop.counter < c.args.count = omega arith in
      let now : told_at (g.S.Storage.logs c.loop.s) c.loop.reader.node ≡ Some log = rw (c.loop.invariant.logs, c.loop.invariant.node) told in
      step_passed
      (λ n. rest_of (ranges_field c.args.size c.loop.low n (left_of c.loop.reader log)))
      (λ n. rest_of (ranges_field c.args.size c.in_ok-low.low n (left_of c.pass_range.new.reader log)))
      c.args.count c.loop.counter _ less (c.loop.invariant.rest log told) (c.in_ok-low.ensures.ok log now);
}
