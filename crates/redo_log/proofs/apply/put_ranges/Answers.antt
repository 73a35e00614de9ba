use Rattle.std.proofs.Common.{◌≡◌, ◌<◌, Some, arith, rules}
use Rattle.disk_model.specs.Disk.{told_at}
use Rattle.text_rules.specs.LogRecord.{ranges_field}
use Rattle.redo_log.specs.Told.{IsLog}
use Rattle.redo_log.specs.Walks.{left_of}
use Rattle.redo_log.specs.Applied.{put_read}
use Rattle.redo_log.proofs.PassingLemmas.{step_passed, step_broken}
use Rattle.redo_log.proofs.apply.put_ranges.Goals as goal

pub returns-in_err-low-clause-err : goal.returns-in_err-low-clause-err
returns-in_err-low-clause-err g c =
    let less : c.loop.counter < c.args.count = omega arith in
    let broken = step_broken _
    (λ log. IsLog (g.S.Storage.logs c.args.s.now) c.args.reader.now.node log)
    (λ log. IsLog (g.S.Storage.logs c.loop.s) c.loop.reader.node log)
    (λ log n. put_read (ranges_field c.args.size c.loop.low n (left_of c.loop.reader log)) c.loop.raw)
    (λ log. put_read (ranges_field c.args.size 0 c.args.count (left_of c.args.reader.now log)) c.args.raw.now)
    c.args.count c.loop.counter less (λ log told. rw (c.loop.invariant.logs, c.loop.invariant.node) told) c.loop.invariant.put c.in_err-low.ensures.err in
    search (rules, broken)

pub loop-preserved : goal.loop-preserved
loop-preserved g c = record {
  most = search rules;
  node = search rules;
  end = search rules;
  pages = search rules;
  rooms = search rules;
  stops = search rules;
  logs = search rules;
  head = search rules;
  reads = search rules;
  calm = search rules;
  counts = search rules;
  put = λ log told.
      let less : c.loop.counter < c.args.count = omega arith in
      let now : told_at (g.S.Storage.logs c.loop.s) c.loop.reader.node ≡ Some log = rw (c.loop.invariant.logs, c.loop.invariant.node) told in
      step_passed
      (λ n. put_read (ranges_field c.args.size c.loop.low n (left_of c.loop.reader log)) c.loop.raw)
      (λ n. put_read (ranges_field c.args.size c.in_ok-low.low n (left_of c.put_range.new.reader log)) c.put_range.new.raw)
      c.args.count c.loop.counter _ less (c.loop.invariant.put log told) (c.in_ok-low.ensures.ok log now);
}
