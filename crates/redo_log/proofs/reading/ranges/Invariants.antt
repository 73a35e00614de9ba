use Rattle.std.proofs.Common.{◌≡◌, ◌-◌, ◌≤◌}
use Rattle.text_rules.specs.LogRecord.{ranges_field}
use Rattle.redo_log.specs.Stopping.{prefixed}
use Rattle.redo_log.proofs.reading.ranges.Given as goal

-- what was read before what is left to be read is the whole list
abbrev pub invariant-loop : goal.invariant-loop
invariant-loop l = record {
  all : ranges_field l.size 0 l.count l.initial.fields ≡ prefixed l.ranges.items (ranges_field l.size l.low (l.count - l.counter) l.fields);
  most : l.low ≤ 4097;
}
