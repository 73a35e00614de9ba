use Rattle.std.proofs.Common.{◌≡◌, ◌++◌, map, drop}
use Rattle.std.specs.List.{concat}
use Rattle.text_rules.specs.LogRecord.{range_bytes}
use Rattle.redo_log.proofs.writing.put_ranges.Given as goal

-- what was written before what is left to be written is all of it
abbrev pub invariant-loop-range : goal.invariant-loop-range
invariant-loop-range l =
    l.out.items ++ concat (map range_bytes (drop l.range-index l.ranges)) ≡ l.initial.out.items ++ concat (map range_bytes l.ranges)
