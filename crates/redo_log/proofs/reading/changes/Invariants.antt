use Rattle.std.proofs.Common.{◌≡◌, ◌-◌}
use Rattle.text_rules.specs.LogRecord.{changes_field}
use Rattle.redo_log.specs.Stopping.{prefixed}
use Rattle.redo_log.proofs.reading.changes.Given as goal

-- what was read before what is left to be read is the whole list
abbrev pub invariant-loop : goal.invariant-loop
invariant-loop l =
    changes_field l.config l.whole 0 l.count l.initial.fields ≡ prefixed l.changes.items (changes_field l.config l.whole l.low (l.count - l.counter) l.fields)
