use Rattle.std.proofs.Common.{◌≡◌, ◌-◌, length}
use Rattle.text_rules.specs.LogRecord.{log_of, log_up_to}
use Rattle.redo_log.specs.Scan.{joined}
use Rattle.redo_log.proofs.reading.scan.Given as goal

-- the records that were read before what the rest says are the whole log
abbrev pub invariant-loop : goal.invariant-loop
invariant-loop l = log_of l.config l.log ≡ joined l.records.items (log_up_to l.config (length l.log - l.counter) l.rest)
