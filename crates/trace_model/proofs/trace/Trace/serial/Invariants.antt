use Rattle.std.proofs.Common.{◌≡◌, ◌++◌, drop}
use Rattle.run_rules.specs.Serial.{serial}
use Rattle.trace_model.proofs.trace.Trace.serial.Given as goal

-- what was taken before what is left to be taken is the whole
abbrev pub invariant-loop-entry : goal.invariant-loop-entry
invariant-loop-entry l = l.txs.items ++ serial (drop l.entry-index l.entry-items) ≡ serial l.entry-items
