use Rattle.std.proofs.Common.{◌∙◌, ap}
use Rattle.run_rules.specs.Serial.{serial}
use Rattle.trace_model.specs.Seen.{TraceView}
use Rattle.trace_model.proofs.ScriptLemmas.{serial_more, serial_done}
use Rattle.trace_model.proofs.trace.Trace.serial.Goals as goal

pub loop-entry-preserved : goal.loop-entry-preserved
loop-entry-preserved c =
    serial_more _ _ _ _ c.entry-item.result c.loop-entry-test.true c.entry-item.is c.in_ok-take_commits.ensures c.loop-entry.invariant

pub returns : goal.returns
returns c =
    serial_done _ _ _ c.loop-entry-test.false c.loop-entry.invariant
    ∙ ap serial c.deref-entry-items.ensures.value
    ∙ ap (λ (t : TraceView). serial t.entries) c.self.view_is
