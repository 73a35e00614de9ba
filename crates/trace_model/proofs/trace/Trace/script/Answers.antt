use Rattle.std.proofs.Common.{◌∙◌, ap, List}
use Rattle.pcl_base.specs.declared.script.Script.{Script}
use Rattle.pcl_base.specs.declared.script.Step.{Step}
use Rattle.pcl_base.specs.declared.trace.Entry.{Entry}
use Rattle.run_rules.specs.Script.{moments, script}
use Rattle.trace_model.specs.Seen.{TraceView}
use Rattle.trace_model.proofs.ScriptLemmas.{script_more, script_done}
use Rattle.trace_model.proofs.trace.Trace.script.Goals as goal

pub loop-entry-preserved : goal.loop-entry-preserved
loop-entry-preserved c =
    script_more _ _ _ _ _ _ _ _ c.entry-item.result c.loop-entry-test.true c.entry-item.is c.asked_after-asked.ensures c.in_ok-take_steps.ensures c.loop-entry.invariant

pub returns : goal.returns
returns c =
    let all =
    c.of.ensures
    ∙ script_done _ _ _ _ _ _ c.loop-entry-test.false c.loop-entry.invariant
    ∙ ap (λ (es : List Entry). script c.args.tx (moments es)) c.deref-entry-items.ensures.value
    ∙ ap (λ (t : TraceView). script c.args.tx (moments t.entries)) c.self.view_is
    in
    ap (λ (steps : List Step). let s : Script = record { tx = c.args.tx; steps = steps } in s) all
