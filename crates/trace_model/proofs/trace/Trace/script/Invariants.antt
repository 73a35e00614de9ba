use Rattle.std.proofs.Common.{◌≡◌, ◌++◌, drop, None}
use Rattle.std.specs.Prelude.{option_copied}
use Rattle.run_rules.specs.Script.{moments, script_from}
use Rattle.trace_model.specs.Seen.{write_of}
use Rattle.trace_model.proofs.trace.Trace.script.Given as goal

-- what was taken before what is left to be taken is the whole
abbrev pub invariant-loop-entry : goal.invariant-loop-entry
invariant-loop-entry l =
    l.steps.items ++ script_from l.tx (write_of (option_copied l.asked)) (moments (drop l.entry-index l.entry-items))
    ≡ script_from l.tx None (moments l.entry-items)
