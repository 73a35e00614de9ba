use Rattle.std.proofs.Common.{◌≡◌, ◌++◌, flat_map, drop}
use Rattle.std.specs.Prelude.{option_copied}
use Rattle.run_rules.specs.Script.{told, steps_at}
use Rattle.trace_model.specs.Seen.{write_of}
use Rattle.trace_model.proofs.entry.take_steps.Given as goal

-- what was taken before what is left to be taken is the whole
abbrev pub invariant-loop-reply : goal.invariant-loop-reply
invariant-loop-reply l =
    l.steps.items ++ flat_map (steps_at l.tx (write_of (option_copied l.asked))) (flat_map told (drop l.reply-index l.reply-items))
    ≡ l.initial.steps.items ++ flat_map (steps_at l.tx (write_of (option_copied l.asked))) (flat_map told l.reply-items)
