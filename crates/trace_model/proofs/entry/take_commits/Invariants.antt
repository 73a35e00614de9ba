use Rattle.std.proofs.Common.{◌≡◌, ◌++◌, flat_map, drop}
use Rattle.run_rules.specs.Script.{told}
use Rattle.run_rules.specs.Serial.{committed}
use Rattle.trace_model.proofs.entry.take_commits.Given as goal

-- what was taken before what is left to be taken is the whole
abbrev pub invariant-loop-reply : goal.invariant-loop-reply
invariant-loop-reply l =
    l.txs.items ++ flat_map committed (flat_map told (drop l.reply-index l.reply-items))
    ≡ l.initial.txs.items ++ flat_map committed (flat_map told l.reply-items)
