use Rattle.std.proofs.Common.{◌≡◌, ◌++◌, flat_map, drop}
use Rattle.text_rules.specs.TraceText.{ended, sent_line}
use Rattle.trace_text.proofs.entry.put_sends.Given as goal

-- what was written before what is left to be written is the whole
abbrev pub invariant-loop-sent : goal.invariant-loop-sent
invariant-loop-sent l =
    l.out.items ++ flat_map (λ s. ended (sent_line s)) (drop l.sent-index l.sends)
    ≡ l.initial.out.items ++ flat_map (λ s. ended (sent_line s)) l.sends
