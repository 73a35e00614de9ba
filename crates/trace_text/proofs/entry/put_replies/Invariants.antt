use Rattle.std.proofs.Common.{◌≡◌, ◌++◌, flat_map, drop}
use Rattle.text_rules.specs.TraceText.{ended, reply_line}
use Rattle.trace_text.proofs.entry.put_replies.Given as goal

-- what was written before what is left to be written is the whole
abbrev pub invariant-loop-reply : goal.invariant-loop-reply
invariant-loop-reply l =
    l.out.items ++ flat_map (λ r. ended (reply_line r)) (drop l.reply-index l.replies)
    ≡ l.initial.out.items ++ flat_map (λ r. ended (reply_line r)) l.replies
