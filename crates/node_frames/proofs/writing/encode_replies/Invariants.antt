use Rattle.std.proofs.Common.{◌≡◌, ◌++◌, drop}
use Rattle.frame_rules.specs.WrittenFrames.{replies_text}
use Rattle.node_frames.proofs.writing.encode_replies.Given as goal

-- what was written before what is left to be written is the whole text
abbrev pub invariant-loop-reply : goal.invariant-loop-reply
invariant-loop-reply l = l.text.items ++ replies_text (drop l.reply-index l.replies) ≡ replies_text l.replies
