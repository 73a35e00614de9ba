use Rattle.std.proofs.Common.{◌≡◌, ◌==◌, map, take}
use Rattle.schedule_text.proofs.views.flags_of.Given as goal

-- the flags so far
abbrev pub invariant-loop-flag : goal.invariant-loop-flag
invariant-loop-flag l = l.live.items ≡ map (λ b. b == 49) (take l.flag-index l.flags)
