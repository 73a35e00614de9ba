use Rattle.std.proofs.Common.{◌≡◌, ◌++◌, map, take}
use Rattle.text_rules.specs.ScheduleLine.{flag_text}
use Rattle.schedule_text.proofs.printing.put_flags.Given as goal

-- the flags so far
abbrev pub invariant-loop-is_live : goal.invariant-loop-is_live
invariant-loop-is_live l = l.out.items ≡ l.fn.out.items ++ map flag_text (take l.is_live-index l.live)
