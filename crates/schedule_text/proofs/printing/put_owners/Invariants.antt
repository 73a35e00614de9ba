use Rattle.std.proofs.Common.{◌≡◌, ◌++◌, take}
use Rattle.text_rules.specs.ScheduleLine.{numbers_text}
use Rattle.schedule_text.proofs.printing.put_owners.Given as goal

-- the owners so far
abbrev pub invariant-loop-i : goal.invariant-loop-i
invariant-loop-i l = l.out.items ≡ l.fn.out.items ++ numbers_text (take l.i l.owners)
