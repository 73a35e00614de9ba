use Rattle.std.proofs.Common.{◌≡◌, ◌++◌, map, drop}
use Rattle.std.specs.Option.{option_copied}
use Rattle.home.specs.Ends.{lock_end}
use Rattle.home.proofs.parts.Parts.endings.Given as goal

abbrev pub invariant-loop-lock : goal.invariant-loop-lock
invariant-loop-lock l =
    l.ends.items ++ map (lock_end (option_copied l.waiting)) (drop l.lock-index l.locks) ≡ map (lock_end (option_copied l.waiting)) l.locks
