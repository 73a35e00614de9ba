use Rattle.std.proofs.Common.{◌≡◌, ◌+◌, length}
use Rattle.audit.specs.Sizes.{FitsIn}
use Rattle.audit.proofs.judging.compare_all.Given as goal

abbrev pub invariant-loop-page : goal.invariant-loop-page
invariant-loop-page l = record { fits : FitsIn l.config l.storage; length : length l.raw.items ≡ l.config.size + 16 }
