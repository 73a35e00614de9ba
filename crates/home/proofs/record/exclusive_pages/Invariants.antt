use Rattle.std.proofs.Common.{◌≡◌, ◌++◌, drop}
use Rattle.home.specs.Commits.{exclusive_pages}
use Rattle.home.proofs.record.exclusive_pages.Given as goal

abbrev pub invariant-loop-lock : goal.invariant-loop-lock
invariant-loop-lock l = l.pages.items ++ exclusive_pages (drop l.lock-index l.locks) ≡ exclusive_pages l.locks
