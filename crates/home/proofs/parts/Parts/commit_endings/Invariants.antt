use Rattle.std.proofs.Common.{◌≡◌, ◌++◌, drop, map}
use Rattle.home.specs.Commits.{commit_end}
use Rattle.home.proofs.parts.Parts.commit_endings.Given as goal

abbrev pub invariant-loop-lock : goal.invariant-loop-lock
invariant-loop-lock l = l.ends.items ++ map (commit_end l.self.home l.tx) (drop l.lock-index l.locks) ≡ map (commit_end l.self.home l.tx) l.locks
