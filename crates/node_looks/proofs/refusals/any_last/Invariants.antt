use Rattle.std.proofs.Common.{◌≡◌, ◌-◌, ◌^◌, ◌==◌, drop}
use Rattle.std.specs.List.{list_any}
use Rattle.node_rules.specs.BufferRule.{find}
use Rattle.node_rules.specs.AccessRule.{version_or}
use Rattle.home.specs.Commits.{exclusive_pages}
use Rattle.node_looks.proofs.refusals.any_last.Given as goal

abbrev pub invariant-loop-lock : goal.invariant-loop-lock
invariant-loop-lock l =
    list_any (λ p. version_or (find l.parts.home.pool p) == 2 ^ 64 - 1) (exclusive_pages (drop l.lock-index l.locks))
    ≡ list_any (λ p. version_or (find l.parts.home.pool p) == 2 ^ 64 - 1) (exclusive_pages l.locks)
