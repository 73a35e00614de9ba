use Rattle.std.proofs.Common.{◌≡◌, ◌++◌, drop, map}
use Rattle.node_rules.specs.EndRule.{logged}
use Rattle.home.proofs.parts.Parts.record.Given as goal

abbrev pub invariant-loop-page : goal.invariant-loop-page
invariant-loop-page l = l.changes ++ map (logged l.self.home l.tx) (drop l.page-index l.pages) ≡ map (logged l.self.home l.tx) l.pages
