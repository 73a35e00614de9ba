use Rattle.std.proofs.Common.{◌≡◌, ◌++◌, drop}
use Rattle.partition_redo.specs.Chains.{written_pages}
use Rattle.partition_redo.proofs.plan.writes_of.Given as goal

abbrev pub invariant-loop-chain : goal.invariant-loop-chain
invariant-loop-chain l = l.pages.items ++ written_pages (drop l.chain-index l.chains) ≡ written_pages l.chains
