use Rattle.std.proofs.Common.{◌≡◌, ◌++◌, map, drop}
use Rattle.partition_redo.proofs.plan.versions_of.Given as goal

abbrev pub invariant-loop-chain : goal.invariant-loop-chain
invariant-loop-chain l = l.versions.items ++ map (λ x. (x.page, x.version)) (drop l.chain-index l.chains) ≡ map (λ x. (x.page, x.version)) l.chains
