use Rattle.std.proofs.Common.{take}
use Rattle.partition_redo.specs.Chains.{AreAll, IsGiven}
use Rattle.partition_redo.proofs.plan.chains_of.Given as goal

abbrev pub invariant-loop-page : goal.invariant-loop-page
invariant-loop-page l = AreAll (IsGiven l.index) (take l.page-index l.pages) l.chains
