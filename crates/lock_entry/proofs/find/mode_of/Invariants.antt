use Rattle.std.proofs.Common.{◌≡◌, drop}
use Rattle.node_rules.specs.LockRule.{mode_of}
use Rattle.lock_entry.proofs.find.mode_of.Given as goal

abbrev pub invariant-loop-holder : goal.invariant-loop-holder
invariant-loop-holder l = mode_of (drop l.holder-index l.holders) l.tx ≡ mode_of l.holders l.tx
