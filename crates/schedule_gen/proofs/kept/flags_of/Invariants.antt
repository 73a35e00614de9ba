use Rattle.std.proofs.Common.{◌≡◌}
use Rattle.text_rules.specs.Generator.{flags_of}
use Rattle.schedule_gen.proofs.kept.flags_of.Given as goal

abbrev pub invariant-loop-node : goal.invariant-loop-node
invariant-loop-node l = l.flags.items ≡ flags_of l.node l.live
