use Rattle.std.proofs.Common.{◌≡◌}
use Rattle.text_rules.specs.Generator.{numbers_below}
use Rattle.schedule_gen.proofs.kept.numbers_below.Given as goal

abbrev pub invariant-loop-number : goal.invariant-loop-number
invariant-loop-number l = l.numbers.items ≡ numbers_below l.number
