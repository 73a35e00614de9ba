use Rattle.std.proofs.Common.{◌≡◌, map}
use Rattle.text_rules.specs.Generator.{numbers_below}
use Rattle.schedule_gen.proofs.kept.no_serials.Given as goal

abbrev pub invariant-loop : goal.invariant-loop
invariant-loop l = l.serials.items ≡ map (λ n. 0) (numbers_below l.counter)
