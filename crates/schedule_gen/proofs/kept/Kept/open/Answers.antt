use Rattle.std.proofs.Common.{ℕ, sym, subst, map}
use Rattle.text_rules.specs.Generator.{numbers_below}
use Rattle.schedule_gen.specs.Limits.{IsWithin}
use Rattle.schedule_gen.proofs.LimitLemmas.{first_within}
use Rattle.schedule_gen.proofs.kept.Kept.open.Goals as goal

pub invariant_of-result : goal.invariant_of-result
invariant_of-result c =
    let within =
    subst (λ (n : ℕ). IsWithin (record { draws = c.args.seed; live = numbers_below n; owners = numbers_below n; serials = map (λ (k : ℕ). 0) (numbers_below n) }))
    (sym c.nodes-nodes.ensures.value)
    (first_within c.args.config.now c.args.seed c.nodes-nodes.ensures.limits) in
    rw (c.in_ok-numbers_below.ensures, c.in_ok-numbers_below-2.ensures, c.in_ok-no_serials.ensures) within
