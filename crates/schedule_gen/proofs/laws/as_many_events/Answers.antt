use Rattle.std.proofs.Common.{ℕ, zero, suc, ◌+◌, ◌≤◌, length, length-append, length-take-le, arith}
use Rattle.pcl_base.specs.Limits.{Sizes}
use Rattle.text_rules.specs.Generator.{Making, round, rounds, first_making}
use Rattle.schedule_gen.proofs.laws.as_many_events.Goals as goal

-- each round has an event
enough : (c : Sizes) (r n : ℕ) (s : Making) → n ≤ length (rounds c r n s).events
enough c r zero s = omega arith
enough c r (suc n) s =
    let later = enough c (r + 1) n (round c r s).next in
    let both = length-append (round c r s).events (rounds c (r + 1) n (round c r s).next).events in
    omega (arith, later, both)

pub returns : goal.returns
returns c = λ sizes seed lines. length-take-le lines (rounds sizes 1 lines (first_making sizes seed)).events (enough sizes 1 lines (first_making sizes seed))
