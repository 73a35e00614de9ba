use Rattle.std.proofs.Common.{◌≡◌, ◌<◌, ◌≤◌, true, false, refl, arith}
use Rattle.node_rules.specs.NodeState.{first_node}
use Rattle.node_laws.proofs.rows.row_of_calls.Goals as goal

pub returns : goal.returns
unfolding first_node
returns c =
    record {
      from_itself = λ s. absurd (s.0.1 refl);
      of_no_page = λ s. let e : 4 < 4 = s.1.body in absurd (omega (arith, e));
      without_the_node = λ s. let e : false ≡ true = s.1 in absurd (cc);
      to_itself = λ s. absurd (s.0.1 refl);
      to_no_node = λ s. let e : 2 < 2 = s.0.0 in absurd (omega (arith, e));
      of_no_epoch = λ s. let e : 1 ≤ 0 = s.1.epoch in absurd (omega (arith, e));
      past_the_end = λ s. let e : 4 < 4 = s.0 in absurd (omega (arith, e));
      of_another_size = λ s. let e : 8 ≡ 24 = s.1 in absurd (omega (arith, e));
    }
