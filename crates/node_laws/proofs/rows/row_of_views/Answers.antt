use Rattle.std.proofs.Common.{◌≡◌, ◌≤◌, true, false, refl, arith}
use Rattle.node_rules.specs.NodeState.{first_node}
use Rattle.node_laws.proofs.rows.row_of_views.Goals as goal

pub returns : goal.returns
unfolding first_node
returns c =
    record {
      not_live = λ s. let e : false ≡ true = s.view.live in absurd (cc);
      another_epoch = λ s. let e : 2 ≡ 1 = s.view.epoch in absurd (omega (arith, e));
      another_birth = λ s. let e : 1 ≡ 2 = s.view.born in absurd (omega (arith, e));
      never_born = λ s. let e : 1 ≤ 0 = s.born in absurd (omega (arith, e));
      busy_in_no_view = λ s. let e : 1 ≡ 0 = s.idle refl in absurd (omega (arith, e));
    }
