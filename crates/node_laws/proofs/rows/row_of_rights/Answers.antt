use Rattle.std.proofs.Common.{◌≡◌, ◌<◌, true, false, [], Some, None, arith}
use Rattle.node_rules.specs.NodeState.{first_node}
use Rattle.node_rules.specs.Shelf.{right_on}
use Rattle.node_rules.specs.Words.{among}
use Rattle.node_laws.specs.Rows.{right}
use Rattle.node_laws.proofs.rows.row_of_rights.Goals as goal

pub returns : goal.returns
unfolding first_node right_on among
returns c =
    record {
      past_the_end = λ s. let e : 4 < 4 = s.rights.0 in absurd (omega (arith, e));
      two_of_a_page = λ s. let e : Some (right 1 []) ≡ None = s.rights.2 in absurd (cc);
      one_reader_twice = λ s. let e : true ≡ false = s.rights.1.0 in absurd (cc);
    }
