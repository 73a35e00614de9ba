use Rattle.std.proofs.Common.{refl}
use Rattle.node_rules.proofs.Opened.{node_rules}
use Rattle.page_laws.proofs.look.rows.row_of_a_home.Goals as goal

pub returns : goal.returns
unfolding node_rules
returns c =
    record {
      private_before = refl;
      copy_before = refl;
      committed = refl;
      read = refl;
      other = refl;
      right = refl;
      no_right = refl;
      used = refl;
      unused = refl;
      place = refl;
      other_place = refl;
    }
