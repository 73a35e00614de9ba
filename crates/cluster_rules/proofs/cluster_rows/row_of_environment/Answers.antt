use mathlib.Core.Path.{refl}
use Rattle.cluster_rules.proofs.Opened.{cluster_rules}
use Rattle.cluster_rules.proofs.cluster_rows.row_of_environment.Goals as goal

pub returns : goal.returns
unfolding cluster_rules
returns c =
    record {
      no_node = refl;
      down = refl;
      still_up = refl;
      bad_view = refl;
      no_view = refl;
      one_by_one = refl;
      comes_back = refl;
      reopens = refl;
    }
