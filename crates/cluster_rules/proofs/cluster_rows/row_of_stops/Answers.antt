use mathlib.Core.Path.{refl}
use Rattle.cluster_rules.proofs.Opened.{cluster_rules}
use Rattle.cluster_rules.proofs.cluster_rows.row_of_stops.Goals as goal

pub returns : goal.returns
unfolding cluster_rules
returns c =
    record {
      torn = refl;
      whole = refl;
      later = refl;
      second = refl;
      says_so_alone = refl;
      crash_disarms = refl;
    }
