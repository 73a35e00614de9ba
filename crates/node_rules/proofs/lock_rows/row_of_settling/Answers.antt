use mathlib.Core.Path.{refl}
use Rattle.node_rules.proofs.Opened.{node_rules}
use Rattle.node_rules.proofs.lock_rows.row_of_settling.Goals as goal

pub returns : goal.returns
unfolding node_rules
returns c =
    record {
      own = refl;
      right = refl;
      no_right_beside_a_writer = refl;
      revokes_first = refl;
      upgrade_goes_first = refl;
      upgrade_waits_for_readers = refl;
      all_readers = refl;
      nobody_passes = refl;
    }
