use mathlib.Core.Path.{refl}
use Rattle.node_rules.proofs.Opened.{node_rules}
use Rattle.node_rules.proofs.part_rows.row_of_disk.Goals as goal

pub returns : goal.returns
unfolding node_rules
returns c =
    record {
      done = refl;
      undone = refl;
      done_and_failed = refl;
      torn = refl;
      kept = refl;
      kept_before = refl;
      not_due = refl;
      cuts_one = refl;
      wrong_page = refl;
    }
