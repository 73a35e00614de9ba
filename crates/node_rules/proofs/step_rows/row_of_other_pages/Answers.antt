use mathlib.Core.Path.{refl}
use Rattle.node_rules.proofs.Opened.{node_rules}
use Rattle.node_rules.proofs.step_rows.row_of_other_pages.Goals as goal

pub returns : goal.returns
unfolding node_rules
returns c =
    record {
      asks = refl;
      is_granted = refl;
      reads_under_right = refl;
      reads_no_older_copy = refl;
      names_its_readers = refl;
      reads_no_more = refl;
      grants_a_right = refl;
      sends_an_image = refl;
      revokes = refl;
      releases = refl;
    }
