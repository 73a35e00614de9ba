use mathlib.Core.Path.{refl}
use Rattle.node_rules.proofs.Opened.{node_rules}
use Rattle.node_rules.proofs.step_rows.row_of_own_pages.Goals as goal

pub returns : goal.returns
unfolding node_rules
returns c =
    record {
      begun = refl;
      reads_its_write = refl;
      forces = refl;
      reads_alone = refl;
      gives_up = refl;
      waits = refl;
      goes_on = refl;
      victim_is_written = refl;
      no_frame = refl;
      is_pinned = refl;
    }
