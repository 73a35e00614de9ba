use mathlib.Core.Path.{refl}
use Rattle.node_rules.proofs.Opened.{node_rules}
use Rattle.node_rules.proofs.part_rows.row_of_frames.Goals as goal

pub returns : goal.returns
unfolding node_rules
returns c =
    record {
      free = refl;
      last_goes = refl;
      keeps_page = refl;
      all_pinned = refl;
      fits_in_last = refl;
      two_are_too_many = refl;
      own_slot_stays = refl;
      places = refl;
      takes_private = refl;
      touches = refl;
      pins = refl;
      frees_a_place = refl;
      keeps_a_copy = refl;
      installs = refl;
      cleans = refl;
      evicts = refl;
      fills = refl;
      changes = refl;
      publishes = refl;
      discards = refl;
    }
