use mathlib.Core.Path.{refl}
use Rattle.cluster_rules.proofs.Opened.{cluster_rules}
use Rattle.cluster_rules.proofs.cluster_rows.row_of_links.Goals as goal

pub returns : goal.returns
unfolding cluster_rules
returns c =
    record {
      in_order = refl;
      first_goes = refl;
      lost = refl;
      cleared = refl;
      nothing_to_deliver = refl;
      held_stays = refl;
    }
