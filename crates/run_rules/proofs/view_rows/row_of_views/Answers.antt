use Rattle.run_rules.specs.Views.{count_from, since_after, born_after, next, reopen, follows, same_numbers, same_flags}
use Rattle.run_rules.proofs.view_rows.row_of_views.Goals as goal
use mathlib.Core.Path.{refl}

pub returns : goal.returns
unfolding count_from since_after born_after next reopen follows same_numbers same_flags
returns c =
    record {
      dropped = refl;
      returned = refl;
      one = refl;
      second = refl;
      fourth = refl;
      sixth = refl;
      opened = refl;
      follows = refl;
      skips = refl;
    }
