use mathlib.Core.Path.{refl}
use Rattle.run_rules.proofs.Opened.{run_rules}
use Rattle.run_rules.proofs.account_rows.row_of_redo.Goals as goal

pub returns : goal.returns
unfolding run_rules
returns c =
    record {
      ranges_follow = refl;
      gap = refl;
      first_of_equals = refl;
      greatest_image = refl;
      old_image = refl;
      other_page = refl;
      newest = refl;
      every_log = refl;
      durable = refl;
      lost = refl;
    }
