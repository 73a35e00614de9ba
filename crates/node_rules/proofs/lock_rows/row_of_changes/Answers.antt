use mathlib.Core.Path.{refl}
use Rattle.node_rules.proofs.Opened.{node_rules}
use Rattle.node_rules.proofs.lock_rows.row_of_changes.Goals as goal

pub returns : goal.returns
unfolding node_rules
returns c =
    record {
      asks = refl;
      asks_once = refl;
      asks_less = refl;
      asks_more = refl;
      writer_ends = refl;
      late_change = refl;
      early_change = refl;
      reader_changes_nothing = refl;
      ends_everywhere = refl;
      returns_readers = refl;
      returns_nothing = refl;
      reports = refl;
      reports_once = refl;
      reports_right = refl;
      purges = refl;
    }
