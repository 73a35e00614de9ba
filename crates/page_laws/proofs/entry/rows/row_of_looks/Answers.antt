use Rattle.std.proofs.Common.{refl}
use Rattle.node_rules.proofs.Opened.{node_rules}
use Rattle.page_laws.specs.Entry.Tables.{mode_listed}
use Rattle.page_laws.proofs.entry.rows.row_of_looks.Goals as goal

pub returns : goal.returns
unfolding node_rules mode_listed
returns c =
    record {
      first = refl;
      second = refl;
      elsewhere = refl;
      nowhere = refl;
      right = refl;
      no_right = refl;
    }
