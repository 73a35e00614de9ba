use Rattle.std.proofs.Common.{refl}
use Rattle.run_rules.specs.Redo.{entries_of}
use Rattle.page_laws.specs.Storage.Looks.{ranges_in, entries_at}
use Rattle.page_laws.proofs.storage.rows.row_of_changed_logs.Goals as goal

pub returns : goal.returns
unfolding ranges_in entries_at entries_of
returns c =
    record {
      added = refl;
      others_stay = refl;
      cut = refl;
      left = refl;
      other_node = refl;
      among = refl;
      not_among = refl;
      forced = refl;
    }
