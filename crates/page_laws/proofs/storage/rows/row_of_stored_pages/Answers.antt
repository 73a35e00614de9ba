use Rattle.std.proofs.Common.{refl}
use Rattle.run_rules.specs.Redo.{entries_of, ranges_at, reached, redone, records_in, redo}
use Rattle.run_rules.specs.Views.{count_from}
use Rattle.page_laws.specs.Storage.Looks.{copy_on, ranges_in, entries_at}
use Rattle.page_laws.proofs.storage.rows.row_of_stored_pages.Goals as goal

pub returns : goal.returns
unfolding copy_on ranges_in entries_at entries_of ranges_at reached redone records_in redo count_from
returns c =
    record {
      copy = refl;
      other_number = refl;
      first = refl;
      behind = refl;
      other_log = refl;
      of_node_1 = refl;
      torn = refl;
      other_page = refl;
      whole_page = refl;
      first_of_two = refl;
      redone = refl;
    }
