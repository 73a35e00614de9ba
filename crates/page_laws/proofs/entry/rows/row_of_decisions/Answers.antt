use Rattle.page_laws.proofs.EntryParts.Rowed.{made_row, revoked_row, beside_a_reader_row, beside_a_right_row, beside_a_writer_row, unasked_row, before_a_writer_row, to_the_owner_row, revoked_twice_row, in_vain_row}
use Rattle.page_laws.proofs.entry.rows.row_of_decisions.Goals as goal

pub returns : goal.returns
returns c =
    record {
      made = made_row;
      revoked = revoked_row;
      beside_a_reader = beside_a_reader_row;
      beside_a_right = beside_a_right_row;
      beside_a_writer = beside_a_writer_row;
      unasked = unasked_row;
      right_before_a_writer = before_a_writer_row;
      right_to_the_owner = to_the_owner_row;
      revoked_twice = revoked_twice_row;
      in_vain = in_vain_row;
    }
