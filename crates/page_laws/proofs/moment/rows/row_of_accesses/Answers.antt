use Rattle.std.proofs.Common.{refl}
use Rattle.run_rules.specs.Script.{moments_of, moments, script_from}
use Rattle.page_laws.specs.Moment.Looks.{accesses_of, accesses_in, asked_last}
use Rattle.page_laws.proofs.moment.rows.row_of_accesses.Goals as goal

pub returns : goal.returns
unfolding moments_of moments script_from accesses_of accesses_in asked_last
returns c =
    record {
      written_and_read = refl;
      other_transaction = refl;
      other_page = refl;
      granted_later = refl;
      asked_to_read = refl;
      asked_to_write = refl;
      answered = refl;
      halted = refl;
    }
