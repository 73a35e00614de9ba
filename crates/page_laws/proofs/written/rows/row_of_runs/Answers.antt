use Rattle.std.proofs.Common.{refl}
use Rattle.page_laws.proofs.written.rows.row_of_runs.Goals as goal

pub returns : goal.returns
returns c =
    record {
      before = refl;
      first = refl;
      last = refl;
      behind = refl;
      second = refl;
      longer = λ is. absurd (let long = is.long in cc);
      elsewhere = λ is. absurd (let same = is.outside 0 refl in cc);
    }
