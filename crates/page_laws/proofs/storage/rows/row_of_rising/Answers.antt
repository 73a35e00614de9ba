use Rattle.std.proofs.Common.{refl, arith}
use Rattle.page_laws.proofs.storage.rows.row_of_rising.Goals as goal

pub returns : goal.returns
returns c =
    record {
      rises = (omega arith, refl, (omega arith, refl, tt));
      bound = λ is. absurd (let low = is.0 in omega (arith, low));
      twice = λ is. absurd (let low = is.2.0 in omega (arith, low));
      whole = λ is. absurd (let bad = is.1 in cc);
    }
