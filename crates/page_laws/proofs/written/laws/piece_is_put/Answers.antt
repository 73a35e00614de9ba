use Rattle.page_laws.proofs.WrittenParts.Differing.{piece_is_put_law}
use Rattle.page_laws.proofs.written.laws.piece_is_put.Goals as goal

pub returns : goal.returns
returns c = piece_is_put_law
