use Rattle.page_laws.proofs.WrittenParts.Differing.{piece_differs_law}
use Rattle.page_laws.proofs.written.laws.piece_differs.Goals as goal

pub returns : goal.returns
returns c = piece_differs_law
