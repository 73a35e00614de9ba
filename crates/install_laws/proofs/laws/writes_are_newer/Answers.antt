use Rattle.install_laws.proofs.Parts.{writes_are_newer_law}
use Rattle.install_laws.proofs.laws.writes_are_newer.Goals as goal

pub returns : goal.returns
returns c = writes_are_newer_law
