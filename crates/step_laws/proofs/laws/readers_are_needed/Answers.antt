use Rattle.step_laws.proofs.Readers.{readers_are_needed_law}
use Rattle.step_laws.proofs.laws.readers_are_needed.Goals as goal

pub returns : goal.returns
returns c = readers_are_needed_law
