use Rattle.step_laws.proofs.Readers.{readers_are_few_law}
use Rattle.step_laws.proofs.laws.readers_are_few.Goals as goal

pub returns : goal.returns
returns c = readers_are_few_law
