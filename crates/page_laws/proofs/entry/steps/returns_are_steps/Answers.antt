use Rattle.page_laws.proofs.EntryParts.Stepped.{return_is_step_law}
use Rattle.page_laws.proofs.entry.steps.returns_are_steps.Goals as goal

pub returns : goal.returns
returns c = return_is_step_law
