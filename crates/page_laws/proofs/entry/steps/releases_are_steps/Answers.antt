use Rattle.page_laws.proofs.EntryParts.Stepped.{release_is_step_law, change_is_step_law}
use Rattle.page_laws.proofs.entry.steps.releases_are_steps.Goals as goal

pub returns-clause-release : goal.returns-clause-release
returns-clause-release c = release_is_step_law

pub returns-clause-change : goal.returns-clause-change
returns-clause-change c = change_is_step_law
