use Rattle.page_laws.proofs.EntryParts.Stepped.{grant_is_step_law, right_is_step_law, revocation_is_none_law}
use Rattle.page_laws.proofs.entry.steps.decisions_are_steps.Goals as goal

pub returns-clause-grant : goal.returns-clause-grant
returns-clause-grant c = grant_is_step_law

pub returns-clause-right : goal.returns-clause-right
returns-clause-right c = right_is_step_law

pub returns-clause-revocation : goal.returns-clause-revocation
returns-clause-revocation c = revocation_is_none_law
