use Rattle.page_laws.proofs.LookParts.Granting.{bringing_is_seen_law, bringing_goes_law}
use Rattle.page_laws.proofs.look.grants.bringing_is_seen.Goals as goal

pub returns-clause-seen : goal.returns-clause-seen
returns-clause-seen c = bringing_is_seen_law

pub returns-clause-goes : goal.returns-clause-goes
returns-clause-goes c = bringing_goes_law
