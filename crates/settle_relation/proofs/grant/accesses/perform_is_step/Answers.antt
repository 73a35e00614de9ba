use Rattle.settle_relation.proofs.GrantParts.Performing.{perform_is_step_law}
use Rattle.settle_relation.proofs.grant.accesses.perform_is_step.Goals as goal

pub returns : goal.returns
returns c = perform_is_step_law
