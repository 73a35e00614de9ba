use Rattle.page_relation.proofs.WorkParts.Revoking.{revoke_is_kept_law}
use Rattle.page_relation.proofs.work.sends.revoke_is_kept.Goals as goal

pub returns : goal.returns
returns c = revoke_is_kept_law
