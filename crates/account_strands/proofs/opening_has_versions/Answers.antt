use Rattle.account_strands.proofs.Opening.{opening_has_versions_law}
use Rattle.account_strands.proofs.opening_has_versions.Goals as goal

pub returns : goal.returns
returns c = opening_has_versions_law
