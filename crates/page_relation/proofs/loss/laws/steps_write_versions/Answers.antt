use Rattle.page_relation.proofs.LossParts.Ordinary.{steps_write_versions_law}
use Rattle.page_relation.proofs.loss.laws.steps_write_versions.Goals as goal

pub returns : goal.returns
returns c = steps_write_versions_law
