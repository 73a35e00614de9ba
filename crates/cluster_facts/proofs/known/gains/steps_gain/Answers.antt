use Rattle.cluster_facts.proofs.KnownParts.Gaining.{steps_gain_law}
use Rattle.cluster_facts.proofs.known.gains.steps_gain.Goals as goal

pub returns : goal.returns
returns c = steps_gain_law
