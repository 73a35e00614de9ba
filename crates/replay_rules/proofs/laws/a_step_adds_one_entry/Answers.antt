-- The law is a lemma.
use Rattle.replay_rules.proofs.StepTraces.{step_adds}
use Rattle.replay_rules.proofs.laws.a_step_adds_one_entry.Goals as goal

pub returns : goal.returns
returns c = step_adds
