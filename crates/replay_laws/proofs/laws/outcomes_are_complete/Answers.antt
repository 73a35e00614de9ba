-- The laws are lemmas.
use Rattle.replay_laws.proofs.Outcomes.{ran_whole, schedule_ends}
use Rattle.replay_laws.proofs.laws.outcomes_are_complete.Goals as goal

pub returns : goal.returns
returns c = record { whole = ran_whole; ends = schedule_ends }
