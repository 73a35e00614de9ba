-- The laws are lemmas.
use Rattle.replay_laws.proofs.WholeRuns.{schedule_told, whole_told}
use Rattle.replay_laws.proofs.laws.schedules_are_told_whole.Goals as goal

pub returns : goal.returns
returns c = record { told = schedule_told; only = whole_told }
