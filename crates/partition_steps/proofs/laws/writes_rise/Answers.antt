use Rattle.partition_steps.proofs.Rising.{planned_rise_law, reported_rise_law}
use Rattle.partition_steps.proofs.laws.writes_rise.Goals as goal

pub returns-clause-planned : goal.returns-clause-planned
returns-clause-planned c = planned_rise_law

pub returns-clause-reported : goal.returns-clause-reported
returns-clause-reported c = reported_rise_law
