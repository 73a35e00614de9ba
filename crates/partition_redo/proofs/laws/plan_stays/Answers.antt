use Rattle.partition_redo.proofs.Staying.{chains_stay, entries_stay, newer_stay}
use Rattle.partition_redo.proofs.laws.plan_stays.Goals as goal

pub returns-clause-chains : goal.returns-clause-chains
returns-clause-chains c = chains_stay

pub returns-clause-entries : goal.returns-clause-entries
returns-clause-entries c = entries_stay

pub returns-clause-newer : goal.returns-clause-newer
returns-clause-newer c = newer_stay
