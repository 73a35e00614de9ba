use Rattle.redo_log.proofs.StepLemmas.{opened_all}
use Rattle.redo_log.proofs.walk.Walk.open.Goals as goal

pub returns-clause-all : goal.returns-clause-all
returns-clause-all c = λ log. rw c.open.ensures (opened_all c.args.config.now c.args.node log)
