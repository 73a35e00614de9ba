use Rattle.std.proofs.Common.{◌≡◌, ℕ, List, Some}
use Rattle.disk_model.specs.Disk.{told_at}
use Rattle.redo_log.specs.Told.{IsLog}
use Rattle.redo_log.specs.Walks.{Stands, node_of}
use Rattle.redo_log.proofs.StepLemmas.{carried_on}
use Rattle.redo_log.proofs.walk.Walk.onward.Goals as goal

pub returns-then-branch-clause-stands : goal.returns-then-branch-clause-stands
returns-then-branch-clause-stands g c =
    carried_on c.answer.result
    ((log : List ℕ) → IsLog (g.S.Storage.logs c.enter.new.s) (node_of c.enter.new.self) log → Stands c.answer.new.self log)
    ((log : List ℕ) → IsLog (g.S.Storage.logs c.args.s.now) (node_of c.args.self.now) log → Stands c.answer.new.self log)
    c.answer.ensures.stands
    (λ all log told.
    let now : told_at (g.S.Storage.logs c.enter.new.s) c.enter.new.self.reading.node ≡ Some log = rw (c.in_ok-enter.ensures.logs, c.in_ok-enter.ensures.node) told in
    all log now)

pub returns-clause-stands : goal.returns-clause-stands
returns-clause-stands g c = λ log told. (c.in_ok-enter.ensures.ended c.if-branch.false log told).stands
