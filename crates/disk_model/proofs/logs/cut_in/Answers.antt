use Rattle.std.proofs.Common.{drop}
use Rattle.disk_model.proofs.LogLemmas.{bytes_changed, rooms_kept}
use Rattle.disk_model.proofs.logs.cut_in.Goals as goal

pub returns-clause-bytes : goal.returns-clause-bytes
returns-clause-bytes c = bytes_changed _ _ c.index-logs-node.result _ (λ b. drop c.args.count b) c.requires.node c.cut.ensures.bytes

pub returns-clause-rooms : goal.returns-clause-rooms
returns-clause-rooms c = rooms_kept c.args.logs.now c.args.node c.index-logs-node.result _ c.requires.node c.cut.ensures.room
