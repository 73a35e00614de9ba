use Rattle.disk_model.proofs.LogLemmas.{bytes_kept, rooms_kept, room_set, on_ok}
use Rattle.disk_model.proofs.logs.reserve_in.Goals as goal

pub returns-clause-made : goal.returns-clause-made
returns-clause-made c = on_ok c.reserve.result (λ h. room_set c.args.logs.now _ _ _ c.requires h) c.reserve.ensures.made

pub returns-clause-rooms : goal.returns-clause-rooms
returns-clause-rooms c = rooms_kept c.args.logs.now c.args.node c.index-logs-node.result _ c.requires c.reserve.ensures.room

pub returns-clause-bytes : goal.returns-clause-bytes
returns-clause-bytes c = bytes_kept _ _ c.index-logs-node.result _ c.reserve.ensures.bytes
