use Rattle.std.proofs.Common.{ap, ◌++◌, length, take, Some, arith, length-take}
use Rattle.disk_model.proofs.LogLemmas.{bytes_changed, rooms_lowered}
use Rattle.disk_model.proofs.logs.append_to.Goals as goal

pub returns-clause-bytes : goal.returns-clause-bytes
returns-clause-bytes c = bytes_changed _ _ c.index-logs-node.result _ (λ b. b ++ take c.args.kept c.args.bytes.now) c.requires.node c.append.ensures.bytes

pub returns-clause-torn : goal.returns-clause-torn
returns-clause-torn c = record {
  count = c.args.kept;
  most = c.requires.kept;
  same = ap Some (bytes_changed _ _ c.index-logs-node.result _ (λ b. b ++ take c.args.kept c.args.bytes.now) c.requires.node c.append.ensures.bytes);
}

pub returns-clause-rooms : goal.returns-clause-rooms
returns-clause-rooms c = rooms_lowered c.args.logs.now c.args.node (length c.args.bytes.now) c.index-logs-node.result _ c.requires.node (omega (arith, c.append.ensures.room, length-take c.args.kept c.args.bytes.now))
