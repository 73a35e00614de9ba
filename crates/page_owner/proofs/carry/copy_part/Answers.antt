use Rattle.node_rules.specs.BufferRule.{copy_at}
use Rattle.page_owner.proofs.OwnGrants.{image_there}
use Rattle.page_owner.proofs.carry.copy_part.Goals as goal

pub bytes-requires : goal.bytes-requires
bytes-requires c = image_there c.args.have c.args.at.version (copy_at c.pool-in-Image.result.now c.args.at.page) cc
