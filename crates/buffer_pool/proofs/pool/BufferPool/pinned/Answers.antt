use Rattle.std.proofs.Common.{Some, None, sym, ap}
use Rattle.node_rules.specs.BufferRule.{pinned_slot}
use Rattle.buffer_pool.proofs.Pools.{slot_now}
use Rattle.buffer_pool.proofs.pool.BufferPool.pinned.Goals as goal

pub returns-in-None : goal.returns-in-None
returns-in-None c = sym (ap pinned_slot (slot_now c.self.inside.images c.self.inside.table c.args.self.now c.args.page None c.self.view_is c.in-None.ensures.found))

pub returns-in-Some : goal.returns-in-Some
returns-in-Some c = sym (ap pinned_slot (slot_now c.self.inside.images c.self.inside.table c.args.self.now c.args.page (Some (c.in-Some._frame, c.in-Some.slot)) c.self.view_is c.in-Some.ensures.found))
