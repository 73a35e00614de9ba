use Rattle.std.proofs.Common.{Some, None, sym, ap, ◌∙◌}
use Rattle.node_rules.specs.BufferRule.{copy_of_slot, is_dirty_copy}
use Rattle.buffer_pool.proofs.Pools.{slot_now}
use Rattle.buffer_pool.proofs.Calls.{dirty_row}
use Rattle.buffer_pool.proofs.pool.BufferPool.dirty.Goals as goal

pub returns-in-None : goal.returns-in-None
returns-in-None c = sym (ap (λ o. is_dirty_copy (copy_of_slot o)) (slot_now c.self.inside.images c.self.inside.table c.args.self.now c.args.page None c.self.view_is c.in-None.ensures.found))

pub returns-in-Some : goal.returns-in-Some
returns-in-Some c = c.is_dirty.ensures ∙ dirty_row c.self.inside.images.images c.in-Some._frame c.in-Some.slot ∙ sym (ap (λ o. is_dirty_copy (copy_of_slot o)) (slot_now c.self.inside.images c.self.inside.table c.args.self.now c.args.page (Some (c.in-Some._frame, c.in-Some.slot)) c.self.view_is c.in-Some.ensures.found))
