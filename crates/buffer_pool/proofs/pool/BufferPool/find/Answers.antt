use Rattle.std.proofs.Common.{Some, None, sym, ap, ◌∙◌}
use Rattle.node_rules.specs.BufferRule.{copy_of_slot, version_of_copy}
use Rattle.buffer_pool.specs.Seen.{image_at, copy_seen}
use Rattle.buffer_pool.proofs.Pools.{slot_now}
use Rattle.buffer_pool.proofs.pool.BufferPool.find.Goals as goal

pub returns-in_err-_frame : goal.returns-in_err-_frame
returns-in_err-_frame c = c.from_residual.ensures ∙ sym (ap (λ o. version_of_copy (copy_of_slot o)) (slot_now c.self.inside.images c.self.inside.table c.args.self.now c.args.page None c.self.view_is c.in_err-_frame.ensures.found))

pub returns-in_err-content : goal.returns-in_err-content
returns-in_err-content c = c.from_residual-in_err-content.ensures ∙ sym (ap (λ o. version_of_copy (copy_seen (image_at c.self.inside.images.images c.in_ok-_frame._frame) o)) c.in_err-content.was) ∙ sym (ap (λ o. version_of_copy (copy_of_slot o)) (slot_now c.self.inside.images c.self.inside.table c.args.self.now c.args.page (Some (c.in_ok-_frame._frame, c.in_ok-_frame.slot)) c.self.view_is c.in_ok-_frame.ensures.found))

pub returns : goal.returns
returns c = sym (ap (λ o. version_of_copy (copy_seen (image_at c.self.inside.images.images c.in_ok-_frame._frame) o)) c.in_ok-content.was) ∙ sym (ap (λ o. version_of_copy (copy_of_slot o)) (slot_now c.self.inside.images c.self.inside.table c.args.self.now c.args.page (Some (c.in_ok-_frame._frame, c.in_ok-_frame.slot)) c.self.view_is c.in_ok-_frame.ensures.found))
