use Rattle.std.proofs.Common.{Some, None, sym, ap, ◌∙◌}
use Rattle.node_rules.specs.BufferRule.{bytes_of_private}
use Rattle.buffer_pool.specs.Seen.{image_at, if_filled}
use Rattle.buffer_pool.proofs.Privates.{private_use}
use Rattle.buffer_pool.proofs.Pools.{private_now, below_images}
use Rattle.buffer_pool.proofs.Calls.{private_seen_bytes}
use Rattle.buffer_pool.proofs.pool.BufferPool.private_bytes.Goals as goal

pub bytes-requires : goal.bytes-requires
bytes-requires c = below_images c.self.inside.images c.self.inside.table c.in-Some.frame _ c.self.invariant (private_use c.args.tx c.args.page c.in-Some.frame c.in-Some.private c.self.inside.table c.private.ensures.sound.distinct (sym c.in-Some.ensures.found)).0

pub returns-then-private-clause-value : goal.returns-then-private-clause-value
returns-then-private-clause-value c = ap (λ i. Some i) c.bytes.ensures.value ∙ ap (λ b. if_filled b (image_at c.self.inside.images.images c.in-Some.frame)) (sym c.if-private.true) ∙ sym (private_seen_bytes c.self.inside.images c.self.inside.table c.args.self.now c.args.tx c.args.page c.in-Some.frame c.in-Some.private c.self.view_is c.private.ensures.sound c.in-Some.ensures.found)

pub returns-else-private-clause-value : goal.returns-else-private-clause-value
returns-else-private-clause-value c = ap (λ b. if_filled b (image_at c.self.inside.images.images c.in-Some.frame)) (sym c.if-private.false) ∙ sym (private_seen_bytes c.self.inside.images c.self.inside.table c.args.self.now c.args.tx c.args.page c.in-Some.frame c.in-Some.private c.self.view_is c.private.ensures.sound c.in-Some.ensures.found)

pub returns-in-None-clause-value : goal.returns-in-None-clause-value
returns-in-None-clause-value c = sym (ap bytes_of_private (private_now c.self.inside.images c.self.inside.table c.args.self.now c.args.tx c.args.page None c.self.view_is c.private.ensures.sound c.in-None.ensures.found))
