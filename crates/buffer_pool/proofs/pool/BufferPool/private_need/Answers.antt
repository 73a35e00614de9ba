use Rattle.std.proofs.Common.{not, ◌||◌, Some, None, is_some, sym, ap, ◌∙◌}
use Rattle.node_rules.specs.BufferRule.{has_private, one_unless}
use Rattle.buffer_pool.proofs.Pools.{private_now}
use Rattle.buffer_pool.proofs.pool.BufferPool.private_need.Goals as goal

pub returns-in-None : goal.returns-in-None
returns-in-None c = sym (ap (λ w. one_unless (not w || has_private c.args.self.now c.args.tx c.args.page)) c.if-write.true ∙ ap (λ o. one_unless (is_some o)) (private_now c.self.inside.images c.self.inside.table c.args.self.now c.args.tx c.args.page None c.self.view_is c.private.ensures.sound c.in-None.ensures.found))

pub returns-in-Some : goal.returns-in-Some
returns-in-Some c = sym (ap (λ w. one_unless (not w || has_private c.args.self.now c.args.tx c.args.page)) c.if-write.true ∙ ap (λ o. one_unless (is_some o)) (private_now c.self.inside.images c.self.inside.table c.args.self.now c.args.tx c.args.page (Some c.in-Some._private) c.self.view_is c.private.ensures.sound c.in-Some.ensures.found))
