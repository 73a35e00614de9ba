use Rattle.std.proofs.Common.{ap, ◌∙◌, arith}
use Rattle.node_rules.specs.BufferRule.{private}
use Rattle.buffer_pool.proofs.Totals.{buffer_from_sound}
use Rattle.buffer_pool.proofs.Pools.{new_private, some_free, sound_table, private_made, length_taken}
use Rattle.buffer_pool.proofs.pool.BufferPool.private.Goals as goal

pub add_private-requires-clause-free : goal.add_private-requires-clause-free
add_private-requires-clause-free c = omega (arith, some_free c.self.inside.images c.self.inside.table c.args.self.now c.self.view_is, c.requires.free)

pub add_private-requires-clause-none : goal.add_private-requires-clause-none
add_private-requires-clause-none c = new_private c.self.inside.images c.self.inside.table c.args.self.now c.args.tx c.args.page c.self.view_is c.self.invariant.table c.requires.none

pub invariant_of-self : goal.invariant_of-self
invariant_of-self c = sound_table c.self.inside.images c.self.inside.table c.add_private.new.self c.self.invariant c.add_private.ensures.sound (length_taken c.self.inside.table c.add_private.new.self _ c.add_private.ensures.added)

pub returns-clause-made : goal.returns-clause-made
returns-clause-made c = private_made c.self.inside.images c.self.inside.table c.add_private.new.self c.args.tx c.args.page c.add_private.ensures.added ∙ ap (λ b. private b c.args.tx c.args.page) c.self.view_is

pub returns-clause-sound : goal.returns-clause-sound
returns-clause-sound c = buffer_from_sound c.self.inside.images c.add_private.new.self (invariant_of-self c)
