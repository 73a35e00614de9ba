use Rattle.std.proofs.Common.{ap, ◌∙◌, arith}
use Rattle.node_rules.specs.BufferRule.{place}
use Rattle.buffer_pool.proofs.Totals.{buffer_from_sound}
use Rattle.buffer_pool.proofs.Pools.{new_slot, some_free, sound_table, slot_placed, length_taken}
use Rattle.buffer_pool.proofs.pool.BufferPool.place.Goals as goal

pub add_slot-requires-clause-free : goal.add_slot-requires-clause-free
add_slot-requires-clause-free c = omega (arith, some_free c.self.inside.images c.self.inside.table c.args.self.now c.self.view_is, c.requires.free)

pub add_slot-requires-clause-none : goal.add_slot-requires-clause-none
add_slot-requires-clause-none c = new_slot c.self.inside.images c.self.inside.table c.args.self.now c.args.page c.self.view_is c.requires.none

pub invariant_of-self : goal.invariant_of-self
invariant_of-self c = sound_table c.self.inside.images c.self.inside.table c.add_slot.new.self c.self.invariant c.add_slot.ensures.sound (length_taken c.self.inside.table c.add_slot.new.self _ c.add_slot.ensures.added)

pub returns-clause-placed : goal.returns-clause-placed
returns-clause-placed c = slot_placed c.self.inside.images c.self.inside.table c.add_slot.new.self c.args.page c.add_slot.ensures.added ∙ ap (λ b. place b c.args.page) c.self.view_is

pub returns-clause-sound : goal.returns-clause-sound
returns-clause-sound c = buffer_from_sound c.self.inside.images c.add_slot.new.self (invariant_of-self c)
