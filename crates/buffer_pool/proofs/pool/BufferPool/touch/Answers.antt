use Rattle.std.proofs.Common.{length, sym, ap, ◌∙◌}
use Rattle.node_rules.specs.BufferRule.{touch}
use Rattle.buffer_pool.specs.Seen.{pool_of}
use Rattle.buffer_pool.proofs.Rows.{slot_use}
use Rattle.buffer_pool.proofs.Totals.{buffer_from_sound}
use Rattle.buffer_pool.proofs.Pools.{no_slot, sound_table, slot_touched, length_promoted}
use Rattle.buffer_pool.proofs.pool.BufferPool.touch.Goals as goal

pub unreachable-requires : goal.unreachable-requires
unreachable-requires c = no_slot c.self.inside.images c.self.inside.table c.args.self.now c.args.page c.self.view_is c.in-None.ensures.found c.requires

pub invariant_of-self : goal.invariant_of-self
invariant_of-self c =
    sound_table c.self.inside.images c.self.inside.table c.touch.new.self c.self.invariant c.touch.ensures.sound
    (ap length c.touch.ensures.touched ∙ length_promoted c.in-Some.frame _ c.self.inside.table (slot_use c.args.page c.in-Some.frame c.in-Some._slot c.self.inside.table c.slot.ensures.sound.distinct (sym c.in-Some.ensures.found)).0)

pub returns-clause-touched : goal.returns-clause-touched
returns-clause-touched c =
    ap (pool_of c.self.inside.images) c.touch.ensures.touched
    ∙ slot_touched c.self.inside.images c.self.inside.table c.in-Some.frame c.args.page c.in-Some._slot c.slot.ensures.sound (sym c.in-Some.ensures.found)
    ∙ ap (λ b. touch b c.args.page) c.self.view_is

pub returns-clause-sound : goal.returns-clause-sound
returns-clause-sound c = buffer_from_sound c.self.inside.images c.touch.new.self (invariant_of-self c)
