use Rattle.std.proofs.Common.{length, nat_eq, sym, ap, ◌∙◌}
use Rattle.std.proofs.lemmas.Map.{length-set_value}
use Rattle.node_rules.specs.BufferRule.{evict}
use Rattle.buffer_pool.specs.declared.uses.Use.TheVariants.{Free}
use Rattle.buffer_pool.specs.Entries.{is_used}
use Rattle.buffer_pool.specs.Seen.{pool_of}
use Rattle.buffer_pool.proofs.Rows.{slot_use}
use Rattle.buffer_pool.proofs.Totals.{buffer_from_sound}
use Rattle.buffer_pool.proofs.Pools.{sound_table, slot_released}
use Rattle.buffer_pool.proofs.Calls.{no_copy}
use Rattle.buffer_pool.proofs.pool.BufferPool.evict.Goals as goal

pub unreachable-requires : goal.unreachable-requires
unreachable-requires c = no_copy c.self.inside.images c.self.inside.table c.args.self.now c.args.page c.self.view_is c.in-None.ensures.found c.requires.copy

pub release-requires : goal.release-requires
release-requires c = ap is_used (slot_use c.args.page c.in-Some.frame c.in-Some._slot c.self.inside.table c.slot.ensures.sound.distinct (sym c.in-Some.ensures.found)).0

pub invariant_of-self : goal.invariant_of-self
invariant_of-self c = sound_table c.self.inside.images c.self.inside.table c.release.new.self c.self.invariant c.release.ensures.sound (ap length c.release.ensures.released ∙ length-set_value (nat_eq c.in-Some.frame) c.self.inside.table Free)

pub returns-clause-evicted : goal.returns-clause-evicted
returns-clause-evicted c =
    ap (pool_of c.self.inside.images) c.release.ensures.released
    ∙ slot_released c.self.inside.images c.self.inside.table c.in-Some.frame c.args.page c.in-Some._slot c.slot.ensures.sound (sym c.in-Some.ensures.found)
    ∙ ap (λ b. evict b c.args.page) c.self.view_is

pub returns-clause-sound : goal.returns-clause-sound
returns-clause-sound c = buffer_from_sound c.self.inside.images c.release.new.self (invariant_of-self c)
