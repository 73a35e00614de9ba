use Rattle.std.proofs.Common.{◌≡◌, ◌-◌, length, nat_eq, refl, sym, ap, ◌∙◌, arith}
use Rattle.std.proofs.lemmas.Map.{length-set_value}
use Rattle.node_rules.specs.BufferRule.{Pool, free_places, unpin}
use Rattle.buffer_pool.specs.Entries.{count, is_bare, slot_page}
use Rattle.buffer_pool.specs.Seen.{pool_of}
use Rattle.buffer_pool.proofs.Rows.{slot_use}
use Rattle.buffer_pool.proofs.Totals.{buffer_from_sound, length_freed}
use Rattle.buffer_pool.proofs.Pools.{no_slot, sound_table, slot_changed, places_gone, places_stay}
use Rattle.buffer_pool.proofs.Calls.{slot_pins}
use Rattle.buffer_pool.proofs.pool.BufferPool.unpin.Goals as goal

pub unreachable-requires : goal.unreachable-requires
unreachable-requires c = no_slot c.self.inside.images c.self.inside.table c.args.self.now c.args.page c.self.view_is c.in-None.ensures.found c.requires.slot

pub overflow_sub-pins : goal.overflow_sub-pins
overflow_sub-pins c = slot_pins c.self.inside.images c.self.inside.table c.args.self.now c.args.page c.in-Some.frame c.in-Some.slot c.self.view_is c.in-Some.ensures.found c.requires.pin

pub set_slot-requires : goal.set_slot-requires
set_slot-requires c = ap slot_page (slot_use c.args.page c.in-Some.frame c.in-Some.slot c.self.inside.table c.slot.ensures.sound.distinct (sym c.in-Some.ensures.found)).0

pub invariant_of-self-else-bare-gt0 : goal.invariant_of-self-else-bare-gt0
invariant_of-self-else-bare-gt0 c = sound_table c.self.inside.images c.self.inside.table c.set_slot.new.self c.self.invariant c.set_slot.ensures.sound (ap length c.set_slot.ensures.set ∙ length-set_value (nat_eq c.in-Some.frame) c.self.inside.table _)

pub invariant_of-self : goal.invariant_of-self
invariant_of-self c = sound_table c.self.inside.images c.self.inside.table c.free_places.new.self c.self.invariant c.free_places.ensures.sound (ap length c.free_places.ensures.freed ∙ length_freed c.set_slot.new.self ∙ (ap length c.set_slot.ensures.set ∙ length-set_value (nat_eq c.in-Some.frame) c.self.inside.table _))

pub returns-then-bare-gt0-clause-unpinned : goal.returns-then-bare-gt0-clause-unpinned
unfolding unpin
returns-then-bare-gt0-clause-unpinned c =
    ap (pool_of c.self.inside.images) c.free_places.ensures.freed
    ∙ places_gone c.self.inside.images c.set_slot.new.self
    ∙ ap (λ (b : Pool). record b { slots = free_places b.slots }) (ap (pool_of c.self.inside.images) c.set_slot.ensures.set
    ∙ slot_changed c.self.inside.images c.self.inside.images.images c.self.inside.table c.in-Some.frame c.args.page c.in-Some.slot (record c.in-Some.slot { pins = c.in-Some.slot.pins - 1 }) (λ s. record s { pins = s.pins - 1 }) c.slot.ensures.sound (λ j n. refl) (sym c.in-Some.ensures.found) refl)
    ∙ ap (λ b. unpin b c.args.page) c.self.view_is

pub returns-else-bare-gt0-clause-unpinned : goal.returns-else-bare-gt0-clause-unpinned
unfolding unpin
returns-else-bare-gt0-clause-unpinned c =
    let none : count is_bare c.set_slot.new.self ≡ 0 = omega (arith, c.bare.ensures, c.if-bare-gt0.false) in
    places_stay c.self.inside.images c.set_slot.new.self none
    ∙ ap (λ (b : Pool). record b { slots = free_places b.slots }) (ap (pool_of c.self.inside.images) c.set_slot.ensures.set
    ∙ slot_changed c.self.inside.images c.self.inside.images.images c.self.inside.table c.in-Some.frame c.args.page c.in-Some.slot (record c.in-Some.slot { pins = c.in-Some.slot.pins - 1 }) (λ s. record s { pins = s.pins - 1 }) c.slot.ensures.sound (λ j n. refl) (sym c.in-Some.ensures.found) refl)
    ∙ ap (λ b. unpin b c.args.page) c.self.view_is

pub returns-then-bare-gt0-clause-sound : goal.returns-then-bare-gt0-clause-sound
returns-then-bare-gt0-clause-sound c = buffer_from_sound c.self.inside.images c.free_places.new.self (invariant_of-self c)

pub returns-else-bare-gt0-clause-sound : goal.returns-else-bare-gt0-clause-sound
returns-else-bare-gt0-clause-sound c = buffer_from_sound c.self.inside.images c.set_slot.new.self (invariant_of-self-else-bare-gt0 c)
