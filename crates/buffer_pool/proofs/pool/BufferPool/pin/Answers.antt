use Rattle.std.proofs.Common.{◌≡◌, ◌+◌, ◌<◌, length, nat_eq, Some, IfSome, refl, sym, ap, subst, ◌∙◌, arith}
use Rattle.std.proofs.lemmas.Map.{length-set_value}
use Rattle.node_rules.specs.BufferRule.{slot_at, pin}
use Rattle.buffer_pool.specs.Entries.{slot_page}
use Rattle.buffer_pool.specs.Seen.{pool_of}
use Rattle.buffer_pool.proofs.Rows.{slot_row, slot_use}
use Rattle.buffer_pool.proofs.Totals.{buffer_from_sound}
use Rattle.buffer_pool.proofs.Pools.{slot_now, no_slot, sound_table, slot_changed}
use Rattle.buffer_pool.proofs.pool.BufferPool.pin.Goals as goal

pub unreachable-requires : goal.unreachable-requires
unreachable-requires c = no_slot c.self.inside.images c.self.inside.table c.args.self.now c.args.page c.self.view_is c.in-None.ensures.found c.requires.slot

pub overflow_add-slot : goal.overflow_add-slot
overflow_add-slot c =
    let row : slot_at c.args.self.now c.args.page ≡ Some (slot_row c.self.inside.images.images c.in-Some.frame c.in-Some.slot) = slot_now c.self.inside.images c.self.inside.table c.args.self.now c.args.page (Some (c.in-Some.frame, c.in-Some.slot)) c.self.view_is c.in-Some.ensures.found in
    let few : c.in-Some.slot.pins < 4294967295 = subst (λ o. IfSome o (λ s. s.pins < 4294967295)) row c.requires.few in
    omega arith

pub set_slot-requires : goal.set_slot-requires
set_slot-requires c = ap slot_page (slot_use c.args.page c.in-Some.frame c.in-Some.slot c.self.inside.table c.slot.ensures.sound.distinct (sym c.in-Some.ensures.found)).0

pub invariant_of-self : goal.invariant_of-self
invariant_of-self c = sound_table c.self.inside.images c.self.inside.table c.set_slot.new.self c.self.invariant c.set_slot.ensures.sound (ap length c.set_slot.ensures.set ∙ length-set_value (nat_eq c.in-Some.frame) c.self.inside.table _)

pub returns-clause-pinned : goal.returns-clause-pinned
unfolding pin
returns-clause-pinned c =
    ap (pool_of c.self.inside.images) c.set_slot.ensures.set
    ∙ slot_changed c.self.inside.images c.self.inside.images.images c.self.inside.table c.in-Some.frame c.args.page c.in-Some.slot (record c.in-Some.slot { pins = c.in-Some.slot.pins + 1 }) (λ s. record s { pins = s.pins + 1 }) c.slot.ensures.sound (λ j n. refl) (sym c.in-Some.ensures.found) refl
    ∙ ap (λ b. pin b c.args.page) c.self.view_is

pub returns-clause-sound : goal.returns-clause-sound
returns-clause-sound c = buffer_from_sound c.self.inside.images c.set_slot.new.self (invariant_of-self c)
