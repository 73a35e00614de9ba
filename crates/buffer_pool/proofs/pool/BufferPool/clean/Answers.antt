use Rattle.std.proofs.Common.{length, nat_eq, Some, refl, sym, ap, ◌∙◌}
use Rattle.std.proofs.lemmas.Map.{length-set_value}
use Rattle.node_rules.specs.BufferRule.{cleaned, clean}
use Rattle.buffer_pool.specs.Entries.{slot_page}
use Rattle.buffer_pool.specs.Seen.{pool_of}
use Rattle.buffer_pool.proofs.Rows.{slot_row, slot_use}
use Rattle.buffer_pool.proofs.Totals.{buffer_from_sound}
use Rattle.buffer_pool.proofs.Pools.{no_slot, sound_table, slot_changed}
use Rattle.buffer_pool.proofs.Calls.{cleaned_row}
use Rattle.buffer_pool.proofs.pool.BufferPool.clean.Goals as goal

pub unreachable-requires : goal.unreachable-requires
unreachable-requires c = no_slot c.self.inside.images c.self.inside.table c.args.self.now c.args.page c.self.view_is c.in-None.ensures.found c.requires

pub set_slot-requires : goal.set_slot-requires
set_slot-requires c = ap slot_page (slot_use c.args.page c.in-Some.frame c.in-Some.slot c.self.inside.table c.slot.ensures.sound.distinct (sym c.in-Some.ensures.found)).0 ∙ ap (λ s. Some s.page) (sym c.cleaned.ensures)

pub invariant_of-self : goal.invariant_of-self
invariant_of-self c = sound_table c.self.inside.images c.self.inside.table c.set_slot.new.self c.self.invariant c.set_slot.ensures.sound (ap length c.set_slot.ensures.set ∙ length-set_value (nat_eq c.in-Some.frame) c.self.inside.table _)

pub returns-clause-cleaned : goal.returns-clause-cleaned
unfolding clean
returns-clause-cleaned c =
    ap (pool_of c.self.inside.images) c.set_slot.ensures.set
    ∙ slot_changed c.self.inside.images c.self.inside.images.images c.self.inside.table c.in-Some.frame c.args.page c.in-Some.slot (c.cleaned.result) (λ s. record s { copy = cleaned s.copy }) c.slot.ensures.sound (λ j n. refl) (sym c.in-Some.ensures.found) (ap (slot_row c.self.inside.images.images c.in-Some.frame) c.cleaned.ensures ∙ cleaned_row c.self.inside.images.images c.in-Some.frame c.in-Some.slot)
    ∙ ap (λ b. clean b c.args.page) c.self.view_is

pub returns-clause-sound : goal.returns-clause-sound
returns-clause-sound c = buffer_from_sound c.self.inside.images c.set_slot.new.self (invariant_of-self c)
