use Rattle.std.proofs.Common.{◌≡◌, [], length, set, nat_eq, Some, sym, ap, ◌∙◌}
use Rattle.std.proofs.lemmas.Map.{length-set_value}
use Rattle.text_rules.specs.ChangedRanges.{put}
use Rattle.node_rules.specs.BufferRule.{Pool, Slot as SlotRow, install}
use Rattle.buffer_pool.specs.Entries.{slot_page}
use Rattle.buffer_pool.specs.Seen.{pool_of, image_at}
use Rattle.buffer_pool.proofs.Rows.{slot_use}
use Rattle.buffer_pool.proofs.Totals.{buffer_from_sound}
use Rattle.buffer_pool.proofs.Pools.{no_slot, sound_table, below_images, image_other, image_same, put_all, slot_changed}
use Rattle.buffer_pool.proofs.Calls.{sound_written}
use Rattle.buffer_pool.proofs.pool.BufferPool.install.Goals as goal

pub unreachable-requires : goal.unreachable-requires
unreachable-requires c = no_slot c.self.inside.images c.self.inside.table c.args.self.now c.args.page c.self.view_is c.in-None.ensures.found c.requires.slot

pub write-requires-clause-frame : goal.write-requires-clause-frame
write-requires-clause-frame c = below_images c.self.inside.images c.self.inside.table c.in-Some.frame _ c.self.invariant (slot_use c.args.page c.in-Some.frame c.in-Some.slot c.self.inside.table c.slot.ensures.sound.distinct (sym c.in-Some.ensures.found)).0

pub set_slot-requires : goal.set_slot-requires
set_slot-requires c = ap slot_page (slot_use c.args.page c.in-Some.frame c.in-Some.slot c.self.inside.table c.slot.ensures.sound.distinct (sym c.in-Some.ensures.found)).0

pub invariant_of-self : goal.invariant_of-self
invariant_of-self c = sound_table c.write.new.self c.self.inside.table c.set_slot.new.self (sound_written c.self.inside.images c.write.new.self c.self.inside.table c.in-Some.frame _ c.self.invariant c.write.ensures.written c.write.ensures.sized) c.set_slot.ensures.sound (ap length c.set_slot.ensures.set ∙ length-set_value (nat_eq c.in-Some.frame) c.self.inside.table _)

pub returns-clause-installed : goal.returns-clause-installed
unfolding install
returns-clause-installed c =
    let size : length c.args.bytes.now ≡ c.self.inside.images.size = c.requires.size ∙ ap (λ (b : Pool). b.size) (sym c.self.view_is) in
    let old : length (image_at c.self.inside.images.images c.in-Some.frame) ≡ c.self.inside.images.size = c.self.invariant.sized c.in-Some.frame [] (below_images c.self.inside.images c.self.inside.table c.in-Some.frame _ c.self.invariant (slot_use c.args.page c.in-Some.frame c.in-Some.slot c.self.inside.table c.slot.ensures.sound.distinct (sym c.in-Some.ensures.found)).0) in
    let all : put 0 c.args.bytes.now (image_at c.self.inside.images.images c.in-Some.frame) ≡ c.args.bytes.now = put_all c.args.bytes.now (image_at c.self.inside.images.images c.in-Some.frame) (old ∙ sym size) in
    let images : c.write.new.self ≡ record c.self.inside.images { images = set c.self.inside.images.images c.in-Some.frame c.args.bytes.now } = c.write.ensures.written ∙ ap (λ b. record c.self.inside.images { images = set c.self.inside.images.images c.in-Some.frame b }) all in
    let here : image_at (set c.self.inside.images.images c.in-Some.frame c.args.bytes.now) c.in-Some.frame ≡ c.args.bytes.now = image_same c.self.inside.images.images c.in-Some.frame c.args.bytes.now (below_images c.self.inside.images c.self.inside.table c.in-Some.frame _ c.self.invariant (slot_use c.args.page c.in-Some.frame c.in-Some.slot c.self.inside.table c.slot.ensures.sound.distinct (sym c.in-Some.ensures.found)).0) in
    ap (λ v. pool_of v c.set_slot.new.self) images
    ∙ ap (pool_of (record c.self.inside.images { images = set c.self.inside.images.images c.in-Some.frame c.args.bytes.now })) c.set_slot.ensures.set
    ∙ slot_changed c.self.inside.images (set c.self.inside.images.images c.in-Some.frame c.args.bytes.now) c.self.inside.table c.in-Some.frame c.args.page c.in-Some.slot (record c.in-Some.slot { content = Some (record { version = c.args.version; dirty = c.args.dirty }) }) (λ s. record s { copy = Some (record { version = c.args.version; bytes = c.args.bytes.now; dirty = c.args.dirty }) }) c.slot.ensures.sound (λ j n. image_other c.self.inside.images.images c.in-Some.frame j c.args.bytes.now n) (sym c.in-Some.ensures.found)
    (ap (λ i. let y : SlotRow = record { page = c.in-Some.slot.page; copy = Some (record { version = c.args.version; bytes = i; dirty = c.args.dirty }); pins = c.in-Some.slot.pins } in y) here)
    ∙ ap (λ b. install b c.args.page (record { version = c.args.version; bytes = c.args.bytes.now; dirty = c.args.dirty })) c.self.view_is

pub returns-clause-sound : goal.returns-clause-sound
returns-clause-sound c = buffer_from_sound c.write.new.self c.set_slot.new.self (invariant_of-self c)
