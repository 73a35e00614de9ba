use Rattle.std.proofs.Common.{◌≡◌, ◌<◌, ℕ, List, length, set, nat_eq, Some, None, false, IfSome, refl, sym, ap, subst, ◌∙◌}
use Rattle.std.proofs.lemmas.Map.{length-set_value}
use Rattle.node_rules.specs.BufferRule.{Pool, Slot as SlotRow, slot_at, copy_of_slot, version_of_copy, change_slot, published, private_bytes, publish, discard}
use Rattle.buffer_pool.specs.declared.uses.Use.TheVariants.{Free, Slot, Private}
use Rattle.buffer_pool.specs.Entries.{is_used, slot_page, use_at}
use Rattle.buffer_pool.specs.Seen.{pool_of, image_at, if_filled}
use Rattle.buffer_pool.proofs.Changes.{use_set_other}
use Rattle.buffer_pool.proofs.Rows.{slot_row, slot_use}
use Rattle.buffer_pool.proofs.Privates.{private_use}
use Rattle.buffer_pool.proofs.Totals.{buffer_from_sound}
use Rattle.buffer_pool.proofs.Pools.{slot_now, no_private, sound_table, below_images, image_other, image_same, slot_changed, private_released, change_same}
use Rattle.buffer_pool.proofs.Calls.{no_copy, published_row, private_seen_bytes, sound_written, content_below, frames_apart}
use Rattle.buffer_pool.proofs.pool.BufferPool.publish.Goals as goal

pub unreachable-requires : goal.unreachable-requires
unreachable-requires c = no_copy c.self.inside.images c.self.inside.table c.args.self.now c.args.page c.self.view_is c.in-None.ensures.found c.requires.copy

pub unreachable-requires-in-None-private : goal.unreachable-requires-in-None-private
unreachable-requires-in-None-private c = no_private c.self.inside.images c.self.inside.table c.args.self.now c.args.tx c.args.page c.self.view_is c.private.ensures.sound c.in-None-private.ensures.found c.requires.private

pub copy-requires-clause-from : goal.copy-requires-clause-from
copy-requires-clause-from c = below_images c.self.inside.images c.self.inside.table c.in-Some-private.frame _ c.self.invariant (private_use c.args.tx c.args.page c.in-Some-private.frame c.in-Some-private.private c.self.inside.table c.private.ensures.sound.distinct (sym c.in-Some-private.ensures.found)).0

pub copy-requires-clause-to : goal.copy-requires-clause-to
copy-requires-clause-to c = below_images c.self.inside.images c.self.inside.table c.in-Some.target _ c.self.invariant (slot_use c.args.page c.in-Some.target c.in-Some.slot c.self.inside.table c.slot.ensures.sound.distinct (sym c.in-Some.ensures.found)).0

pub published-requires : goal.published-requires
published-requires c =
    let row : slot_at c.args.self.now c.args.page ≡ Some (slot_row c.self.inside.images.images c.in-Some.target c.in-Some.slot) = slot_now c.self.inside.images c.self.inside.table c.args.self.now c.args.page (Some (c.in-Some.target, c.in-Some.slot)) c.self.view_is c.in-Some.ensures.found in
    content_below (image_at c.self.inside.images.images c.in-Some.target) c.in-Some.slot.content (subst (λ o. IfSome (version_of_copy (copy_of_slot o)) (λ v. v < 18446744073709551615)) row c.requires.below_last)

pub set_slot-requires : goal.set_slot-requires
set_slot-requires c = ap slot_page (slot_use c.args.page c.in-Some.target c.in-Some.slot c.self.inside.table c.slot.ensures.sound.distinct (sym c.in-Some.ensures.found)).0 ∙ ap (λ s. Some s.page) (sym c.published.ensures)

pub release-requires : goal.release-requires
release-requires c =
    let target = slot_use c.args.page c.in-Some.target c.in-Some.slot c.self.inside.table c.slot.ensures.sound.distinct (sym c.in-Some.ensures.found) in
    let found = private_use c.args.tx c.args.page c.in-Some-private.frame c.in-Some-private.private c.self.inside.table c.private.ensures.sound.distinct (sym c.in-Some-private.ensures.found) in
    let apart : nat_eq c.in-Some-private.frame c.in-Some.target ≡ false = frames_apart c.self.inside.table c.in-Some-private.frame c.in-Some.target c.in-Some-private.private c.in-Some.slot found.0 target.0 in
    let here : use_at c.set_slot.new.self c.in-Some-private.frame ≡ Some (Private c.in-Some-private.private) = ap (λ es. use_at es c.in-Some-private.frame) c.set_slot.ensures.set ∙ use_set_other c.in-Some-private.frame c.in-Some.target (Slot c.published.result) c.self.inside.table apart ∙ found.0 in
    ap is_used here

pub invariant_of-self : goal.invariant_of-self
invariant_of-self c = sound_table c.copy.new.self c.self.inside.table c.release.new.self (sound_written c.self.inside.images c.copy.new.self c.self.inside.table c.in-Some.target _ c.self.invariant c.copy.ensures.copied c.copy.ensures.sized) c.release.ensures.sound (ap length c.release.ensures.released ∙ length-set_value (nat_eq c.in-Some-private.frame) c.set_slot.new.self Free ∙ ap length c.set_slot.ensures.set ∙ length-set_value (nat_eq c.in-Some.target) c.self.inside.table _)

pub returns-then-private-clause-published : goal.returns-then-private-clause-published
unfolding publish
returns-then-private-clause-published c =
    let target = slot_use c.args.page c.in-Some.target c.in-Some.slot c.self.inside.table c.slot.ensures.sound.distinct (sym c.in-Some.ensures.found) in
    let found = private_use c.args.tx c.args.page c.in-Some-private.frame c.in-Some-private.private c.self.inside.table c.private.ensures.sound.distinct (sym c.in-Some-private.ensures.found) in
    let apart : nat_eq c.in-Some-private.frame c.in-Some.target ≡ false = frames_apart c.self.inside.table c.in-Some-private.frame c.in-Some.target c.in-Some-private.private c.in-Some.slot found.0 target.0 in
    let here : use_at c.set_slot.new.self c.in-Some-private.frame ≡ Some (Private c.in-Some-private.private) = ap (λ es. use_at es c.in-Some-private.frame) c.set_slot.ensures.set ∙ use_set_other c.in-Some-private.frame c.in-Some.target (Slot c.published.result) c.self.inside.table apart ∙ found.0 in
    let bytes : List ℕ = image_at c.self.inside.images.images c.in-Some-private.frame in
    let now : List (List ℕ) = set c.self.inside.images.images c.in-Some.target bytes in
    let bytes_is : private_bytes (pool_of c.self.inside.images c.self.inside.table) c.args.tx c.args.page ≡ Some bytes = private_seen_bytes c.self.inside.images c.self.inside.table (pool_of c.self.inside.images c.self.inside.table) c.args.tx c.args.page c.in-Some-private.frame c.in-Some-private.private refl c.private.ensures.sound c.in-Some-private.ensures.found ∙ ap (λ b. if_filled b bytes) c.if-private.true in
    let row : slot_row now c.in-Some.target c.published.result ≡ (let y : SlotRow = slot_row c.self.inside.images.images c.in-Some.target c.in-Some.slot in record y { copy = published c.args.dirty (Some bytes) y.copy }) =
    ap (slot_row now c.in-Some.target) c.published.ensures ∙ published_row c.self.inside.images.images now c.in-Some.target c.in-Some.slot c.args.dirty bytes (image_same c.self.inside.images.images c.in-Some.target bytes (below_images c.self.inside.images c.self.inside.table c.in-Some.target _ c.self.invariant (slot_use c.args.page c.in-Some.target c.in-Some.slot c.self.inside.table c.slot.ensures.sound.distinct (sym c.in-Some.ensures.found)).0)) in
    ap (λ v. pool_of v c.release.new.self) c.copy.ensures.copied
    ∙ ap (pool_of (record c.self.inside.images { images = now })) c.release.ensures.released
    ∙ private_released (record c.self.inside.images { images = now }) c.set_slot.new.self c.in-Some-private.frame c.args.tx c.args.page c.in-Some-private.private c.set_slot.ensures.sound here found.1
    ∙ ap (λ b. discard b c.args.tx c.args.page) (ap (pool_of (record c.self.inside.images { images = now })) c.set_slot.ensures.set
    ∙ slot_changed c.self.inside.images now c.self.inside.table c.in-Some.target c.args.page c.in-Some.slot c.published.result (λ s. record s { copy = published c.args.dirty (Some bytes) s.copy }) c.slot.ensures.sound (λ j n. image_other c.self.inside.images.images c.in-Some.target j bytes n) (sym c.in-Some.ensures.found) row)
    ∙ ap (λ o. let b : Pool = pool_of c.self.inside.images c.self.inside.table in discard (record b { slots = change_slot (λ s. record s { copy = published c.args.dirty o s.copy }) b.slots c.args.page }) c.args.tx c.args.page) (sym bytes_is) ∙ ap (λ b. publish b c.args.tx c.args.page c.args.dirty) c.self.view_is

pub returns-then-private-clause-sound : goal.returns-then-private-clause-sound
returns-then-private-clause-sound c = buffer_from_sound c.copy.new.self c.release.new.self (invariant_of-self c)

pub release-requires-in-Some-private : goal.release-requires-in-Some-private
release-requires-in-Some-private c = ap is_used (private_use c.args.tx c.args.page c.in-Some-private.frame c.in-Some-private.private c.self.inside.table c.private.ensures.sound.distinct (sym c.in-Some-private.ensures.found)).0

pub invariant_of-self-in-Some-private : goal.invariant_of-self-in-Some-private
invariant_of-self-in-Some-private c = sound_table c.self.inside.images c.self.inside.table c.release-in-Some-private.new.self c.self.invariant c.release-in-Some-private.ensures.sound (ap length c.release-in-Some-private.ensures.released ∙ length-set_value (nat_eq c.in-Some-private.frame) c.self.inside.table Free)

pub returns-clause-published : goal.returns-clause-published
unfolding publish
returns-clause-published c =
    let found = private_use c.args.tx c.args.page c.in-Some-private.frame c.in-Some-private.private c.self.inside.table c.private.ensures.sound.distinct (sym c.in-Some-private.ensures.found) in
    let bytes_is : private_bytes (pool_of c.self.inside.images c.self.inside.table) c.args.tx c.args.page ≡ None = private_seen_bytes c.self.inside.images c.self.inside.table (pool_of c.self.inside.images c.self.inside.table) c.args.tx c.args.page c.in-Some-private.frame c.in-Some-private.private refl c.private.ensures.sound c.in-Some-private.ensures.found ∙ ap (λ b. if_filled b (image_at c.self.inside.images.images c.in-Some-private.frame)) c.if-private.false in
    ap (pool_of c.self.inside.images) c.release-in-Some-private.ensures.released
    ∙ private_released c.self.inside.images c.self.inside.table c.in-Some-private.frame c.args.tx c.args.page c.in-Some-private.private c.private.ensures.sound found.0 found.1
    ∙ ap (λ l. let b : Pool = pool_of c.self.inside.images c.self.inside.table in discard (record b { slots = l }) c.args.tx c.args.page) (sym (change_same (λ s. record s { copy = published c.args.dirty None s.copy }) (λ s. refl) (pool_of c.self.inside.images c.self.inside.table).slots c.args.page))
    ∙ ap (λ o. let b : Pool = pool_of c.self.inside.images c.self.inside.table in discard (record b { slots = change_slot (λ s. record s { copy = published c.args.dirty o s.copy }) b.slots c.args.page }) c.args.tx c.args.page) (sym bytes_is) ∙ ap (λ b. publish b c.args.tx c.args.page c.args.dirty) c.self.view_is

pub returns-clause-sound : goal.returns-clause-sound
returns-clause-sound c = buffer_from_sound c.self.inside.images c.release-in-Some-private.new.self (invariant_of-self-in-Some-private c)
