use Rattle.std.proofs.Common.{◌≡◌, ℕ, List, length, set, nat_eq, Some, true, is_some, refl, sym, ap, subst, ◌∙◌}
use Rattle.std.proofs.lemmas.Map.{length-set_value}
use Rattle.node_rules.specs.BufferRule.{Pool, PrivateCopy, copy_at, bytes_of_copy, fill}
use Rattle.buffer_pool.specs.Entries.{private_owner}
use Rattle.buffer_pool.specs.Seen.{pool_of, image_at}
use Rattle.buffer_pool.proofs.Rows.{slot_use}
use Rattle.buffer_pool.proofs.Privates.{private_use}
use Rattle.buffer_pool.proofs.Totals.{buffer_from_sound}
use Rattle.buffer_pool.proofs.Pools.{no_private, sound_table, below_images, image_other, image_same, private_changed}
use Rattle.buffer_pool.proofs.Calls.{no_copy, slot_bytes, sound_written}
use Rattle.buffer_pool.proofs.pool.BufferPool.fill.Goals as goal

pub unreachable-requires : goal.unreachable-requires
unreachable-requires c = no_copy c.self.inside.images c.self.inside.table c.args.self.now c.args.page c.self.view_is c.in-None.ensures.found c.requires.copy

pub unreachable-requires-in-None-private : goal.unreachable-requires-in-None-private
unreachable-requires-in-None-private c = no_private c.self.inside.images c.self.inside.table c.args.self.now c.args.tx c.args.page c.self.view_is c.private.ensures.sound c.in-None-private.ensures.found c.requires.private

pub copy-requires-clause-from : goal.copy-requires-clause-from
copy-requires-clause-from c = below_images c.self.inside.images c.self.inside.table c.in-Some.source _ c.self.invariant (slot_use c.args.page c.in-Some.source c.in-Some._slot c.self.inside.table c.slot.ensures.sound.distinct (sym c.in-Some.ensures.found)).0

pub copy-requires-clause-to : goal.copy-requires-clause-to
copy-requires-clause-to c = below_images c.self.inside.images c.self.inside.table c.in-Some-private.frame _ c.self.invariant (private_use c.args.tx c.args.page c.in-Some-private.frame c.in-Some-private.private c.self.inside.table c.private.ensures.sound.distinct (sym c.in-Some-private.ensures.found)).0

pub set_private-requires : goal.set_private-requires
set_private-requires c = ap private_owner (private_use c.args.tx c.args.page c.in-Some-private.frame c.in-Some-private.private c.self.inside.table c.private.ensures.sound.distinct (sym c.in-Some-private.ensures.found)).0

pub invariant_of-self : goal.invariant_of-self
invariant_of-self c = sound_table c.copy.new.self c.self.inside.table c.set_private.new.self (sound_written c.self.inside.images c.copy.new.self c.self.inside.table c.in-Some-private.frame _ c.self.invariant c.copy.ensures.copied c.copy.ensures.sized) c.set_private.ensures.sound (ap length c.set_private.ensures.set ∙ length-set_value (nat_eq c.in-Some-private.frame) c.self.inside.table _)

pub returns-clause-filled : goal.returns-clause-filled
unfolding fill
returns-clause-filled c =
    let there : is_some (copy_at (pool_of c.self.inside.images c.self.inside.table) c.args.page) ≡ true = subst (λ (b : Pool). is_some (copy_at b c.args.page) ≡ true) (sym c.self.view_is) c.requires.copy in
    let bytes : List ℕ = image_at c.self.inside.images.images c.in-Some.source in
    let now : List (List ℕ) = set c.self.inside.images.images c.in-Some-private.frame bytes in
    let same : bytes ≡ bytes_of_copy (copy_at (pool_of c.self.inside.images c.self.inside.table) c.args.page) = slot_bytes c.self.inside.images c.self.inside.table (pool_of c.self.inside.images c.self.inside.table) c.args.page c.in-Some.source c.in-Some._slot refl c.in-Some.ensures.found there in
    let here : image_at now c.in-Some-private.frame ≡ bytes_of_copy (copy_at (pool_of c.self.inside.images c.self.inside.table) c.args.page) = image_same c.self.inside.images.images c.in-Some-private.frame bytes (below_images c.self.inside.images c.self.inside.table c.in-Some-private.frame _ c.self.invariant (private_use c.args.tx c.args.page c.in-Some-private.frame c.in-Some-private.private c.self.inside.table c.private.ensures.sound.distinct (sym c.in-Some-private.ensures.found)).0) ∙ same in
    ap (λ v. pool_of v c.set_private.new.self) c.copy.ensures.copied
    ∙ ap (pool_of (record c.self.inside.images { images = now })) c.set_private.ensures.set
    ∙ private_changed c.self.inside.images now c.self.inside.table c.in-Some-private.frame c.args.tx c.args.page c.in-Some-private.private (record c.in-Some-private.private { filled = true }) (λ old. Some (bytes_of_copy (copy_at (pool_of c.self.inside.images c.self.inside.table) c.args.page))) c.private.ensures.sound (λ j n. image_other c.self.inside.images.images c.in-Some-private.frame j bytes n) (sym c.in-Some-private.ensures.found)
    (ap (λ i. let y : PrivateCopy = record { tx = c.in-Some-private.private.tx; page = c.in-Some-private.private.page; bytes = Some i } in y) here)
    ∙ ap (λ b. fill b c.args.tx c.args.page) c.self.view_is

pub returns-clause-sound : goal.returns-clause-sound
returns-clause-sound c = buffer_from_sound c.copy.new.self c.set_private.new.self (invariant_of-self c)
