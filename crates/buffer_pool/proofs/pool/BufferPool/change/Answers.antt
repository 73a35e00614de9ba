use Rattle.std.proofs.Common.{ℕ, List, set, nat_eq, sym, ap, ◌∙◌}
use Rattle.std.proofs.lemmas.Map.Steps.{set_value_same}
use Rattle.text_rules.specs.ChangedRanges.{put}
use Rattle.node_rules.specs.BufferRule.{over_filled, change}
use Rattle.buffer_pool.specs.declared.uses.Use.TheVariants.{Private}
use Rattle.buffer_pool.specs.Seen.{pool_of, image_at}
use Rattle.buffer_pool.proofs.Privates.{private_use}
use Rattle.buffer_pool.proofs.Totals.{buffer_from_sound}
use Rattle.buffer_pool.proofs.Pools.{no_private, below_images, image_other, image_same, private_changed}
use Rattle.buffer_pool.proofs.Calls.{over_row, sound_written}
use Rattle.buffer_pool.proofs.pool.BufferPool.change.Goals as goal

pub unreachable-requires : goal.unreachable-requires
unreachable-requires c = no_private c.self.inside.images c.self.inside.table c.args.self.now c.args.tx c.args.page c.self.view_is c.private.ensures.sound c.in-None.ensures.found c.requires.private

pub write-requires-clause-frame : goal.write-requires-clause-frame
write-requires-clause-frame c = below_images c.self.inside.images c.self.inside.table c.in-Some.frame _ c.self.invariant (private_use c.args.tx c.args.page c.in-Some.frame c.in-Some._private c.self.inside.table c.private.ensures.sound.distinct (sym c.in-Some.ensures.found)).0

pub returns-clause-changed : goal.returns-clause-changed
unfolding change
returns-clause-changed c =
    let found = private_use c.args.tx c.args.page c.in-Some.frame c.in-Some._private c.self.inside.table c.private.ensures.sound.distinct (sym c.in-Some.ensures.found) in
    let now : List (List ℕ) = set c.self.inside.images.images c.in-Some.frame (put c.args.place c.args.bytes.now (image_at c.self.inside.images.images c.in-Some.frame)) in
    ap (λ v. pool_of v c.self.inside.table) c.write.ensures.written
    ∙ ap (pool_of (record c.self.inside.images { images = now })) (sym (set_value_same (nat_eq c.in-Some.frame) c.self.inside.table (Private c.in-Some._private) found.0))
    ∙ private_changed c.self.inside.images now c.self.inside.table c.in-Some.frame c.args.tx c.args.page c.in-Some._private c.in-Some._private (over_filled c.args.place c.args.bytes.now) c.private.ensures.sound (λ j n. image_other c.self.inside.images.images c.in-Some.frame j (put c.args.place c.args.bytes.now (image_at c.self.inside.images.images c.in-Some.frame)) n) (sym c.in-Some.ensures.found)
    (over_row c.self.inside.images.images now c.in-Some.frame c.in-Some._private c.args.place c.args.bytes.now (image_same c.self.inside.images.images c.in-Some.frame (put c.args.place c.args.bytes.now (image_at c.self.inside.images.images c.in-Some.frame)) (below_images c.self.inside.images c.self.inside.table c.in-Some.frame _ c.self.invariant (private_use c.args.tx c.args.page c.in-Some.frame c.in-Some._private c.self.inside.table c.private.ensures.sound.distinct (sym c.in-Some.ensures.found)).0)))
    ∙ ap (λ b. change b c.args.tx c.args.page c.args.place c.args.bytes.now) c.self.view_is

pub returns-clause-sound : goal.returns-clause-sound
returns-clause-sound c = buffer_from_sound c.write.new.self c.self.inside.table (sound_written c.self.inside.images c.write.new.self c.self.inside.table c.in-Some.frame _ c.self.invariant c.write.ensures.written c.write.ensures.sized)
