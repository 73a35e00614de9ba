use Rattle.std.proofs.Common.{◌≡◌, length, ap, sym, subst, ◌∙◌, slice_set, arith}
use Rattle.text_rules.specs.ChangedRanges.{put}
use Rattle.frame_pool.specs.Frames.{IsPool, IsTaken}
use Rattle.buffer_pool.specs.Images.{ImagesView, HasAll, images_of}
use Rattle.buffer_pool.specs.Seen.{image_at}
use Rattle.buffer_pool.proofs.Written.{frame_taken, length_images, all_written, images_sized, write_seen}
use Rattle.buffer_pool.proofs.images.Images.write.Goals as goal

pub write-requires-clause-taken : goal.write-requires-clause-taken
write-requires-clause-taken c =
    let many : length c.args.self.now.images ≡ length c.self.inside.frames.items = ap (λ v. length v.images) (sym c.self.view_is) ∙ length_images c.self.inside.pool c.self.inside.frames.items in
    subst (λ n. IsTaken c.self.inside.pool n) (sym c.index.ensures) (frame_taken c.self.inside.pool c.self.inside.frames.items c.args.frame c.index.result.now c.self.invariant (omega (arith, c.requires.frame)))

pub invariant_of-self : goal.invariant_of-self
invariant_of-self c =
    subst (λ p. HasAll p c.self.inside.frames.items) (sym c.write.ensures.written)
    (all_written c.self.inside.pool c.self.inside.frames.items c.index.result.now _ c.self.invariant (subst IsPool c.write.ensures.written c.write.ensures.sound))

pub returns-clause-written : goal.returns-clause-written
returns-clause-written c =
    let many : length c.args.self.now.images ≡ length c.self.inside.frames.items = ap (λ v. length v.images) (sym c.self.view_is) ∙ length_images c.self.inside.pool c.self.inside.frames.items in
    ap (λ p. images_of p c.self.inside.frames.items) c.write.ensures.written
    ∙ write_seen c.self.inside.pool c.self.inside.frames.items c.args.frame c.index.result.now (λ old. put c.args.place c.args.bytes.now old) (omega (arith, c.requires.frame)) c.self.invariant c.index.ensures
    ∙ ap (λ (v : ImagesView). record v { images = slice_set v.images c.args.frame (put c.args.place c.args.bytes.now (image_at v.images c.args.frame)) }) c.self.view_is

pub returns-clause-sized : goal.returns-clause-sized
returns-clause-sized c = (let all : HasAll c.write.new.self c.self.inside.frames.items = invariant_of-self c in images_sized c.write.new.self c.self.inside.frames.items c.write.ensures.sound all.below)
