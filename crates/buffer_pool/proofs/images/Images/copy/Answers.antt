use Rattle.std.proofs.Common.{◌≡◌, length, ap, sym, subst, ◌∙◌, slice_set, arith}
use Rattle.frame_pool.specs.Frames.{IsPool, IsTaken, frame_of, with_frame}
use Rattle.buffer_pool.specs.Images.{ImagesView, HasAll, images_of}
use Rattle.buffer_pool.specs.Seen.{image_at}
use Rattle.buffer_pool.proofs.Written.{frame_taken, image_of_frame, length_images, all_written, images_sized, write_seen}
use Rattle.buffer_pool.proofs.images.Images.copy.Goals as goal

pub copy-requires-clause-from : goal.copy-requires-clause-from
copy-requires-clause-from c =
    let many : length c.args.self.now.images ≡ length c.self.inside.frames.items = ap (λ v. length v.images) (sym c.self.view_is) ∙ length_images c.self.inside.pool c.self.inside.frames.items in
    subst (λ n. IsTaken c.self.inside.pool n) (sym c.index.ensures) (frame_taken c.self.inside.pool c.self.inside.frames.items c.args.from c.index.result.now c.self.invariant (omega (arith, c.requires.from)))

pub copy-requires-clause-to : goal.copy-requires-clause-to
copy-requires-clause-to c =
    let many : length c.args.self.now.images ≡ length c.self.inside.frames.items = ap (λ v. length v.images) (sym c.self.view_is) ∙ length_images c.self.inside.pool c.self.inside.frames.items in
    subst (λ n. IsTaken c.self.inside.pool n) (sym c.index-2.ensures) (frame_taken c.self.inside.pool c.self.inside.frames.items c.args.to c.index-2.result.now c.self.invariant (omega (arith, c.requires.to)))

pub invariant_of-self : goal.invariant_of-self
invariant_of-self c =
    subst (λ p. HasAll p c.self.inside.frames.items) (sym c.copy.ensures.copied)
    (all_written c.self.inside.pool c.self.inside.frames.items c.index-2.result.now _ c.self.invariant (subst IsPool c.copy.ensures.copied c.copy.ensures.sound))

pub returns-clause-copied : goal.returns-clause-copied
returns-clause-copied c =
    let many : length c.args.self.now.images ≡ length c.self.inside.frames.items = ap (λ v. length v.images) (sym c.self.view_is) ∙ length_images c.self.inside.pool c.self.inside.frames.items in
    let source : frame_of c.self.inside.pool c.index.result.now ≡ image_at (images_of c.self.inside.pool c.self.inside.frames.items).images c.args.from =
    ap (frame_of c.self.inside.pool) c.index.ensures ∙ sym (image_of_frame c.self.inside.pool c.self.inside.frames.items c.args.from c.index.result.now (omega (arith, c.requires.from))) in
    ap (λ p. images_of p c.self.inside.frames.items) (c.copy.ensures.copied ∙ ap (with_frame c.self.inside.pool c.index-2.result.now) source)
    ∙ write_seen c.self.inside.pool c.self.inside.frames.items c.args.to c.index-2.result.now (λ old. image_at (images_of c.self.inside.pool c.self.inside.frames.items).images c.args.from) (omega (arith, c.requires.to)) c.self.invariant c.index-2.ensures
    ∙ ap (λ (v : ImagesView). record v { images = slice_set v.images c.args.to (image_at v.images c.args.from) }) c.self.view_is

pub returns-clause-sized : goal.returns-clause-sized
returns-clause-sized c = (let all : HasAll c.copy.new.self c.self.inside.frames.items = invariant_of-self c in images_sized c.copy.new.self c.self.inside.frames.items c.copy.ensures.sound all.below)
