use Rattle.std.proofs.Common.{◌≡◌, length, ap, sym, subst, ◌∙◌, arith}
use Rattle.frame_pool.specs.Frames.{IsTaken, frame_of}
use Rattle.buffer_pool.specs.Images.{ImagesView}
use Rattle.buffer_pool.specs.Seen.{image_at}
use Rattle.buffer_pool.proofs.Written.{frame_taken, image_of_frame, length_images}
use Rattle.buffer_pool.proofs.images.Images.bytes.Goals as goal

pub bytes-requires : goal.bytes-requires
bytes-requires c =
    let many : length c.args.self.now.images ≡ length c.self.inside.frames.items = ap (λ v. length v.images) (sym c.self.view_is) ∙ length_images c.self.inside.pool c.self.inside.frames.items in
    subst (λ n. IsTaken c.self.inside.pool n) (sym c.index.ensures) (frame_taken c.self.inside.pool c.self.inside.frames.items c.args.frame c.index.result.now c.self.invariant (omega (arith, c.requires)))

pub returns-clause-value : goal.returns-clause-value
returns-clause-value c =
    let many : length c.args.self.now.images ≡ length c.self.inside.frames.items = ap (λ v. length v.images) (sym c.self.view_is) ∙ length_images c.self.inside.pool c.self.inside.frames.items in
    c.bytes.ensures.value
    ∙ ap (frame_of c.self.inside.pool) c.index.ensures
    ∙ sym (image_of_frame c.self.inside.pool c.self.inside.frames.items c.args.frame c.index.result.now (omega (arith, c.requires)))
    ∙ ap (λ v. image_at v.images c.args.frame) c.self.view_is

pub returns-clause-len : goal.returns-clause-len
returns-clause-len c = c.bytes.ensures.len ∙ ap (λ (v : ImagesView). v.size) c.self.view_is
