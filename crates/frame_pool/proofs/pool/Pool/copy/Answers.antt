use Rattle.std.proofs.Common.{◌≡◌, ◌+◌, ◌-◌, ◌*◌, ◌<◌, ◌≤◌, ◌++◌, ℕ, length, take, drop, append_assoc, ap, ◌∙◌, arith}
use Rattle.frame_pool.specs.Frames.{frame_of, with_frame}
use Rattle.frame_pool.proofs.Views.{seen, within_region, pool_from_sound, seen_copied, sound_bytes, below_now}
use Rattle.frame_pool.proofs.pool.Pool.copy.Goals as goal

pub copy_within-requires-clause-in_bounds : goal.copy_within-requires-clause-in_bounds
copy_within-requires-clause-in_bounds c =
    let below_from : c.number.result < c.self.inside.count = below_now c.self.inside.count c.self.inside.size c.self.inside.bytes.items c.self.inside.free.items c.args.self.now c.args.from.now c.number.result c.self.view_is c.number.ensures c.requires.from in
    let inside_from : c.number.result * c.self.inside.size + c.self.inside.size ≤ length c.self.inside.bytes.items = within_region c.number.result c.self.invariant below_from in
    omega (arith, c.self.inside.bytes.ok.0)

pub copy_within-requires-clause-dest_in_bounds : goal.copy_within-requires-clause-dest_in_bounds
copy_within-requires-clause-dest_in_bounds c =
    let below_to : c.number-2.result < c.self.inside.count = below_now c.self.inside.count c.self.inside.size c.self.inside.bytes.items c.self.inside.free.items c.args.self.now c.args.to.now c.number-2.result c.self.view_is c.number-2.ensures c.requires.to in
    let inside_to : c.number-2.result * c.self.inside.size + c.self.inside.size ≤ length c.self.inside.bytes.items = within_region c.number-2.result c.self.invariant below_to in
    omega (arith, c.self.inside.bytes.ok.0)

pub returns-clause-copied : goal.returns-clause-copied
returns-clause-copied c =
    let below_from : c.number.result < c.self.inside.count = below_now c.self.inside.count c.self.inside.size c.self.inside.bytes.items c.self.inside.free.items c.args.self.now c.args.from.now c.number.result c.self.view_is c.number.ensures c.requires.from in
    let inside_from : c.number.result * c.self.inside.size + c.self.inside.size ≤ length c.self.inside.bytes.items = within_region c.number.result c.self.invariant below_from in
    let below_to : c.number-2.result < c.self.inside.count = below_now c.self.inside.count c.self.inside.size c.self.inside.bytes.items c.self.inside.free.items c.args.self.now c.args.to.now c.number-2.result c.self.view_is c.number-2.ensures c.requires.to in
    let inside_to : c.number-2.result * c.self.inside.size + c.self.inside.size ≤ length c.self.inside.bytes.items = within_region c.number-2.result c.self.invariant below_to in
    let a : ℕ = c.number.result * c.self.inside.size in
    let b : ℕ = c.number-2.result * c.self.inside.size in
    let part : a + c.self.inside.size - a ≡ c.self.inside.size = omega arith in
    let items : c.copy_within.new.self.items ≡ take b c.self.inside.bytes.items ++ (take c.self.inside.size (drop a c.self.inside.bytes.items) ++ drop (b + c.self.inside.size) c.self.inside.bytes.items) =
    c.copy_within.ensures.items ∙ rw part (append_assoc (take b c.self.inside.bytes.items) (take c.self.inside.size (drop a c.self.inside.bytes.items)) (drop (b + c.self.inside.size) c.self.inside.bytes.items)) in
    ap (λ bs. seen c.self.inside.count c.self.inside.size bs c.self.inside.free.items) items
    ∙ seen_copied c.number.result c.number-2.result c.self.invariant below_from below_to
    ∙ ap (λ p. with_frame p c.number-2.result (frame_of p c.number.result)) c.self.view_is
    ∙ ap (λ n. with_frame c.args.self.now n (frame_of c.args.self.now c.number.result)) c.number-2.ensures
    ∙ ap (λ m. with_frame c.args.self.now c.args.to.now (frame_of c.args.self.now m)) c.number.ensures

pub returns-clause-sound : goal.returns-clause-sound
returns-clause-sound c =
    let same : length c.copy_within.new.self.items ≡ length c.self.inside.bytes.items = omega (arith, c.copy_within.ensures.len, c.self.inside.bytes.ok.0, c.copy_within.new.self.ok.0) in
    pool_from_sound (sound_bytes c.copy_within.new.self.items same c.self.invariant)
