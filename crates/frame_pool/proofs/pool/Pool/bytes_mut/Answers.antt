use Rattle.std.proofs.Common.{◌≡◌, ◌+◌, ◌-◌, ◌*◌, ◌<◌, ◌≤◌, length, length-drop, take, drop, refl, ap, sym, ◌∙◌, arith}
use Rattle.frame_pool.specs.Frames.{PoolView, frame_of}
use Rattle.frame_pool.specs.Region.{lent}
use Rattle.std.proofs.lemmas.List.{length-take-le}
use Rattle.frame_pool.proofs.Views.{seen, within_region, frame_of-seen, seen_lent, below_now, pool_now, seen_vec}
use Rattle.frame_pool.proofs.pool.Pool.bytes_mut.Goals as goal

pub slice_mut-requires-clause-in_bounds : goal.slice_mut-requires-clause-in_bounds
slice_mut-requires-clause-in_bounds c =
    let below : c.number.result < c.self.inside.count = below_now c.self.inside.count c.self.inside.size c.self.inside.bytes.items c.self.inside.free.items c.args.self.now c.args.f.now c.number.result c.self.view_is c.number.ensures c.requires in
    let inside : c.number.result * c.self.inside.size + c.self.inside.size ≤ length c.self.inside.bytes.items = within_region c.number.result c.self.invariant below in
    omega (arith, c.self.inside.bytes.ok.0)

pub returns : goal.returns
returns c =
    let below : c.number.result < c.self.inside.count = below_now c.self.inside.count c.self.inside.size c.self.inside.bytes.items c.self.inside.free.items c.args.self.now c.args.f.now c.number.result c.self.view_is c.number.ensures c.requires in
    let inside : c.number.result * c.self.inside.size + c.self.inside.size ≤ length c.self.inside.bytes.items = within_region c.number.result c.self.invariant below in
    let part : c.number.result * c.self.inside.size + c.self.inside.size - c.number.result * c.self.inside.size ≡ c.self.inside.size = omega arith in
    let frame : c.slice_mut.result.now ≡ frame_of c.args.self.now c.args.f.now =
    rw (c.slice_mut.ensures.value, part)
    (sym (frame_of-seen c.self.inside.count c.self.inside.size c.self.inside.bytes.items c.self.inside.free.items c.number.result below)
    ∙ ap (λ n. frame_of (seen c.self.inside.count c.self.inside.size c.self.inside.bytes.items c.self.inside.free.items) n) c.number.ensures
    ∙ ap (λ p. frame_of p c.args.f.now) c.self.view_is) in
    let long : length c.slice_mut.result.now ≡ c.args.self.now.size =
    ap length c.slice_mut.ensures.value ∙ ap (λ k. length (take k (drop (c.number.result * c.self.inside.size) c.self.inside.bytes.items))) part
    ∙ length-take-le c.self.inside.size (drop (c.number.result * c.self.inside.size) c.self.inside.bytes.items) (omega (arith, length-drop (c.number.result * c.self.inside.size) c.self.inside.bytes.items))
    ∙ ap (λ (p : PoolView). p.size) c.self.view_is in (
      (
        refl,
        λ w.
            seen_vec c.self.inside.count c.self.inside.bytes.items c.self.inside.free.items (c.number.result * c.self.inside.size) w c.self.inside.bytes.len c.self.inside.bytes.ok.0
            ∙ seen_lent c.number.result c.self.invariant below w
            ∙ ap (λ p. lent p c.number.result w) c.self.view_is
            ∙ ap (λ n. lent c.args.self.now n w) c.number.ensures,
      ),
      record { writes_back = tt; value = frame; len = long; sound = pool_now c.self.invariant c.self.view_is },
    )
