use Rattle.std.proofs.Common.{◌≡◌, ◌+◌, ◌-◌, ◌*◌, ◌<◌, ◌≤◌, length, ap, sym, ◌∙◌, arith}
use Rattle.frame_pool.specs.Frames.{frame_of}
use Rattle.frame_pool.proofs.Views.{seen, within_region, frame_of-seen, below_now}
use Rattle.frame_pool.proofs.pool.Pool.bytes.Goals as goal

pub slice_bounds-result-end : goal.slice_bounds-result-end
slice_bounds-result-end c =
    let below : c.number.result < c.self.inside.count = below_now c.self.inside.count c.self.inside.size c.self.inside.bytes.items c.self.inside.free.items c.args.self.now c.args.f.now c.number.result c.self.view_is c.number.ensures c.requires in
    let inside : c.number.result * c.self.inside.size + c.self.inside.size ≤ length c.self.inside.bytes.items = within_region c.number.result c.self.invariant below in
    omega (arith, c.deref.ensures.value)

pub returns-clause-value : goal.returns-clause-value
returns-clause-value c =
    let below : c.number.result < c.self.inside.count = below_now c.self.inside.count c.self.inside.size c.self.inside.bytes.items c.self.inside.free.items c.args.self.now c.args.f.now c.number.result c.self.view_is c.number.ensures c.requires in
    let inside : c.number.result * c.self.inside.size + c.self.inside.size ≤ length c.self.inside.bytes.items = within_region c.number.result c.self.invariant below in
    let part : c.number.result * c.self.inside.size + c.self.inside.size - c.number.result * c.self.inside.size ≡ c.self.inside.size = omega arith in
    rw (part, c.deref.ensures.value)
    (sym (frame_of-seen c.self.inside.count c.self.inside.size c.self.inside.bytes.items c.self.inside.free.items c.number.result below)
    ∙ ap (λ n. frame_of (seen c.self.inside.count c.self.inside.size c.self.inside.bytes.items c.self.inside.free.items) n) c.number.ensures
    ∙ ap (λ p. frame_of p c.args.f.now) c.self.view_is)
