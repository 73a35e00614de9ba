use Rattle.std.proofs.Common.{◌≡◌, ◌<◌, ◌+◌, ◌++◌, ◌∷◌, [], length, ap, sym, subst, ◌∙◌, length-append, arith}
use Rattle.std.specs.List.{AllByRecursion}
use Rattle.frame_pool.specs.Frames.{PoolView, times}
use Rattle.buffer_pool.proofs.Changes.{all_front, all_last}
use Rattle.buffer_pool.proofs.Written.{no_times, times-snoc, times_self}
use Rattle.buffer_pool.proofs.images.Images.close.Goals as goal

pub loop-frame-init : goal.loop-frame-init
loop-frame-init c = record {
  once = λ n. omega (arith, no_times n c.self.inside.pool.free c.self.invariant.none_free, c.self.invariant.once n);
  below = c.self.invariant.below;
  many = omega (arith, c.self.invariant.many, c.self.invariant.none_free);
}

pub give-requires : goal.give-requires
give-requires c =
    let below : AllByRecursion (λ n. n < length c.loop-frame.pool.frames) (c.pop.new.self.items ++ c.in-Some.frame ∷ []) = subst (AllByRecursion (λ n. n < length c.loop-frame.pool.frames)) c.in-Some.ensures.items c.loop-frame.invariant.below in
    let held : times c.in-Some.frame c.loop-frame.frames.items ≡ times c.in-Some.frame c.pop.new.self.items + 1 = ap (times c.in-Some.frame) c.in-Some.ensures.items ∙ times_self c.in-Some.frame c.pop.new.self.items in
    (all_last (λ n. n < length c.loop-frame.pool.frames) c.pop.new.self.items c.in-Some.frame below, omega (arith, c.loop-frame.invariant.once c.in-Some.frame))

pub loop-frame-preserved : goal.loop-frame-preserved
loop-frame-preserved c =
    let frames : length c.give.new.self.frames ≡ length c.loop-frame.pool.frames = ap (λ (p : PoolView). length p.frames) c.give.ensures.given in
    let below : AllByRecursion (λ n. n < length c.loop-frame.pool.frames) (c.pop.new.self.items ++ c.in-Some.frame ∷ []) = subst (AllByRecursion (λ n. n < length c.loop-frame.pool.frames)) c.in-Some.ensures.items c.loop-frame.invariant.below in
    let items : length c.loop-frame.frames.items ≡ length c.pop.new.self.items + 1 = ap length c.in-Some.ensures.items ∙ length-append c.pop.new.self.items (c.in-Some.frame ∷ []) in
    let free : length c.give.new.self.free ≡ length c.loop-frame.pool.free + 1 = ap (λ (p : PoolView). length p.free) c.give.ensures.given ∙ length-append c.loop-frame.pool.free (c.in-Some.frame ∷ []) in
    record {
      once = λ n.
          let before : times n c.loop-frame.frames.items ≡ times n c.pop.new.self.items + times n (c.in-Some.frame ∷ []) = ap (times n) c.in-Some.ensures.items ∙ times-snoc n c.pop.new.self.items c.in-Some.frame in
          let after : times n c.give.new.self.free ≡ times n c.loop-frame.pool.free + times n (c.in-Some.frame ∷ []) = ap (λ (p : PoolView). times n p.free) c.give.ensures.given ∙ times-snoc n c.loop-frame.pool.free c.in-Some.frame in
          omega (arith, c.loop-frame.invariant.once n);
      below = subst (λ m. AllByRecursion (λ n. n < m) c.pop.new.self.items) (sym frames) (all_front (λ n. n < length c.loop-frame.pool.frames) c.pop.new.self.items c.in-Some.frame below);
      many = omega (arith, c.loop-frame.invariant.many);
    }
