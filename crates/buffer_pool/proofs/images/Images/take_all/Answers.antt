use Rattle.std.proofs.Common.{refl, ◌≡◌, ◌<◌, ◌+◌, ◌∷◌, [], length, ap, sym, subst, ◌∙◌, length-append, arith}
use Rattle.std.specs.List.{AllByRecursion}
use Rattle.frame_pool.specs.Frames.{PoolView, times}
use Rattle.buffer_pool.specs.Images.{HasAll}
use Rattle.buffer_pool.proofs.Changes.{all_push}
use Rattle.buffer_pool.proofs.Written.{images_sized, no_times, nothing_below, length_images, times-snoc, taken_length}
use Rattle.buffer_pool.proofs.images.Images.take_all.Goals as goal

pub loop-frame-init : goal.loop-frame-init
loop-frame-init c =
    let none : length c.args.frames.items ≡ 0 = omega (arith, c.requires.none, c.args.frames.ok.0) in
    record {
      sound = c.requires.sound;
      once = λ n. omega (arith, no_times n c.args.frames.items none, c.requires.sound.once n);
      below = nothing_below (λ n. n < length c.args.pool.frames) c.args.frames.items none;
      many = omega (arith, none, c.requires.all);
      kept = refl;
      size = refl;
      room = c.requires.room;
    }

pub loop-frame-preserved : goal.loop-frame-preserved
loop-frame-preserved c =
    let frames : length c.loop-frame.pool.frames ≡ length c.take.new.self.frames = ap (λ (p : PoolView). length p.frames) c.in-Some.ensures.taken in
    let free : length c.loop-frame.pool.free ≡ length c.take.new.self.free + 1 = taken_length c.loop-frame.pool c.take.new.self c.in-Some.frame c.in-Some.ensures.taken in
    let items : length c.push_reserved.new.self.items ≡ length c.loop-frame.frames.items + 1 = ap length c.push_reserved.ensures.items ∙ length-append c.loop-frame.frames.items (c.in-Some.frame ∷ []) in
    record {
      sound = c.in-Some.ensures.sound;
      once = λ n.
          let before : times n c.loop-frame.pool.free ≡ times n c.take.new.self.free + times n (c.in-Some.frame ∷ []) = ap (λ (p : PoolView). times n p.free) c.in-Some.ensures.taken ∙ times-snoc n c.take.new.self.free c.in-Some.frame in
          let after : times n c.push_reserved.new.self.items ≡ times n c.loop-frame.frames.items + times n (c.in-Some.frame ∷ []) = ap (times n) c.push_reserved.ensures.items ∙ times-snoc n c.loop-frame.frames.items c.in-Some.frame in
          omega (arith, c.loop-frame.invariant.once n);
      below = subst (AllByRecursion (λ n. n < length c.take.new.self.frames)) (sym c.push_reserved.ensures.items)
          (all_push (λ n. n < length c.take.new.self.frames) c.loop-frame.frames.items c.in-Some.frame (subst (λ m. AllByRecursion (λ n. n < m) c.loop-frame.frames.items) frames c.loop-frame.invariant.below) c.in-Some.ensures.held.0);
      many = omega (arith, c.loop-frame.invariant.many);
      kept = sym frames ∙ c.loop-frame.invariant.kept;
      size = sym (ap (λ (p : PoolView). p.size) c.in-Some.ensures.taken) ∙ c.loop-frame.invariant.size;
      room = omega (arith, c.loop-frame.invariant.room, c.push_reserved.ensures.capacity);
    }

pub push_reserved-requires : goal.push_reserved-requires
push_reserved-requires c =
    let free : length c.loop-frame.pool.free ≡ length c.take.new.self.free + 1 = taken_length c.loop-frame.pool c.take.new.self c.in-Some.frame c.in-Some.ensures.taken in
    omega (arith, c.loop-frame.invariant.many, c.loop-frame.invariant.room, c.loop-frame.frames.ok.0)

pub loop-frame-smaller : goal.loop-frame-smaller
loop-frame-smaller c = omega (arith, taken_length c.loop-frame.pool c.take.new.self c.in-Some.frame c.in-Some.ensures.taken)

pub invariant_of-result : goal.invariant_of-result
invariant_of-result c =
    let same : c.take.new.self ≡ c.loop-frame.pool = c.in_default.ensures.taken.1 in
    subst (λ p. HasAll p c.loop-frame.frames.items) (sym same)
    (record {
      sound = c.loop-frame.invariant.sound;
      none_free = ap length c.in_default.ensures.taken.0;
      once = λ n. omega (arith, c.loop-frame.invariant.once n);
      below = c.loop-frame.invariant.below;
      many = omega (arith, c.loop-frame.invariant.many, ap length c.in_default.ensures.taken.0);
    })

pub returns-clause-many : goal.returns-clause-many
returns-clause-many c =
    length_images c.take.new.self c.loop-frame.frames.items
    ∙ omega (arith, c.loop-frame.invariant.many, c.loop-frame.invariant.kept, ap length c.in_default.ensures.taken.0)

pub returns-clause-size : goal.returns-clause-size
returns-clause-size c = ap (λ (p : PoolView). p.size) c.in_default.ensures.taken.1 ∙ c.loop-frame.invariant.size

pub returns-clause-sized : goal.returns-clause-sized
returns-clause-sized c = (let all : HasAll c.take.new.self c.loop-frame.frames.items = invariant_of-result c in images_sized c.take.new.self c.loop-frame.frames.items all.sound all.below)
