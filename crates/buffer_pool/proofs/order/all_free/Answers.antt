use Rattle.std.proofs.Common.{◌≡◌, [], nat_eq, ap, ◌∙◌}
use Rattle.std.specs.NonZero.{non_zero_usize_get}
use Rattle.lru.specs.LruCache.{lru_cache, put_entries}
use Rattle.buffer_pool.specs.declared.uses.Use.TheVariants.{Free}
use Rattle.buffer_pool.specs.Entries.{fresh}
use Rattle.buffer_pool.proofs.Freed.{put_fresh}
use Rattle.buffer_pool.proofs.order.all_free.Goals as goal

pub loop-frame-init : goal.loop-frame-init
unfolding fresh
loop-frame-init c =
    let count : non_zero_usize_get c.unwrap-count.result ≡ c.args.frames = rw c.unwrap-count.ensures at c.new.ensures in
    c.in_ok-order.ensures ∙ ap (λ n. lru_cache [] n) count

pub loop-frame-preserved : goal.loop-frame-preserved
loop-frame-preserved c =
    c.in-Ok.ensures.entries
    ∙ ap (λ v. lru_cache (put_entries nat_eq v c.loop-frame.frame Free) v.cap) c.loop-frame.invariant
    ∙ ap (λ es. lru_cache es c.args.frames) (put_fresh c.loop-frame.frame c.args.frames c.loop-frame-test.true)
