use Rattle.std.proofs.Common.{ap, ◌∙◌}
use Rattle.lru.specs.LruCache.{lru_cache}
use Rattle.buffer_pool.proofs.Freed.{put_found}
use Rattle.buffer_pool.proofs.order.bring.Goals as goal

pub returns : goal.returns
returns c = c.in-Ok.ensures.entries ∙ ap (λ es. lru_cache es c.args.order.now.cap) (put_found c.args.order.now.entries c.args.order.now.cap c.args.frame c.args.used c.requires)
