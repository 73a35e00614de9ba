use Rattle.std.proofs.Common.{sym, ◌∙◌}
use Rattle.std.proofs.lemmas.List.{length-replicate}
use Rattle.std.proofs.lemmas.List.FromFn.{length-range_with_len}
use Rattle.buffer_pool.proofs.images.Images.open.Goals as goal

pub take_all-requires-clause-all : goal.take_all-requires-clause-all
take_all-requires-clause-all c = rw c.in-Ok.ensures.opened (length-range_with_len 0 c.args.frames ∙ sym (length-replicate c.args.frames _))
