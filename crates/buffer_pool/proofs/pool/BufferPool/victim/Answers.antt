use Rattle.std.proofs.Common.{sym, ap, ◌∙◌}
use Rattle.std.specs.Prelude.{option_map}
use Rattle.node_rules.specs.BufferRule.{Pool, last_to_go}
use Rattle.buffer_pool.proofs.Totals.{last_goes}
use Rattle.buffer_pool.proofs.pool.BufferPool.victim.Goals as goal

pub returns : goal.returns
returns c = c.victim.ensures ∙ sym (last_goes c.args.keep c.self.inside.images.images c.self.inside.table) ∙ ap (λ (b : Pool). option_map (λ s. s.page) (last_to_go b.slots c.args.keep)) c.self.view_is
