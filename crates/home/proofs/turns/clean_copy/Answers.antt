use Rattle.std.proofs.Common.{sym, ◌∙◌}
use Rattle.home.proofs.Cleaned.{clean_none}
use Rattle.home.proofs.turns.clean_copy.Goals as goal

pub returns : goal.returns
returns c = sym (clean_none c.args.pool.now c.args.page (sym c.has_slot.ensures.answer ∙ c.if-has_slot.false))
