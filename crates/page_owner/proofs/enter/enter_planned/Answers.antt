use Rattle.std.proofs.Common.{[]}
use Rattle.page_owner.proofs.Planned.{may_enter, all_tidy}
use Rattle.page_owner.proofs.enter.enter_planned.Goals as goal

pub enter_among-requires-clause-made : goal.enter_among-requires-clause-made
enter_among-requires-clause-made g c = may_enter _ _ c.requires.made

pub returns-clause-parts : goal.returns-clause-parts
returns-clause-parts g c = all_tidy _ (c.enter_among.ensures.parts [] c.requires.made.tidy)
