use Rattle.std.proofs.Common.{◌-◌, ◌^◌, ◌==◌, ap, subst, ◌∙◌}
use Rattle.std.specs.List.{list_any, AllByRecursion}
use Rattle.node_rules.specs.BufferRule.{find}
use Rattle.node_rules.specs.AccessRule.{version_or}
use Rattle.node_rules.specs.OpenTxs.{locks_of, pending_of}
use Rattle.home_laws.specs.EndNeeds.{IsBelowLast}
use Rattle.home.specs.Commits.{exclusive_pages}
use Rattle.home.specs.Parts.{PartsView}
use Rattle.home.proofs.Committing.{end_is, below_is, none_is}
use Rattle.home.proofs.parts.Parts.at_version_end.Goals as goal

pub returns-clause-answer : goal.returns-clause-answer
returns-clause-answer c =
    c.any_last.ensures.answer
    ∙ (ap (λ l. list_any (λ p. version_or (find c.args.self.now.home.pool p) == 2 ^ 64 - 1) (exclusive_pages l)) (c.locks.ensures.value ∙ ap (λ (v : PartsView). locks_of v.home.txs c.args.tx) c.self.view_is)
    ∙ end_is c.args.self.now.home c.args.tx c.requires.home (none_is (pending_of c.args.self.now.home.txs c.args.tx) c.requires.none))

pub returns-clause-below : goal.returns-clause-below
returns-clause-below c none =
    below_is c.args.self.now.home c.args.tx c.requires.home (none_is (pending_of c.args.self.now.home.txs c.args.tx) c.requires.none)
    (subst (λ l. AllByRecursion (IsBelowLast c.args.self.now.home.pool) (exclusive_pages l)) (c.locks.ensures.value ∙ ap (λ (v : PartsView). locks_of v.home.txs c.args.tx) c.self.view_is) (c.any_last.ensures.below none))
