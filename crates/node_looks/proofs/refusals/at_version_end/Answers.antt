use Rattle.std.proofs.Common.{◌≡◌, ◌-◌, ◌^◌, ◌==◌, ap, subst, ◌∙◌}
use Rattle.std.specs.List.{list_any}
use Rattle.node_rules.specs.BufferRule.{find}
use Rattle.node_rules.specs.AccessRule.{version_or}
use Rattle.node_rules.specs.NodeState.{HomeState}
use Rattle.node_rules.specs.OpenTxs.{locks_of, pending_of}
use Rattle.home_laws.specs.Homes.{IsHome}
use Rattle.home.specs.Commits.{exclusive_pages}
use Rattle.home.proofs.Committing.{end_is, none_is}
use Rattle.node_parts.specs.State.{PartsView}
use Rattle.node_looks.proofs.refusals.at_version_end.Goals as goal

pub returns : goal.returns
returns c =
    let home : c.parts.inside.home ≡ c.args.parts.now.home = ap (λ (v : PartsView). v.home) c.parts.view_is in
    let locks : c.locks.result.now ≡ locks_of c.args.parts.now.home.txs c.args.tx =
    c.locks.ensures.value ∙ (ap (λ s. locks_of s c.args.tx) c.txs.ensures.value ∙ ap (λ (h : HomeState). locks_of h.txs c.args.tx) home) in
    c.any_last.ensures
    ∙ (ap (λ l. list_any (λ p. version_or (find c.args.parts.now.home.pool p) == 2 ^ 64 - 1) (exclusive_pages l)) locks
    ∙ end_is c.args.parts.now.home c.args.tx (subst IsHome home c.txs.ensures.home) (none_is (pending_of c.args.parts.now.home.txs c.args.tx) c.requires))
