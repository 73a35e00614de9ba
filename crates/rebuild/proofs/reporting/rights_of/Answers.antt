use Rattle.std.proofs.Common.{◌∙◌, ◌==◌, ap, map, List, ℕ}
use Rattle.std.specs.List.{filter}
use Rattle.node_rules.specs.NodeState.{partition}
use Rattle.rebuild.proofs.Listed.{from_pair, rights_listed}
use Rattle.rebuild.proofs.reporting.rights_of.Goals as goal

pub returns : goal.returns
returns c =
    let s = c.args.scope.now in
    c.of.ensures
    ∙ (c.in_ok-listed.ensures
    ∙ (ap (λ (l : List (ℕ × ℕ)). map from_pair (filter (λ a. partition s.config a.0 == s.partition) l)) (c.as_slice.ensures.value ∙ c.in_ok-rights.ensures)
    ∙ rights_listed s.config s.partition c.args.shelf.now.rights))
