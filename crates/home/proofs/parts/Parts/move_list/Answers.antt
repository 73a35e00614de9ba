use Rattle.std.proofs.Common.{map, ap, subst}
use Rattle.node_rules.specs.NodeState.{HomeState}
use Rattle.home.specs.Moves.{MoveListView, Lists}
use Rattle.home.specs.Parts.{PartsView}
use Rattle.home.proofs.Spending.{page_pair, all_told}
use Rattle.home.proofs.parts.Parts.move_list.Goals as goal

pub returns : goal.returns
returns c =
    let list : MoveListView = record { names = c.in_ok-names.names.items; pages = map page_pair c.in_ok-rights.rights.items } in
    subst (λ (h : HomeState). Lists list h) (ap (λ (v : PartsView). v.home) c.self.view_is)
    (record { txs = c.in_ok-names.ensures.names; rights = all_told c.self.inside.shelf.rights c.in_ok-rights.rights.items c.in_ok-rights.ensures })
