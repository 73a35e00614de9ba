use Rattle.std.proofs.Common.{◌∙◌, List, map, ap, sym, subst, arith}
use Rattle.std.specs.List.{fold}
use Rattle.node_rules.specs.Shelf.{Right}
use Rattle.node_rules.specs.NodeState.{HomeState}
use Rattle.node_rules.specs.InstallRule.{spend_rights}
use Rattle.home.specs.Moves.{MoveListView, ListsRights, spend_if}
use Rattle.home.specs.Parts.{PartsView, IsPrepared}
use Rattle.home.proofs.Spending.{page_pair, rights_spent}
use Rattle.home.proofs.Turning.{in_part}
use Rattle.home.proofs.parts.Parts.spend_rights.Goals as goal

pub returns-clause-home : goal.returns-clause-home
returns-clause-home c =
    let listed = subst (λ (v : PartsView). ListsRights c.args.list.now v.home.shelf) (sym c.self.view_is) c.requires in
    let pages = ap (λ rs. map page_pair rs) c.as_slice-rights.ensures.value ∙ ap (λ (l : MoveListView). l.pages) c.list.view_is in
    let spent = c.spend_rights.ensures.rights ∙ ap (λ ps. fold (λ l p. spend_if (in_part c.self.inside.config c.args.partition p) l p) c.self.inside.shelf.rights ps) pages in
    ap (λ (l : List Right). let h : HomeState = record { config = c.self.inside.config; txs = c.self.inside.txs; shelf = l; pool = c.self.inside.pool; written = c.self.inside.written.places } in h)
    (rights_spent c.self.inside.config c.args.partition c.self.inside.shelf.rights c.spend_rights.new.shelf.rights c.args.list.now.pages listed spent)
    ∙ ap (λ (v : PartsView). spend_rights c.args.partition v.home) c.self.view_is

pub returns-clause-prepared : goal.returns-clause-prepared
returns-clause-prepared c prepared =
    let before = subst IsPrepared (sym c.self.view_is) prepared in
    let rights = before.0.rights in
    (record { rights = omega (arith, rights, c.spend_rights.ensures.spare); places = before.0.places; replies = before.0.replies }, before.1)
