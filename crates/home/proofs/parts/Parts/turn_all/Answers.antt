use Rattle.std.proofs.Common.{◌≡◌, ◌∙◌, true, length, ap, sym, subst}
use Rattle.std.specs.List.{All}
use Rattle.node_rules.specs.OpenTxs.{OpenTxs, is_own}
use Rattle.node_rules.specs.InstallRule.{all_kinds}
use Rattle.home_laws.specs.Homes.{AreSerials}
use Rattle.home.specs.Moves.{MoveListView, ListsTxs}
use Rattle.home.specs.Parts.{PartsView, parts_of}
use Rattle.home.proofs.Turning.{names_own}
use Rattle.home.proofs.Moving.{turned_txs}
use Rattle.home.proofs.parts.Parts.turn_all.Goals as goal

listed : (l : MoveListView) (v w : PartsView) → v ≡ w → ListsTxs l w.home.txs → ListsTxs l v.home.txs
listed l v w same lists = subst (λ (x : PartsView). ListsTxs l x.home.txs) (sym same) lists

pub turn_all-requires-clause-own : goal.turn_all-requires-clause-own
turn_all-requires-clause-own c =
    subst (λ names. All (λ t. is_own c.self.inside.txs t ≡ true) names) (sym (c.as_slice-names.ensures.value ∙ ap (λ (l : MoveListView). l.names) c.list.view_is ∙ listed c.args.list.now _ _ c.self.view_is c.requires.txs)) (names_own c.self.inside.txs c.self.inside.txs.txs)

pub turn_all-requires-clause-serials : goal.turn_all-requires-clause-serials
turn_all-requires-clause-serials c = subst (λ (v : PartsView). AreSerials 0 v.home.txs.last v.home.txs.txs) (sym c.self.view_is) c.requires.serials

pub returns : goal.returns
returns c =
    let rise = subst (λ (v : PartsView). AreSerials 0 v.home.txs.last v.home.txs.txs) (sym c.self.view_is) c.requires.serials in
    ap (λ (s : OpenTxs). parts_of c.self.inside.config c.self.inside.me s c.self.inside.shelf c.self.inside.pool c.self.inside.written (length c.self.inside.replies.items))
    (turned_txs c.self.inside.config c.args.partition c.args.kind c.self.inside.txs c.turn_all.new.txs _ rise (c.as_slice-names.ensures.value ∙ ap (λ (l : MoveListView). l.names) c.list.view_is ∙ listed c.args.list.now _ _ c.self.view_is c.requires.txs) c.turn_all.ensures)
    ∙ ap (λ (v : PartsView). let w : PartsView = record v { home = all_kinds c.args.partition c.args.kind v.home } in w) c.self.view_is
