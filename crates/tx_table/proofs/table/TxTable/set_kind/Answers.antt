use Rattle.std.proofs.Common.{◌≡◌, ◌∙◌, sym, ap, List, is_some, arith}
use Rattle.node_rules.specs.OpenTxs.{OpenTx, OpenTxs, kind_on, set_kind}
use Rattle.tx_table.specs.Counts.{waits_in}
use Rattle.tx_table.proofs.Serials.{values_changed}
use Rattle.tx_table.proofs.Changes.{open_there, counted_set}
use Rattle.tx_table.proofs.table.TxTable.set_kind.Goals as goal

pub at-requires : goal.at-requires
at-requires c =
    let there = open_there 0 c.self.inside.last c.self.inside.txs c.args.self.now c.args.tx c.self.invariant.linked (ap (λ (s : OpenTxs). s.txs) c.self.view_is) c.requires.«open» in
    ap (λ o. is_some o) (sym there) ∙ c.requires.«open»

pub invariant_of-self : goal.invariant_of-self
invariant_of-self c =
    let v = c.at.result.now in
    let w = c.set_kind.new.self in
    let locks = c.set_kind.ensures.locks in
    let waits : waits_in w ≡ waits_in v = ap waits_in c.set_kind.ensures.kind in
    counted_set c.self.inside.last c.args.tx.serial c.self.inside.locks c.self.inside.waits c.self.inside.locks c.self.inside.waits v w c.self.inside.txs
    c.self.invariant (sym c.at.ensures.value) (ap (λ (o : OpenTx). o.serial) c.set_kind.ensures.kind)
    (omega (arith, locks)) (omega (arith, waits)) c.self.invariant.small

pub returns : goal.returns
unfolding set_kind
returns c =
    let s = c.args.tx.serial in
    let v = c.at.result.now in
    ap (λ (l : List OpenTx). record { node = c.self.inside.node; born = c.self.inside.born; last = c.self.inside.last; txs = l })
    (values_changed (λ (x : OpenTx). record x { pages = kind_on x.pages c.args.page c.args.kind }) 0 c.self.inside.last s v c.set_kind.new.self c.self.inside.txs c.self.invariant.linked (sym c.at.ensures.value) c.set_kind.ensures.kind)
    ∙ ap (λ (x : OpenTxs). set_kind x c.args.tx c.args.page c.args.kind) c.self.view_is
