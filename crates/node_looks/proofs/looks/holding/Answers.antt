use Rattle.std.proofs.Common.{◌≡◌, map, ap, subst, ◌∙◌}
use Rattle.node_rules.specs.OpenTxs.{OpenTxs, name_of}
use Rattle.tx_table.specs.Links.{IsNumbered}
use Rattle.node_parts.specs.State.{PartsView}
use Rattle.node_looks.proofs.Listed.{holds_end}
use Rattle.node_looks.proofs.looks.holding.Goals as goal

pub returns : goal.returns
returns c =
    let s : OpenTxs = c.args.parts.now.home.txs in
    let txs : c.txs.result.now ≡ s = c.txs.ensures.value ∙ ap (λ (v : PartsView). v.home.txs) c.parts.view_is in
    let names : c.as_slice-names.result.now ≡ map (λ x. name_of s x.serial) s.txs =
    c.as_slice-names.ensures.value ∙ (c.in_ok-ids.ensures.names ∙ ap (λ (s : OpenTxs). map (λ x. name_of s x.serial) s.txs) txs) in
    holds_end s c.as_slice-names.result.now c.loop-tx.tx-index c.loop-tx.items.items c.loop-tx-test.false names (subst IsNumbered txs c.ids.ensures.numbered) c.loop-tx.invariant
