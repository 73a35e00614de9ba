use Rattle.std.proofs.Common.{◌∙◌, ap, ℕ, map, subst}
use Rattle.pcl_base.specs.declared.tx.TxId.{TxId}
use Rattle.node_rules.specs.OpenTxs.{OpenTxs, name_of}
use Rattle.tx_table.specs.Links.{IsNumbered}
use Rattle.tx_table.proofs.Numbers.{rising_of}
use Rattle.tx_table.proofs.Changes.{serials_of, if_ok}
use Rattle.tx_table.proofs.table.TxTable.ids.Goals as goal

pub returns-clause-names : goal.returns-clause-names
returns-clause-names c =
    let name : ℕ → TxId = λ serial. record { node = c.self.inside.node; born = c.self.inside.born; serial = serial } in
    if_ok _ _ c.names.result
    (λ ts named. named ∙ (serials_of name 0 c.self.inside.last c.self.inside.txs c.self.invariant.linked ∙ ap (λ (s : OpenTxs). map (λ x. name_of s x.serial) s.txs) c.self.view_is))
    c.names.ensures

pub returns-clause-numbered : goal.returns-clause-numbered
returns-clause-numbered c = subst IsNumbered c.self.view_is (rising_of 0 c.self.inside.last c.self.inside.txs c.self.invariant.linked)
