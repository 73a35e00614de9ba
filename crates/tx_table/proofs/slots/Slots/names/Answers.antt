use Rattle.std.proofs.Common.{◌∙◌, ap, map, ℕ}
use Rattle.pcl_base.specs.declared.tx.TxId.{TxId}
use Rattle.tx_table.proofs.Placed.{serials_of_rows}
use Rattle.tx_table.proofs.slots.Slots.names.Goals as goal

pub returns : goal.returns
returns c =
    let name : ℕ → TxId = λ serial. record { node = c.args.node; born = c.args.born; serial = serial } in
    c.in_ok-names_of.ensures
    ∙ (serials_of_rows name c.self.inside.slots.slots c.self.inside.keys.entries c.self.invariant ∙ ap (λ l. map (λ e. name e.0) l) c.self.view_is)
