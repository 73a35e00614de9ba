use Rattle.std.proofs.Common.{◌≡◌, ◌∙◌, None, true, sym, ap}
use Rattle.node_rules.specs.Words.{pick}
use Rattle.node_rules.specs.OpenTxs.{OpenTxs, with_serial, is_own}
use Rattle.tx_table.proofs.Serials.{with_serial_lookup}
use Rattle.tx_table.proofs.table.TxTable.find.Goals as goal

pub returns-clause-value : goal.returns-clause-value
returns-clause-value c =
    let t = c.args.tx in
    let now = c.args.self.now in
    let own : is_own now t ≡ true = sym c.is_own.ensures.value ∙ c.if-not-is_own.false in
    c.get.ensures
    ∙ (sym (with_serial_lookup 0 c.self.inside.last t.serial c.self.inside.txs c.self.invariant.linked)
    ∙ (ap (λ (s : OpenTxs). with_serial s.txs t.serial) c.self.view_is ∙ sym (ap (λ b. pick b (with_serial now.txs t.serial) None) own)))
