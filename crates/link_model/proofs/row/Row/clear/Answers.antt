use Rattle.std.proofs.Common.{◌≡◌, ◌<◌, length, [], ap, arith}
use Rattle.link_model.proofs.RowLemmas.{link_messages, link_not_lower}
use Rattle.link_model.proofs.row.Row.clear.Goals as goal

pub returns-clause-messages : goal.returns-clause-messages
returns-clause-messages c =
    let same : length c.self.inside.links.items ≡ length c.args.self.now = ap length c.self.view_is in
    let less : c.args.to < length c.args.self.now = omega (arith, c.if-len-to.false, c.len.ensures, c.self.inside.links.ok.0, same) in
    link_messages _ _ c.self.view_is c.args.to c.index_mut-link.result.now c.clear.new.self (λ v. []) less c.index_mut-link.ensures.value c.clear.ensures.messages

pub returns-clause-spares : goal.returns-clause-spares
returns-clause-spares c =
    let same : length c.self.inside.links.items ≡ length c.args.self.now = ap length c.self.view_is in
    let less : c.args.to < length c.args.self.now = omega (arith, c.if-len-to.false, c.len.ensures, c.self.inside.links.ok.0, same) in
    link_not_lower _ _ c.self.view_is c.args.to c.index_mut-link.result.now c.clear.new.self less c.index_mut-link.ensures.value c.clear.ensures.spare
