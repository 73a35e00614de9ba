use Rattle.std.proofs.Common.{rules, ap, ◌∙◌, not, ◌==◌}
use Rattle.std.specs.List.{filter}
use Rattle.std.proofs.lemmas.Fn.{filter_same}
use Rattle.run_rules.specs.Ledger.{Of}
use Rattle.msg_account.proofs.pairs.Pairs.drop_node.Goals as goal

pub returns : goal.returns
returns c =
    filter_same _ (λ (x : Of). not (x.tx.node == c.args.node)) _ (λ x b f call. search rules) _ _ c.retain.ensures.filtered
    ∙ ap (filter (λ (x : Of). not (x.tx.node == c.args.node))) c.self.view_is
