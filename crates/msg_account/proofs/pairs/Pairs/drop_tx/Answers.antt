use Rattle.std.proofs.Common.{rules, ap, ◌∙◌, not}
use Rattle.std.specs.List.{filter}
use Rattle.std.proofs.lemmas.Fn.{filter_same}
use Rattle.run_rules.specs.Ledger.{Of}
use Rattle.run_rules.specs.Words.{same_tx}
use Rattle.msg_account.proofs.pairs.Pairs.drop_tx.Goals as goal

pub returns : goal.returns
returns c =
    filter_same _ (λ (x : Of). not (same_tx x.tx c.args.tx)) _ (λ x b f call. search rules) _ _ c.retain.ensures.filtered
    ∙ ap (filter (λ (x : Of). not (same_tx x.tx c.args.tx))) c.self.view_is
