use Rattle.std.proofs.Common.{rules, ap, ◌∙◌, not}
use Rattle.std.specs.List.{filter}
use Rattle.std.proofs.lemmas.Fn.{filter_same}
use Rattle.run_rules.specs.Ledger.{Of}
use Rattle.run_rules.specs.Ledger.{is_of}
use Rattle.msg_account.proofs.pairs.Pairs.drop_pair.Goals as goal

pub returns : goal.returns
returns c =
    filter_same _ (λ (x : Of). not (is_of c.args.tx c.args.page x)) _ (λ x b f call. search rules) _ _ c.retain.ensures.filtered
    ∙ ap (filter (λ (x : Of). not (is_of c.args.tx c.args.page x))) c.self.view_is
