use Rattle.std.proofs.Common.{rules, ap, ◌∙◌, not}
use Rattle.std.specs.List.{filter}
use Rattle.std.proofs.lemmas.Fn.{filter_same}
use Rattle.run_rules.specs.Ledger.{Want}
use Rattle.run_rules.specs.Ledger.{is_want}
use Rattle.msg_account.proofs.wants.Wants.drop_all.Goals as goal

pub returns : goal.returns
returns c =
    filter_same _ (λ (x : Want). not (is_want c.args.tx c.args.page c.args.mode x)) _ (λ x b f call. search rules) _ _ c.retain.ensures.filtered
    ∙ ap (filter (λ (x : Want). not (is_want c.args.tx c.args.page c.args.mode x))) c.self.view_is
