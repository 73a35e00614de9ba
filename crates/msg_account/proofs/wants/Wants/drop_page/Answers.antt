use Rattle.std.proofs.Common.{rules, ap, ◌∙◌, not}
use Rattle.std.specs.List.{filter}
use Rattle.std.proofs.lemmas.Fn.{filter_same}
use Rattle.run_rules.specs.Ledger.{Want}
use Rattle.run_rules.specs.Ledger.{wants_page}
use Rattle.msg_account.proofs.wants.Wants.drop_page.Goals as goal

pub returns : goal.returns
returns c =
    filter_same _ (λ (x : Want). not (wants_page c.args.tx c.args.page x)) _ (λ x b f call. search rules) _ _ c.retain.ensures.filtered
    ∙ ap (filter (λ (x : Want). not (wants_page c.args.tx c.args.page x))) c.self.view_is
