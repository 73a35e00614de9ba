use Rattle.std.proofs.Common.{rules, ap, ◌∙◌, not}
use Rattle.std.specs.List.{filter}
use Rattle.std.proofs.lemmas.Fn.{filter_same}
use Rattle.run_rules.specs.Ledger.{Out, is_new}
use Rattle.msg_account.proofs.rights.Rights.drop_new.Goals as goal

pub returns : goal.returns
returns c =
    filter_same _ (λ (x : Out). not (is_new c.args.view.now c.args.config.now c.args.node x.page)) _ (λ x b f call. search rules) _ _ c.retain.ensures.filtered
    ∙ ap (filter (λ (x : Out). not (is_new c.args.view.now c.args.config.now c.args.node x.page))) c.self.view_is
