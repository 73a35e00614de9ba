use Rattle.std.proofs.Common.{rules, ap, ◌∙◌, not}
use Rattle.std.specs.List.{filter}
use Rattle.std.proofs.lemmas.Fn.{filter_same}
use Rattle.run_rules.specs.Ledger.{Out}
use Rattle.run_rules.specs.Ledger.{is_out}
use Rattle.msg_account.proofs.rights.Rights.drop_right.Goals as goal

pub returns : goal.returns
returns c =
    filter_same _ (λ (x : Out). not (is_out c.args.node c.args.page x)) _ (λ x b f call. search rules) _ _ c.retain.ensures.filtered
    ∙ ap (filter (λ (x : Out). not (is_out c.args.node c.args.page x))) c.self.view_is
