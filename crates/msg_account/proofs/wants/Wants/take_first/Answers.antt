use Rattle.std.proofs.Common.{ap, ◌∙◌, sym}
use Rattle.std.specs.List.{remove}
use Rattle.run_rules.specs.Ledger.{is_want}
use Rattle.msg_account.proofs.ListLemmas.{found_any, found_left, none_any, none_left}
use Rattle.msg_account.proofs.wants.Wants.take_first.Goals as goal

pub returns-in-Some-clause-found : goal.returns-in-Some-clause-found
returns-in-Some-clause-found c = found_any (is_want c.args.tx c.args.page c.args.mode) _ _ (sym c.place_of.ensures ∙ c.in-Some.is)

pub returns-in-Some-clause-left : goal.returns-in-Some-clause-left
returns-in-Some-clause-left c =
    c.remove-gone.ensures.items ∙ ap (λ ws. remove ws c.in-Some.i) c.self.view_is ∙ found_left (is_want c.args.tx c.args.page c.args.mode) _ _ (sym c.place_of.ensures ∙ c.in-Some.is)

pub returns-in-None-clause-found : goal.returns-in-None-clause-found
returns-in-None-clause-found c = none_any (is_want c.args.tx c.args.page c.args.mode) _ (sym c.place_of.ensures ∙ c.in-None.is)

pub returns-in-None-clause-left : goal.returns-in-None-clause-left
returns-in-None-clause-left c = none_left (is_want c.args.tx c.args.page c.args.mode) _ (sym c.place_of.ensures ∙ c.in-None.is)
