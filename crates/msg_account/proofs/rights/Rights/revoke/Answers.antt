use Rattle.std.proofs.Common.{ap, ◌∙◌, sym, true, get_or, slice_set}
use Rattle.run_rules.specs.Ledger.{Out}
use Rattle.run_rules.specs.Causes.{may_revoke}
use Rattle.msg_account.proofs.ListLemmas.{found_any, found_changed, none_any}
use Rattle.msg_account.proofs.rights.Rights.revoke.Goals as goal

pub returns-in-Some-clause-found : goal.returns-in-Some-clause-found
returns-in-Some-clause-found c = found_any (may_revoke c.args.node c.args.page) _ _ (sym c.place_of.ensures ∙ c.in-Some.is)

pub returns-in-Some-clause-changed : goal.returns-in-Some-clause-changed
returns-in-Some-clause-changed c h =
    ap (slice_set c.self.inside.items.items c.in-Some.i) (c.revoked-revoked.ensures ∙ ap (λ (r : Out). record r { revoked = true }) c.index.ensures)
    ∙ ap (λ rs. slice_set rs c.in-Some.i (let r : Out = get_or rs c.in-Some.i c.index.result.now in record r { revoked = true })) c.self.view_is
    ∙ found_changed (may_revoke c.args.node c.args.page) (λ r. record r { revoked = true }) c.index.result.now _ _ (sym c.place_of.ensures ∙ c.in-Some.is)

pub returns-in-None-clause-found : goal.returns-in-None-clause-found
returns-in-None-clause-found c = none_any (may_revoke c.args.node c.args.page) _ (sym c.place_of.ensures ∙ c.in-None.is)
