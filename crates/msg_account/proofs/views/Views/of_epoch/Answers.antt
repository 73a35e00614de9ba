use Rattle.std.proofs.Common.{◌∙◌, ◌-◌, ap, length, cond, nat_lt, get_or}
use Rattle.run_rules.specs.Views.{View, first}
use Rattle.run_rules.specs.Ledger.{view_of_epoch}
use Rattle.msg_account.specs.Kept.{Made}
use Rattle.msg_account.proofs.ViewLemmas.{made_found, made_nodes}
use Rattle.msg_account.proofs.views.Views.of_epoch.Goals as goal

pub returns-clause-value : goal.returns-clause-value
returns-clause-value c =
    c.at_epoch.ensures
    ∙ ap (λ vs. cond (nat_lt c.args.epoch 2) c.self.inside.first (get_or vs (c.args.epoch - 2) c.self.inside.first)) c.as_slice.ensures.value
    ∙ made_found _ _ _ c.args.epoch c.self.invariant
    ∙ ap (λ (m : Made). view_of_epoch (first m.config) m.views c.args.epoch) c.self.view_is

pub returns-clause-nodes : goal.returns-clause-nodes
returns-clause-nodes c =
    ap (λ (v : View). length v.live) c.at_epoch.ensures
    ∙ ap (λ vs. length (cond (nat_lt c.args.epoch 2) c.self.inside.first (get_or vs (c.args.epoch - 2) c.self.inside.first)).live) c.as_slice.ensures.value
    ∙ made_nodes _ _ _ c.args.epoch c.self.invariant ∙ ap (λ (m : Made). m.config.nodes) c.self.view_is
