use Rattle.std.proofs.Common.{◌∙◌, ap, length}
use Rattle.run_rules.specs.Views.{View}
use Rattle.run_rules.specs.Ledger.{last_or}
use Rattle.msg_account.specs.Kept.{Made}
use Rattle.msg_account.proofs.ViewLemmas.{made_last}
use Rattle.msg_account.proofs.views.Views.last.Goals as goal

pub returns-clause-nodes : goal.returns-clause-nodes
returns-clause-nodes c =
    ap (λ (v : View). length v.live) c.last_of.ensures
    ∙ ap (λ vs. length (last_or c.self.inside.first vs).live) c.as_slice.ensures.value
    ∙ (made_last _ _ _ c.self.invariant).0 ∙ ap (λ (m : Made). m.config.nodes) c.self.view_is

pub returns-clause-turn : goal.returns-clause-turn
returns-clause-turn c =
    ap (λ (v : View). v.epoch) c.last_of.ensures
    ∙ ap (λ vs. (last_or c.self.inside.first vs).epoch) c.as_slice.ensures.value
    ∙ (made_last _ _ _ c.self.invariant).1 ∙ ap (λ (m : Made). length m.views) c.self.view_is
