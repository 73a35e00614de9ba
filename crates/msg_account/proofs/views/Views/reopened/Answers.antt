use Rattle.std.proofs.Common.{◌+◌, ◌∙◌, ap, sym, refl, length}
use Rattle.run_rules.specs.Views.{View, first, reopen}
use Rattle.run_rules.specs.Ledger.{last_or}
use Rattle.authority_map.specs.Faults.{rule_of}
use Rattle.msg_account.specs.Kept.{Made, made_of}
use Rattle.msg_account.proofs.ViewLemmas.{reopen_turn, reopen_broken_none}
use Rattle.msg_account.proofs.views.Views.reopened.Goals as goal

pub returns-in-Ok-clause-turn : goal.returns-in-Ok-clause-turn
returns-in-Ok-clause-turn c = (
  ap (λ (v : View). length v.live) c.of.ensures ∙ c.in-Ok.ensures.nodes ∙ ap (λ (m : Made). m.config.nodes) c.self.view_is,
  ap (λ (v : View). v.epoch) c.of.ensures ∙ reopen_turn _ _ _ c.in-Ok.ensures.made
      ∙ ap (λ (v : View). v.epoch + 1) c.view.ensures ∙ ap (λ n. n + 1) c.last.ensures.turn,
)

pub returns-in-Err-BadView-clause-made : goal.returns-in-Err-BadView-clause-made
returns-in-Err-BadView-clause-made c =
    reopen_broken_none _ _ _ _ refl (ap rule_of (sym c.in-Err-BadView.field-0-is) ∙ c.in-Err-BadView.ensures.fault)
    ∙ ap (λ (b : View). made_of (reopen c.self.inside.config b)) (c.view.ensures ∙ c.last.ensures.value)
    ∙ ap (λ (m : Made). made_of (reopen m.config (last_or (first c.args.self.now.config) c.args.self.now.views))) c.self.view_is
