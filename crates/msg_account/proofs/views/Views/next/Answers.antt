use Rattle.std.proofs.Common.{◌+◌, ◌∙◌, ap, sym, length}
use Rattle.run_rules.specs.Views.{View, first, next}
use Rattle.run_rules.specs.Ledger.{last_or}
use Rattle.authority_map.specs.Faults.{rule_of}
use Rattle.msg_account.specs.Kept.{Made, made_of}
use Rattle.msg_account.proofs.ViewLemmas.{next_turn, next_broken}
use Rattle.msg_account.proofs.views.Views.next.Goals as goal

pub returns-in-Ok-clause-turn : goal.returns-in-Ok-clause-turn
returns-in-Ok-clause-turn c = (
  ap (λ (v : View). length v.live) c.of.ensures ∙ c.in-Ok.ensures.nodes ∙ ap (λ (m : Made). m.config.nodes) c.self.view_is,
  ap (λ (v : View). v.epoch) c.of.ensures ∙ next_turn _ _ _ _ _ c.in-Ok.ensures.made
      ∙ ap (λ (v : View). v.epoch + 1) c.view.ensures ∙ ap (λ n. n + 1) c.last.ensures.turn,
)

pub returns-in-Err-BadView-clause-made : goal.returns-in-Err-BadView-clause-made
returns-in-Err-BadView-clause-made c =
    next_broken _ _ _ _ _ (ap rule_of (sym c.in-Err-BadView.field-0-is) ∙ c.in-Err-BadView.ensures.fault)
    ∙ ap (λ (b : View). made_of (next c.self.inside.config b c.in_ok-live.live.items c.in_ok-owners.owners.items)) (c.view.ensures ∙ c.last.ensures.value)
    ∙ ap (λ (m : Made). made_of (next m.config (last_or (first c.args.self.now.config) c.args.self.now.views) c.in_ok-live.live.items c.in_ok-owners.owners.items)) c.self.view_is
    ∙ ap (λ live. made_of (next c.args.self.now.config (last_or (first c.args.self.now.config) c.args.self.now.views) live c.in_ok-owners.owners.items))
    (c.in_ok-live.ensures.items ∙ c.as_slice.ensures)
    ∙ ap (λ owners. made_of (next c.args.self.now.config (last_or (first c.args.self.now.config) c.args.self.now.views) c.args.live.now owners))
    (c.in_ok-owners.ensures.items ∙ c.as_slice-2.ensures)
