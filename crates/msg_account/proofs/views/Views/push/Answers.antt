use Rattle.std.proofs.Common.{◌+◌, ◌∙◌, ap, sym, length, subst}
use Rattle.msg_account.specs.Kept.{Made, AreMade}
use Rattle.msg_account.proofs.ViewLemmas.{made_push}
use Rattle.msg_account.proofs.views.Views.push.Goals as goal

pub invariant_of-self-2 : goal.invariant_of-self-2
invariant_of-self-2 c =
    subst (AreMade c.self.inside.config c.self.inside.first) (sym c.in_ok-push.ensures.items)
    (made_push _ _ c.args.view _ c.self.invariant
    (c.requires.nodes ∙ sym (ap (λ (m : Made). m.config.nodes) c.self.view_is))
    (c.requires.turn ∙ sym (ap (λ (m : Made). length m.views + 1) c.self.view_is)))
