use Rattle.std.proofs.Common.{ap, sym, ◌∙◌}
use Rattle.node_rules.specs.AccessRule.{Access}
use Rattle.home.specs.Asked.{asked}
use Rattle.home.proofs.Accessing.{held_access, right_access}
use Rattle.home.proofs.Doing.{done_leaves, perform_calls}
use Rattle.home.proofs.parts.Parts.access.Goals as goal

pub returns-then-is_held-clause-made : goal.returns-then-is_held-clause-made
returns-then-is_held-clause-made g c =
    let a : Access = asked c.args.a.now in
    let held = sym c.is_held.ensures ∙ c.if-is_held.true in
    done_leaves _ c.do_held-reply.result c.done.result _ _ c.done.ensures
    (ap (λ x. x.work.calls) (held_access a c.args.self.now.home c.requires.home held c.args.owned) ∙ perform_calls a.tx a.page a.write c.args.self.now.home)

pub returns-then-is_allowed-clause-made : goal.returns-then-is_allowed-clause-made
returns-then-is_allowed-clause-made g c =
    let a : Access = asked c.args.a.now in
    let free = sym c.is_held.ensures ∙ c.if-is_held.false in
    let may = sym c.is_allowed.ensures ∙ c.if-is_allowed.true in
    done_leaves _ c.do_right-reply.result c.done-then-is_allowed.result _ _ c.done-then-is_allowed.ensures
    (ap (λ x. x.work.calls) (right_access a c.args.self.now.home c.requires.home c.args.owned free may) ∙ perform_calls a.tx a.page _ _)
