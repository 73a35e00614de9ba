use Rattle.std.proofs.Common.{◌<◌, ap, sym, subst, ◌∙◌}
use Rattle.node_parts.specs.State.{PartsView}
use Rattle.node_looks.proofs.Seen.{begins_in, follows_in}
use Rattle.node_looks.proofs.refusals.may_install.Goals as goal

pub may_begin-requires-clause-me : goal.may_begin-requires-clause-me
may_begin-requires-clause-me c =
    subst (λ k. k < c.args.parts.now.home.config.nodes) (sym c.requires.parts.number) c.requires.parts.node.number

pub returns-in-None : goal.returns-in-None
returns-in-None c =
    begins_in c.args.parts.now c.args.view.now c.may_begin.result c.requires.parts c.requires.nodes (sym (ap (λ (v : PartsView). v.view) c.parts.view_is) ∙ c.in-None.is)
    c.may_begin.ensures

pub returns-in-Some : goal.returns-in-Some
returns-in-Some c =
    follows_in c.args.parts.now c.args.view.now c.in-Some.before c.follows.result c.requires.parts
    (sym (ap (λ (v : PartsView). v.view) c.parts.view_is) ∙ c.in-Some.is) c.follows.ensures
