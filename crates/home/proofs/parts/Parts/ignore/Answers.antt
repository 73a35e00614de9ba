use Rattle.std.proofs.Common.{is_some, ap, sym, ◌∙◌}
use Rattle.node_rules.specs.Shelf.{right_on}
use Rattle.home.specs.Parts.{PartsView}
use Rattle.home.proofs.Arriving.{right_there, no_right}
use Rattle.home.proofs.parts.Parts.ignore.Goals as goal
use Rattle.home.proofs.parts.Parts.ignore.Goals.{else-g-via-then-g+else-not-has, else-g-via-else-g}

pub returns-clause-ok : goal.returns-clause-ok
returns-clause-ok c =
    elim c.else-g.branch [
      | else-g-via-then-g+else-not-has w ↦
          right_there c.args.g.now c.args.self.now.home
          (ap (λ (v : PartsView). is_some (right_on v.home.shelf c.args.g.now.page)) (sym w.self.view_is) ∙ sym w.has.ensures ∙ w.if-not-has.false)
      | else-g-via-else-g w ↦ no_right c.args.g.now c.args.self.now.home w.if-g.false
    ]
