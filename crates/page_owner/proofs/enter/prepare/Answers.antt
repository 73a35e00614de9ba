use Rattle.std.proofs.Common.{[], sym, subst}
use Rattle.node_parts.specs.contracts.parts.Parts.{the_view}
use Rattle.node_parts.specs.State.{AreParts}
use Rattle.page_owner.proofs.Planned.{has_made}
use Rattle.page_owner.proofs.enter.prepare.Goals as goal

pub returns-clause-made : goal.returns-clause-made
returns-clause-made c =
    let is : AreParts (the_view c.parts.inside) = subst AreParts (sym c.parts.view_is) c.requires.parts in
    has_made (the_view c.parts.inside) c.args.page c.make.new.self is c.in_ok-make.ensures.tables c.in_ok-make.ensures.config c.in_ok-make.ensures.made (c.in_ok-make.ensures.tidy [] is.tidy)
