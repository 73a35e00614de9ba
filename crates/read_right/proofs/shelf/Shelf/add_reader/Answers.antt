use Rattle.std.proofs.Common.{ap, ◌∙◌}
use Rattle.node_rules.specs.Shelf.{accept, add_reader}
use Rattle.read_right.proofs.Entries.{accept_there}
use Rattle.read_right.proofs.shelf.Shelf.add_reader.Goals as goal

pub returns-clause-rights : goal.returns-clause-rights
returns-clause-rights c =
    c.put_reader-2.ensures.rights ∙ ap (λ l. add_reader l c.args.page c.args.tx) (c.accept_reserved-there.ensures.rights ∙ ap (λ l. accept l c.args.page 0) c.reserve.ensures.rights ∙ accept_there c.args.page 0 c.args.self.now.rights c.requires)
