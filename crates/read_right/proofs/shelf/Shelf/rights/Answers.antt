use Rattle.std.proofs.Common.{ap, ◌∙◌}
use Rattle.read_right.proofs.Entries.{pairs_now}
use Rattle.read_right.proofs.shelf.Shelf.rights.Goals as goal

pub returns-in-Ok : goal.returns-in-Ok
returns-in-Ok c = c.in-Ok.ensures ∙ pairs_now c.self.inside.rights.entries c.args.self.now.rights (ap (λ v. v.rights) c.self.view_is)
