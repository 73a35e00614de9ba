use Rattle.std.proofs.Common.{Some, None, ap, sym}
use Rattle.read_right.proofs.Entries.{ready_now}
use Rattle.read_right.proofs.shelf.Shelf.ready.Goals as goal

pub returns-in-Some : goal.returns-in-Some
returns-in-Some c = sym (ready_now c.args.page c.self.inside.rights.entries (Some c.in-Some.right.now) c.args.self.now.marks (ap (λ v. v.marks) c.self.view_is) (sym c.in-Some.ensures.value))

pub returns-in-None : goal.returns-in-None
returns-in-None c = sym (ready_now c.args.page c.self.inside.rights.entries None c.args.self.now.marks (ap (λ v. v.marks) c.self.view_is) (sym c.in-None.ensures.value))
