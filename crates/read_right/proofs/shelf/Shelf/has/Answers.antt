use Rattle.std.proofs.Common.{Some, None, is_some, ap, sym}
use Rattle.read_right.proofs.Entries.{found_now}
use Rattle.read_right.proofs.shelf.Shelf.has.Goals as goal

pub returns-in-Some : goal.returns-in-Some
returns-in-Some c = sym (ap is_some (found_now c.args.page c.self.inside.rights.entries (Some c.in-Some._right.now) c.args.self.now.rights (ap (λ v. v.rights) c.self.view_is) (sym c.in-Some.ensures.value)))

pub returns-in-None : goal.returns-in-None
returns-in-None c = sym (ap is_some (found_now c.args.page c.self.inside.rights.entries None c.args.self.now.rights (ap (λ v. v.rights) c.self.view_is) (sym c.in-None.ensures.value)))
