use Rattle.std.proofs.Common.{Some, None, refl, ap, sym}
use Rattle.read_right.proofs.Entries.{found_now}
use Rattle.read_right.proofs.shelf.Shelf.may_read.Goals as goal

pub returns-in-Some : goal.returns-in-Some
returns-in-Some c = rw (found_now c.args.page c.self.inside.rights.entries (Some c.in-Some.right.now) c.args.self.now.rights (ap (λ v. v.rights) c.self.view_is) (sym c.in-Some.ensures.value)) refl

pub returns-in-None : goal.returns-in-None
returns-in-None c = rw (found_now c.args.page c.self.inside.rights.entries None c.args.self.now.rights (ap (λ v. v.rights) c.self.view_is) (sym c.in-None.ensures.value)) refl
