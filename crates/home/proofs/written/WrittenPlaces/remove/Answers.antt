use Rattle.std.proofs.Common.{ap, sym, subst}
use Rattle.std.specs.List.{AllByRecursion}
use Rattle.home.specs.Places.{HasRun}
use Rattle.home.proofs.Places.{removed_now, runs_left}
use Rattle.home.proofs.written.WrittenPlaces.remove.Goals as goal

pub invariant_of-self : goal.invariant_of-self
invariant_of-self c =
    subst (AllByRecursion HasRun) (sym c.shift_remove.ensures.entries) (runs_left c.of.result c.self.inside.pages.entries c.self.invariant)

pub returns-in-Some-clause-places : goal.returns-in-Some-clause-places
returns-in-Some-clause-places c =
    removed_now c.args.tx c.args.page c.of.result c.self.inside.pages.entries c.shift_remove.new.self.entries _ (ap (λ v. v.places) c.self.view_is) c.of.ensures
    c.shift_remove.ensures.entries c.shift_remove.ensures.updates.1

pub returns-in-None-clause-places : goal.returns-in-None-clause-places
returns-in-None-clause-places c =
    removed_now c.args.tx c.args.page c.of.result c.self.inside.pages.entries c.shift_remove.new.self.entries _ (ap (λ v. v.places) c.self.view_is) c.of.ensures
    c.shift_remove.ensures.entries c.shift_remove.ensures.updates.1
