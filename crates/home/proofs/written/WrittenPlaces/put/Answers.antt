use Rattle.std.proofs.Common.{[], ◌∷◌, ◌++◌, ap, ◌∙◌}
use Rattle.home.proofs.Places.{absent_now, first_now}
use Rattle.home.proofs.written.WrittenPlaces.put.Goals as goal

pub insert-requires-clause-absent : goal.insert-requires-clause-absent
insert-requires-clause-absent c =
    absent_now c.args.tx c.args.page c.of.result c.self.inside.pages.entries _ c.self.invariant (ap (λ v. v.places) c.self.view_is) c.of.ensures c.requires.none

pub returns-clause-places : goal.returns-clause-places
returns-clause-places c =
    first_now c.args.tx c.args.page c.of.result c.push_reserved.new.self _ c.self.inside.pages.entries c.insert.new.pages.entries _ c.self.invariant (ap (λ v. v.places) c.self.view_is) c.of.ensures c.requires.none (c.push_reserved.ensures.items ∙ ap (λ l. l ++ c.args.run ∷ []) c.new-runs.ensures.items) c.insert.ensures.entries
