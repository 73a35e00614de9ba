use Rattle.std.proofs.Common.{ap, ◌∙◌}
use Rattle.home.proofs.Places.{runs_now}
use Rattle.home.proofs.written.WrittenPlaces.runs.Goals as goal

pub returns-in-None : goal.returns-in-None
returns-in-None c =
    runs_now c.args.tx c.args.page c.self.inside.pages.entries _ c.of.result _ (ap (λ v. v.places) c.self.view_is) c.of.ensures
    c.in-None.ensures.value

pub returns-in-Some : goal.returns-in-Some
returns-in-Some c =
    c.as_slice.ensures
    ∙ runs_now c.args.tx c.args.page c.self.inside.pages.entries _ c.of.result _ (ap (λ v. v.places) c.self.view_is) c.of.ensures
    c.in-Some.ensures.value
