use Rattle.std.proofs.Common.{◌≤◌, [], ◌∷◌, length, ap, sym, subst, ◌∙◌, refl}
use Rattle.std.specs.List.{AllByRecursion}
use Rattle.node_rules.specs.NodeState.{cover, runs_at, put_runs}
use Rattle.home.specs.Places.{HasRun, rows_of}
use Rattle.home.proofs.Places.{same_now, covered_now, listed_now, run_there, runs_set, some_covered, runs_now, covers_none, on_err, on_ok}
use Rattle.home.proofs.written.WrittenPlaces.note.Goals as goal

pub invariant_of-self : goal.invariant_of-self
invariant_of-self c =
    let one = run_there c.of.result c.in-Some.runs.now c.self.inside.pages.entries c.self.invariant (sym c.in-Some.ensures.value) in
    let writes = c.get_mut.follows.holds c.reserve.new.self in
    subst (AllByRecursion HasRun) (sym writes.0)
    (runs_set c.of.result c.reserve.new.self c.self.inside.pages.entries c.self.invariant (subst (λ l. 1 ≤ length l) (sym c.reserve.ensures.items) one))

pub returns-in_err-reserve-in-Some-clause-err : goal.returns-in_err-reserve-in-Some-clause-err
returns-in_err-reserve-in-Some-clause-err c =
    let writes = c.get_mut.follows.holds c.reserve.new.self in
    on_err c.from_residual.result
    (ap rows_of writes.0 ∙ same_now c.of.result c.in-Some.runs.now c.reserve.new.self c.self.inside.pages.entries _ (ap (λ v. v.places) c.self.view_is) c.in-Some.ensures.value c.reserve.ensures.items)

pub returns-in_err-reserve-in-Some-clause-first : goal.returns-in_err-reserve-in-Some-clause-first
returns-in_err-reserve-in-Some-clause-first c none room =
    absurd (listed_now c.args.tx c.args.page c.of.result c.in-Some.runs.now c.self.inside.pages.entries _ c.self.invariant (ap (λ v. v.places) c.self.view_is) c.of.ensures c.in-Some.ensures.value none)

pub invariant_of-self-in-Some : goal.invariant_of-self-in-Some
invariant_of-self-in-Some c =
    let writes = c.get_mut.follows.holds c.put_run.new.runs in
    subst (AllByRecursion HasRun) (sym writes.0)
    (runs_set c.of.result c.put_run.new.runs c.self.inside.pages.entries c.self.invariant
    (subst (λ l. 1 ≤ length l) (sym c.put_run.ensures) (some_covered c.reserve.new.self.items c.args.from c.args.to)))

pub add-requires : goal.add-requires
add-requires c =
    ap (λ m. runs_at (rows_of m.entries) c.args.tx c.args.page) c.get_mut.follows.holds-at-none
    ∙ sym (runs_now c.args.tx c.args.page c.self.inside.pages.entries _ c.of.result _ refl c.of.ensures c.in-None.ensures.value)

pub returns-in_ok-reserve-in-Some-clause-ok : goal.returns-in_ok-reserve-in-Some-clause-ok
returns-in_ok-reserve-in-Some-clause-ok c =
    let writes = c.get_mut.follows.holds c.put_run.new.runs in
    ap rows_of writes.0
    ∙ covered_now c.args.tx c.args.page c.args.from c.args.to c.of.result c.in-Some.runs.now c.put_run.new.runs c.self.inside.pages.entries _ (ap (λ v. v.places) c.self.view_is) c.of.ensures c.in-Some.ensures.value
    (c.put_run.ensures ∙ ap (λ rs. cover rs c.args.from c.args.to) c.reserve.ensures.items)

pub returns-in-None-clause-ok : goal.returns-in-None-clause-ok
returns-in-None-clause-ok c =
    let seen = ap (λ m. rows_of m.entries) c.get_mut.follows.holds-at-none ∙ ap (λ v. v.places) c.self.view_is in
    on_ok c.add.result c.add.ensures.ok
    (λ e. e ∙ ap (λ ws. put_runs ws c.args.tx c.args.page (record { from = c.args.from; to = c.args.to } ∷ [])) seen
    ∙ ap (put_runs c.args.self.now.places c.args.tx c.args.page) (covers_none c.args.from c.args.to ∙ ap (λ rs. cover rs c.args.from c.args.to) (runs_now c.args.tx c.args.page c.self.inside.pages.entries _ c.of.result _ (ap (λ v. v.places) c.self.view_is) c.of.ensures c.in-None.ensures.value)))
