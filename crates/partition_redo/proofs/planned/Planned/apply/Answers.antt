use Rattle.std.proofs.Common.{rules, sym, subst, ◌∙◌, map, Result}
use Rattle.std.specs.Prelude.{⊤}
use Rattle.pcl_base.specs.declared.trace.Call.{Call}
use Rattle.run_rules.specs.Redo.{all_records}
use Rattle.partition_redo.specs.Writes.{Ran}
use Rattle.partition_redo.proofs.Redoing.{last_stored, ran_ok, ran_told, ran_either, ran_redo, other_stays, redo_on, redo_own}
use Rattle.partition_redo.proofs.Applying.{on_ok, chains_can, planned_below}
use Rattle.partition_redo.proofs.planned.Planned.apply.Goals as goal

pub returns-clause-ran : goal.returns-clause-ran
returns-clause-ran g c = search rules

pub returns-clause-done : goal.returns-clause-done
returns-clause-done g c =
    on_ok c.apply_chains.result
    (λ u ok d pages logs.
    ran_ok (all_records c.args.self.now.config d) c.args.self.now.by (map (λ x. x.page) c.args.self.now.chains) d.pages (g.S.Storage.stops c.args.s.now) (g.S.Storage.pages c.apply_chains.new.s) (g.S.Storage.stops c.apply_chains.new.s) u
    (subst (λ (r : Result ⊤ Call). Ran (all_records c.args.self.now.config d) c.args.self.now.by (map (λ x. x.page) c.args.self.now.chains) d.pages (g.S.Storage.stops c.args.s.now) (g.S.Storage.pages c.apply_chains.new.s) (g.S.Storage.stops c.apply_chains.new.s) r) ok (returns-clause-ran g c d pages logs)))

pub returns-clause-redone : goal.returns-clause-redone
returns-clause-redone g c =
    on_ok c.apply_chains.result
    (λ u ok d l pages logs told.
    let ran = subst (λ (r : Result ⊤ Call). Ran (all_records c.args.self.now.config d) c.args.self.now.by (map (λ x. x.page) c.args.self.now.chains) d.pages (g.S.Storage.stops c.args.s.now) (g.S.Storage.pages c.apply_chains.new.s) (g.S.Storage.stops c.apply_chains.new.s) r) ok (returns-clause-ran g c d pages logs) in
    let done = ran_ok (all_records c.args.self.now.config d) c.args.self.now.by (map (λ x. x.page) c.args.self.now.chains) d.pages (g.S.Storage.stops c.args.s.now) (g.S.Storage.pages c.apply_chains.new.s) (g.S.Storage.stops c.apply_chains.new.s) u ran in
    let can = chains_can c.args.self.now.config d (g.S.Storage.pages c.args.s.now) (g.S.Storage.logs c.args.s.now) (g.S.Storage.rooms c.args.s.now) c.args.self.now.chains c.requires.sizes pages (planned_below _ _ c.self.view_is c.self.invariant.2) (c.requires.chains d pages logs) in
    last_stored c.args.self.now.config d l (map (λ x. x.page) c.args.self.now.chains) (sym told ∙ done) can)

pub returns-clause-told : goal.returns-clause-told
returns-clause-told g c = λ d pages logs. ran_told (all_records c.args.self.now.config d) c.args.self.now.by (map (λ x. x.page) c.args.self.now.chains) d.pages _ _ _ _ (returns-clause-ran g c d pages logs)

pub returns-clause-either : goal.returns-clause-either
returns-clause-either g c = λ d l pages logs told.
    let can = chains_can c.args.self.now.config d (g.S.Storage.pages c.args.s.now) (g.S.Storage.logs c.args.s.now) (g.S.Storage.rooms c.args.s.now) c.args.self.now.chains c.requires.sizes pages (planned_below _ _ c.self.view_is c.self.invariant.2) (c.requires.chains d pages logs) in
    ran_either (all_records c.args.self.now.config d) c.args.self.now.by (map (λ x. x.page) c.args.self.now.chains) d.pages _ _ _ _ l can (returns-clause-ran g c d pages logs) told

pub returns-clause-others : goal.returns-clause-others
returns-clause-others g c = λ d l p pages logs told apart.
    let can = chains_can c.args.self.now.config d (g.S.Storage.pages c.args.s.now) (g.S.Storage.logs c.args.s.now) (g.S.Storage.rooms c.args.s.now) c.args.self.now.chains c.requires.sizes pages (planned_below _ _ c.self.view_is c.self.invariant.2) (c.requires.chains d pages logs) in
    other_stays (all_records c.args.self.now.config d) l d.pages (map (λ x. x.page) c.args.self.now.chains) p can apart (returns-clause-either g c d l pages logs told)

pub returns-clause-redo : goal.returns-clause-redo
returns-clause-redo g c = λ d l p pages logs told.
    let can = chains_can c.args.self.now.config d (g.S.Storage.pages c.args.s.now) (g.S.Storage.logs c.args.s.now) (g.S.Storage.rooms c.args.s.now) c.args.self.now.chains c.requires.sizes pages (planned_below _ _ c.self.view_is c.self.invariant.2) (c.requires.chains d pages logs) in
    redo_on c.args.self.now.config d l p
    ∙ ran_redo (all_records c.args.self.now.config d) c.args.self.now.by (map (λ x. x.page) c.args.self.now.chains) d.pages _ _ _ _ l p can (returns-clause-ran g c d pages logs) told
    ∙ sym (redo_own c.args.self.now.config d p)
