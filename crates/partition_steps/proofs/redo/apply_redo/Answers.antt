use Rattle.std.proofs.Common.{Some, Ok, Err, ap, sym, subst, ◌∙◌}
use Rattle.std.specs.List.{AllByRecursion}
use Rattle.pcl_base.specs.Limits.{Sizes}
use Rattle.home.specs.Device.{told_by}
use Rattle.home.specs.Moves.{Lists}
use Rattle.partition_redo.specs.Chains.{IsChain, PlannedView, written_pages}
use Rattle.page_owner.specs.Carry.{SameNode}
use Rattle.page_owner.proofs.Releasing.{made_pages}
use Rattle.partition_steps.specs.Carried.{cleaned, redo_calls}
use Rattle.partition_steps.proofs.Cleaning.{cleaned_listed, cleaned_same, pages_written}
use Rattle.partition_steps.proofs.Staying.{others_stay}
use Rattle.partition_steps.proofs.Writing.{redo_left}
use Rattle.partition_steps.proofs.redo.apply_redo.Goals as goal

pub returns-in-Err-clause-made : goal.returns-in-Err-clause-made
returns-in-Err-clause-made g c = λ d p l.
    redo_left c.args.home.now.txs.node d c.args.plan (g.S.Storage.pages c.args.s.now) (g.S.Storage.pages c.apply.new.s) (g.S.Storage.logs c.args.s.now) (g.S.Storage.logs c.apply.new.s)
    (g.S.Storage.stops c.args.s.now) (g.S.Storage.stops c.apply.new.s) (Err c.in-Err.call) c.requires.redo.redo.node (c.requires.redo.rising d p l) p c.apply.ensures.logs (c.in-Err.ensures.ran d p l)

pub returns-in-Err-clause-others : goal.returns-in-Err-clause-others
returns-in-Err-clause-others g c = λ q r own apart.
    others_stay c.args.home.now.config q r (g.S.Storage.pages c.args.s.now) (g.S.Storage.pages c.apply.new.s) (g.S.Storage.logs c.args.s.now) (g.S.Storage.logs c.apply.new.s) c.args.plan
    own apart c.apply.ensures.logs c.apply.ensures.untold c.apply.ensures.others

pub returns-clause-home : goal.returns-clause-home
returns-clause-home g c = λ d p l.
    let chains = subst (λ (k : Sizes). AllByRecursion (IsChain k d) c.args.plan.chains) (sym c.requires.redo.redo.config) (c.requires.redo.redo.chains d p l) in
    c.clean_all.ensures
    ∙ ap (cleaned c.args.home.now)
    (c.writes.ensures ∙ ap (λ (x : PlannedView). written_pages x.chains) c.apply.ensures.plan ∙ pages_written d c.args.plan chains (c.requires.redo.redo.newer d p l))

pub returns-clause-made : goal.returns-clause-made
returns-clause-made g c = λ d p l.
    redo_left c.args.home.now.txs.node d c.args.plan (g.S.Storage.pages c.args.s.now) (g.S.Storage.pages c.apply.new.s) (g.S.Storage.logs c.args.s.now) (g.S.Storage.logs c.apply.new.s)
    (g.S.Storage.stops c.args.s.now) (g.S.Storage.stops c.apply.new.s) (Ok c.in-Ok.field-0) c.requires.redo.redo.node (c.requires.redo.rising d p l) p c.apply.ensures.logs (c.in-Ok.ensures.ran d p l)

pub returns-clause-done : goal.returns-clause-done
returns-clause-done g c = λ d p l.
    made_pages c.args.home.now.txs.node (redo_calls d (Some c.args.plan)) (told_by (g.S.Storage.pages c.args.s.now) (g.S.Storage.logs c.args.s.now) (g.S.Storage.stops c.args.s.now))
    (told_by (g.S.Storage.pages c.apply.new.s) (g.S.Storage.logs c.apply.new.s) (g.S.Storage.stops c.apply.new.s)) d.pages
    (redo_left c.args.home.now.txs.node d c.args.plan (g.S.Storage.pages c.args.s.now) (g.S.Storage.pages c.apply.new.s) (g.S.Storage.logs c.args.s.now) (g.S.Storage.logs c.apply.new.s)
    (g.S.Storage.stops c.args.s.now) (g.S.Storage.stops c.apply.new.s) (Ok c.in-Ok.field-0) c.requires.redo.redo.node (c.requires.redo.rising d p l) p c.apply.ensures.logs (c.in-Ok.ensures.ran d p l)) p

pub returns-clause-others : goal.returns-clause-others
returns-clause-others g c = λ q r own apart.
    others_stay c.args.home.now.config q r (g.S.Storage.pages c.args.s.now) (g.S.Storage.pages c.apply.new.s) (g.S.Storage.logs c.args.s.now) (g.S.Storage.logs c.apply.new.s) c.args.plan
    own apart c.apply.ensures.logs c.apply.ensures.untold c.apply.ensures.others

pub returns-clause-same : goal.returns-clause-same
returns-clause-same g c = subst (λ h. SameNode c.args.home.now h) (sym c.clean_all.ensures) (cleaned_same c.writes.result.now c.args.home.now)

pub returns-clause-listed : goal.returns-clause-listed
returns-clause-listed g c = λ list is. subst (λ h. Lists list h) (sym c.clean_all.ensures) (cleaned_listed list c.writes.result.now c.args.home.now is)
