use Rattle.std.proofs.Common.{ap, sym, subst, ◌∙◌, Option, Result}
use Rattle.home.specs.Commits.{Unasked}
use Rattle.pcl_base.specs.declared.trace.Call.TheVariants as call
use Rattle.pcl_base.specs.declared.tx.TxId.{TxId}
use Rattle.node_rules.specs.NodeState.{Commit as commits}
use Rattle.node_parts.specs.State.{node_of}
use Rattle.node_parts.specs.declared.fault.StepFault.{StepFault}
use Rattle.own_steps.proofs.Refusing.{commit_idle}
use Rattle.node_core.specs.Named.{names_forced}
use Rattle.node_core.specs.Steps.{IsStep, seen_by}
use Rattle.node_core.proofs.Committing.{commit_step}
use Rattle.node_core.proofs.commits.step_commit.Goals as goal

pub forced_tx-forced-requires : goal.forced_tx-forced-requires
forced_tx-forced-requires g c = commit_idle (node_of c.args.parts.now) c.args.tx c.requires.none

pub returns-clause-step : goal.returns-clause-step
returns-clause-step g c =
    let e = c.commit-answer.ensures in
    let named = c.name_forced.ensures ∙ ap (λ (o : Option TxId). names_forced o c.commit-answer.result) c.forced_tx-forced.ensures in
    subst
    (λ (z : Result (Unit {0}) StepFault).
    IsStep (node_of c.args.parts.now) (commits c.args.tx) c.args.out.now (seen_by (g.S.Storage.pages c.args.s.now) (g.S.Storage.logs c.args.s.now) (g.S.Storage.stops c.args.s.now) (g.S.Storage.failing c.args.s.now) (g.S.Storage.rooms c.args.s.now) (g.S.Storage.faults c.args.s.now)) z (node_of c.commit-answer.new.parts) c.commit-answer.new.out (seen_by (g.S.Storage.pages c.commit-answer.new.s) (g.S.Storage.logs c.commit-answer.new.s) (g.S.Storage.stops c.commit-answer.new.s) (g.S.Storage.failing c.commit-answer.new.s) (g.S.Storage.rooms c.commit-answer.new.s) (g.S.Storage.faults c.commit-answer.new.s)))
    (sym named)
    (commit_step c.args.parts.now c.commit-answer.new.parts c.args.out.now c.commit-answer.new.out (seen_by (g.S.Storage.pages c.args.s.now) (g.S.Storage.logs c.args.s.now) (g.S.Storage.stops c.args.s.now) (g.S.Storage.failing c.args.s.now) (g.S.Storage.rooms c.args.s.now) (g.S.Storage.faults c.args.s.now)) (seen_by (g.S.Storage.pages c.commit-answer.new.s) (g.S.Storage.logs c.commit-answer.new.s) (g.S.Storage.stops c.commit-answer.new.s) (g.S.Storage.failing c.commit-answer.new.s) (g.S.Storage.rooms c.commit-answer.new.s) (g.S.Storage.faults c.commit-answer.new.s)) c.commit-answer.result c.requires.parts c.requires.replies c.requires.sends
    c.args.tx c.requires.none e.comes e.made e.node e.lists e.same e.fault
    (Unasked (g.S.Storage.faults c.args.s.now call.Log) (g.S.Storage.faults c.commit-answer.new.s call.Log) (g.S.Storage.failing c.args.s.now) c.args.parts.now.home.txs.node) e.torn e.kept e.pages e.sizes e.calm e.quiet (e.counts, e.cause))
