use Rattle.std.proofs.Common.{◌≡◌, ◌<◌, length, Some, None, subst, sym}
use Rattle.std.specs.Prelude.{IfSome}
use Rattle.pcl_base.specs.declared.trace.Call.TheVariants as call
use Rattle.own_steps.proofs.Forcing.{commit_calm, commit_faults, commit_halted, commit_leaves, commit_made, commit_quiet, commit_records}
use Rattle.own_steps.proofs.Naming.{commit_names}
use Rattle.own_steps.proofs.commits.commit_home.Goals as goal

pub returns-in-Ok-clause-made : goal.returns-in-Ok-clause-made
returns-in-Ok-clause-made g c =
    commit_made c.commit.result c.args.home.now c.args.tx (g.S.Storage.pages c.args.s.now) (g.S.Storage.pages c.commit.new.s) (g.S.Storage.logs c.args.s.now) (g.S.Storage.logs c.commit.new.s) (g.S.Storage.stops c.args.s.now) (g.S.Storage.stops c.commit.new.s) (g.S.Storage.failing c.args.s.now) (g.S.Storage.faults c.args.s.now call.Log) (g.S.Storage.faults c.commit.new.s call.Log) c.commit.ensures.pages c.in-Ok.ensures.logs c.in-Ok.ensures.stops c.in-Ok.ensures.decided

pub returns-in-Err-clause-made : goal.returns-in-Err-clause-made
returns-in-Err-clause-made g c =
    commit_leaves c.commit.result c.args.home.now c.args.tx (g.S.Storage.pages c.args.s.now) (g.S.Storage.pages c.commit.new.s) (g.S.Storage.logs c.args.s.now) (g.S.Storage.logs c.commit.new.s) (g.S.Storage.stops c.args.s.now) (g.S.Storage.stops c.commit.new.s) (g.S.Storage.failing c.args.s.now) (g.S.Storage.faults c.args.s.now call.Log) (g.S.Storage.faults c.commit.new.s call.Log) c.commit.ensures.pages c.in-Err.fault c.halt_commit.result c.halt_commit.ensures c.in-Err.ensures.logs c.in-Err.ensures.stops c.in-Err.ensures.decided (λ none. (c.in-Err.ensures.silent none).1)

pub returns-in-Err-clause-fault : goal.returns-in-Err-clause-fault
returns-in-Err-clause-fault g c =
    commit_faults c.commit.result c.args.home.now c.args.tx (g.S.Storage.pages c.args.s.now) (g.S.Storage.pages c.commit.new.s) (g.S.Storage.logs c.args.s.now) (g.S.Storage.logs c.commit.new.s) (g.S.Storage.stops c.args.s.now) (g.S.Storage.stops c.commit.new.s) (g.S.Storage.failing c.args.s.now) (g.S.Storage.faults c.args.s.now call.Log) (g.S.Storage.faults c.commit.new.s call.Log) c.commit.ensures.pages c.in-Err.fault c.halt_commit.result c.halt_commit.ensures c.in-Err.ensures.logs

pub returns-in-Err-clause-torn : goal.returns-in-Err-clause-torn
returns-in-Err-clause-torn g c =
    commit_records c.commit.result c.args.home.now c.args.tx (g.S.Storage.pages c.args.s.now) (g.S.Storage.pages c.commit.new.s) (g.S.Storage.logs c.args.s.now) (g.S.Storage.logs c.commit.new.s) (g.S.Storage.stops c.args.s.now) (g.S.Storage.stops c.commit.new.s) (g.S.Storage.failing c.args.s.now) (g.S.Storage.faults c.args.s.now call.Log) (g.S.Storage.faults c.commit.new.s call.Log) c.commit.ensures.pages c.in-Err.fault c.halt_commit.result c.halt_commit.ensures c.in-Err.ensures.logs

pub returns-in-Err-clause-kept : goal.returns-in-Err-clause-kept
returns-in-Err-clause-kept g c = λ d ss l told armed none.
    let sizes : IfSome (g.S.Storage.logs c.args.s.now) (λ x. length x ≡ c.args.home.now.config.nodes) = c.requires.sizes.logs_told in
    let many : length d.logs ≡ c.args.home.now.config.nodes = subst (λ o. IfSome o (λ x. length x ≡ c.args.home.now.config.nodes)) told sizes in
    commit_names c.commit.result c.args.home.now c.args.tx (g.S.Storage.logs c.args.s.now) (g.S.Storage.logs c.commit.new.s) (g.S.Storage.stops c.args.s.now) (g.S.Storage.failing c.args.s.now) (g.S.Storage.faults c.args.s.now call.Log) (g.S.Storage.faults c.commit.new.s call.Log) d ss l told armed none (subst (λ k. c.args.home.now.txs.node < k) (sym many) c.requires.node)
    c.in-Err.fault c.halt_commit.result c.halt_commit.ensures c.in-Err.ensures.logs c.in-Err.ensures.decided (λ none. (c.in-Err.ensures.silent none).1)

pub returns-in-Ok-clause-calm : goal.returns-in-Ok-clause-calm
returns-in-Ok-clause-calm g c = λ l none.
    commit_calm c.args.home.now c.args.tx None (g.S.Storage.failing c.args.s.now) (g.S.Storage.failing c.commit.new.s) l c.in-Ok.ensures.failing none

pub returns-in-Err-clause-calm : goal.returns-in-Err-clause-calm
returns-in-Err-clause-calm g c = λ l none.
    commit_calm c.args.home.now c.args.tx (Some c.in-Err.fault) (g.S.Storage.failing c.args.s.now) (g.S.Storage.failing c.commit.new.s) l c.in-Err.ensures.failing none

pub returns-in-Err-clause-quiet : goal.returns-in-Err-clause-quiet
returns-in-Err-clause-quiet g c = λ l none.
    commit_quiet c.commit.result c.args.home.now c.args.tx (g.S.Storage.pages c.args.s.now) (g.S.Storage.pages c.commit.new.s) (g.S.Storage.logs c.args.s.now) (g.S.Storage.logs c.commit.new.s) (g.S.Storage.stops c.args.s.now) (g.S.Storage.stops c.commit.new.s) (g.S.Storage.failing c.args.s.now) (g.S.Storage.faults c.args.s.now call.Log) (g.S.Storage.faults c.commit.new.s call.Log) c.commit.ensures.pages l c.in-Err.fault c.halt_commit.result c.halt_commit.ensures none c.in-Err.ensures.decided (λ none. (c.in-Err.ensures.silent none).1)

pub returns-in-Err-clause-cause : goal.returns-in-Err-clause-cause
returns-in-Err-clause-cause g c = λ k halted.
    let failed = commit_halted c.commit.result c.args.tx c.in-Err.fault c.halt_commit.result k c.halt_commit.ensures halted in
    c.in-Err.ensures.cause k failed.0 failed.1
