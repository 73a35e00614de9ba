use Rattle.std.proofs.Common.{rules, ◌≡◌, ℕ, ◌+◌, ◌<◌, ◌≤◌, [], ◌∷◌, refl, ap, sym, subst, ◌∙◌, arith, drop, length, map, slice_index_or, List, Result, Err, drop-cons, add-one}
use Rattle.std.specs.Prelude.{⊤}
use Rattle.std.specs.List.{AllByRecursion}
use Rattle.std.proofs.Math.ListN.{drop_of_length-le}
use Rattle.pcl_base.specs.declared.trace.Call.{Call}
use Rattle.run_rules.specs.Redo.{all_records}
use Rattle.partition_redo.specs.declared.site.Chain.{Chain}
use Rattle.partition_redo.specs.Chains.{AllStand}
use Rattle.partition_redo.specs.Writes.{Ran, with_pages}
use Rattle.partition_redo.proofs.Applying.{HasRun, pages_inside, has_run_none, has_run_more, has_run_all, has_run_failed}
use Rattle.partition_redo.proofs.apply.apply_chains.Goals as goal

pub loop-chain-init : goal.loop-chain-init
loop-chain-init g c =
    record {
      sizes = c.requires.sizes;
      length = c.requires.length;
      logs = refl;
      rooms = refl;
      calm = λ f quiet. quiet;
      later = λ k. omega arith;
      below = c.requires.below;
      stand = c.requires.stand;
      untold = λ none. none;
      run = λ d pages logs chains. has_run_none c.args.config.now d c.args.by c.args.chains.now (g.S.Storage.stops c.args.s.now) (g.S.Storage.pages c.args.s.now) pages chains;
    }

pub returns-in_err-apply_chain-clause-ran : goal.returns-in_err-apply_chain-clause-ran
returns-in_err-apply_chain-clause-ran g c = λ d pages logs chains.
    let i : ℕ = c.loop-chain.chain-index in
    let chain : Chain = c.chain-item.result in
    let more : List Chain = drop (i + 1) c.args.chains.now in
    let item : slice_index_or c.args.chains.now i chain ≡ chain = sym c.chain-item.is in
    let split : drop i c.args.chains.now ≡ chain ∷ more = rw (add-one) (drop-cons c.args.chains.now i chain c.loop-chain-test.true) ∙ ap (λ (x : Chain). x ∷ more) item in
    let run : HasRun c.args.config.now d c.args.by c.args.chains.now (chain ∷ more) (g.S.Storage.stops c.args.s.now) (g.S.Storage.pages c.loop-chain.s) (g.S.Storage.stops c.loop-chain.s) =
    subst (λ (xs : List Chain). HasRun c.args.config.now d c.args.by c.args.chains.now xs (g.S.Storage.stops c.args.s.now) (g.S.Storage.pages c.loop-chain.s) (g.S.Storage.stops c.loop-chain.s)) split (c.loop-chain.invariant.run d pages logs chains) in
    let ran = c.in_err-apply_chain.ensures.ran (with_pages d run.now) run.told (c.loop-chain.invariant.logs ∙ logs) run.chains.0 in
    let same : c.from_residual.result ≡ Err c.in_err-apply_chain.field-0.0 = search rules in
    subst (λ (r : Result ⊤ Call). Ran (all_records c.args.config.now d) c.args.by (map (λ x. x.page) c.args.chains.now) d.pages (g.S.Storage.stops c.args.s.now) (g.S.Storage.pages c.apply_chain.new.s) (g.S.Storage.stops c.apply_chain.new.s) r) (sym same)
    (has_run_failed c.args.config.now d c.args.by c.args.chains.now more chain _ _ _ _ _ c.in_err-apply_chain.field-0.0 run ran)

pub returns-in_err-apply_chain-clause-untold : goal.returns-in_err-apply_chain-clause-untold
returns-in_err-apply_chain-clause-untold g c = λ none. c.in_err-apply_chain.ensures.untold (c.loop-chain.invariant.untold none)

pub returns-clause-ran : goal.returns-clause-ran
returns-clause-ran g c = λ d pages logs chains.
    let past : length c.args.chains.now ≤ c.loop-chain.chain-index = omega arith in
    let none : drop c.loop-chain.chain-index c.args.chains.now ≡ [] = drop_of_length-le c.args.chains.now past in
    has_run_all c.args.config.now d c.args.by c.args.chains.now (g.S.Storage.stops c.args.s.now) (g.S.Storage.pages c.loop-chain.s) (g.S.Storage.stops c.loop-chain.s) _
    (subst (λ (xs : List Chain). HasRun c.args.config.now d c.args.by c.args.chains.now xs (g.S.Storage.stops c.args.s.now) (g.S.Storage.pages c.loop-chain.s) (g.S.Storage.stops c.loop-chain.s)) none (c.loop-chain.invariant.run d pages logs chains)) refl

pub loop-chain-preserved : goal.loop-chain-preserved
loop-chain-preserved g c =
    let inv = c.loop-chain.invariant in
    let next = c.in_ok-apply_chain.ensures in
    let i : ℕ = c.loop-chain.chain-index in
    let chain : Chain = c.chain-item.result in
    let more : List Chain = drop (i + 1) c.args.chains.now in
    let item : slice_index_or c.args.chains.now i chain ≡ chain = sym c.chain-item.is in
    let split : drop i c.args.chains.now ≡ chain ∷ more = rw (add-one) (drop-cons c.args.chains.now i chain c.loop-chain-test.true) ∙ ap (λ (x : Chain). x ∷ more) item in
    let below = subst (AllByRecursion (λ (x : Chain). x.page < c.args.config.now.pages)) split inv.below in
    record {
      sizes = next.sizes;
      length = let kept = c.apply_chain.auto.raw in let before = inv.length in omega arith;
      logs = next.logs ∙ inv.logs;
      rooms = next.rooms ∙ inv.rooms;
      calm = λ f quiet. next.calm f (inv.calm f quiet);
      later = λ k. let first = inv.later k in let later = next.counts k in omega arith;
      below = below.1;
      stand = λ d told. (subst (AllStand c.args.config.now d) split (inv.stand d (sym next.logs ∙ told))).1;
      untold = λ none. next.untold (inv.untold none);
      run = λ d pages logs chains.
          let run : HasRun c.args.config.now d c.args.by c.args.chains.now (chain ∷ more) (g.S.Storage.stops c.args.s.now) (g.S.Storage.pages c.loop-chain.s) (g.S.Storage.stops c.loop-chain.s) =
          subst (λ (xs : List Chain). HasRun c.args.config.now d c.args.by c.args.chains.now xs (g.S.Storage.stops c.args.s.now) (g.S.Storage.pages c.loop-chain.s) (g.S.Storage.stops c.loop-chain.s)) split (inv.run d pages logs chains) in
          let ran = next.ran (with_pages d run.now) run.told (inv.logs ∙ logs) run.chains.0 in
          has_run_more c.args.config.now d c.args.by c.args.chains.now more chain _ _ _ _ _ _ run (pages_inside c.args.config.now _ _ _ run.now chain.page inv.sizes run.told below.0) ran refl;
    }
