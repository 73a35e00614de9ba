use Rattle.std.proofs.Common.{◌≡◌, ℕ, ◌+◌, ◌-◌, ◌<◌, ◌≤◌, ◌^◌, refl, ap, sym, subst, ◌∙◌, arith, List, Some, nat_eq, Bool, true, false}
use Rattle.std.specs.List.{AllByRecursion}
use Rattle.std.proofs.lemmas.Bool.Decides.{nat_tests}
use Rattle.run_rules.specs.Disk.{Disk, log_at}
use Rattle.run_rules.specs.Views.{count_from}
use Rattle.redo_log.specs.Placed.{placed_of}
use Rattle.partition_redo.specs.Index.{known, known_logs}
use Rattle.partition_redo.proofs.Walking.{sizes_kept, count_next, count_end}
use Rattle.partition_redo.proofs.walked.index_logs.Goals as goal

pub returns-clause-known : goal.returns-clause-known
returns-clause-known g c = λ d p v told.
    let inv = c.loop-node.invariant in
    let past : c.nodes-nodes.result ≤ c.loop-node.node = omega arith in
    sym (ap (λ (ns : List ℕ). known_logs c.args.config.now d p v ns (known c.loop-node.index p v)) (count_end c.loop-node.node c.nodes-nodes.result past))
    ∙ inv.known d p v (inv.logs ∙ told)

pub loop-node-preserved : goal.loop-node-preserved
loop-node-preserved g c =
    let inv = c.loop-node.invariant in
    let next = c.in_ok-index_log.ensures in
    let back = λ (d : Disk) (t : g.S.Storage.logs c.index_log.new.s ≡ Some d.logs). let u : g.S.Storage.logs c.loop-node.s ≡ Some d.logs = sym next.logs ∙ t in u in
    let less : c.loop-node.node < c.nodes-nodes.result = omega arith in
    record {
      sizes = sizes_kept _ _ _ _ _ _ _ next.pages next.logs next.rooms inv.sizes;
      pages = next.pages ∙ inv.pages;
      logs = next.logs ∙ inv.logs;
      rooms = next.rooms ∙ inv.rooms;
      stops = next.stops ∙ inv.stops;
      calm = λ f quiet. next.calm f (inv.calm f quiet);
      later = λ k. let first = inv.later k in let more = next.counts k in omega arith;
      nodes = inv.nodes;
      known = λ d p v t.
          let n : ℕ = c.loop-node.node in
          let m : ℕ = c.nodes-nodes.result in
          ap (known_logs c.args.config.now d p v (count_from (n + 1) (m - (n + 1)))) (next.known d p v (back d t))
          ∙ ap (λ (ns : List ℕ). known_logs c.args.config.now d p v ns (known c.loop-node.index p v)) (sym (count_next n m less))
          ∙ inv.known d p v (back d t);
      versions = λ d n t below. at d n t below (nat_eq n c.loop-node.node) refl;
    }
  where
    at : (d : Disk) (n : ℕ) → g.S.Storage.logs c.index_log.new.s ≡ Some d.logs → n < c.loop-node.node + 1 → (b : Bool) → nat_eq n c.loop-node.node ≡ b → AllByRecursion (λ x. x.entry.version < 2 ^ 64) (placed_of c.args.config.now (log_at d n))
    at d n t below true is =
        let same : c.loop-node.node ≡ n = grind (arith, nat_tests) in
        subst (λ (m : ℕ). AllByRecursion (λ x. x.entry.version < 2 ^ 64) (placed_of c.args.config.now (log_at d m))) same (c.in_ok-index_log.ensures.versions d (sym c.in_ok-index_log.ensures.logs ∙ t))
    at d n t below false is = c.loop-node.invariant.versions d n (sym c.in_ok-index_log.ensures.logs ∙ t) (grind (arith, nat_tests))
