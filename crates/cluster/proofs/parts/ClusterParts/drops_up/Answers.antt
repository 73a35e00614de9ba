use Rattle.std.proofs.Common.{◌&&◌, not, ℕ, Bool, sym, ◌∙◌}
use Rattle.run_rules.specs.Views.{is_live}
use Rattle.cluster_rules.specs.Clusters.{is_up}
use Rattle.cluster_parts.specs.State.{cluster_of}
use Rattle.cluster.proofs.Counting.{any_end, any_found, any_past}
use Rattle.cluster.proofs.parts.ClusterParts.drops_up.Goals as goal

pub loop-n-preserved : goal.loop-n-preserved
loop-n-preserved c =
    let f : ℕ → Bool = λ n. is_up (cluster_of c.args.self.now) n && not (is_live c.args.view.now.live n) in
    record {
      rest = sym (any_past f c.loop-n.n _ c.loop-n-test.true (sym c.is_dropped.ensures ∙ c.if-is_dropped.false)) ∙ c.loop-n.invariant.rest;
      all = c.loop-n.invariant.all;
    }

pub returns-then-is_dropped : goal.returns-then-is_dropped
returns-then-is_dropped c =
    let f : ℕ → Bool = λ n. is_up (cluster_of c.args.self.now) n && not (is_live c.args.view.now.live n) in
    sym (any_found f c.loop-n.n _ c.loop-n-test.true (sym c.is_dropped.ensures ∙ c.if-is_dropped.true)) ∙ c.loop-n.invariant.rest

pub returns : goal.returns
returns c =
    let f : ℕ → Bool = λ n. is_up (cluster_of c.args.self.now) n && not (is_live c.args.view.now.live n) in
    sym (any_end f c.loop-n.n _ c.loop-n-test.false) ∙ c.loop-n.invariant.rest
