use Rattle.std.proofs.Common.{sym, ◌∙◌}
use Rattle.cluster_rules.specs.Clusters.{is_up}
use Rattle.cluster_parts.specs.State.{cluster_of}
use Rattle.cluster.proofs.Counting.{any_end, any_found, any_past}
use Rattle.cluster.proofs.parts.ClusterParts.any_up.Goals as goal

pub loop-n-preserved : goal.loop-n-preserved
loop-n-preserved c = sym (any_past (is_up (cluster_of c.args.self.now)) c.loop-n.n _ c.loop-n-test.true (sym c.is_up.ensures ∙ c.if-is_up.false)) ∙ c.loop-n.invariant

pub returns-then-is_up : goal.returns-then-is_up
returns-then-is_up c = sym (any_found (is_up (cluster_of c.args.self.now)) c.loop-n.n _ c.loop-n-test.true (sym c.is_up.ensures ∙ c.if-is_up.true)) ∙ c.loop-n.invariant

pub returns : goal.returns
returns c = sym (any_end (is_up (cluster_of c.args.self.now)) c.loop-n.n _ c.loop-n-test.false) ∙ c.loop-n.invariant
