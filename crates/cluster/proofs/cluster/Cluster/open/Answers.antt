use Rattle.cluster_parts.proofs.Kept.{openings_are_parts_law}
use Rattle.cluster.proofs.cluster.Cluster.open.Goals as goal

pub invariant_of-result : goal.invariant_of-result
invariant_of-result c =
    openings_are_parts_law c.in_ok-open.field-0 c.args.config.now c.nodes-limits.ensures.limits c.in_ok-open.ensures.cluster c.in_ok-open.ensures.title c.in_ok-open.ensures.reads
