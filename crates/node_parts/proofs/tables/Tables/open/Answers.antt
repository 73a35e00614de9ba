use Rattle.node_parts.proofs.Kept.{counted_none}
use Rattle.node_parts.proofs.tables.Tables.open.Goals as goal

pub invariant_of-result : goal.invariant_of-result
invariant_of-result c =
    counted_none c.args.config.now c.nodes.result c.in_ok-empty_places.field-0.items c.nodes.ensures.limits c.nodes.ensures.value c.in_ok-empty_places.ensures
