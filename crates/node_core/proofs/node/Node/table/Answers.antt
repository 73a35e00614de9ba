use Rattle.std.proofs.Common.{ap, ◌∙◌}
use Rattle.node_parts.specs.Tables.{place_at}
use Rattle.node_core.proofs.Used.{used}
use Rattle.node_core.proofs.node.Node.table.Goals as goal

pub returns-clause-used : goal.returns-clause-used
returns-clause-used c =
    used c.self.inside.parts.tables c.args.q c.at.result c.self.invariant.tidy
    (c.at.ensures.value ∙ ap (λ n. place_at n.parts.tables.places c.args.q) c.self-inside.view_is)
