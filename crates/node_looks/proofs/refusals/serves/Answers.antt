use Rattle.std.proofs.Common.{Some, None, ap, sym, ◌∙◌}
use Rattle.node_rules.specs.NodeState.{is_serving}
use Rattle.node_parts.specs.State.{PartsView}
use Rattle.node_looks.proofs.Seen.{table_seen}
use Rattle.node_looks.proofs.refusals.serves.Goals as goal

pub returns-in-None : goal.returns-in-None
returns-in-None c =
    ap is_serving
    (sym (table_seen c.args.parts.now c.parts.inside.tables.places c.config.result.now c.args.page c.partition.result None
    (ap (λ (v : PartsView). v.tables.places) c.parts.view_is) (c.config.ensures.value ∙ ap (λ (v : PartsView). v.home.config) c.parts.view_is) c.partition.ensures.value c.in-None.ensures.value))

pub returns-in-Some : goal.returns-in-Some
returns-in-Some c =
    let table = table_seen c.args.parts.now c.parts.inside.tables.places c.config.result.now c.args.page c.partition.result (Some c.in-Some.table.now)
    (ap (λ (v : PartsView). v.tables.places) c.parts.view_is) (c.config.ensures.value ∙ ap (λ (v : PartsView). v.home.config) c.parts.view_is) c.partition.ensures.value c.in-Some.ensures.value in
    c.serving.ensures ∙ ap is_serving (sym table)
