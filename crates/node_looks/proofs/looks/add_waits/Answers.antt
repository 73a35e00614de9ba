use Rattle.std.proofs.Common.{◌≡◌, ◌<◌, ◌++◌, Some, None, ap, sym, subst, ◌∙◌}
use Rattle.std.proofs.lemmas.List.{append-nil}
use Rattle.pcl_base.specs.Limits.{Sizes}
use Rattle.node_looks.specs.Looks.{waiters_in, waits_in}
use Rattle.node_parts.specs.State.{PartsView}
use Rattle.node_parts.proofs.Places.{on_ok}
use Rattle.node_looks.proofs.Seen.{page_of_table, table_seen}
use Rattle.node_looks.proofs.looks.add_waits.Goals as goal

pub add_waits_in-requires : goal.add_waits_in-requires
add_waits_in-requires c =
    let config : c.config.result.now ≡ c.args.parts.now.home.config = c.config.ensures.value ∙ ap (λ (v : PartsView). v.home.config) c.parts.view_is in
    page_of_table c.parts.inside.tables.config c.config.result.now c.args.page c.partition.result c.in-Some.table.now c.in-Some.ensures.place
    (ap (λ (v : PartsView). v.tables.config) c.parts.view_is ∙ (c.requires.parts.config ∙ sym config))
    (subst (λ (x : Sizes). c.args.page < x.pages) (sym config) c.requires.page) c.partition.ensures.value

pub returns-in-None : goal.returns-in-None
returns-in-None c =
    let none = table_seen c.args.parts.now c.parts.inside.tables.places c.config.result.now c.args.page c.partition.result None
    (ap (λ (v : PartsView). v.tables.places) c.parts.view_is) (c.config.ensures.value ∙ ap (λ (v : PartsView). v.home.config) c.parts.view_is) c.partition.ensures.value c.in-None.ensures.value in
    sym (append-nil c.args.items.now.items) ∙ ap (λ t. c.args.items.now.items ++ waits_in c.args.page (waiters_in t c.args.page)) (sym none)

pub returns-in-Some : goal.returns-in-Some
returns-in-Some c =
    let table = table_seen c.args.parts.now c.parts.inside.tables.places c.config.result.now c.args.page c.partition.result (Some c.in-Some.table.now)
    (ap (λ (v : PartsView). v.tables.places) c.parts.view_is) (c.config.ensures.value ∙ ap (λ (v : PartsView). v.home.config) c.parts.view_is) c.partition.ensures.value c.in-Some.ensures.value in
    on_ok _ _ c.add_waits_in.result
    (λ made. made ∙ ap (λ t. c.args.items.now.items ++ waits_in c.args.page (waiters_in t c.args.page)) (sym table)) c.add_waits_in.ensures
