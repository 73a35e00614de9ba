use Rattle.std.proofs.Common.{IsSome, subst, sym, ap, ◌∙◌}
use Rattle.lock_table.specs.Tables.{TableView, found}
use Rattle.node_parts.specs.Tables.{TablesView}
use Rattle.node_parts.proofs.Places.{changed_of, same_tables, same_or_made, made_found, made_others, made_tidy, found_made, found_made_past, on_ok}
use Rattle.node_parts.proofs.Kept.{counted_same, place_made}
use Rattle.node_parts.proofs.tables.Tables.make.Goals as goal

pub returns-clause-made : goal.returns-clause-made
returns-clause-made c =
    let v : TablesView = record { config = c.self.inside.config; places = c.self.inside.places.items } in
    let some = c.nodes.ensures.limits.some_nodes in
    let changed = changed_of v c.args.self.now c.nodes.result c.args.page c.index_mut-at.result.now c.in-Some.table c.self.view_is c.self.invariant.fits c.nodes.ensures.value some c.index_mut-at.ensures.value c.in-Some.is in
    on_ok _ _ c.make_in.result
    (λ made. made_found v c.args.self.now c.nodes.result c.args.page c.in-Some.table c.make_in.new.table changed
    (subst (λ (x : TableView). IsSome (found x c.args.page)) (sym made) (found_made c.in-Some.table c.args.page)))
    c.make_in.ensures.made

pub returns-clause-others : goal.returns-clause-others
returns-clause-others c =
    let v : TablesView = record { config = c.self.inside.config; places = c.self.inside.places.items } in
    let some = c.nodes.ensures.limits.some_nodes in
    let changed = changed_of v c.args.self.now c.nodes.result c.args.page c.index_mut-at.result.now c.in-Some.table c.self.view_is c.self.invariant.fits c.nodes.ensures.value some c.index_mut-at.ensures.value c.in-Some.is in
    on_ok _ _ c.make_in.result
    (λ made p other. made_others v c.args.self.now c.nodes.result c.args.page p c.in-Some.table c.make_in.new.table changed
    (ap (λ (x : TableView). found x p) made ∙ found_made_past c.in-Some.table c.args.page p other))
    c.make_in.ensures.made

pub returns-clause-tables : goal.returns-clause-tables
returns-clause-tables c =
    let v : TablesView = record { config = c.self.inside.config; places = c.self.inside.places.items } in
    let some = c.nodes.ensures.limits.some_nodes in
    let changed = changed_of v c.args.self.now c.nodes.result c.args.page c.index_mut-at.result.now c.in-Some.table c.self.view_is c.self.invariant.fits c.nodes.ensures.value some c.index_mut-at.ensures.value c.in-Some.is in
    same_tables v c.args.self.now c.nodes.result c.args.page c.in-Some.table c.make_in.new.table changed
    (same_or_made c.make_in.result c.in-Some.table c.make_in.new.table c.args.page c.make_in.ensures.made c.make_in.ensures.err)

pub returns-clause-tidy : goal.returns-clause-tidy
returns-clause-tidy c =
    let v : TablesView = record { config = c.self.inside.config; places = c.self.inside.places.items } in
    let some = c.nodes.ensures.limits.some_nodes in
    let changed = changed_of v c.args.self.now c.nodes.result c.args.page c.index_mut-at.result.now c.in-Some.table c.self.view_is c.self.invariant.fits c.nodes.ensures.value some c.index_mut-at.ensures.value c.in-Some.is in
    on_ok _ _ c.make_in.result
    (λ made ps tidy. made_tidy v c.args.self.now c.nodes.result c.args.page c.in-Some.table c.make_in.new.table ps changed
    (λ p other. ap (λ (x : TableView). found x p) made ∙ found_made_past c.in-Some.table c.args.page p other) tidy)
    c.make_in.ensures.made

pub invariant_of-self : goal.invariant_of-self
invariant_of-self c =
    let v : TablesView = record { config = c.self.inside.config; places = c.self.inside.places.items } in
    let some = c.nodes.ensures.limits.some_nodes in
    let changed = changed_of v c.args.self.now c.nodes.result c.args.page c.index_mut-at.result.now c.in-Some.table c.self.view_is c.self.invariant.fits c.nodes.ensures.value some c.index_mut-at.ensures.value c.in-Some.is in
    counted_same v c.args.self.now c.nodes.result c.args.page c.self.inside.count c.in-Some.table c.make_in.new.table changed c.self.invariant
    (place_made c.make_in.result c.in-Some.table c.make_in.new.table c.args.page c.make_in.ensures.made c.make_in.ensures.err)
    (same_or_made c.make_in.result c.in-Some.table c.make_in.new.table c.args.page c.make_in.ensures.made c.make_in.ensures.err)
