use Rattle.node_parts.specs.Tables.{TablesView}
use Rattle.node_parts.proofs.Places.{changed_of, put_tables, put_tidy, used_tidied}
use Rattle.node_parts.proofs.Kept.{counted_put}
use Rattle.node_parts.proofs.tables.Tables.put.Goals as goal

pub returns-clause-tables : goal.returns-clause-tables
returns-clause-tables c =
    let v : TablesView = record { config = c.self.inside.config; places = c.self.inside.places.items } in
    let some = c.nodes.ensures.limits.some_nodes in
    let changed = changed_of v c.args.self.now c.nodes.result c.args.page c.index_mut-at.result.now c.in-Some.table c.self.view_is c.self.invariant.fits c.nodes.ensures.value some c.index_mut-at.ensures.value c.in-Some.is in
    put_tables v c.args.self.now c.nodes.result c.args.page c.args.entry c.in-Some.table c.put_in.new.table changed c.put_in.ensures.table

pub returns-clause-tidy : goal.returns-clause-tidy
returns-clause-tidy c =
    let v : TablesView = record { config = c.self.inside.config; places = c.self.inside.places.items } in
    let some = c.nodes.ensures.limits.some_nodes in
    let changed = changed_of v c.args.self.now c.nodes.result c.args.page c.index_mut-at.result.now c.in-Some.table c.self.view_is c.self.invariant.fits c.nodes.ensures.value some c.index_mut-at.ensures.value c.in-Some.is in
    λ ps tidy. put_tidy v c.args.self.now c.nodes.result c.args.page c.in-Some.table c.put_in.new.table ps changed c.put_in.ensures.others
    (used_tidied c.args.entry _ c.put_in.ensures.entry) tidy

pub invariant_of-self : goal.invariant_of-self
invariant_of-self c =
    let v : TablesView = record { config = c.self.inside.config; places = c.self.inside.places.items } in
    let some = c.nodes.ensures.limits.some_nodes in
    let changed = changed_of v c.args.self.now c.nodes.result c.args.page c.index_mut-at.result.now c.in-Some.table c.self.view_is c.self.invariant.fits c.nodes.ensures.value some c.index_mut-at.ensures.value c.in-Some.is in
    counted_put v c.args.self.now c.nodes.result c.args.page c.self.inside.count c.count_with_entry-self-inside.result c.args.entry c.in-Some.table c.put_in.new.table changed c.self.invariant
    c.put_in.ensures.place c.put_in.ensures.table c.count_with_entry-self-inside.ensures
