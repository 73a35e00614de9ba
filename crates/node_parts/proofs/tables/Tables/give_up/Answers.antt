use Rattle.node_parts.specs.Tables.{TablesView}
use Rattle.node_parts.proofs.Places.{changed_of, same_tables, put_tidy, used_given_up, found_there}
use Rattle.node_parts.proofs.Kept.{counted_same}
use Rattle.node_parts.proofs.tables.Tables.give_up.Goals as goal

pub returns-clause-tables : goal.returns-clause-tables
returns-clause-tables c =
    let v : TablesView = record { config = c.self.inside.config; places = c.self.inside.places.items } in
    let some = c.nodes.ensures.limits.some_nodes in
    let changed = changed_of v c.args.self.now c.nodes.result c.args.page c.index_mut-at.result.now c.in-Some.table c.self.view_is c.self.invariant.fits c.nodes.ensures.value some c.index_mut-at.ensures.value c.in-Some.is in
    same_tables v c.args.self.now c.nodes.result c.args.page c.in-Some.table c.tidy.new.self changed c.tidy.ensures.table

pub returns-clause-tidy : goal.returns-clause-tidy
returns-clause-tidy c =
    let v : TablesView = record { config = c.self.inside.config; places = c.self.inside.places.items } in
    let some = c.nodes.ensures.limits.some_nodes in
    let changed = changed_of v c.args.self.now c.nodes.result c.args.page c.index_mut-at.result.now c.in-Some.table c.self.view_is c.self.invariant.fits c.nodes.ensures.value some c.index_mut-at.ensures.value c.in-Some.is in
    λ ps tidy. put_tidy v c.args.self.now c.nodes.result c.args.page c.in-Some.table c.tidy.new.self ps changed c.tidy.ensures.others
    (used_given_up _ _ (found_there v c.args.self.now c.nodes.result c.args.page c.in-Some.table changed c.requires.made) c.tidy.ensures.given_up) tidy

pub invariant_of-self : goal.invariant_of-self
invariant_of-self c =
    let v : TablesView = record { config = c.self.inside.config; places = c.self.inside.places.items } in
    let some = c.nodes.ensures.limits.some_nodes in
    let changed = changed_of v c.args.self.now c.nodes.result c.args.page c.index_mut-at.result.now c.in-Some.table c.self.view_is c.self.invariant.fits c.nodes.ensures.value some c.index_mut-at.ensures.value c.in-Some.is in
    counted_same v c.args.self.now c.nodes.result c.args.page c.self.inside.count c.in-Some.table c.tidy.new.self changed c.self.invariant c.tidy.ensures.place c.tidy.ensures.table
