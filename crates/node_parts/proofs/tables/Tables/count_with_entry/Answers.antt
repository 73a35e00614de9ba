use Rattle.std.proofs.Common.{arith}
use Rattle.node_parts.specs.Tables.{TablesView}
use Rattle.node_parts.proofs.Counts.{counted_most}
use Rattle.node_parts.proofs.Kept.{entry_below, entry_counted}
use Rattle.node_parts.proofs.Places.{changed_of}
use Rattle.node_parts.proofs.tables.Tables.count_with_entry.Goals as goal

pub overflow_sub-result : goal.overflow_sub-result
overflow_sub-result c =
    let v : TablesView = record { config = c.self.inside.config; places = c.self.inside.places.items } in
    let some = c.nodes.ensures.limits.some_nodes in
    let changed = changed_of v c.args.self.now c.nodes.result c.args.page c.index.result.now c.in-Some.table c.self.view_is c.self.invariant.fits c.nodes.ensures.value some c.index.ensures c.in-Some.is in
    entry_below v c.args.self.now c.nodes.result c.args.page c.self.inside.count c.listed_on.result c.in-Some.table changed c.self.invariant c.listed_on.ensures.value
    c.listed_on.ensures.entry

pub overflow_add-result : goal.overflow_add-result
overflow_add-result c =
    let v : TablesView = record { config = c.self.inside.config; places = c.self.inside.places.items } in
    let most = counted_most c.self.inside.count v c.self.invariant in
    let few = c.listed_of.ensures.short in
    omega (arith, most, few)

pub returns : goal.returns
returns c =
    let v : TablesView = record { config = c.self.inside.config; places = c.self.inside.places.items } in
    let some = c.nodes.ensures.limits.some_nodes in
    let changed = changed_of v c.args.self.now c.nodes.result c.args.page c.index.result.now c.in-Some.table c.self.view_is c.self.invariant.fits c.nodes.ensures.value some c.index.ensures c.in-Some.is in
    entry_counted v c.args.self.now c.nodes.result c.args.page c.self.inside.count c.listed_on.result c.listed_of.result c.in-Some.table c.args.entry.now changed
    c.self.invariant c.listed_on.ensures.value c.listed_on.ensures.entry c.listed_of.ensures.value c.listed_of.ensures.short
