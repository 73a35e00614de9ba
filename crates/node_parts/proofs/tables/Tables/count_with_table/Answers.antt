use Rattle.std.proofs.Common.{arith}
use Rattle.node_parts.specs.Tables.{TablesView}
use Rattle.node_parts.proofs.Counts.{counted_most}
use Rattle.node_parts.proofs.Kept.{low_at, read_at, table_below, table_counted}
use Rattle.node_parts.proofs.tables.Tables.count_with_table.Goals as goal

pub overflow_sub-result : goal.overflow_sub-result
overflow_sub-result c =
    let v : TablesView = record { config = c.self.inside.config; places = c.self.inside.places.items } in
    let low = low_at v c.args.self.now c.args.q c.self.view_is c.self.invariant.fits c.requires.q in
    let there = read_at v.places c.args.q c.index.result.now low c.index.ensures in
    table_below v c.args.q c.self.inside.count c.listed_at-before.result c.index.result.now low there c.self.invariant c.listed_at-before.ensures.value

pub overflow_add-result : goal.overflow_add-result
overflow_add-result c =
    let v : TablesView = record { config = c.self.inside.config; places = c.self.inside.places.items } in
    let most = counted_most c.self.inside.count v c.self.invariant in
    let few = c.listed_at-now.ensures.most in
    omega (arith, most, few)

pub returns : goal.returns
returns c =
    let v : TablesView = record { config = c.self.inside.config; places = c.self.inside.places.items } in
    let low = low_at v c.args.self.now c.args.q c.self.view_is c.self.invariant.fits c.requires.q in
    let there = read_at v.places c.args.q c.index.result.now low c.index.ensures in
    table_counted v c.args.self.now c.args.q c.self.inside.count c.listed_at-before.result c.listed_at-now.result c.index.result.now c.args.table.now c.self.view_is low
    there c.self.invariant c.listed_at-before.ensures.value c.listed_at-now.ensures.value c.listed_at-now.ensures.short
