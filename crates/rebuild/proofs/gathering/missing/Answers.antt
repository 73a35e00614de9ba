use Rattle.std.proofs.Common.{◌∙◌, sym, ap, arith}
use Rattle.std.specs.List.{list_any}
use Rattle.run_rules.specs.Views.{count_from}
use Rattle.node_rules.specs.Reports.{missing, is_missing}
use Rattle.lock_table.specs.Tables.{table_of}
use Rattle.rebuild.proofs.Counted.{count_found, count_past, count_end}
use Rattle.rebuild.proofs.gathering.missing.Goals as goal

pub loop-node-init : goal.loop-node-init
loop-node-init c =
    let end = c.nodes-node-end.ensures.value in
    let all = c.requires.nodes in
    ap (λ k. list_any (is_missing (table_of c.args.t.now) c.args.v.now c.args.t.now.partition) (count_from 0 k)) (omega (arith, end, all))

pub loop-node-preserved : goal.loop-node-preserved
loop-node-preserved c =
    sym (count_past (is_missing (table_of c.args.t.now) c.args.v.now c.args.t.now.partition) c.loop-node.node c.nodes-node-end.result c.loop-node-test.true (sym c.is_missing.ensures ∙ c.if-is_missing.false))
    ∙ c.loop-node.invariant

pub returns-then-is_missing : goal.returns-then-is_missing
unfolding missing
returns-then-is_missing c =
    sym (count_found (is_missing (table_of c.args.t.now) c.args.v.now c.args.t.now.partition) c.loop-node.node c.nodes-node-end.result c.loop-node-test.true (sym c.is_missing.ensures ∙ c.if-is_missing.true))
    ∙ c.loop-node.invariant

pub returns : goal.returns
unfolding missing
returns c =
    sym (count_end (is_missing (table_of c.args.t.now) c.args.v.now c.args.t.now.partition) c.loop-node.node c.nodes-node-end.result c.loop-node-test.false)
    ∙ c.loop-node.invariant
