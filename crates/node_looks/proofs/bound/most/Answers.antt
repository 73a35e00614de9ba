use Rattle.std.proofs.Common.{◌≡◌, ◌+◌, ◌*◌, ◌-◌, ◌^◌, min, length, ap, ◌∙◌, arith}
use Rattle.pcl_base.specs.Limits.{Sizes}
use Rattle.node_rules.specs.NodeState.{NodeState}
use Rattle.node_rules.specs.OpenTxs.{OpenTxs}
use Rattle.tx_table.specs.Counts.{lock_count, wait_count}
use Rattle.step_laws.specs.Most.{brought, sum_of}
use Rattle.node_parts.specs.Counts.{lists_in}
use Rattle.node_parts.specs.Events.{event_of}
use Rattle.node_parts.specs.State.{PartsView, node_of}
use Rattle.node_parts.specs.Tables.{lock_tables}
use Rattle.node_looks.proofs.Sums.{capped, most_is}
use Rattle.node_looks.proofs.bound.most.Goals as goal

pub returns : goal.returns
returns c =
    let n : NodeState = node_of c.args.parts.now in
    let nodes : c.nodes.result ≡ n.home.config.nodes =
    c.nodes.ensures.value ∙ (ap (λ (x : Sizes). x.nodes) c.config.ensures.value ∙ ap (λ (v : PartsView). v.home.config.nodes) c.parts.view_is) in
    let listed : c.listed.result ≡ min (sum_of lists_in n.tables) (2 ^ 64 - 1) =
    c.listed.ensures ∙ ap (λ (v : PartsView). min (sum_of lists_in (lock_tables v.tables.places)) (2 ^ 64 - 1)) c.parts.view_is in
    let accesses : c.wait_count.result ≡ wait_count n.home.txs.txs =
    c.wait_count.ensures ∙ (ap (λ (s : OpenTxs). wait_count s.txs) c.txs.ensures.value ∙ ap (λ (v : PartsView). wait_count v.home.txs.txs) c.parts.view_is) in
    let locks : c.lock_count.result ≡ lock_count n.home.txs.txs =
    c.lock_count.ensures ∙ (ap (λ (s : OpenTxs). lock_count s.txs) c.txs-2.ensures.value ∙ ap (λ (v : PartsView). lock_count v.home.txs.txs) c.parts.view_is) in
    let rights : c.count.result ≡ length n.home.shelf =
    c.count.ensures ∙ (ap length c.shelf.ensures.value ∙ ap (λ (v : PartsView). length v.home.shelf) c.parts.view_is) in
    let first = c.saturating_add.ensures in
    let second = c.saturating_add-2.ensures in
    let third = c.saturating_add-3.ensures in
    let fourth = c.saturating_add-4.ensures in
    let last = c.saturating_add-5.ensures in
    let came = c.brought.ensures in
    capped (2 ^ 64 - 1) (2 * n.home.config.nodes + 2) (sum_of lists_in n.tables) (wait_count n.home.txs.txs) (lock_count n.home.txs.txs) (length n.home.shelf)
    (brought (event_of c.args.event.now)) c.saturating_add.result c.saturating_add-2.result c.saturating_add-3.result c.saturating_add-4.result c.saturating_add-5.result
    (omega (arith, first, nodes, listed)) (omega (arith, second, accesses)) (omega (arith, third, locks)) (omega (arith, fourth, rights)) (omega (arith, last, came))
    ∙ ap (λ k. min k (2 ^ 64 - 1)) (most_is n (event_of c.args.event.now))
