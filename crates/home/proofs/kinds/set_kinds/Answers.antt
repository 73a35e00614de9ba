use Rattle.std.proofs.Common.{◌≡◌, ◌∙◌, sym, ap, get_or}
use Rattle.pcl_base.specs.declared.tx.TxId.{TxId}
use Rattle.node_rules.specs.AccessRule.{kinds_on}
use Rattle.node_rules.specs.OpenTxs.{OpenTxs}
use Rattle.tx_table.specs.Counts.{wait_count}
use Rattle.home.proofs.HeldPages.{held_is_open, all_held, kinds_next, kinds_over, kinds_wait, kinds_node}
use Rattle.home.proofs.kinds.set_kinds.Goals as goal

abbrev first_tx : TxId
first_tx = record { node = 0; born = 0; serial = 0 }

all_changed : (c : goal.After-loop-holder) → c.loop-holder.txs ≡ kinds_on c.args.txs.now c.args.holders.now c.args.page c.args.kind
all_changed c =
    sym (kinds_over c.loop-holder.txs c.args.holders.now c.loop-holder.holder-index c.args.page c.args.kind c.loop-holder-test.false)
    ∙ c.loop-holder.invariant.rest

pub set_kind-requires-clause-open : goal.set_kind-requires-clause-open
set_kind-requires-clause-open c =
    held_is_open c.loop-holder.txs (get_or c.args.holders.now c.loop-holder.holder-index first_tx) c.args.page
    (c.loop-holder.invariant.held c.loop-holder.holder-index first_tx c.loop-holder-test.true)

pub loop-holder-preserved : goal.loop-holder-preserved
loop-holder-preserved c =
    record {
      rest =
          kinds_next c.loop-holder.txs c.set_kind.new.self c.args.holders.now c.loop-holder.holder-index first_tx c.args.page c.args.kind c.loop-holder-test.true c.set_kind.ensures
          ∙ c.loop-holder.invariant.rest;
      held = all_held c.loop-holder.txs c.set_kind.new.self c.args.holders.now (get_or c.args.holders.now c.loop-holder.holder-index first_tx) c.args.page c.args.kind c.set_kind.ensures c.loop-holder.invariant.held;
    }

pub returns-clause-kinds : goal.returns-clause-kinds
returns-clause-kinds c = all_changed c

pub returns-clause-waits : goal.returns-clause-waits
returns-clause-waits c = ap (λ (s : OpenTxs). wait_count s.txs) (all_changed c) ∙ kinds_wait c.args.txs.now c.args.holders.now c.args.page c.args.kind

pub returns-clause-node : goal.returns-clause-node
returns-clause-node c = ap (λ (s : OpenTxs). s.node) (all_changed c) ∙ kinds_node c.args.txs.now c.args.holders.now c.args.page c.args.kind
