-- The refusals of an end, over the home alone: the first condition that holds, in their order.
use Rattle.std.specs.Prelude.{not, Option, None, is_some}
use Rattle.pcl_base.specs.declared.tx.TxId.{TxId}
use Rattle.pcl_base.specs.declared.reply.Reason.{Reason}
use Rattle.pcl_base.specs.declared.reply.Reason.TheVariants as reason
use Rattle.node_rules.specs.OpenTxs.{is_open, pending_of}
use Rattle.node_rules.specs.NodeState.{HomeState}
use Rattle.node_rules.specs.EndRule.{at_version_end}
use Rattle.node_rules.specs.Refusals.{refuse_if}

-- the first reason against a commit, or none
unfoldable pub commit_refusal : TxId → HomeState → Option Reason
commit_refusal t h =
    refuse_if (not (is_open h.txs t)) reason.NoTx
    (refuse_if (is_some (pending_of h.txs t)) reason.TxWaits (refuse_if (at_version_end h t) reason.VersionEnd None))

-- the reason against an abort, or none
unfoldable pub abort_refusal : TxId → HomeState → Option Reason
abort_refusal t h = refuse_if (not (is_open h.txs t)) reason.NoTx None
