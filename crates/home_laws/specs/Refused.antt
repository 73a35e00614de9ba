-- The refusals of an access, over the home alone: the first condition that holds, in their order.
use Rattle.std.specs.Prelude.{ℕ, ◌+◌, ◌==◌, ◌||◌, not, nat_lt, nat_le, Bool, false, List, length, Option, Some, None, is_some}
use Rattle.pcl_base.specs.declared.reply.Reason.{Reason}
use Rattle.pcl_base.specs.declared.reply.Reason.TheVariants as reason
use Rattle.node_rules.specs.OpenTxs.{is_open, pending_of}
use Rattle.node_rules.specs.BufferRule.{fits}
use Rattle.node_rules.specs.NodeState.{HomeState}
use Rattle.node_rules.specs.AccessRule.{Access}
use Rattle.node_rules.specs.Refusals.{refuse_if}

-- a write of no bytes, or of some past the end of the page; a read has none
abbrev pub is_bad_range : ℕ → Option (ℕ × List ℕ) → Bool
is_bad_range size None = false
is_bad_range size (Some write) = length write.1 == 0 || nat_lt size (write.0 + length write.1)

-- the first reason against an access, or none
unfoldable pub access_refusal : Access → HomeState → Option Reason
access_refusal a h =
    refuse_if (not (is_open h.txs a.tx)) reason.NoTx
    (refuse_if (is_some (pending_of h.txs a.tx)) reason.TxWaits
    (refuse_if (nat_le h.config.pages a.page) reason.NoPage
    (refuse_if (is_bad_range h.config.size a.write) reason.BadRange
    (refuse_if (not (fits h.pool a.tx a.page (is_some a.write))) reason.NoFrame None))))
