-- The refusals that a node itself sees: the first condition that holds, in their order.
use Rattle.std.specs.Prelude.{ℕ, ◌+◌, ◌-◌, ◌^◌, ◌==◌, ◌&&◌, ◌||◌, not, nat_lt, nat_le, Bool, true, false, List, length, Option, Some, None, is_some}
use Rattle.std.specs.List.{list_all}
use Rattle.pcl_base.specs.declared.tx.TxId.{TxId}
use Rattle.pcl_base.specs.declared.reply.Reason.{Reason}
use Rattle.pcl_base.specs.declared.reply.Reason.TheVariants as reason
use Rattle.run_rules.specs.Views.{View, owner_of, since_of, born_of, follows, count_from}
use Rattle.node_rules.specs.OpenTxs.{is_open, pending_of}
use Rattle.node_rules.specs.BufferRule.{find, pinned, fits}
use Rattle.node_rules.specs.NodeState.{NodeState, NodeEvent, Begin, Read, Write, Commit, Abort, Deliver, Evict, Flush, Install, Cut, number_of, table_of, is_serving}
use Rattle.node_rules.specs.EndRule.{at_version_end}

-- a reason where a condition holds, else what comes after
abbrev pub refuse_if : Bool → Reason → Option Reason → Option Reason
refuse_if true r further = Some r
refuse_if false r further = further

-- whether a transaction isn't open
abbrev pub not_open : NodeState → TxId → Bool
not_open n t = not (is_open n.home.txs t)

-- whether a transaction waits
abbrev pub waits : NodeState → TxId → Bool
waits n t = is_some (pending_of n.home.txs t)

-- whether a page isn't one of the database
abbrev pub no_page : NodeState → ℕ → Bool
no_page n p = nat_le n.home.config.pages p

-- no bytes, or some past the end of the page
abbrev pub bad_range : NodeState → ℕ → List ℕ → Bool
bad_range n place bytes = length bytes == 0 || nat_lt n.home.config.size (place + length bytes)

-- whether an access finds too few frames
abbrev pub no_frame : NodeState → TxId → ℕ → Bool → Bool
no_frame n t p write = not (fits n.home.pool t p write)

-- whether a page has no copy
abbrev pub no_copy : NodeState → ℕ → Bool
no_copy n p = not (is_some (find n.home.pool p))

-- whether a node in no view may begin with a view: it was born in it, each partition that it owns
-- there is new, and the view is later than the node
abbrev pub owns_new : View → ℕ → ℕ → Bool
owns_new v me q = not (owner_of v q == me) || since_of v q == v.epoch

-- whether a view may be the first one of a node
abbrev pub may_begin : NodeState → View → Bool
may_begin n v =
    (born_of v (number_of n) == v.epoch && nat_lt n.epoch v.epoch)
    && list_all (owns_new v (number_of n)) (count_from 0 n.home.config.nodes)

-- whether a node may install a view
abbrev pub may_install : NodeState → Option View → View → Bool
may_install n None v = may_begin n v
may_install n (Some before) v = follows n.home.config before v

-- the reason against an event of a node in a view
abbrev pub refusal_in_view : NodeState → NodeEvent → Option Reason
refusal_in_view n Begin =
    refuse_if (n.home.txs.last == 2 ^ 32 - 1) reason.SerialEnd
    (refuse_if (nat_le 1024 (length n.home.txs.txs)) reason.TooMany None)
refusal_in_view n (Read t p) =
    refuse_if (not_open n t) reason.NoTx
    (refuse_if (waits n t) reason.TxWaits
    (refuse_if (no_page n p) reason.NoPage (refuse_if (no_frame n t p false) reason.NoFrame None)))
refusal_in_view n (Write t p place bytes) =
    refuse_if (not_open n t) reason.NoTx
    (refuse_if (waits n t) reason.TxWaits
    (refuse_if (no_page n p) reason.NoPage
    (refuse_if (bad_range n place bytes) reason.BadRange
    (refuse_if (no_frame n t p true) reason.NoFrame None))))
refusal_in_view n (Commit t) =
    refuse_if (not_open n t) reason.NoTx
    (refuse_if (waits n t) reason.TxWaits (refuse_if (at_version_end n.home t) reason.VersionEnd None))
refusal_in_view n (Abort t) = refuse_if (not_open n t) reason.NoTx None
refusal_in_view n (Deliver from m) = None
refusal_in_view n (Evict p) =
    refuse_if (no_page n p) reason.NoPage
    (refuse_if (no_copy n p) reason.NoCopy (refuse_if (pinned n.home.pool p) reason.Pinned None))
refusal_in_view n (Flush p) =
    refuse_if (no_page n p) reason.NoPage
    (refuse_if (no_copy n p) reason.NoCopy (refuse_if (not (is_serving (table_of n p))) reason.NotOwner None))
refusal_in_view n (Install v) = None
refusal_in_view n Cut = None

-- the first reason against an event, or none
unfoldable pub refusal : NodeState → NodeEvent → Option Reason
refusal n (Install v) = refuse_if (not (may_install n n.view v)) reason.NoView None
refusal n event = refuse_if (not (is_some n.view)) reason.NotInView (refusal_in_view n event)
