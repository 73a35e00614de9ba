-- What a step of a node answers, in which order: its event's own reply, and behind it the accesses that it grants and the partitions that it serves.
use Rattle.std.specs.Prelude.{◌≡◌, Bool, true, false, List, [], ◌∷◌, Option, Some, None}
use Rattle.std.specs.List.{AllByRecursion}
use Rattle.pcl_base.specs.declared.reply.Reason.{Reason}
use Rattle.pcl_base.specs.declared.reply.Reply.{Reply}
use Rattle.pcl_base.specs.declared.reply.Reply.TheVariants as reply
use Rattle.pcl_base.specs.declared.tx.TxId.{TxId}
use Rattle.run_rules.specs.Causes.{is_installed}
use Rattle.run_rules.specs.Disk.{Disk}
use Rattle.run_rules.specs.Taking.{is_waiting}
use Rattle.node_rules.specs.NodeState.{NodeState, NodeEvent, Begin, Read, Write, Commit, Abort, Deliver, Evict, Flush, Install, Cut}
use Rattle.node_rules.specs.Refusals.{refusal}
use Rattle.node_rules.specs.Words.{same_tx}
use Rattle.node_rules.specs.Work.{Goes}
use Rattle.node_rules.specs.NodeStep.{Plan, nodestep}

-- a granted access, or a partition that is served
abbrev pub is_behind : Reply → Bool
is_behind (reply.Value t p v bytes) = true
is_behind (reply.Done t p v) = true
is_behind (reply.Serving q) = true
is_behind _ = false

-- the verdict on a message
abbrev pub is_verdict : Reply → Bool
is_verdict reply.Taken = true
is_verdict reply.Held = true
is_verdict reply.Dropped = true
is_verdict _ = false

-- a transaction was begun, was committed, was aborted
abbrev pub is_begun : Reply → Bool
is_begun (reply.Begun t) = true
is_begun _ = false

-- a commit of a transaction
abbrev pub is_committed : TxId → Reply → Bool
is_committed t (reply.Committed u) = same_tx u t
is_committed t _ = false

-- an abort of a transaction
abbrev pub is_aborted : TxId → Reply → Bool
is_aborted t (reply.Aborted u) = same_tx u t
is_aborted t _ = false

-- a copy left, or was written, or the log was cut
abbrev pub is_evicted : Reply → Bool
is_evicted reply.Evicted = true
is_evicted _ = false

-- a copy was written
abbrev pub is_flushed : Reply → Bool
is_flushed reply.Flushed = true
is_flushed _ = false

-- the log was cut
abbrev pub is_cut : Reply → Bool
is_cut (reply.Cut n) = true
is_cut _ = false

-- the own reply of an event
abbrev pub is_own : NodeEvent → Reply → Bool
is_own Begin r = is_begun r
is_own (Read t p) r = is_waiting t p r
is_own (Write t p place bytes) r = is_waiting t p r
is_own (Commit t) r = is_committed t r
is_own (Abort t) r = is_aborted t r
is_own (Deliver from m) r = is_verdict r
is_own (Evict p) r = is_evicted r
is_own (Flush p) r = is_flushed r
is_own (Install v) r = is_installed v.epoch r
is_own Cut r = is_cut r

-- an access
abbrev pub is_asking : NodeEvent → Bool
is_asking (Read t p) = true
is_asking (Write t p place bytes) = true
is_asking _ = false

-- some replies are behind the event's own
abbrev pub AreBehind : List Reply → Type 0
AreBehind rs = AllByRecursion (λ r. is_behind r ≡ true) rs

-- The replies to an event that isn't refused: its own first, or it is an access that was granted at once.
pub data AreAnswers (ev : NodeEvent) (rs : List Reply) : Type 0 where
  answered : (first : Reply) (rest : List Reply) → rs ≡ first ∷ rest → is_own ev first ≡ true → AreBehind rest → AreAnswers ev rs
  granted : is_asking ev ≡ true → AreBehind rs → AreAnswers ev rs

-- The replies to an event, by the reason for which it is refused, if it is.
abbrev pub AreReplies : Option Reason → NodeEvent → List Reply → Type 0
AreReplies (Some r) ev rs = rs ≡ reply.Refused r ∷ []
AreReplies None ev rs = AreAnswers ev rs

-- Each step answers so.
abbrev pub StepsAnswer : Type 0
StepsAnswer = (n : NodeState) (ev : NodeEvent) (d : Disk) (p : Plan) → nodestep n ev d ≡ Goes p → AreReplies (refusal n ev) ev p.replies
