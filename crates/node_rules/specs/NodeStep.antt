-- One step of a node: from its state, an event, and the pages and logs on disk, the state after it,
-- its replies, its sends and its changing calls in order.
use Rattle.std.specs.Prelude.{ℕ, ◌+◌, ◌==◌, Bool, true, false, List, [], ◌∷◌, ◌++◌, Option, Some, None}
use Rattle.pcl_base.specs.Limits.{Sizes}
use Rattle.pcl_base.specs.declared.lock.Verdict.{Verdict}
use Rattle.pcl_base.specs.declared.lock.Verdict.TheVariants as verdict
use Rattle.pcl_base.specs.declared.message.Body.{Body}
use Rattle.pcl_base.specs.declared.message.Body.TheVariants as body
use Rattle.pcl_base.specs.declared.message.Grant.{Grant}
use Rattle.pcl_base.specs.declared.message.Message.{Message}
use Rattle.pcl_base.specs.declared.message.ReturnRight.{ReturnRight}
use Rattle.pcl_base.specs.declared.reply.Reason.{Reason}
use Rattle.pcl_base.specs.declared.reply.Reply.{Reply}
use Rattle.pcl_base.specs.declared.reply.Reply.TheVariants as reply
use Rattle.run_rules.specs.Views.{View}
use Rattle.node_rules.specs.Judging.{judge}
use Rattle.node_rules.specs.LockRule.{ask, returned}
use Rattle.node_rules.specs.LockTable.{LockTable}
use Rattle.node_rules.specs.OpenTxs.{name_of, begin}
use Rattle.node_rules.specs.BufferRule.{evict}
use Rattle.node_rules.specs.NodeState.{NodeState, NodeEvent, Begin, Read, Write, Commit, Abort, Deliver, Evict, Flush, Install, Cut, Outgoing, number_of, partition, table_of}
use Rattle.run_rules.specs.Disk.{Disk, log_at}
use Rattle.node_rules.specs.DiskCalls.{DiskCall, CutLog}
use Rattle.node_rules.specs.Work.{Work, Outcome, Goes, and_so, work_of_home, with_home, with_home_work, reply, some_reply, send, write_back}
use Rattle.node_rules.specs.AccessRule.{Arrived, Answered, on_grant, on_revoke, on_pool}
use Rattle.node_rules.specs.EndRule.{commit, abort}
use Rattle.node_rules.specs.OwnerRule.{enter, do_access, on_release, end_work}
use Rattle.node_rules.specs.InstallRule.{install_view, on_report}
use Rattle.node_rules.specs.CutRule.{cuttable}
use Rattle.node_rules.specs.Refusals.{refusal}

-- the work before a step
abbrev pub begin_work : NodeState → Disk → Work
begin_work n d = record { node = n; pages = d.pages; calls = []; replies = []; sends = [] }

-- the partition of which a message speaks
abbrev pub partition_of : Sizes → Body → ℕ
partition_of c (body.Request r) = partition c r.page
partition_of c (body.Grant g) = partition c g.page
partition_of c (body.Release r) = partition c r.page
partition_of c (body.Revoke p) = partition c p
partition_of c (body.Return r) = partition c r.page
partition_of c (body.Report r) = r.partition

-- a grant, which an owner ignores where the page is its own
abbrev pub after_grant : Work → Arrived → Work
after_grant w a = some_reply a.reply (with_home_work w a.work)

-- a grant is taken where the page isn't the node's own
abbrev pub take_grant : Option LockTable → Grant → Work → Outcome Work
take_grant None g w = and_so (on_grant g false (work_of_home w)) (after_grant w)
take_grant (Some t) g w = Goes w

-- a revocation is answered to its sender
abbrev pub send_answer : ℕ → Option ReturnRight → Work → Work
send_answer to None w = w
send_answer to (Some r) w = send to (body.Return r) w

-- a revocation is taken
abbrev pub take_revoke : ℕ → Work → Answered → Work
take_revoke from w a = send_answer from a.answer (with_home w a.home)

-- a taken message is worked off
abbrev pub work_off : Disk → ℕ → Body → Work → Outcome Work
work_off d from (body.Request r) w =
    enter (λ e. ask e (record { tx = r.tx; mode = r.mode; have = r.have })) r.page w
work_off d from (body.Grant g) w = take_grant (table_of w.node g.page) g w
work_off d from (body.Release r) w = on_release r w
work_off d from (body.Revoke p) w = Goes (take_revoke from w (on_revoke p w.node.home))
work_off d from (body.Return r) w = enter (λ e. returned e from r.readers) r.page w
work_off d from (body.Report r) w = on_report d from r w

-- a message by its verdict
abbrev pub by_verdict : Verdict → Disk → ℕ → Body → Work → Outcome Work
by_verdict verdict.Taken d from b w = work_off d from b (reply reply.Taken w)
by_verdict verdict.Held d from b w = Goes (reply reply.Held w)
by_verdict verdict.Dropped d from b w = Goes (reply reply.Dropped w)

-- the verdict at a node, which holds all while it is in no view
abbrev pub judge_in : Option View → ℕ → ℕ → ℕ → ℕ → Verdict
judge_in None me from epoch q = verdict.Held
judge_in (Some v) me from epoch q = judge v me from epoch q

-- a message is judged and worked off
unfoldable pub take_message : Disk → ℕ → Message → Work → Outcome Work
take_message d from m w =
    by_verdict
    (judge_in w.node.view (number_of w.node) from m.epoch (partition_of w.node.home.config m.body))
    d from m.body w

-- a transaction is opened
abbrev pub open_tx : Work → Work
open_tx w =
    reply (reply.Begun (name_of w.node.home.txs (w.node.home.txs.last + 1)))
    (with_home w (record (w.node.home) { txs = begin w.node.home.txs }))

-- a copy is written where it is dirty, and leaves or stays
abbrev pub evict_copy : ℕ → Work → Work
evict_copy p w =
    reply reply.Evicted (with_home_work w (on_pool (λ b. evict b p) (write_back p (work_of_home w))))

-- a dirty copy is written and stays
abbrev pub flush_copy : ℕ → Work → Work
flush_copy p w = reply reply.Flushed (with_home_work w (write_back p (work_of_home w)))

-- what is on disk is cut from the front of the log
abbrev pub cut_if : Bool → ℕ → Work → Work
cut_if true n w = w
cut_if false n w = record w { calls = w.calls ++ CutLog n ∷ [] }

-- so many bytes are cut from the front of the log
abbrev pub cut_front : Work → ℕ → Work
cut_front w n = reply (reply.Cut n) (cut_if (n == 0) n w)

-- the log is cut as far as it may be
abbrev pub cut_log : Disk → Work → Outcome Work
cut_log d w = and_so (cuttable w.node.home.config d.pages (log_at d (number_of w.node))) (cut_front w)

-- an event that isn't refused
unfoldable pub do_event : Disk → NodeEvent → Work → Outcome Work
do_event d Begin w = Goes (open_tx w)
do_event d (Read t p) w = do_access (record { tx = t; page = p; write = None }) w
do_event d (Write t p place bytes) w = do_access (record { tx = t; page = p; write = Some (place, bytes) }) w
do_event d (Commit t) w = end_work (reply.Committed t) t w (commit t (work_of_home w))
do_event d (Abort t) w = end_work (reply.Aborted t) t w (abort t (work_of_home w))
do_event d (Deliver from m) w = take_message d from m w
do_event d (Evict p) w = Goes (evict_copy p w)
do_event d (Flush p) w = Goes (flush_copy p w)
do_event d (Install v) w = install_view d v w
do_event d Cut w = cut_log d w

-- a refused event changes nothing
abbrev pub unless_refused : Option Reason → Disk → NodeEvent → Work → Outcome Work
unless_refused (Some r) d event w = Goes (reply (reply.Refused r) w)
unless_refused None d event w = do_event d event w

-- the plan of a step: the state after it, what it answers and sends, and its changing calls
pub record Plan : Type 0 where
  pub node : NodeState
  pub replies : List Reply
  pub sends : List Outgoing
  pub calls : List DiskCall

-- the plan of a step that is done
abbrev pub plan_of : Work → Plan
plan_of w = record { node = w.node; replies = w.replies; sends = w.sends; calls = w.calls }

-- the plan of a node's step on an event, or a page that was read and differs
unfoldable pub nodestep : NodeState → NodeEvent → Disk → Outcome Plan
nodestep n event d = and_so (unless_refused (refusal n event) d event (begin_work n d)) plan_of
