-- What a step of a node sends: locks and their releases, or one request, or one answer, or reports.
use Rattle.std.specs.Prelude.{◌≡◌, ◌==◌, ◌&&◌, ◌≤◌, ◌+◌, ℕ, Bool, true, false, List, [], ◌∷◌, Option}
use Rattle.std.specs.List.{AllByRecursion}
use Rattle.pcl_base.specs.declared.message.Body.{Body}
use Rattle.pcl_base.specs.declared.message.Body.TheVariants as body
use Rattle.pcl_base.specs.declared.reply.Reply.{Reply}
use Rattle.pcl_base.specs.declared.reply.Reply.TheVariants as reply
use Rattle.pcl_base.specs.declared.tx.TxId.{TxId}
use Rattle.pcl_base.specs.declared.tx.Mode.{Mode}
use Rattle.pcl_base.specs.declared.tx.Mode.TheVariants.{Shared, Exclusive}
use Rattle.run_rules.specs.Disk.{Disk}
use Rattle.run_rules.specs.Views.{View, owner_of, since_of}
use Rattle.node_rules.specs.NodeState.{NodeState, NodeEvent, Read, Write, Deliver, Install, Outgoing, page_owner}
use Rattle.node_rules.specs.NodeStep.{Plan, nodestep}
use Rattle.node_rules.specs.Words.{same_tx}
use Rattle.node_rules.specs.Work.{Goes}

-- a grant, a release or a revocation: a message that gives a lock, ends one or asks one back
abbrev pub is_lock : Body → Bool
is_lock (body.Grant g) = true
is_lock (body.Release r) = true
is_lock (body.Revoke p) = true
is_lock _ = false

-- such messages alone
abbrev pub AreLocks : List Outgoing → Type 0
AreLocks os = AllByRecursion (λ o. is_lock o.message.body ≡ true) os

-- an access of a page in a mode
abbrev pub is_asked : NodeEvent → TxId → ℕ → Mode → Bool
is_asked (Read u q) t p Shared = same_tx u t && q == p
is_asked (Write u q place bytes) t p Exclusive = same_tx u t && q == p
is_asked _ t p m = false

-- behind a report of a partition, in a view in which its owner is new, come those of higher ones; what else is sent are locks
abbrev pub ReportsBehind : View → ℕ → ℕ → Body → (ℕ → Type 0) → Type 0
ReportsBehind v low to (body.Report r) rest = (low ≤ r.partition) × (owner_of v r.partition ≡ to) × (since_of v r.partition ≡ v.epoch) × rest (r.partition + 1)
ReportsBehind v low to b rest = (is_lock b ≡ true) × rest low

-- reports of partitions from `low` on and below `high`, rising
abbrev pub AreReports : View → ℕ → ℕ → List Outgoing → Type 0
AreReports v low high [] = low ≤ high
AreReports v low high (o ∷ os) = ReportsBehind v low o.to o.message.body (λ next. AreReports v next high os)

-- a message to a node, of an epoch
abbrev pub to_node : ℕ → ℕ → Body → Outgoing
to_node to epoch b = record { to = to; message = record { epoch = epoch; body = b } }

-- What a node sends that is at this state then, and has given these replies.
pub data SendsAre (ev : NodeEvent) (n : NodeState) (rs : List Reply) (os : List Outgoing) : Type 0 where
  locks : AreLocks os → SendsAre ev n rs os
  request : (t : TxId) (p : ℕ) (m : Mode) (have : Option ℕ) → is_asked ev t p m ≡ true → rs ≡ reply.Waits t p ∷ []
      → os ≡ to_node (page_owner n p) n.epoch (body.Request (record { tx = t; page = p; mode = m; have = have })) ∷ [] → SendsAre ev n rs os
  answer : (from epoch p : ℕ) (readers : List TxId) → ev ≡ Deliver from (record { epoch = epoch; body = body.Revoke p }) → rs ≡ reply.Taken ∷ []
      → os ≡ to_node from n.epoch (body.Return (record { page = p; readers = readers })) ∷ [] → SendsAre ev n rs os
  reports : (v : View) (high : ℕ) → ev ≡ Install v → AreReports v 0 high os → SendsAre ev n rs os

-- Each step sends so.
abbrev pub StepsSend : Type 0
StepsSend = (n : NodeState) (ev : NodeEvent) (d : Disk) (p : Plan) → nodestep n ev d ≡ Goes p → SendsAre ev p.node p.replies p.sends
