-- Granted accesses, and where they stand at their home once the step is done.
use Rattle.std.specs.Prelude.{◌≡◌, ℕ, ◌^◌, ◌<◌, Bool, true, false, List, ◌++◌, Option, Some, None, is_some, IfSome}
use Rattle.std.specs.List.{AllByRecursion}
use Rattle.pcl_base.specs.declared.reply.Reply.{Reply}
use Rattle.pcl_base.specs.declared.reply.Reply.TheVariants as reply
use Rattle.pcl_base.specs.declared.tx.TxId.{TxId}
use Rattle.run_rules.specs.Disk.{Disk}
use Rattle.node_rules.specs.OpenTxs.{held_by, pending_of, waits_on}
use Rattle.node_rules.specs.BufferRule.{find}
use Rattle.node_rules.specs.NodeState.{HomeState, NodeState, NodeEvent}
use Rattle.node_rules.specs.NodeStep.{Plan}
use Rattle.node_laws.specs.Laws.{IsStep}

-- The transaction holds the page and doesn't wait for it, and the page's copy has this version.
pub record StandsAt (h : HomeState) (t : TxId) (p v : ℕ) : Type 0 where
  pub holds : is_some (held_by h.txs t p) ≡ true
  pub waits : waits_on (pending_of h.txs t) p ≡ false
  pub version : find h.pool p ≡ Some v

-- an access that a reply grants: the page, and its version
pub record Given : Type 0 where
  pub tx : TxId
  pub page : ℕ
  pub version : ℕ

-- the access that a reply grants, if it grants one
abbrev pub given_by : Reply → Option Given
given_by (reply.Value t p v bytes) = Some (record { tx = t; page = p; version = v })
given_by (reply.Done t p v) = Some (record { tx = t; page = p; version = v })
given_by _ = None

-- whether a reply tells a commit point
abbrev pub is_commit : Reply → Bool
is_commit (reply.Committed t) = true
is_commit _ = false

-- An access that a reply grants stands so; and the reply tells no commit point.
abbrev pub ReplyStands : HomeState → Reply → Type 0
ReplyStands h r = IfSome (given_by r) (λ g. StandsAt h g.tx g.page g.version) × (is_commit r ≡ false)

-- Replies of a step: granted accesses stand at the home, and commit points come before them.
pub record RepliesStand (h : HomeState) (rs : List Reply) : Type 0 where
  pub front : List Reply
  pub rest : List Reply
  pub joined : rs ≡ front ++ rest
  pub none : AllByRecursion (λ r. given_by r ≡ None) front
  pub stand : AllByRecursion (ReplyStands h) rest

-- What a node grants in a step stands at its home after it.
abbrev pub GrantsStand : Type 0
GrantsStand = (n : NodeState) (event : NodeEvent) (d : Disk) (p : Plan) → IsStep n event d p → RepliesStand p.node.home p.replies

-- A home gives fewer serials than there are.
abbrev pub StepsKeepSerials : Type 0
StepsKeepSerials = (n : NodeState) (event : NodeEvent) (d : Disk) (p : Plan) → IsStep n event d p → n.home.txs.last < 2 ^ 32 → p.node.home.txs.last < 2 ^ 32
