-- A message that speaks of the page and may be sent.
use Rattle.std.specs.Prelude.{◌≡◌, ℕ, ◌≤◌, ◌==◌, true, false, Some}
use Rattle.std.specs.List.{AllByRecursion}
use Rattle.pcl_base.specs.declared.event.Event.{Event}
use Rattle.pcl_base.specs.declared.message.Body.{Body}
use Rattle.pcl_base.specs.declared.message.Message.{Message}
use Rattle.pcl_base.specs.declared.tx.TxId.{TxId}
use Rattle.node_rules.specs.NodeState.{NodeState, partition}
use Rattle.node_rules.specs.Work.{Work, send}
use Rattle.cluster_rules.specs.Clusters.{Cluster, node_at}
use Rattle.cluster_laws.specs.Era.Eras.{era_at}
use Rattle.cluster_laws.specs.Link.Coming.{is_coming, coming}
use Rattle.cluster_laws.specs.Link.EpochLaws.{IsInOrder}
use Rattle.cluster_laws.specs.Link.Orders.{is_report, how_many}
use Rattle.page_protocol.specs.State.{Page}
use Rattle.page_relation.specs.Messages.{SaysSo, is_release, is_right, is_answer}
use Rattle.page_relation.specs.Relation.{LinksAre}
use Rattle.page_relation.specs.Work.Keeping.{IsWorkOf}
use Rattle.page_relation.specs.Work.Landing.{land, Acts}

-- a message of the work's epoch
abbrev pub message_of : Work → Body → Message
message_of w body = record { epoch = w.node.epoch; body = body }

-- A message, not a report, to another node: if it counts there it says what the machine has; nothing that comes
-- on the link is of a later epoch; and no other release of its transaction, right or answer comes on it.
pub record MaySend (c : Cluster) (e : Event) (n p : ℕ) (w : Work) (a : Page) (to : ℕ) (body : Body) : Type 0 where
  pub other : (to == n) ≡ false
  pub no_report : is_report body ≡ false
  pub says : is_coming c.config p n (node_at c to) (message_of w body) ≡ true
      → SaysSo a.era a.hist a.reached a.listed a.right a.home a.sent p n to (era_at c (partition c.config p) w.node.epoch) body
  pub behind : AllByRecursion (λ (m : Message). m.epoch ≤ w.node.epoch) (coming (land c e n w) p n to)
  pub no_release : (t : TxId) → is_release t body ≡ true → how_many (is_release t) (coming (land c e n w) p n to) ≡ 0
  pub no_right : is_right body ≡ true → how_many is_right (coming (land c e n w) p n to) ≡ 0
  pub no_answer : is_answer body ≡ true → how_many is_answer (coming (land c e n w) p n to) ≡ 0

-- the links with it
abbrev pub SendIsLinked : Type 0
SendIsLinked =
    (c : Cluster) (e : Event) (n p to : ℕ) (body : Body) (w : Work) (a : Page) → Acts c n → MaySend c e n p w a to body
    → LinksAre (land c e n w) p (partition c.config p) a → LinksAre (land c e n (send to body w)) p (partition c.config p) a

-- and the whole relation
abbrev pub SendIsKept : Type 0
SendIsKept =
    (c : Cluster) (e : Event) (n p to : ℕ) (body : Body) (w : Work) (a : Page) → Acts c n → MaySend c e n p w a to body
    → IsWorkOf c e n p w a → IsWorkOf c e n p (send to body w) a

-- Nothing that comes from the acting node is of a later epoch, where that was so before the step and what was sent is of
-- no later one.
abbrev pub NothingIsAhead : Type 0
NothingIsAhead =
    (c : Cluster) (e : Event) (n p to epoch : ℕ) (s : NodeState) (w : Work) → Acts c n → IsInOrder c → node_at c n ≡ Some s → s.epoch ≤ epoch
    → AllByRecursion (λ o. o.message.epoch ≤ epoch) w.sends → AllByRecursion (λ (m : Message). m.epoch ≤ epoch) (coming (land c e n w) p n to)
