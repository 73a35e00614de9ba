-- Births of which each node that is up knows: none is of a later era than one that has used its partition.
use Rattle.std.specs.Prelude.{◌≡◌, ◌≢◌, ℕ, ◌<◌, ◌≤◌, true, false, List, [], Some, None, is_some, ⊤}
use Rattle.std.specs.List.{AllByRecursion}
use Rattle.pcl_base.specs.Limits.{Sizes}
use Rattle.pcl_base.specs.declared.event.Event.{Event}
use Rattle.pcl_base.specs.declared.lock.Verdict.TheVariants as verdict
use Rattle.pcl_base.specs.declared.message.Body.{Body}
use Rattle.pcl_base.specs.declared.message.Body.TheVariants as body
use Rattle.pcl_base.specs.declared.message.Grant.{Grant}
use Rattle.pcl_base.specs.declared.message.Message.{Message}
use Rattle.pcl_base.specs.declared.tx.TxId.{TxId}
use Rattle.run_rules.specs.Views.{View}
use Rattle.node_rules.specs.Judging.{judge}
use Rattle.node_rules.specs.LockTable.{LockTable}
use Rattle.node_rules.specs.NodeState.{NodeState, number_of, table_at, partition}
use Rattle.node_rules.specs.Shelf.{right_on}
use Rattle.cluster_rules.specs.Clusters.{Cluster, opening, node_at, last_view}
use Rattle.cluster_rules.specs.ClusterStep.{step}
use Rattle.cluster_rules.specs.Links.{link_at, head_at}
use Rattle.cluster_laws.specs.Sound.{IsCluster}
use Rattle.cluster_laws.specs.Era.Eras.{era_in, era_at, born_at}
use Rattle.cluster_laws.specs.Link.EpochLaws.{IsInOrder}
use Rattle.page_laws.specs.Moment.Looks.{accesses_in}
use Rattle.page_protocol.specs.State.{Page}
use Rattle.page_relation.specs.Relation.{IsPageOf}
use Rattle.page_relation.specs.Together.{HasPages}
use Rattle.related_runs.specs.Locks.Used.{HaveUsedLocks}
use Rattle.related_runs.specs.Parties.{HaveParties}

-- A birth that is known of partition q: it is of an epoch whose era of the partition each node that is up has
-- reached. The owner that serves has reached that epoch, and a table that is rebuilt is of a later era than it.
pub record KnownBirth (c : Cluster) (q birth : ℕ) : Type 0 where
  pub made : birth ≤ (last_view c).epoch
  pub reached : (n : ℕ) (s : NodeState) → node_at c n ≡ Some s → era_at c q birth ≤ era_at c q s.epoch
  pub served : (n : ℕ) (s : NodeState) (t : LockTable) → node_at c n ≡ Some s → table_at s q ≡ Some t → t.serving ≡ true → birth ≤ s.epoch
  pub rebuilt : (n : ℕ) (s : NodeState) (t : LockTable) → node_at c n ≡ Some s → table_at s q ≡ Some t → t.serving ≡ false → birth < era_in s.view q

-- an answer to a revocation is of a life whose birth is known
abbrev pub AnswerKnown : Cluster → ℕ → ℕ → Body → Type 0
AnswerKnown c a e (body.Return r) = KnownBirth c (partition c.config r.page) (born_at c a e)
AnswerKnown c a e _ = ⊤

-- Known are the births of all who have accessed a page of the partition, of nodes with a right on such a page,
-- and of those that answered a revocation of one. A node in no view has no right.
pub record HaveKnownBirths (c : Cluster) : Type 0 where
  pub accessed : (t : TxId) (p : ℕ) → p < c.config.pages → accesses_in t p c.trace ≢ [] → KnownBirth c (partition c.config p) t.born
  pub shelves : (n : ℕ) (s : NodeState) (p : ℕ) → node_at c n ≡ Some s → p < c.config.pages → right_on s.home.shelf p ≢ None
      → (is_some s.view ≡ true) × KnownBirth c (partition c.config p) s.home.txs.born
  pub answers : (a b : ℕ) → AllByRecursion (λ m. AnswerKnown c a m.epoch m.body) (link_at c.links a b)

-- the opening cluster
abbrev pub OpeningHasKnownBirths : Type 0
OpeningHasKnownBirths = (c : Sizes) → HaveKnownBirths (opening c)

-- a step on any event, between clusters whose pages are related
abbrev pub StepsHaveKnownBirths : Type 0
StepsHaveKnownBirths =
    (blank : List ℕ) (c : Cluster) (e : Event) → IsCluster c → IsInOrder c → HaveParties c → HaveUsedLocks c → HasPages blank c → HasPages blank (step c e)
    → HaveKnownBirths c → HaveKnownBirths (step c e)

-- what is known stays known
abbrev pub KnownStays : Type 0
KnownStays = (c : Cluster) (e : Event) (q birth : ℕ) → IsCluster c → q < c.config.nodes → KnownBirth c q birth → KnownBirth (step c e) q birth

-- In a related cluster a birth is known that isn't above the epoch of the owner that serves.
abbrev pub ServedAreKnown : Type 0
ServedAreKnown =
    (c : Cluster) (p : ℕ) (a : Page) (n : ℕ) (s : NodeState) (t : LockTable) (birth : ℕ) → IsCluster c → IsPageOf c p a → node_at c n ≡ Some s
    → table_at s (partition c.config p) ≡ Some t → t.serving ≡ true → birth ≤ s.epoch → KnownBirth c (partition c.config p) birth

-- And that of a node to which a grant comes that it takes.
abbrev pub GrantedAreKnown : Type 0
GrantedAreKnown =
    (c : Cluster) (p : ℕ) (a : Page) (n : ℕ) (s : NodeState) (v : View) (from : ℕ) (m : Message) (g : Grant) → IsCluster c → IsInOrder c → HaveParties c → IsPageOf c p a
    → node_at c n ≡ Some s → s.view ≡ Some v → head_at c.links from n ≡ Some m → m.body ≡ body.Grant g → g.page ≡ p
    → judge v (number_of s) from m.epoch (partition c.config p) ≡ verdict.Taken → KnownBirth c (partition c.config p) s.home.txs.born
