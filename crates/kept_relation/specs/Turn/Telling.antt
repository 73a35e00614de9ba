-- A node goes on to a later era of a partition that another node gets.
use Rattle.std.specs.Prelude.{◌≡◌, ℕ, ◌+◌, ◌≤◌, ◌<◌, ◌==◌, true, false, List, [], length, Option, Some, None}
use Rattle.std.specs.List.{AllByRecursion}
use Rattle.std.proofs.Common.{suc}
use Rattle.pcl_base.specs.declared.event.Event.{Event}
use Rattle.pcl_base.specs.declared.lock.Waiter.{Waiter}
use Rattle.pcl_base.specs.declared.tx.TxId.{TxId}
use Rattle.run_rules.specs.Views.{View, since_of, owner_of}
use Rattle.node_rules.specs.InstallRule.{owned_before, tell_new_owner}
use Rattle.node_rules.specs.LockTable.{LockTable, entry_at}
use Rattle.node_rules.specs.NodeState.{NodeState, Outgoing, partition, table_at}
use Rattle.node_rules.specs.Work.{Work}
use Rattle.cluster_rules.specs.Clusters.{Cluster, node_at}
use Rattle.cluster_rules.specs.Links.{link_at}
use Rattle.home_laws.specs.Homes.{IsHome}
use Rattle.cluster_laws.specs.Link.Coming.{speaks_of}
use Rattle.cluster_laws.specs.Link.EpochLaws.{IsInOrder}
use Rattle.cluster_laws.specs.Era.Eras.{era_in}
use Rattle.page_protocol.specs.Authority.{HaveUsed}
use Rattle.page_protocol.specs.Eras.{with_report}
use Rattle.page_protocol.specs.State.{Page, Home, Fresh, Asking, Holding, HoldingAsks, Reading, ReadingAsks, Ended, Gone, Returning, pick, updn, version_of}
use Rattle.page_protocol.specs.Steps.{Reached}
use Rattle.page_relation.specs.Together.{IsParty}
use Rattle.page_relation.specs.Work.Events.{IsEntered}
use Rattle.page_relation.specs.Work.Keeping.{IsWorkOf, Leads}
use Rattle.page_relation.specs.Work.Landing.{Acts}
use Rattle.kept_relation.specs.Turn.Standing.{HasNext, as_before}

-- what a home told is brought up to its copy, where it waits for its first access
abbrev pub retold : Option ℕ → Home → Home
retold have Fresh = Fresh
retold have (Asking m told) = Asking m have
retold have (Holding m) = Holding m
retold have HoldingAsks = HoldingAsks
retold have Reading = Reading
retold have ReadingAsks = ReadingAsks
retold have (Ended c e) = Ended c e
retold have Gone = Gone

-- the same of all transactions of a node
abbrev pub homes_told : Page → ℕ → TxId → Home
homes_told a n t = pick (t.node == n) (retold (version_of (a.slot n)) (a.home t)) (a.home t)

-- a node has gone on to an era and reported, with what it told brought up to its copy
abbrev pub reported_on : Page → ℕ → ℕ → Page
reported_on a n e =
    record a {
      reached = updn a.reached n e;
      listed = with_report a.reached a.home a.listed n e;
      home = homes_told a n;
    }

-- Who waits at a table of an era has reached it.
abbrev pub IsHeard : Cluster → ℕ → Page → Type 0
IsHeard c p a =
    (m : ℕ) (s : NodeState) (t : LockTable) → node_at c m ≡ Some s → table_at s (partition c.config p) ≡ Some t
    → AllByRecursion (λ (x : Waiter). era_in s.view (partition c.config p) ≤ a.reached x.tx.node) (entry_at t p).waiting

-- A right that is given back is so for no era above the next one of its node.
abbrev pub IsBack : Page → ℕ → Type 0
IsBack a n = (upto : ℕ) (readers : List TxId) → a.right n ≡ Returning upto readers → upto ≤ suc (a.reached n)

-- A node that is in the view after its own, where another node gets the partition; nothing that speaks of the page was
-- sent in the step yet, and each lock of the page there was used.
pub record MayTell (c : Cluster) (n p : ℕ) (s : NodeState) (v : View) (w : Work) (a : Page) (blank : List ℕ) : Type 0 where
  pub has : HasNext c n s v w.node
  pub order : IsInOrder c
  pub parties : (x y : ℕ) → AllByRecursion (IsParty c x y) (link_at c.links x y)
  pub none : AllByRecursion (λ (o : Outgoing). speaks_of c.config p o.message.body ≡ false) w.sends
  pub home : IsHome w.node.home
  pub heard : IsHeard c p a
  pub back : IsBack a n
  pub used : HaveUsed a n
  pub reached : Reached blank a
  pub new : since_of v (partition c.config p) ≡ v.epoch
  pub other : (owner_of v (partition c.config p) == n) ≡ false

-- the node was in a view before, or begins its life in this one
pub record GoesOn (s : NodeState) (old : View) (w : Work) : Type 0 where
  pub own : s.view ≡ Some old
  pub born : w.node.home.txs.born ≡ s.home.txs.born

pub record Begins (c : Cluster) (p : ℕ) (s : NodeState) (w : Work) : Type 0 where
  pub none : s.view ≡ None
  pub empty : w.node.home.txs.txs ≡ []
  pub born : w.node.home.txs.born ≡ s.epoch + 1
  pub free : table_at w.node (partition c.config p) ≡ None

-- where it didn't own the partition before, it has no table of it
pub record HasNone (c : Cluster) (n p : ℕ) (s : NodeState) (w : Work) : Type 0 where
  pub not_own : owned_before s.view (partition c.config p) n ≡ false
  pub free : table_at w.node (partition c.config p) ≡ None

-- The report to the new owner, by a node that didn't own the partition.
abbrev pub TellIsKept : Type 0
TellIsKept =
    (c : Cluster) (e : Event) (n p : ℕ) (s : NodeState) (old v : View) (w : Work) (a : Page) (blank : List ℕ) → Acts c n → MayTell c n p s v w a blank → GoesOn s old w → HasNone c n p s w
    → IsWorkOf c e n p (as_before s w) a → Leads c e n p (λ x b. IsEntered a → IsEntered b) a (tell_new_owner s.view v (partition c.config p) w)

-- where it owned the partition before
pub record HasTable (c : Cluster) (n p : ℕ) (s : NodeState) (w : Work) : Type 0 where
  pub owned : owned_before s.view (partition c.config p) n ≡ true
  pub place : partition c.config p < length w.node.tables

-- The report to the new owner, by the one before.
abbrev pub TellingOwnerIsKept : Type 0
TellingOwnerIsKept =
    (c : Cluster) (e : Event) (n p : ℕ) (s : NodeState) (old v : View) (w : Work) (a : Page) (blank : List ℕ) → Acts c n → MayTell c n p s v w a blank → GoesOn s old w → HasTable c n p s w
    → IsWorkOf c e n p (as_before s w) a → Leads c e n p (λ x b. IsEntered a → IsEntered b) a (tell_new_owner s.view v (partition c.config p) w)

-- The report to the new owner, by a node that begins its life.
abbrev pub TellingFirstIsKept : Type 0
TellingFirstIsKept =
    (c : Cluster) (e : Event) (n p : ℕ) (s : NodeState) (v : View) (w : Work) (a : Page) (blank : List ℕ) → Acts c n → MayTell c n p s v w a blank → Begins c p s w
    → IsWorkOf c e n p (as_before s w) a → Leads c e n p (λ x b. IsEntered a → IsEntered b) a (tell_new_owner s.view v (partition c.config p) w)
