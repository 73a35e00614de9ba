-- A node gets the page's partition: up to the point where its new table may be complete.
use Rattle.std.specs.Prelude.{◌≡◌, ℕ, ◌<◌, ◌==◌, true, false, length, List, Some, None}
use Rattle.std.specs.List.{AllByRecursion}
use Rattle.pcl_base.specs.declared.event.Event.{Event}
use Rattle.run_rules.specs.Views.{View, since_of, owner_of}
use Rattle.node_rules.specs.InstallRule.{owned_before, take_over, new_table}
use Rattle.node_rules.specs.NodeState.{NodeState, Outgoing, number_of, partition, put_table, table_at}
use Rattle.node_rules.specs.Shelf.{right_on}
use Rattle.node_rules.specs.Work.{Work, with_node}
use Rattle.cluster_rules.specs.Clusters.{Cluster}
use Rattle.cluster_rules.specs.Links.{link_at}
use Rattle.cluster_laws.specs.Era.Eras.{era_at}
use Rattle.home_laws.specs.Homes.{IsHome}
use Rattle.cluster_laws.specs.Link.Coming.{speaks_of}
use Rattle.cluster_laws.specs.Link.EpochLaws.{IsInOrder}
use Rattle.page_protocol.specs.Authority.{HaveUsed}
use Rattle.page_protocol.specs.State.{Page}
use Rattle.page_protocol.specs.Steps.{Reached}
use Rattle.page_relation.specs.Together.{IsParty}
use Rattle.page_relation.specs.Work.Events.{IsEntered}
use Rattle.page_relation.specs.Work.Keeping.{IsWorkOf, Leads}
use Rattle.page_relation.specs.Work.Landing.{Acts}
use Rattle.kept_relation.specs.Turn.Standing.{HasNext, as_before}
use Rattle.kept_relation.specs.Turn.Telling.{GoesOn, Begins}
use Rattle.install_relation.specs.Knowing.{IsHeardAt}

-- the node's rights and locks of a partition become own locks
abbrev pub owning : ℕ → NodeState → NodeState
owning q x = record x { home = take_over q x.home }

-- and it has the table that its own report makes
abbrev pub taken : ℕ → Work → Work
taken q w = with_node w (put_table (owning q w.node) q (Some (new_table q (number_of w.node) (take_over q w.node.home))))

-- A node that is in the view after its own, where the partition of the page has a new era; nothing that speaks of the
-- page was sent in the step yet; those of the node that wait at tables have reached the era; and each lock of the page
-- at the node was used.
pub record MayTurnTo (c : Cluster) (n p : ℕ) (s : NodeState) (v : View) (w : Work) (a : Page) (blank : List ℕ) : Type 0 where
  pub has : HasNext c n s v w.node
  pub order : IsInOrder c
  pub parties : (x y : ℕ) → AllByRecursion (IsParty c x y) (link_at c.links x y)
  pub none : AllByRecursion (λ (o : Outgoing). speaks_of c.config p o.message.body ≡ false) w.sends
  pub home : IsHome w.node.home
  pub heard : IsHeardAt c n p (era_at c (partition c.config p) s.epoch)
  pub used : HaveUsed a n
  pub reached : Reached blank a
  pub new : since_of v (partition c.config p) ≡ v.epoch

-- it gets the partition, which it didn't own and has no table of
pub record Gets (c : Cluster) (n p : ℕ) (s : NodeState) (v : View) (w : Work) : Type 0 where
  pub owner : (owner_of v (partition c.config p) == n) ≡ true
  pub not_own : owned_before s.view (partition c.config p) n ≡ false
  pub free : table_at w.node (partition c.config p) ≡ None
  pub place : partition c.config p < length w.node.tables

-- Where it was in a view: the right on its shelf is turned, if there is one, and it reports to itself.
abbrev pub GettingIsKept : Type 0
GettingIsKept =
    (c : Cluster) (e : Event) (n p : ℕ) (s : NodeState) (old v : View) (w : Work) (a : Page) (blank : List ℕ) → Acts c n → MayTurnTo c n p s v w a blank → GoesOn s old w → Gets c n p s v w
    → IsWorkOf c e n p (as_before s w) a → Leads c e n p (λ x b. IsEntered a → IsEntered b) a (taken (partition c.config p) w)

-- Where it begins its life, with nothing on its shelf.
abbrev pub GettingFirstIsKept : Type 0
GettingFirstIsKept =
    (c : Cluster) (e : Event) (n p : ℕ) (s : NodeState) (v : View) (w : Work) (a : Page) (blank : List ℕ) → Acts c n → MayTurnTo c n p s v w a blank → Begins c p s w → Gets c n p s v w
    → right_on w.node.home.shelf p ≡ None → IsWorkOf c e n p (as_before s w) a → Leads c e n p (λ x b. IsEntered a → IsEntered b) a (taken (partition c.config p) w)
