-- A right that is spent: a revocation is taken at the node that has the right.
use Rattle.std.specs.Prelude.{◌≡◌, ℕ, ◌==◌, false, Some}
use Rattle.std.proofs.Common.{suc}
use Rattle.pcl_base.specs.declared.event.Event.{Event}
use Rattle.pcl_base.specs.declared.lock.Kind.TheVariants as kind
use Rattle.node_rules.specs.AccessRule.{spend_right}
use Rattle.node_rules.specs.InstallRule.{owned_before}
use Rattle.node_rules.specs.NodeState.{partition, number_of}
use Rattle.node_rules.specs.Shelf.{Right, right_on}
use Rattle.node_rules.specs.Work.{Work, with_home}
use Rattle.cluster_rules.specs.Clusters.{Cluster}
use Rattle.home_laws.specs.Homes.{IsHome}
use Rattle.page_protocol.specs.Authority.{HaveUsed, spending}
use Rattle.page_protocol.specs.State.{Page}
use Rattle.page_protocol.specs.Steps.{Step}
use Rattle.page_relation.specs.Work.Keeping.{IsWorkOf}
use Rattle.page_relation.specs.Work.Landing.{Acts}
use Rattle.page_relation.specs.Work.Unseen.{IsUnseen}

-- the right of page q is spent, and its readers have registered locks
abbrev pub spent : ℕ → Work → Work
spent q w = with_home w (spend_right kind.Registered q w.node.home)

-- a right of another page
abbrev pub SpendsElsewhere : Type 0
SpendsElsewhere =
    (c : Cluster) (e : Event) (n p q : ℕ) (w : Work) → IsHome w.node.home → (q == p) ≡ false → IsUnseen c e n p w (spent q w)

-- a node that has the right of the page, which isn't its own, and hasn't left the era that serves; each lock there was used
pub record MaySpend (c : Cluster) (n p : ℕ) (w : Work) (a : Page) (r : Right) : Type 0 where
  pub home : IsHome w.node.home
  pub right : right_on w.node.home.shelf p ≡ Some r
  pub not_own : owned_before w.node.view (partition w.node.home.config p) (number_of w.node) ≡ false
  pub reached : a.reached n ≡ a.era
  pub used : HaveUsed a n

-- the machine's revocation, and the relation with the state after it
pub record IsSpending (c : Cluster) (e : Event) (n p : ℕ) (w : Work) (a : Page) (r : Right) : Type 0 where
  pub step : Step a (spending a n (suc a.era) r.readers)
  pub related : IsWorkOf c e n p (spent p w) (spending a n (suc a.era) r.readers)

abbrev pub SpendingIsStep : Type 0
SpendingIsStep =
    (c : Cluster) (e : Event) (n p : ℕ) (w : Work) (a : Page) (r : Right) → Acts c n → MaySpend c n p w a r → IsWorkOf c e n p w a → IsSpending c e n p w a r
