-- Steps of the machine that change what is stored of a page alone, and what stays of the relation then.
use Rattle.std.specs.Prelude.{◌≡◌, ℕ}
use Rattle.cluster_rules.specs.Clusters.{Cluster}
use Rattle.page_protocol.specs.State.{Page, current}
use Rattle.page_relation.specs.Relation.{HistoryIs, HomesAre, NodesAre, TablesAre, LinksAre}

-- all but the disk, the logs, the copies and the dirty mark
pub record SameRest (a b : Page) : Type 0 where
  pub now : b.now ≡ a.now
  pub hist : b.hist ≡ a.hist
  pub reached : b.reached ≡ a.reached
  pub right : b.right ≡ a.right
  pub home : b.home ≡ a.home
  pub script : b.script ≡ a.script
  pub image : b.image ≡ a.image
  pub era : b.era ≡ a.era
  pub owner : b.owner ≡ a.owner
  pub served : b.served ≡ a.served
  pub entry : b.entry ≡ a.entry
  pub sent : b.sent ≡ a.sent
  pub listed : b.listed ≡ a.listed

-- a cluster that is related to one state is so to the other, part by part
pub record RestIs (d : Cluster) (p q : ℕ) (a b : Page) : Type 0 where
  pub history : HistoryIs d p a.hist (current a) → HistoryIs d p b.hist (current b)
  pub homes : HomesAre d p (current a) a → HomesAre d p (current b) b
  pub nodes : NodesAre d p q a.era a.right a.reached → NodesAre d p q b.era b.right b.reached
  pub tables : TablesAre d p q a → TablesAre d p q b
  pub links : LinksAre d p q a → LinksAre d p q b

abbrev pub RestStays : Type 0
RestStays = (d : Cluster) (p q : ℕ) (a b : Page) → SameRest a b → RestIs d p q a b
