-- Each part of the relation stays through a step where nothing changes of what it speaks of.
use Rattle.std.specs.Prelude.{◌≡◌, ℕ, Bool, List, Option}
use Rattle.pcl_base.specs.declared.event.Event.{Event}
use Rattle.node_rules.specs.NodeState.{table_at}
use Rattle.node_rules.specs.Work.{Work}
use Rattle.cluster_rules.specs.Clusters.{Cluster}
use Rattle.cluster_rules.specs.ClusterStep.{is_taken}
use Rattle.page_protocol.specs.Bytes.{Copy, Ranges}
use Rattle.page_protocol.specs.State.{Right, Page}
use Rattle.page_laws.specs.Look.Parts.{SameLife}
use Rattle.page_laws.specs.Storage.Looks.{IsStored}
use Rattle.page_relation.specs.Relation.{HistoryIs, CopiesAre, HomesAre, NodesAre, TablesAre, LinksAre}
use Rattle.page_relation.specs.Work.Keeping.{IsWorkOf}
use Rattle.page_relation.specs.Work.Landing.{Acts, land, trace_of, disk_of}
use Rattle.page_relation.specs.Work.Unseen.{SameStanding, SameUse, SameCopy, SameRight, SameTable, SameStored, SameTold, SameSends, IsUnseen}

-- what commits have made of the page
abbrev pub HistoryStays : Type 0
HistoryStays =
    (c : Cluster) (e : Event) (n p : ℕ) (w x : Work) (hist : ℕ → List ℕ) (cur : Copy) → SameTold c.config p (trace_of c e n w) (trace_of c e n x)
    → HistoryIs (land c e n w) p hist cur → HistoryIs (land c e n x) p hist cur

-- what is stored
abbrev pub StoredStays : Type 0
StoredStays =
    (c : Cluster) (e : Event) (n p : ℕ) (w x : Work) (disk : Copy) (log : ℕ → ℕ → Option Ranges) → SameStored c.config p (disk_of c n w) (disk_of c n x)
    → IsStored (land c e n w).config (land c e n w).disk p disk log → IsStored (land c e n x).config (land c e n x).disk p disk log

-- the copies at the nodes
abbrev pub CopiesStay : Type 0
CopiesStay =
    (c : Cluster) (e : Event) (n p : ℕ) (w x : Work) (slot : ℕ → Option Copy) (owner : ℕ) (dirty : Bool) → Acts c n → SameCopy p w.node.home x.node.home
    → CopiesAre (land c e n w) p slot owner dirty → CopiesAre (land c e n x) p slot owner dirty

-- the transactions at their homes
abbrev pub HomesStay : Type 0
HomesStay =
    (c : Cluster) (e : Event) (n p : ℕ) (w x : Work) (page : Copy) (a : Page) → Acts c n → SameStanding w.node x.node → SameLife w.node.home x.node.home
    → SameUse p w.node.home x.node.home → SameTold c.config p (trace_of c e n w) (trace_of c e n x) → HomesAre (land c e n w) p page a → HomesAre (land c e n x) p page a

-- rights and eras of the nodes
abbrev pub NodesStay : Type 0
NodesStay =
    (c : Cluster) (e : Event) (n p q era : ℕ) (w x : Work) (right : ℕ → Right) (reached : ℕ → ℕ) → Acts c n → SameStanding w.node x.node
    → SameRight p w.node.home x.node.home → NodesAre (land c e n w) p q era right reached → NodesAre (land c e n x) p q era right reached

-- the tables
abbrev pub TablesStay : Type 0
TablesStay =
    (c : Cluster) (e : Event) (n p q : ℕ) (w x : Work) (a : Page) → Acts c n → SameStanding w.node x.node
    → SameTable p (table_at w.node q) (table_at x.node q) → TablesAre (land c e n w) p q a → TablesAre (land c e n x) p q a

-- the messages on their way
abbrev pub LinksStay : Type 0
LinksStay =
    (c : Cluster) (e : Event) (n p q : ℕ) (w x : Work) (a : Page) → Acts c n → SameStanding w.node x.node → is_taken x.replies ≡ is_taken w.replies
    → SameSends c.config p w.sends x.sends → LinksAre (land c e n w) p q a → LinksAre (land c e n x) p q a

-- So the relation stays where nothing that is seen of the page changes.
abbrev pub UnseenIsKept : Type 0
UnseenIsKept =
    (c : Cluster) (e : Event) (n p : ℕ) (w x : Work) (a : Page) → Acts c n → IsUnseen c e n p w x → IsWorkOf c e n p w a → IsWorkOf c e n p x a

-- nothing was changed, or nothing that is seen twice
pub record UnseenIsOrder (c : Cluster) (e : Event) (n p : ℕ) (w : Work) : Type 0 where
  pub self : IsUnseen c e n p w w
  pub then : (x y : Work) → IsUnseen c e n p w x → IsUnseen c e n p x y → IsUnseen c e n p w y

abbrev pub UnseenGoesOn : Type 0
UnseenGoesOn = (c : Cluster) (e : Event) (n p : ℕ) (w : Work) → UnseenIsOrder c e n p w
