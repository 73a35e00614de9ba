-- A node comes into the next view: of a page whose partition wasn't worked off yet, what is seen is as before.
use Rattle.std.specs.Prelude.{◌≡◌, ℕ, ◌+◌, [], Option, Some, None}
use Rattle.pcl_base.specs.declared.event.Event.{Event}
use Rattle.run_rules.specs.Views.{View, since_of}
use Rattle.node_rules.specs.NodeState.{HomeState, NodeState, number_of, partition, table_at}
use Rattle.node_rules.specs.Work.{Work, with_node}
use Rattle.cluster_rules.specs.Clusters.{Cluster, node_at, view_of_epoch}
use Rattle.page_protocol.specs.Eras.{joining}
use Rattle.page_protocol.specs.State.{Page}
use Rattle.page_protocol.specs.Steps.{Step}
use Rattle.page_relation.specs.Work.Keeping.{IsWorkOf}
use Rattle.page_relation.specs.Work.Landing.{Acts}

-- a home with another birth
abbrev pub born_as : ℕ → HomeState → HomeState
born_as born h = record h { txs = record (h.txs) { born = born } }

-- a node with another epoch, view and birth
abbrev pub stood : ℕ → Option View → ℕ → NodeState → NodeState
stood epoch view born x = record x { home = born_as born x.home; epoch = epoch; view = view }

-- the work with the epoch, the view and the birth that its node had before it installed
abbrev pub as_before : NodeState → Work → Work
as_before s w = with_node w (stood s.epoch s.view s.home.txs.born w.node)

-- a node, which was s before, is in the view after its own
pub record HasNext (c : Cluster) (n : ℕ) (s : NodeState) (v : View) (x : NodeState) : Type 0 where
  pub up : node_at c n ≡ Some s
  pub next : view_of_epoch c.views (s.epoch + 1) ≡ Some v
  pub config : x.home.config ≡ c.config
  pub number : number_of x ≡ n
  pub epoch : x.epoch ≡ s.epoch + 1
  pub view : x.view ≡ Some v

-- A node that goes on, and a partition that goes on with its era: the same state of the machine.
abbrev pub ViewIsKept : Type 0
ViewIsKept =
    (c : Cluster) (e : Event) (n p : ℕ) (s : NodeState) (old v : View) (w : Work) (a : Page) → Acts c n → HasNext c n s v w.node → s.view ≡ Some old
    → w.node.home.txs.born ≡ s.home.txs.born → since_of v (partition c.config p) ≡ since_of old (partition c.config p)
    → IsWorkOf c e n p (as_before s w) a → IsWorkOf c e n p w a

-- a node that begins its life joins the era of the partition, and has nothing of the page yet
pub record IsJoining (c : Cluster) (e : Event) (n p : ℕ) (v : View) (w : Work) (a : Page) : Type 0 where
  pub step : Step a (joining a n (since_of v (partition c.config p)))
  pub related : IsWorkOf c e n p w (joining a n (since_of v (partition c.config p)))

abbrev pub JoinIsKept : Type 0
JoinIsKept =
    (c : Cluster) (e : Event) (n p : ℕ) (s : NodeState) (v : View) (w : Work) (a : Page) → Acts c n → HasNext c n s v w.node → s.view ≡ None
    → w.node.home.txs.txs ≡ [] → w.node.home.txs.born ≡ s.epoch + 1 → table_at w.node (partition c.config p) ≡ None
    → IsWorkOf c e n p (as_before s w) a → IsJoining c e n p v w a
