-- The parts of a node's step within a cluster.
use Rattle.std.specs.Prelude.{◌≡◌, ◌≢◌, ⊤, ℕ, ◌<◌, ◌≤◌, List, [], ◌∷◌, length, map, Option, Some, None, Result, Ok, Err, IfSome, IsSome, slice_set}
use Rattle.std.specs.List.{AllByRecursion}
use Rattle.pcl_base.specs.declared.event.Event.{Event}
use Rattle.pcl_base.specs.declared.reply.Reply.{Reply}
use Rattle.pcl_base.specs.declared.trace.Call.{Call}
use Rattle.pcl_base.specs.declared.tx.TxId.{TxId}
use Rattle.disk_model.specs.Disk.{HasSizes}
use Rattle.disk_model.specs.Memory.{Disk as Storage, bytes_in, rooms_in}
use Rattle.node_rules.specs.Words.{pick}
use Rattle.node_rules.specs.DiskCalls.{Left, all_done}
use Rattle.node_rules.specs.NodeState.{NodeState, NodeEvent, Deliver, Outgoing, number_of}
use Rattle.node_rules.specs.NodeStep.{Plan}
use Rattle.node_rules.specs.Work.{Outcome, Goes, Differs as differs}
use Rattle.step_laws.specs.Most.{most}
use Rattle.listing_laws.specs.Lists.{lists_by}
use Rattle.node_laws.specs.Nodes.{CanCome, DiskFits}
use Rattle.cluster_rules.specs.Links.{Links, row_at, link_at, put_link, send_all}
use Rattle.cluster_rules.specs.Clusters.{Cluster, is_up, lose, node_at, note_entry, put_node, sent_by, stop_at, put_stop}
use Rattle.cluster_rules.specs.ClusterStep.{is_taken, later_stop, left_of}
use Rattle.cluster_laws.specs.Handed.{IsHanded}
use Rattle.cluster_laws.specs.Sound.{IsCluster}
use Rattle.link_model.specs.Spares.{LinksView, spare_at}
use Rattle.node_parts.specs.Outputs.{OutputsView}
use Rattle.node_parts.specs.declared.fault.StepFault.{StepFault}
use Rattle.node_parts.specs.declared.fault.StepFault.TheVariants.{NoMemory, Halted, Differs}
use Rattle.trace_entries.specs.Notes.{NotesView}
use Rattle.cluster_parts.specs.State.{ClusterView, ReadsWell, cluster_of, disk_of}

-- the links where the message of an event is the head again of the link that it was taken from
abbrev pub with_head : ℕ → NodeEvent → Links → Links
with_head n (Deliver from m) ls = put_link ls from n (m ∷ link_at ls from n)
with_head n _ ls = ls

-- the cluster with that message where it was
abbrev pub before_taking : ℕ → NodeEvent → Cluster → Cluster
before_taking n event c = record c { links = with_head n event c.links }

-- the message of an event was taken from its link, so there is room to put it back
abbrev pub MayGoBack : ℕ → NodeEvent → LinksView → Type 0
MayGoBack n (Deliver from m) v =
    (from ≢ n) × (from < length v.links) × (n < length (row_at v.links from)) × (0 < spare_at v.spares from n)
MayGoBack n _ v = ⊤

-- a node may make a step: it is up, the event can come to it, and the storage has its sizes
pub record CanStep (v : ClusterView) (n : ℕ) (event : NodeEvent) : Type 0 where
  pub node : NodeState
  pub up : node_at (cluster_of v) n ≡ Some node
  pub number : number_of node ≡ n
  pub can : CanCome node event
  pub config : node.home.config ≡ v.config
  pub sizes : HasSizes node.home.config (Some v.storage.pages) (Some (bytes_in v.storage.logs)) (Some (rooms_in v.storage.logs))
  pub reads : ReadsWell v.storage

-- a step that the node and its storage have made, before its messages are sent
abbrev pub carried : ℕ → Plan → Cluster → Cluster
carried n p c =
    record c {
      nodes = (put_node c n (Some p.node)).nodes;
      disk = all_done n c.disk p.calls;
      stops = (put_stop c n (later_stop (length p.calls) (stop_at c n))).stops;
    }

-- the plan was carried out
pub record IsCarried (n : ℕ) (p : Plan) (old new : ClusterView) (out : OutputsView) : Type 0 where
  pub unstopped : left_of n (disk_of old.storage) p.calls (stop_at (cluster_of old) n) ≡ None
  pub cluster : cluster_of new ≡ carried n p (cluster_of old)
  pub replies : out.replies ≡ p.replies
  pub sends : out.sends ≡ p.sends

-- a stop ended it, and all but what is lost with the node is as before
pub record IsStopped (n : ℕ) (p : Plan) (call : Call) (kept : Option TxId) (old new : ClusterView) : Type 0 where
  pub left : Left
  pub stopped : left_of n (disk_of old.storage) p.calls (stop_at (cluster_of old) n) ≡ Some left
  pub same_call : call ≡ left.call
  pub same_kept : kept ≡ left.kept
  pub cluster : lose n (cluster_of new) ≡ lose n (record (cluster_of old) { disk = left.disk })

-- what the answer of a node's step says of the cluster: its plan was carried out or stopped; where a page
-- differs that the plan reads, the step says so with its numbers, or a stop is armed
abbrev pub IsStepped : {T : Type 0} → ℕ → Outcome Plan → Result T StepFault → ClusterView → ClusterView → OutputsView → Type 0
IsStepped n (Goes p) (Ok x) old new out = IsCarried n p old new out
IsStepped n (Goes p) (Err (Halted call kept)) old new out = IsStopped n p call kept old new
IsStepped n (Goes p) (Err (Differs page expected found)) old new out = ⊥
IsStepped n (differs p e f) (Ok x) old new out = ⊥
IsStepped n (differs p e f) (Err (Halted call kept)) old new out = IsSome (stop_at (cluster_of old) n)
IsStepped n (differs p e f) (Err (Differs page expected found)) old new out = (p ≡ page) × (e ≡ expected) × (f ≡ found)
IsStepped n _ (Err NoMemory) old new out = ⊤

-- a step leaves all but its node and the storage, which keeps its sizes
pub record StaysBeside (n : ℕ) (old new : ClusterView) : Type 0 where
  pub node : Option NodeState
  pub storage : Storage
  pub same : new ≡ record old { nodes = slice_set old.nodes n node; storage = storage }
  pub disk : DiskFits old.config (disk_of storage)
  pub stops : length storage.stops ≡ length old.storage.stops
  pub failing : storage.failing ≡ old.storage.failing

-- a message that stays by the replies is the head of its link again
abbrev pub taken_or_kept : ℕ → NodeEvent → List Reply → Cluster → Cluster
taken_or_kept n event replies c = record c { links = pick (is_taken replies) c.links (with_head n event c.links) }

-- what a step gave is sent and noted
abbrev pub noted : Event → ℕ → NodeEvent → List Reply → List Outgoing → Cluster → Cluster
noted e n event replies sends c =
    note_entry e replies (map (sent_by n) sends) None
    (record c { links = send_all (is_up c) n (taken_or_kept n event replies c).links sends })

-- a step that a stop ended is noted, and the node is lost
abbrev pub stopped : Event → ℕ → Call → Option TxId → Cluster → Cluster
stopped e n call kept c = note_entry e [] [] (Some (record { call = call; kept = kept })) (lose n c)

-- messages from a node can be sent without memory: each goes on a link with room for all of them
abbrev pub HaveRoom : LinksView → ℕ → List Outgoing → Type 0
HaveRoom v from sends =
    (from < length v.links)
    × AllByRecursion (λ o. (o.to < length (row_at v.links from)) × (length sends ≤ spare_at v.spares from o.to)) sends

-- the links from a node keep their room
abbrev pub SparesStay : ℕ → LinksView → LinksView → Type 0
SparesStay n old new = (sends : List Outgoing) → HaveRoom old n sends → HaveRoom new n sends

-- there is room for all that a step may send and note
pub record IsPrepared (v : ClusterView) (n : ℕ) (event : NodeEvent) (taken : NotesView) : Type 0 where
  pub entry : 0 < v.trace.spare
  pub links : IfSome (node_at (cluster_of v) n) (λ s. (b : ℕ) → b < length (row_at v.links.links n) → most s event ≤ spare_at v.links.spares n b)
  pub none : taken.sent ≡ []
  pub notes : IfSome (node_at (cluster_of v) n) (λ s. most s event ≤ taken.room)
  pub lists : taken.lists ≡ lists_by v.config event
  pub items : IfSome (node_at (cluster_of v) n) (λ s. most s event ≤ taken.size)

-- a cluster whose node gets an event, the message of which was taken from its link
pub record IsReady (v : ClusterView) (e : Event) (n : ℕ) (event : NodeEvent) : Type 0 where
  pub state : NodeState
  pub handed : IsHanded (before_taking n event (cluster_of v)) e n state event
  pub cluster : IsCluster (before_taking n event (cluster_of v))
  pub back : MayGoBack n event v.links
  pub title : v.trace.config ≡ v.config
  pub reads : ReadsWell v.storage
