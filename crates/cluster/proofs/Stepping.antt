-- What a step needs of the parts of a cluster, from one part of it to the next.
use Rattle.std.proofs.Common.{◌≡◌, ap, sym, subst, ◌∙◌, ℕ, ◌<◌, List, [], ◌∷◌, ◌++◌, length, Option, Some, None, Ok, slice_set}
use Rattle.pcl_base.specs.declared.event.Event.{Event}
use Rattle.pcl_base.specs.declared.message.Message.{Message}
use Rattle.pcl_base.specs.declared.reply.Reply.TheVariants.{Armed}
use Rattle.pcl_base.specs.declared.trace.Entry.{Entry}
use Rattle.disk_model.specs.declared.stop.Stop.{Stop}
use Rattle.disk_model.specs.Memory.{Disk as Storage}
use Rattle.link_model.specs.Spares.{LinksView, UsesOne}
use Rattle.trace_model.specs.Seen.{TraceView}
use Rattle.node_rules.specs.NodeState.{NodeState, NodeEvent, Deliver}
use Rattle.node_rules.specs.DiskCalls.{Stop as RuleStop}
use Rattle.node_rules.specs.NodeStep.{nodestep}
use Rattle.node_parts.specs.Outputs.{OutputsView}
use Rattle.trace_entries.specs.Notes.{NotesView, HasMemory}
use Rattle.cluster_rules.specs.Links.{Links, link_at, put_link, clear_into}
use Rattle.cluster_rules.specs.Clusters.{lose}
use Rattle.cluster_rules.specs.ClusterStep.{arm}
use Rattle.node_laws.proofs.Lists.{set_length}
use Rattle.cluster_parts.specs.State.{ClusterView, cluster_of, disk_of, rule_stops}
use Rattle.cluster_parts.specs.Steps.{HaveRoom, IsPrepared, IsReady, IsStepped, MayGoBack, SparesStay, StaysBeside}
use Rattle.cluster_parts.proofs.Arms.{Aside, room_was}
use Rattle.cluster_parts.proofs.Carried.{set_map}
use Rattle.cluster_parts.proofs.Room.{head_rows, up_below}
use Rattle.cluster_parts.proofs.Sending.{room_back}

-- the node has links
pub ready_links : (v : ClusterView) (e : Event) (n : ℕ) (ev : NodeEvent) → IsReady v e n ev → n < length v.links.links
ready_links v e n ev r =
    subst (λ (k : ℕ). n < k) (r.cluster.nodes ∙ sym (sym (head_rows n ev v.links.links) ∙ r.cluster.links.rows)) (up_below v.nodes n r.state r.handed.up)

-- what a step of the node leaves beside it
pub beside_links : (v w : ClusterView) (n : ℕ) → StaysBeside n v w → w.links ≡ v.links
beside_links v w n s = ap (λ (x : ClusterView). x.links) s.same

pub beside_trace : (v w : ClusterView) (n : ℕ) → StaysBeside n v w → w.trace ≡ v.trace
beside_trace v w n s = ap (λ (x : ClusterView). x.trace) s.same

pub beside_failing : (v w : ClusterView) (n : ℕ) → StaysBeside n v w → w.storage.failing ≡ v.storage.failing
beside_failing v w n s = ap (λ (x : ClusterView). x.storage.failing) s.same ∙ s.failing

-- the trace's sizes and the failing reads stay over further parts of the step
pub aside_of : (v w x : ClusterView) (n : ℕ) → StaysBeside n v w → x.trace.config ≡ w.trace.config → x.storage.failing ≡ w.storage.failing → Aside v x
aside_of v w x n s title failing =
    record { title = title ∙ ap (λ (t : TraceView). t.config) (beside_trace v w n s); failing = failing ∙ beside_failing v w n s }

-- what a step gave has room
pub finish_room : (v w : ClusterView) (e : Event) (n : ℕ) (ev : NodeEvent) (r : IsReady v e n ev) (notes : NotesView) (out : OutputsView) (y : Unit {0}) → IsPrepared v n ev notes → StaysBeside n v w
    → IsStepped {T = Unit {0}} n (nodestep r.state ev (disk_of v.storage)) (Ok y) v w out → HaveRoom w.links n out.sends × (0 < w.trace.spare)
finish_room v w e n ev r notes out y prepared beside made = (
  subst (λ (l : LinksView). HaveRoom l n out.sends) (sym (beside_links v w n beside)) (room_was v e n ev r w w y tt out notes prepared made).0,
  subst (λ (t : TraceView). 0 < t.spare) (sym (beside_trace v w n beside)) prepared.entry,
)

pub finish_memory : (v w : ClusterView) (e : Event) (n : ℕ) (ev : NodeEvent) (r : IsReady v e n ev) (notes : NotesView) (out : OutputsView) (y : Unit {0}) → IsPrepared v n ev notes
    → IsStepped {T = Unit {0}} n (nodestep r.state ev (disk_of v.storage)) (Ok y) v w out → (notes.sent ≡ []) × HasMemory notes out.sends
finish_memory v w e n ev r notes out y prepared made = (prepared.none, (room_was v e n ev r w w y tt out notes prepared made).1)

-- a message that goes back leaves the room of its receiver's links
pub back_spares : (v w : LinksView) (n from : ℕ) (m : Message) → MayGoBack n (Deliver from m) v → w.links ≡ put_link v.links from n (m ∷ link_at v.links from n) → UsesOne v.spares w.spares from n → SparesStay n v w
back_spares v w n from m may put uses = λ sends room. room_back v w n from sends (m ∷ link_at v.links from n) (λ e. may.0 (sym e)) put uses room

-- the cluster once a node was lost
pub lost_cluster : (v : ClusterView) (n : ℕ) (ns : List (Option NodeState)) (ls : LinksView) (st : Storage) → ns ≡ slice_set v.nodes n None → ls.links ≡ clear_into v.links.links n
    → st ≡ record v.storage { stops = slice_set v.storage.stops n None } → cluster_of (record v { nodes = ns; links = ls; storage = st }) ≡ lose n (cluster_of v)
unfolding lose
lost_cluster v n ns ls st nodes links storage =
    ap (λ (x : List (Option NodeState)). cluster_of (record v { nodes = x; links = ls; storage = st })) nodes
    ∙ ap (λ (x : Storage). cluster_of (record v { nodes = slice_set v.nodes n None; links = ls; storage = x })) storage
    ∙ ap (λ (x : Links). record (cluster_of v) { nodes = slice_set v.nodes n None; links = x; stops = rule_stops (slice_set v.storage.stops n None) }) links
    ∙ ap (λ (x : List (Option RuleStop)). record (cluster_of v) { nodes = slice_set v.nodes n None; links = clear_into v.links.links n; stops = x }) (set_map v.storage.stops n None)

pub put_length : (new old items : List (Option NodeState)) (n k : ℕ) (o : Option NodeState) → new ≡ slice_set old n o → old ≡ items → k ≡ length items → length new ≡ k
put_length new old items n k o put was long = ap (λ (l : List (Option NodeState)). length l) put ∙ set_length old n o ∙ ap (λ (l : List (Option NodeState)). length l) was ∙ sym long

-- the cluster once a stop was armed and noted
pub armed_cluster : (v : ClusterView) (st : Storage) (t : TraceView) (e : Event) (n call kept : ℕ) → st ≡ record v.storage { stops = slice_set v.storage.stops n (Some (record { call = call; kept = kept })) }
    → t.entries ≡ v.trace.entries ++ record { event = e; replies = Armed ∷ []; sent = []; halted = None } ∷ [] → cluster_of (record v { storage = st; trace = t }) ≡ arm e n call kept (cluster_of v)
armed_cluster v st t e n call kept storage entries =
    let stop : Stop = record { call = call; kept = kept } in
    ap (λ (x : Storage). cluster_of (record v { storage = x; trace = t })) storage
    ∙ ap (λ (es : List Entry). record (cluster_of v) { stops = rule_stops (slice_set v.storage.stops n (Some stop)); trace = es }) entries
    ∙ ap (λ (ss : List (Option RuleStop)). record (cluster_of v) { stops = ss; trace = v.trace.entries ++ record { event = e; replies = Armed ∷ []; sent = []; halted = None } ∷ [] }) (set_map v.storage.stops n (Some stop))
