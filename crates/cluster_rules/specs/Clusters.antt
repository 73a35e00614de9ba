-- A cluster: its nodes, links, storage, views and trace.
use Rattle.std.specs.Prelude.{ℕ, ◌==◌, Bool, List, [], ◌∷◌, ◌++◌, map, replicate, slice_index_or, slice_set, Option, Some, None, is_some}
use Rattle.pcl_base.specs.Limits.{Sizes}
use Rattle.pcl_base.specs.declared.event.Event.{Event}
use Rattle.pcl_base.specs.declared.message.Body.{Body}
use Rattle.pcl_base.specs.declared.message.Body.TheVariants as body
use Rattle.pcl_base.specs.declared.message.Change.{Change}
use Rattle.pcl_base.specs.declared.message.CopyPart.{CopyPart}
use Rattle.pcl_base.specs.declared.message.CopyPart.TheVariants as part
use Rattle.pcl_base.specs.declared.reply.Reply.{Reply}
use Rattle.pcl_base.specs.declared.trace.CopyKind.{CopyKind}
use Rattle.pcl_base.specs.declared.trace.CopyKind.TheVariants as copy
use Rattle.pcl_base.specs.declared.trace.Entry.{Entry}
use Rattle.pcl_base.specs.declared.trace.Halt.{Halt}
use Rattle.pcl_base.specs.declared.trace.Note.{Note}
use Rattle.pcl_base.specs.declared.trace.Note.TheVariants as note
use Rattle.pcl_base.specs.declared.trace.Sent.{Sent}
use Rattle.run_rules.specs.Views.{View, first, count_from}
use Rattle.node_rules.specs.Words.{pick}
use Rattle.node_rules.specs.NodeState.{NodeState, Outgoing, first_node}
use Rattle.run_rules.specs.Disk.{Disk, fresh_disk}
use Rattle.node_rules.specs.DiskCalls.{Stop}
use Rattle.cluster_rules.specs.Links.{Links, empty_links, clear_into}

-- for each node its state, or none where it is down; the links; the disk; for each node the stop
-- that is armed; the views that were made; and the trace
pub record Cluster : Type 0 where
  pub config : Sizes
  pub nodes : List (Option NodeState)
  pub links : Links
  pub disk : Disk
  pub stops : List (Option Stop)
  pub views : List View
  pub trace : List Entry

-- the opening cluster: all nodes at view 1 over fresh storage
unfoldable pub opening : Sizes → Cluster
opening c =
    record {
      config = c;
      nodes = map (λ n. Some (first_node c n)) (count_from 0 c.nodes);
      links = empty_links c.nodes;
      disk = fresh_disk c;
      stops = replicate c.nodes None;
      views = first c ∷ [];
      trace = [];
    }

-- a node's state, and whether it is up
abbrev pub node_at : Cluster → ℕ → Option NodeState
node_at c n = slice_index_or c.nodes n None

-- whether a node is up
abbrev pub is_up : Cluster → ℕ → Bool
is_up c n = is_some (node_at c n)

-- another state of a node
abbrev pub put_node : Cluster → ℕ → Option NodeState → Cluster
put_node c n s = record c { nodes = slice_set c.nodes n s }

-- the stop that is armed for a node
abbrev pub stop_at : Cluster → ℕ → Option Stop
stop_at c n = slice_index_or c.stops n None

-- another stop of a node
abbrev pub put_stop : Cluster → ℕ → Option Stop → Cluster
put_stop c n s = record c { stops = slice_set c.stops n s }

-- a node loses its state, the links into it, and its stop
unfoldable pub lose : ℕ → Cluster → Cluster
lose n c =
    record c {
      nodes = slice_set c.nodes n None;
      links = clear_into c.links n;
      stops = slice_set c.stops n None;
    }

-- the view of an epoch, and the view that was made last
unfoldable pub view_of_epoch : List View → ℕ → Option View
view_of_epoch [] e = None
view_of_epoch (v ∷ vs) e = pick (v.epoch == e) (Some v) (view_of_epoch vs e)

-- the last view of a list
abbrev pub last_or : View → List View → View
last_or v [] = v
last_or v (w ∷ ws) = last_or w ws

-- the view that was made last
abbrev pub last_view : Cluster → View
last_view c = last_or (first c.config) c.views

-- a further entry of the trace
abbrev pub note_entry : Event → List Reply → List Sent → Option Halt → Cluster → Cluster
note_entry e replies sent halted c =
    record c {
      trace = c.trace ++ record { event = e; replies = replies; sent = sent; halted = halted } ∷ [];
    }

-- an entry with one reply
abbrev pub answer : Event → Reply → Cluster → Cluster
answer e r c = note_entry e (r ∷ []) [] None c

-- a message as the trace has it: without the bytes of images
abbrev pub kind_of_copy : CopyPart → CopyKind
kind_of_copy part.Current = copy.Current
kind_of_copy (part.Image bytes) = copy.Image
kind_of_copy part.OnDisk = copy.OnDisk

-- the version that a change brings
abbrev pub version_of_change : Option Change → Option ℕ
version_of_change None = None
version_of_change (Some c) = Some c.version

-- the body of a message as the trace has it
unfoldable pub note_of : Body → Note
note_of (body.Request r) = note.Request r.tx r.page r.mode r.have
note_of (body.Grant g) = note.Grant g.tx g.page g.mode g.right g.version (kind_of_copy g.copy)
note_of (body.Release r) = note.Release r.tx r.page (version_of_change r.change)
note_of (body.Revoke p) = note.Revoke p
note_of (body.Return r) = note.Return r.page r.readers
note_of (body.Report r) = note.Report r.partition r.waits r.locks r.rights

-- a message as the trace has it
abbrev pub sent_by : ℕ → Outgoing → Sent
sent_by from o =
    record { from = from; to = o.to; epoch = o.message.epoch; note = note_of o.message.body }
