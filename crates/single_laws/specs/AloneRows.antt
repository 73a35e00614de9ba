-- A small run of one node, for computed rows.
use Rattle.std.specs.Prelude.{ℕ, Bool, true, List, [], ◌∷◌, map}
use Rattle.pcl_base.specs.Limits.{Sizes}
use Rattle.pcl_base.specs.declared.tx.TxId.{TxId}
use Rattle.pcl_base.specs.declared.event.Event.{Event}
use Rattle.pcl_base.specs.declared.event.Event.TheVariants as event
use Rattle.pcl_base.specs.declared.reply.Reply.{Reply}
use Rattle.pcl_base.specs.declared.trace.Entry.{Entry}
use Rattle.cluster_rules.specs.Clusters.{Cluster, node_at}
use Rattle.cluster_rules.specs.Run.{run, last}
use Rattle.single_laws.specs.Alone.{is_plain, open_in}

-- one node with three pages of eight bytes, and two frames
abbrev pub small : Sizes
small = record { nodes = 1; pages = 3; size = 8; frames = 2 }

-- its transactions by their serials
abbrev pub t : ℕ → TxId
t serial = record { node = 0; born = 1; serial = serial }

-- page 0 is written and committed, goes to disk when two other pages are read, and is read again; the
-- third transaction is given up
abbrev pub comes_back : List Event
comes_back =
    event.Begin 0
    ∷ event.Write (t 1) 0 2 (7 ∷ 8 ∷ [])
    ∷ event.Commit (t 1)
    ∷ event.Begin 0
    ∷ event.Read (t 2) 1
    ∷ event.Read (t 2) 2
    ∷ event.Read (t 2) 0
    ∷ event.Commit (t 2)
    ∷ event.Begin 0
    ∷ event.Read (t 3) 0
    ∷ event.Abort (t 3)
    ∷ event.Evict 0 0
    ∷ event.Cut 0
    ∷ []

-- the replies of each entry of its trace
abbrev pub replies_of : List Event → List (List Reply)
replies_of es = map (λ (e : Entry). e.replies) (last small es).trace

-- how many transactions are open in each of its clusters
abbrev pub open_counts : List Event → List ℕ
open_counts es = map (λ (k : Cluster). open_in (node_at k 0)) (run small es)

-- which of some events are plain
abbrev pub plain_flags : List Event → List Bool
plain_flags es = map is_plain es

-- an event of each kind
abbrev pub each_kind : List Event
each_kind =
    event.Begin 0
    ∷ event.Read (t 1) 0
    ∷ event.Write (t 1) 0 0 (1 ∷ [])
    ∷ event.Commit (t 1)
    ∷ event.Abort (t 1)
    ∷ event.Deliver 0 0
    ∷ event.Evict 0 0
    ∷ event.Flush 0 0
    ∷ event.Crash 0
    ∷ event.View (true ∷ []) (0 ∷ [])
    ∷ event.Install 0
    ∷ event.Reopen
    ∷ event.Arm 0 1 0
    ∷ event.Cut 0
    ∷ []
