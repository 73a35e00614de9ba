-- Calls of two nodes, for computed rows.
use Rattle.std.specs.Prelude.{true, false, List, [], ◌∷◌, map, Option, Some, None}
use Rattle.pcl_base.specs.declared.event.Event.{Event}
use Rattle.pcl_base.specs.declared.event.Event.TheVariants as event
use Rattle.pcl_base.specs.declared.trace.Call.{Call}
use Rattle.run_rules.specs.Disk.{Disk}
use Rattle.node_rules.specs.DiskCalls.{DiskCall, Force, word_of}
use Rattle.node_rules.specs.NodeState.{NodeState, NodeEvent, Install}
use Rattle.cluster_rules.specs.Clusters.{Cluster, node_at, last_view}
use Rattle.cluster_rules.specs.ClusterRows.{two, t1, commits}
use Rattle.cluster_rules.specs.Run.{last}
use Rattle.cluster_laws.specs.Call.Calls.{IsWrite, log_calls}

-- the call on the log of a node that may be down
abbrev pub calls_of : Option NodeState → Disk → NodeEvent → List DiskCall
calls_of None d ev = []
calls_of (Some s) d ev = log_calls s d ev

-- the call that node 0 makes on its log at an event, after some events of the cluster
abbrev pub calls_at : NodeEvent → Cluster → List DiskCall
calls_at ev c = calls_of (node_at c 0) c.disk ev

-- the same after some events of the cluster
abbrev pub calls_after : NodeEvent → List Event → List DiskCall
calls_after ev es = calls_at ev (last two es)

-- the words of these calls
abbrev pub words_after : NodeEvent → List Event → List Call
words_after ev es = map word_of (calls_after ev es)

-- the call at the install of the last view
abbrev pub at_install : List Event → List DiskCall
at_install es = calls_at (Install (last_view (last two es))) (last two es)

-- node 0 is dropped and comes back
abbrev pub brought_back : List Event
brought_back = event.View (false ∷ true ∷ []) (1 ∷ 1 ∷ []) ∷ event.View (true ∷ true ∷ []) (1 ∷ 1 ∷ []) ∷ []

-- it commits, and a stop tears its record
abbrev pub torn : List Event
torn = event.Arm 0 1 5 ∷ commits brought_back

-- it commits, writes the page and is lost
abbrev pub stored : List Event
stored = commits (event.Flush 0 0 ∷ event.Crash 0 ∷ brought_back)

-- a record is no page
abbrev pub NoRecordIsPage : Type 0
NoRecordIsPage = IsWrite (Force t1 []) → ⊥
