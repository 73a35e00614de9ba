-- What a cluster has of one page at its nodes: functions of the cluster, with what the machine of one page calls it.
use Rattle.std.specs.Prelude.{ℕ, Bool, false, Option, Some, None}
use Rattle.node_rules.specs.BufferRule as buffer
use Rattle.node_rules.specs.NodeState.{NodeState}
use Rattle.node_rules.specs.Shelf.{right_on}
use Rattle.cluster_rules.specs.Clusters.{Cluster, node_at}
use Rattle.page_protocol.specs.Bytes.{Copy}
use Rattle.page_laws.specs.Look.Ends.{version_of_right}

-- a copy without the mark that the disk lacks it
abbrev pub copy_in : Option buffer.Copy → Option Copy
copy_in None = None
copy_in (Some x) = Some (record { version = x.version; bytes = x.bytes })

-- a node's copy; none where it is down
abbrev pub slot_in : Option NodeState → ℕ → Option Copy
slot_in None p = None
slot_in (Some s) p = copy_in (buffer.copy_at s.home.pool p)

-- a node's copy of the page
unfoldable pub slot_of : Cluster → ℕ → ℕ → Option Copy
slot_of c n p = slot_in (node_at c n) p

-- whether it is dirty
abbrev pub dirty_in : Option NodeState → ℕ → Bool
dirty_in None p = false
dirty_in (Some s) p = buffer.dirty s.home.pool p

-- whether a node's copy of the page is dirty
unfoldable pub dirty_of : Cluster → ℕ → ℕ → Bool
dirty_of c n p = dirty_in (node_at c n) p

-- the version of a node's right; none where it is down
abbrev pub shelf_in : Option NodeState → ℕ → Option ℕ
shelf_in None p = None
shelf_in (Some s) p = version_of_right (right_on s.home.shelf p)

-- the version of a node's right of the page
unfoldable pub shelf_of : Cluster → ℕ → ℕ → Option ℕ
shelf_of c n p = shelf_in (node_at c n) p
