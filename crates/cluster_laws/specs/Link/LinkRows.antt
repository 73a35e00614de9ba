-- Messages of two nodes, for computed rows.
use Rattle.std.specs.Prelude.{ℕ, Bool, true, List, [], ◌∷◌, map, length, None}
use Rattle.pcl_base.specs.Limits.{Sizes}
use Rattle.pcl_base.specs.declared.event.Event.{Event}
use Rattle.pcl_base.specs.declared.event.Event.TheVariants as event
use Rattle.pcl_base.specs.declared.message.Body.{Body}
use Rattle.pcl_base.specs.declared.message.Body.TheVariants as body
use Rattle.pcl_base.specs.declared.message.CopyPart.TheVariants.{OnDisk}
use Rattle.pcl_base.specs.declared.tx.Mode.TheVariants.{Shared}
use Rattle.pcl_base.specs.declared.message.Message.{Message}
use Rattle.node_rules.specs.NodeState.{Outgoing}
use Rattle.cluster_rules.specs.ClusterRows.{t1, t2}
use Rattle.cluster_rules.specs.Run.{last}
use Rattle.cluster_laws.specs.Link.Coming.{speaks_of, coming}
use Rattle.cluster_laws.specs.Link.Orders.{AreOrdered}

-- two nodes with four pages of eight bytes: pages 1 and 3 are of partition 1
abbrev pub four : Sizes
four = record { nodes = 2; pages = 4; size = 8; frames = 4 }

-- a message of each kind, of page 1 or of partition 1
abbrev pub each_kind : List Body
each_kind =
    body.Request (record { tx = t1; page = 1; mode = Shared; have = None })
    ∷ body.Grant (record { tx = t1; page = 1; mode = Shared; right = true; version = 0; copy = OnDisk })
    ∷ body.Release (record { tx = t1; page = 1; change = None })
    ∷ body.Revoke 1
    ∷ body.Return (record { page = 1; readers = [] })
    ∷ body.Report (record { partition = 1; waits = []; locks = []; rights = [] })
    ∷ []

-- which of them speak of a page
abbrev pub speaking : ℕ → List Bool
speaking p = map (speaks_of four p) each_kind

-- how many messages of a page come on a link after some events
abbrev pub come : ℕ → ℕ → ℕ → List Event → ℕ
come p a b es = length (coming (last four es) p a b)

-- node 0 asks for pages 1 and 3
abbrev pub asks : List Event → List Event
asks es = event.Begin 0 ∷ event.Begin 0 ∷ event.Read t1 1 ∷ event.Read t2 3 ∷ es

-- node 0 gets partition 1 in view 2, and installs it
abbrev pub moves : List Event → List Event
moves es = event.View (true ∷ true ∷ []) (0 ∷ 0 ∷ []) ∷ event.Install 0 ∷ es

-- a message of an epoch, and a report of it
abbrev pub of_epoch : ℕ → Message
of_epoch e = record { epoch = e; body = body.Revoke 1 }

-- a report of an epoch
abbrev pub report_of : ℕ → Message
report_of e = record { epoch = e; body = body.Report (record { partition = 1; waits = []; locks = []; rights = [] }) }

-- a message of an epoch to a node
abbrev pub out : ℕ → ℕ → Outgoing
out to e = record { to = to; message = of_epoch e }

-- a report doesn't come behind a message of its epoch
abbrev pub NoReportIsSecond : Type 0
NoReportIsSecond = AreOrdered 0 (of_epoch 2 ∷ report_of 2 ∷ []) → ⊥

-- no epoch is below the one before
abbrev pub NoEpochFalls : Type 0
NoEpochFalls = AreOrdered 0 (of_epoch 2 ∷ of_epoch 1 ∷ []) → ⊥
