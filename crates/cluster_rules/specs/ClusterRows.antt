-- Runs of two nodes, for computed rows.
use Rattle.std.specs.Prelude.{true, false, List, [], ◌∷◌, map, Option, None}
use Rattle.pcl_base.specs.Limits.{Sizes}
use Rattle.pcl_base.specs.declared.tx.TxId.{TxId}
use Rattle.pcl_base.specs.declared.tx.Mode.TheVariants.{Shared}
use Rattle.pcl_base.specs.declared.event.Event.{Event}
use Rattle.pcl_base.specs.declared.event.Event.TheVariants as event
use Rattle.pcl_base.specs.declared.message.Body.TheVariants.{Request}
use Rattle.pcl_base.specs.declared.message.Message.{Message}
use Rattle.pcl_base.specs.declared.reply.Reply.{Reply}
use Rattle.pcl_base.specs.declared.trace.Entry.{Entry}
use Rattle.pcl_base.specs.declared.trace.Halt.{Halt}
use Rattle.cluster_rules.specs.Links.{link_at}
use Rattle.cluster_rules.specs.Run.{last}

-- two nodes with two pages of eight bytes
abbrev pub two : Sizes
two = record { nodes = 2; pages = 2; size = 8; frames = 4 }

-- transactions of node 0
abbrev pub t1 : TxId
t1 = record { node = 0; born = 1; serial = 1 }

-- the second one
abbrev pub t2 : TxId
t2 = record { node = 0; born = 1; serial = 2 }

-- the replies of each entry, and the halt of the last one
abbrev pub replies_of : List Event → List (List Reply)
replies_of es = map (λ (e : Entry). e.replies) (last two es).trace

-- the halt of the last of some entries
abbrev pub halt_or : Option Halt → List Entry → Option Halt
halt_or h [] = h
halt_or h (e ∷ es) = halt_or e.halted es

-- the halt of the last entry
abbrev pub last_halt : List Event → Option Halt
last_halt es = halt_or None (last two es).trace

-- the messages from node 0 to node 1, and the log of node 0
abbrev pub on_the_way : List Event → List Message
on_the_way es = link_at (last two es).links 0 1

-- a request of a transaction of node 0 for page 1
abbrev pub request : TxId → Message
request t = record { epoch = 1; body = Request (record { tx = t; page = 1; mode = Shared; have = None }) }

-- a node that writes its own page and commits
abbrev pub commits : List Event → List Event
commits es =
    event.Begin 0 ∷ event.Write t1 0 0 (7 ∷ []) ∷ event.Commit t1 ∷ es

-- node 1 is dropped and comes back
abbrev pub drops : List Event → List Event
drops es = event.Crash 1 ∷ event.View (true ∷ false ∷ []) (0 ∷ 0 ∷ []) ∷ es

-- node 1 comes back and owns its partition
abbrev pub brings_back : List Event → List Event
brings_back es = event.View (true ∷ true ∷ []) (0 ∷ 1 ∷ []) ∷ es

-- all nodes are lost, and node 0 serves again; its first transaction from then on
abbrev pub opens_again : List Event → List Event
opens_again es =
    event.Crash 0 ∷ event.Crash 1 ∷ event.Reopen ∷ event.Install 0 ∷ event.Install 1 ∷ event.Deliver 1 0 ∷ es

-- the first transaction of node 0 from then on
abbrev pub t3 : TxId
t3 = record { node = 0; born = 2; serial = 1 }
