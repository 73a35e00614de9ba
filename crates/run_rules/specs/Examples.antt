-- Traces that the computed rows are about.
use Rattle.std.specs.Prelude.{ℕ, false, List, [], ◌∷◌, None, Some}
use Rattle.pcl_base.specs.Limits.{Sizes}
use Rattle.pcl_base.specs.declared.tx.TxId.{TxId}
use Rattle.pcl_base.specs.declared.tx.Mode.TheVariants.{Exclusive}
use Rattle.pcl_base.specs.declared.event.Event.{Event}
use Rattle.pcl_base.specs.declared.event.Event.TheVariants as event
use Rattle.pcl_base.specs.declared.reply.Reply.{Reply}
use Rattle.pcl_base.specs.declared.reply.Reply.TheVariants as reply
use Rattle.pcl_base.specs.declared.trace.Entry.{Entry}
use Rattle.pcl_base.specs.declared.trace.Sent.{Sent}
use Rattle.pcl_base.specs.declared.trace.Note.{Note}
use Rattle.pcl_base.specs.declared.trace.Note.TheVariants as note
use Rattle.pcl_base.specs.declared.reply.Reason.TheVariants.{TxWaits}
use Rattle.pcl_base.specs.declared.trace.Call.TheVariants.{Force}
use Rattle.pcl_base.specs.declared.trace.CopyKind.TheVariants.{OnDisk}
use Rattle.run_rules.specs.Base.{Base}

-- a transaction of birth 1
abbrev pub tx : ℕ → ℕ → TxId
tx node serial = record { node = node; born = 1; serial = serial }

-- an entry without a halt
abbrev pub entry : Event → List Reply → List Sent → Entry
entry e replies sent = record { event = e; replies = replies; sent = sent; halted = None }

-- one node with one page of eight bytes
abbrev pub one_page : Sizes
one_page = record { nodes = 1; pages = 1; size = 8; frames = 4 }

-- a transaction writes two bytes and reads them, and a second one reads the page
abbrev pub plain_path : List Entry
plain_path =
    entry (event.Begin 0) (reply.Begun (tx 0 1) ∷ []) []
    ∷ entry (event.Write (tx 0 1) 0 2 (190 ∷ 239 ∷ [])) (reply.Done (tx 0 1) 0 0 ∷ []) []
    ∷ entry (event.Read (tx 0 1) 0) (reply.Value (tx 0 1) 0 0 (0 ∷ 0 ∷ 190 ∷ 239 ∷ 0 ∷ 0 ∷ 0 ∷ 0 ∷ []) ∷ []) []
    ∷ entry (event.Commit (tx 0 1)) (reply.Committed (tx 0 1) ∷ []) []
    ∷ entry (event.Begin 0) (reply.Begun (tx 0 2) ∷ []) []
    ∷ entry (event.Read (tx 0 2) 0) (reply.Value (tx 0 2) 0 1 (0 ∷ 0 ∷ 190 ∷ 239 ∷ 0 ∷ 0 ∷ 0 ∷ 0 ∷ []) ∷ []) []
    ∷ entry (event.Commit (tx 0 2)) (reply.Committed (tx 0 2) ∷ []) []
    ∷ []

-- two nodes with four pages of eight bytes
abbrev pub two_nodes : Sizes
two_nodes = record { nodes = 2; pages = 4; size = 8; frames = 4 }

-- a message of view 1
abbrev pub sent : ℕ → ℕ → Note → Sent
sent from to note = record { from = from; to = to; epoch = 1; note = note }

-- A transaction of node 0 writes page 1 of node 1 and commits; a transaction of node 1 reads the
-- page, and is given some bytes.
abbrev pub image_with_release : List ℕ → List Entry
image_with_release bytes =
    entry (event.Begin 0) (reply.Begun (tx 0 1) ∷ []) []
    ∷ entry (event.Write (tx 0 1) 1 0 (7 ∷ [])) (reply.Waits (tx 0 1) 1 ∷ [])
    (sent 0 1 (note.Request (tx 0 1) 1 Exclusive None) ∷ [])
    ∷ entry (event.Deliver 0 1) (reply.Taken ∷ [])
    (sent 1 0 (note.Grant (tx 0 1) 1 Exclusive false 0 OnDisk) ∷ [])
    ∷ entry (event.Deliver 1 0) (reply.Taken ∷ reply.Done (tx 0 1) 1 0 ∷ []) []
    ∷ entry (event.Commit (tx 0 1)) (reply.Committed (tx 0 1) ∷ [])
    (sent 0 1 (note.Release (tx 0 1) 1 (Some 1)) ∷ [])
    ∷ entry (event.Begin 1) (reply.Begun (tx 1 1) ∷ []) []
    ∷ entry (event.Read (tx 1 1) 1) (reply.Waits (tx 1 1) 1 ∷ []) []
    ∷ entry (event.Deliver 0 1) (reply.Taken ∷ reply.Value (tx 1 1) 1 1 bytes ∷ []) []
    ∷ entry (event.Commit (tx 1 1)) (reply.Committed (tx 1 1) ∷ []) []
    ∷ []

-- the page that the first transaction left, and one with another byte
abbrev pub written_page : List ℕ
written_page = 7 ∷ 0 ∷ 0 ∷ 0 ∷ 0 ∷ 0 ∷ 0 ∷ 0 ∷ []

abbrev pub changed_page : List ℕ
changed_page = 8 ∷ 0 ∷ 0 ∷ 0 ∷ 0 ∷ 0 ∷ 0 ∷ 0 ∷ []

-- A write waits, a second one is refused meanwhile, the first is granted, and the commit is a stop
-- that keeps the whole record.
abbrev pub kept_commit : List Entry
kept_commit =
    entry (event.Begin 0) (reply.Begun (tx 0 1) ∷ []) []
    ∷ entry (event.Write (tx 0 1) 1 0 (7 ∷ [])) (reply.Waits (tx 0 1) 1 ∷ [])
    (sent 0 1 (note.Request (tx 0 1) 1 Exclusive None) ∷ [])
    ∷ entry (event.Write (tx 0 1) 1 3 (9 ∷ [])) (reply.Refused TxWaits ∷ []) []
    ∷ entry (event.Deliver 0 1) (reply.Taken ∷ [])
    (sent 1 0 (note.Grant (tx 0 1) 1 Exclusive false 0 OnDisk) ∷ [])
    ∷ entry (event.Deliver 1 0) (reply.Taken ∷ reply.Done (tx 0 1) 1 0 ∷ []) []
    ∷ record { event = event.Commit (tx 0 1); replies = []; sent = []; halted = Some (record { call = Force; kept = Some (tx 0 1) }) }
    ∷ []

-- A transaction reads a page that a second one then writes; the second commits, and then the first.
-- Each access finds its page as it is at that moment.
abbrev pub read_before_write : List Entry
read_before_write =
    entry (event.Begin 0) (reply.Begun (tx 0 1) ∷ []) []
    ∷ entry (event.Begin 0) (reply.Begun (tx 0 2) ∷ []) []
    ∷ entry (event.Read (tx 0 1) 0) (reply.Value (tx 0 1) 0 0 (0 ∷ 0 ∷ 0 ∷ 0 ∷ 0 ∷ 0 ∷ 0 ∷ 0 ∷ []) ∷ []) []
    ∷ entry (event.Write (tx 0 2) 0 0 (7 ∷ [])) (reply.Done (tx 0 2) 0 0 ∷ []) []
    ∷ entry (event.Commit (tx 0 2)) (reply.Committed (tx 0 2) ∷ []) []
    ∷ entry (event.Commit (tx 0 1)) (reply.Committed (tx 0 1) ∷ []) []
    ∷ []

-- a base of two pages of two bytes, written four and seven times
abbrev pub small_base : Base
small_base = record { version = 4; bytes = 1 ∷ 2 ∷ [] } ∷ record { version = 7; bytes = 3 ∷ 4 ∷ [] } ∷ []
