-- Disks and traces for computed rows of redo, durable and the account.
use Rattle.std.specs.Prelude.{ℕ, Bool, false, List, [], ◌∷◌, None}
use Rattle.pcl_base.specs.declared.event.Event.{Event}
use Rattle.pcl_base.specs.declared.event.Event.TheVariants as event
use Rattle.pcl_base.specs.declared.log.Part.{Part}
use Rattle.pcl_base.specs.declared.log.Part.TheVariants.{Ranges}
use Rattle.pcl_base.specs.declared.log.Record.{Record}
use Rattle.pcl_base.specs.declared.reply.Reply.{Reply}
use Rattle.pcl_base.specs.declared.reply.Reply.TheVariants as reply
use Rattle.pcl_base.specs.declared.trace.CopyKind.TheVariants.{OnDisk}
use Rattle.pcl_base.specs.declared.trace.Entry.{Entry}
use Rattle.pcl_base.specs.declared.trace.Note.TheVariants as note
use Rattle.pcl_base.specs.declared.trace.Sent.{Sent}
use Rattle.pcl_base.specs.declared.tx.Mode.TheVariants.{Shared, Exclusive}
use Rattle.text_rules.specs.LogRecord.{record_bytes}
use Rattle.text_rules.specs.StoredPage.{PageAt}
use Rattle.run_rules.specs.Disk.{Disk, fresh_disk}
use Rattle.run_rules.specs.Examples.{tx, entry, sent, one_page, two_nodes}

-- a page of two bytes at a version, and records that make it newer
abbrev pub at_version : ℕ → List ℕ → PageAt
at_version v bytes = record { version = v; bytes = bytes }

-- a record of one changed page
abbrev pub changed : ℕ → ℕ → Part → Record
changed page v part = record { tx = tx 0 1; changes = record { page = page; version = v; part = part } ∷ [] }

-- one changed byte
abbrev pub one_byte : ℕ → ℕ → Part
one_byte place b = Ranges (record { place = place; bytes = b ∷ [] } ∷ [])

-- one page of eight bytes, and a log with the record of two bytes of it
abbrev pub one_record : Disk
one_record =
    record (fresh_disk one_page) {
      logs = record_bytes (changed 0 1 (Ranges (record { place = 2; bytes = 190 ∷ 239 ∷ [] } ∷ []))) ∷ [];
    }

-- two nodes, and a record of page 1 in the log of node 0
abbrev pub other_log : Disk
other_log = record (fresh_disk two_nodes) { logs = record_bytes (changed 1 1 (one_byte 0 9)) ∷ [] ∷ [] }

-- a transaction of node 0 asks for page 1 of node 1, and gets it
abbrev pub asks : List Entry
asks =
    entry (event.Begin 0) (reply.Begun (tx 0 1) ∷ []) []
    ∷ entry (event.Read (tx 0 1) 1) (reply.Waits (tx 0 1) 1 ∷ []) (sent 0 1 (note.Request (tx 0 1) 1 Shared None) ∷ [])
    ∷ []

-- node 1 takes the request and sends a grant, with a right or without, perhaps twice
abbrev pub granted : Bool → Sent
granted right = sent 1 0 (note.Grant (tx 0 1) 1 Shared right 0 OnDisk)

-- node 1 takes the request and sends messages
abbrev pub grants : List Sent → List Entry
grants ms = entry (event.Deliver 0 1) (reply.Taken ∷ []) ms ∷ []

-- node 0 takes the grant
abbrev pub reads : List Entry
reads =
    entry (event.Deliver 1 0)
    (reply.Taken ∷ reply.Value (tx 0 1) 1 0 (0 ∷ 0 ∷ 0 ∷ 0 ∷ 0 ∷ 0 ∷ 0 ∷ 0 ∷ []) ∷ []) []
    ∷ []

-- the transaction commits, and sends its release, perhaps twice
abbrev pub released : Sent
released = sent 0 1 (note.Release (tx 0 1) 1 None)

-- the commit with its messages
abbrev pub ends : List Sent → List Entry
ends ms = entry (event.Commit (tx 0 1)) (reply.Committed (tx 0 1) ∷ []) ms ∷ []

-- a transaction of node 1 begins; it writes page 1 and waits, and node 1 revokes the right
abbrev pub begins : List Sent → List Entry
begins ms = entry (event.Begin 1) (reply.Begun (tx 1 1) ∷ []) ms ∷ []

-- the revocation of the right
abbrev pub revoked : Sent
revoked = sent 1 0 (note.Revoke 1)

-- the write that waits, with its messages
abbrev pub writes : List Sent → List Entry
writes ms = entry (event.Write (tx 1 1) 1 0 (7 ∷ [])) (reply.Waits (tx 1 1) 1 ∷ []) ms ∷ []

-- node 0 takes the revocation and answers
abbrev pub returned : Sent
returned = sent 0 1 (note.Return 1 (tx 0 1 ∷ []))

-- the taken revocation with its messages
abbrev pub answers : List Sent → List Entry
answers ms = entry (event.Deliver 1 0) (reply.Taken ∷ []) ms ∷ []

-- a second transaction of node 0 asks to write page 1, and node 1 sends messages
abbrev pub asks_to_write : List Sent → List Entry
asks_to_write ms =
    entry (event.Begin 0) (reply.Begun (tx 0 2) ∷ []) []
    ∷ entry (event.Write (tx 0 2) 1 0 (7 ∷ [])) (reply.Waits (tx 0 2) 1 ∷ []) (sent 0 1 (note.Request (tx 0 2) 1 Exclusive None) ∷ [])
    ∷ entry (event.Deliver 0 1) (reply.Taken ∷ []) ms
    ∷ []

-- its grant
abbrev pub granted_to_write : Sent
granted_to_write = sent 1 0 (note.Grant (tx 0 2) 1 Exclusive false 0 OnDisk)

-- an entry in which that transaction is said to end, and its release is sent
abbrev pub ends_as : Event → Reply → List Entry
ends_as e r = entry e (r ∷ []) (released ∷ []) ∷ []
