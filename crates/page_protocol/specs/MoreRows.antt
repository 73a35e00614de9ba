-- Worked schedules as one page sees them: whole runs, each state with what happened since the one before.
use Rattle.std.specs.Prelude.{ℕ, List, [], ◌∷◌}
use Rattle.pcl_base.specs.declared.tx.TxId.{TxId}
use Rattle.pcl_base.specs.declared.tx.Mode.{Mode}
use Rattle.pcl_base.specs.declared.tx.Mode.TheVariants.{Shared, Exclusive}
use Rattle.page_protocol.specs.Authority.{granting, giving, spending, returning, releasing, releasing_change, losing}
use Rattle.page_protocol.specs.Eras.{crashing, falling, reporting, joining, completing}
use Rattle.page_protocol.specs.Homes.{asking, accepting, taking_right, reading, writing, committing_reads, committing}
use Rattle.page_protocol.specs.State.{Word, Current, Image, OnDisk, Sent, Page, opening}
use Rattle.page_protocol.specs.Bytes.{Ranges}
use Rattle.page_protocol.specs.Storage.{restoring}

-- A page of eight bytes, all zero but the first.
abbrev pub begins : ℕ → List ℕ
begins byte = byte ∷ 0 ∷ 0 ∷ 0 ∷ 0 ∷ 0 ∷ 0 ∷ 0 ∷ []

-- The ranges of a record that changes the first byte.
abbrev pub first_byte : ℕ → Ranges
first_byte byte = (0, byte ∷ []) ∷ []

-- The first transaction of a node that was born in an epoch.
abbrev pub first_of : ℕ → ℕ → TxId
first_of node born = record { node = node; born = born; serial = 1 }

-- A grant as it is sent.
abbrev pub grant : TxId → Mode → ℕ → Word → Sent
grant t m version w = record { tx = t; mode = m; version = version; word = w }

-- A waiting transaction is granted the page exclusively, takes the grant and writes the first byte.
abbrev pub granted_write : Page → TxId → Word → ℕ → Page
granted_write a t w byte = writing (accepting (granting a t Exclusive w) (grant t Exclusive a.entry w)) t 0 (byte ∷ [])

-- One is granted it shared, takes the grant and reads.
abbrev pub granted_read : Page → TxId → Word → Page
granted_read a t w = reading (accepting (granting a t Shared w) (grant t Shared a.entry w)) t

-- One whose home owns the page commits what it read, and its end goes into the table.
abbrev pub read_ended : Page → TxId → Page
read_ended a t = releasing (committing_reads a t) t a.era

-- 1. The image goes with the release; node 1 is the owner. A transaction of node 0 writes and commits,
abbrev pub image_sent : Page
image_sent = committing (granted_write (asking (opening (begins 0) 1 1) (first_of 0 1) Exclusive) (first_of 0 1) OnDisk 7) (first_of 0 1) (first_byte 7)

-- one of the owner waits, until the release comes with the change,
abbrev pub image_taken : Page
image_taken = releasing_change (asking image_sent (first_of 1 1) Shared) (first_of 0 1) 1

-- and reads the owner's own copy, which is now current.
abbrev pub image_read : Page
image_read = read_ended (granted_read (asking image_taken (first_of 1 1) Shared) (first_of 1 1) Current) (first_of 1 1)

-- One is given its node's right with the grant, takes it and reads.
abbrev pub right_read : Page → TxId → Word → Page
right_read a t w = reading (taking_right (giving a t w) (grant t Shared a.entry w)) t

-- 2. A revocation meets an open reader; node 1 is the owner. A transaction of node 0 reads under its node's right,
abbrev pub reader_open : Page
reader_open = right_read (asking (opening (begins 0) 1 1) (first_of 0 1) Shared) (first_of 0 1) OnDisk

-- one of the owner wants to write; the revocation comes to node 0, whose answer names the reader,
abbrev pub right_returned : Page
right_returned = returning (spending (asking reader_open (first_of 1 1) Exclusive) 0 2 (first_of 0 1 ∷ [])) 0 (first_of 0 1 ∷ [])

-- the reader ends, and its release comes,
abbrev pub reader_ended : Page
reader_ended = releasing (committing_reads right_returned (first_of 0 1)) (first_of 0 1) 1

-- and the writer writes and commits.
abbrev pub revoked_for : Page
revoked_for = releasing_change (committing (granted_write reader_ended (first_of 1 1) OnDisk 1) (first_of 1 1) (first_byte 1)) (first_of 1 1) 1

-- 3. A commit during rebuilding; node 1 owns era 1, node 0 era 2. A transaction of node 2 writes, and the owner is lost;
abbrev pub owner_lost : Page
owner_lost = crashing (falling (granted_write (asking (opening (begins 0) 1 1) (first_of 2 1) Exclusive) (first_of 2 1) OnDisk 5)) 1

-- the new owner has its own report, a transaction of its own waits, and the writer commits, while its node is in era 1;
abbrev pub commit_rebuilding : Page
commit_rebuilding = committing (asking (reporting owner_lost 0 2) (first_of 0 1) Shared) (first_of 2 1) (first_byte 5)

-- then that node reports, its release to the old owner is lost, and era 2 serves what the logs have,
abbrev pub rebuilt : Page
rebuilt = completing (losing (reporting commit_rebuilding 2 2) (first_of 2 1)) 2 0

-- which the waiting transaction reads.
abbrev pub survivor_read : Page
survivor_read = read_ended (granted_read rebuilt (first_of 0 1) OnDisk) (first_of 0 1)

-- 4. A node comes back. Node 1 owns era 1 and is lost, and node 0 owns era 2,
abbrev pub left_alone : Page
left_alone = completing (reporting (crashing (falling (opening (begins 0) 1 1)) 1) 0 2) 2 0

-- and node 1 era 3, in which it starts afresh.
abbrev pub come_back : Page
come_back = completing (joining (reporting (falling left_alone) 0 3) 1 3) 3 1

-- A transaction of its new life writes and commits,
abbrev pub wrote_anew : Page
wrote_anew = releasing_change (committing (granted_write (asking come_back (first_of 1 3) Exclusive) (first_of 1 3) OnDisk 1) (first_of 1 3) (first_byte 1)) (first_of 1 3) 1

-- and one of node 0 reads this under a right.
abbrev pub read_anew : Page
read_anew = right_read (asking wrote_anew (first_of 0 1) Shared) (first_of 0 1) (Image (begins 1))

-- 5. A new owner stops within redo. Node 1 owns era 1; a transaction of node 2 commits, and the owner is lost with its release;
abbrev pub release_lost : ℕ → Page
release_lost byte = losing (crashing (falling (committing (granted_write (asking (opening (begins 0) 1 1) (first_of 2 1) Exclusive) (first_of 2 1) OnDisk byte) (first_of 2 1) (first_byte byte))) 1) (first_of 2 1)

-- node 0 has both reports and is to own era 2, but stops at a write within redo: of a page that it hasn't written,
abbrev pub stopped_before : ℕ → Page
stopped_before byte = crashing (reporting (reporting (release_lost byte) 0 2) 2 2) 0

-- and of one that it has written.
abbrev pub stopped_after : ℕ → Page
stopped_after byte = restoring (stopped_before byte) 1

-- Node 2 owns era 3, which serves.
abbrev pub redone_again : Page → Page
redone_again a = completing (reporting a 2 3) 3 2

-- Another transaction of node 2 reads.
abbrev pub second_reader : TxId
second_reader = record { node = 2; born = 1; serial = 2 }

-- The page after that.
abbrev pub read_after : Page → Page
read_after a = read_ended (granted_read (asking (redone_again a) second_reader Shared) second_reader Current) second_reader
