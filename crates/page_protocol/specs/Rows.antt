-- Small runs that compute, and states in which a step isn't allowed. Nodes 0, 1 and 2; node 0 is the owner.
use Rattle.std.specs.Prelude.{ℕ, false, ◌≡◌, ◌⊎◌, List, [], ◌∷◌, Some, None}
use Rattle.pcl_base.specs.declared.tx.TxId.{TxId}
use Rattle.pcl_base.specs.declared.tx.Mode.TheVariants.{Shared, Exclusive}
use Rattle.page_protocol.specs.Authority.{granting, giving, releasing_change}
use Rattle.page_protocol.specs.Eras.{crashing, falling, reporting, completing}
use Rattle.page_protocol.specs.Homes.{asking, accepting, taking_right, reading, writing, committing}
use Rattle.page_protocol.specs.State.{set_at, Image, OnDisk, Sent, Page, opening}
use Rattle.page_protocol.specs.Bytes.{Ranges}

-- A transaction of node 1.
abbrev pub first_writer : TxId
first_writer = record { node = 1; born = 1; serial = 1 }

-- A transaction of node 2.
abbrev pub next_reader : TxId
next_reader = record { node = 2; born = 1; serial = 1 }

-- The page at version 0.
abbrev pub zeros : List ℕ
zeros = 0 ∷ 0 ∷ 0 ∷ 0 ∷ []

-- The page at version 1.
abbrev pub written : List ℕ
written = 0 ∷ 7 ∷ 8 ∷ 0 ∷ []

-- The ranges that lead from one to the other.
abbrev pub changed : Ranges
changed = (1, 7 ∷ 8 ∷ []) ∷ []

-- The grant to the first.
abbrev pub first_grant : Sent
first_grant = record { tx = first_writer; mode = Exclusive; version = 0; word = OnDisk }

-- The grant with a right to the second.
abbrev pub next_grant : Sent
next_grant = record { tx = next_reader; mode = Shared; version = 1; word = Image written }

-- A transaction of node 1 asks for the page exclusively and is granted it,
abbrev pub granted : Page
granted = granting (asking (opening zeros 1 0) first_writer Exclusive) first_writer Exclusive OnDisk

-- takes the grant and writes two bytes,
abbrev pub wrote : Page
wrote = writing (accepting granted first_grant) first_writer 1 (7 ∷ 8 ∷ [])

-- and commits.
abbrev pub committed_write : Page
committed_write = committing wrote first_writer changed

-- Its release brings the change to the owner.
abbrev pub released : Page
released = releasing_change committed_write first_writer 1

-- A transaction of node 2 asks for it shared and gets the node a right.
abbrev pub right_given : Page
right_given = giving (asking released next_reader Shared) next_reader (Image written)

-- It takes the right and reads.
abbrev pub read_back : Page
read_back = reading (taking_right right_given next_grant) next_reader

-- The same as `right_given`, but that the reader gets a lock of its own.
abbrev pub lock_given : Page
lock_given = granting (asking released next_reader Shared) next_reader Shared (Image written)

-- The owner is lost before the release comes: nodes 1 and 2 report to era 2, which node 1 owns.
abbrev pub recovered : Page
recovered = completing (reporting (reporting (crashing (falling committed_write) 0) 1 2) 2 2) 2 1

-- The page is moved to node 1, era 2: node 2, which has a reader under its right, reports first, while era 1 serves,
abbrev pub half_moved : Page
half_moved = reporting read_back 2 2

-- and then the old owner and the new one.
abbrev pub moved : Page
moved = completing (reporting (reporting (falling half_moved) 0 2) 1 2) 2 1

-- Node 1 has gone on to era 2 while a grant of era 1 was on its way.
abbrev pub moved_on : Page
moved_on = reporting granted 1 2

-- The owner moves the page in mid-transaction: the writer still holds it.
abbrev pub half_reported : Page
half_reported = reporting (falling wrote) 0 2

-- A state that no run leads to: era 2 lists a reader beside the writer, and era 1 the writer alone.
abbrev pub unchained : Page
unchained =
    record (opening zeros 1 0) {
      served = false;
      listed = set_at (set_at (set_at (λ t e. None) first_writer 1 (Some Exclusive)) first_writer 2 (Some Exclusive)) next_reader 2 (Some Shared);
    }

-- One writer in the table that serves.
abbrev pub OneWriter : Page → Type 0
OneWriter a = (t u : TxId) → a.listed t a.era ≡ Some Exclusive → (a.listed u a.era ≡ None) ⊎ (u ≡ t)
