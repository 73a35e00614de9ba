-- What may happen to one page, and runs of it.
use Rattle.std.specs.Prelude.{ℕ, ◌<◌, ◌≤◌, Bool, true, false, ◌≡◌, ◌≢◌, List, Option, Some, None}
use Rattle.std.proofs.Common.{suc}
use Rattle.pcl_base.specs.declared.tx.TxId.{TxId}
use Rattle.pcl_base.specs.declared.tx.Mode.{Mode}
use Rattle.pcl_base.specs.declared.tx.Mode.TheVariants.{Shared, Exclusive}
use Rattle.page_protocol.specs.Authority.{granting, NobodyWrites, Alone, WordFits, giving, spending, NamesAll, HaveUsed, NamesUsed, returning, dropping, releasing, releasing_change, releasing_to_disk, losing}
use Rattle.page_protocol.specs.Eras.{crashing, falling, IsDead, purging, burying, lowering, redoing, reporting, joining, IsComplete, completing}
use Rattle.page_protocol.specs.Homes.{asking, upgrading, Waits, Takes, accepting, taking_right, keeping_right, reading_under, reading, writing, ending, committing_reads, committing}
use Rattle.page_protocol.specs.State.{has, Word, Sent, NoRight, Flying, Shelf, Returning, Dead, Fresh, Asking, Holding, HoldingAsks, Reading, ReadingAsks, Ended, Page, opening, In, IsFresh, IsGranted, IsClosed}
use Rattle.page_protocol.specs.Bytes.{Copy, Ranges, put_all, writes}
use Rattle.page_protocol.specs.Storage.{restoring, flushing, evicting, cutting}

-- One step, with what must hold for it.
pub data Step (a : Page) : Page → Type 0 where
  -- 1. At a home.
  -- A transaction asks for the page for the first time.
  asks : (t : TxId) (m : Mode) → a.home t ≡ Fresh → Step a (asking a t m)
  -- What a home tells of its copy is brought up to its slot, as in a report.
  retells : (t : TxId) (m : Mode) (h : Option ℕ) → a.home t ≡ Asking m h → Step a (asking a t m)
  -- A shared holder asks for the page exclusively.
  upgrades : (t : TxId) → a.home t ≡ Holding Shared → Step a (upgrading a t HoldingAsks)
  -- So does a reader under the right.
  upgrades_reader : (t : TxId) → a.home t ≡ Reading → Step a (upgrading a t ReadingAsks)
  -- A grant without a right comes to a transaction that waits for it.
  accepts : (g : Sent) → In g a.sent → Takes a g.tx.node → Waits (a.home g.tx) g.mode → Step a (accepting a g)
  -- A grant with a right comes to a transaction that waits for it.
  takes_right : (g : Sent) (h : Option ℕ) → a.right g.tx.node ≡ Flying g → Takes a g.tx.node → a.home g.tx ≡ Asking Shared h → Step a (taking_right a g)
  -- A grant with a right comes, and its transaction waits no more.
  keeps_right : (g : Sent) → a.right g.tx.node ≡ Flying g → Takes a g.tx.node → Step a (keeping_right a g)
  -- A first read at once, where the node has the right and a copy of its version.
  reads_under : (t : TxId) (v : ℕ) (c : Copy) → a.home t ≡ Fresh → a.right t.node ≡ Shelf v → a.slot t.node ≡ Some c → c.version ≡ v → Step a (reading_under a t)
  -- A granted read.
  reads : (t : TxId) → IsGranted (a.home t) → Step a (reading a t)
  -- A granted write.
  writes_piece : (t : TxId) (place : ℕ) (piece : List ℕ) → a.home t ≡ Holding Exclusive → Step a (writing a t place piece)
  -- A transaction ends without a commit.
  ends_open : (t : TxId) → Step a (ending a t)
  -- A transaction commits that has read the page and not written it.
  commits_reads : (t : TxId) → IsGranted (a.home t) → writes (a.script t) ≡ false → Step a (committing_reads a t)
  -- A transaction commits that has written the page: the record's ranges give its private copy.
  commits : (t : TxId) (ranges : Ranges) → a.home t ≡ Holding Exclusive → writes (a.script t) ≡ true → put_all ranges (a.hist a.now) ≡ a.image t → Step a (committing a t ranges)
  -- 2. At the authority.
  -- A served table makes a transaction a holder, and sends the grant.
  grants_lock : (t : TxId) (m : Mode) (w : Word) → a.served ≡ true → NobodyWrites a → Alone a t m → (IsFresh (a.home t) → ⊥) → WordFits a t w → Step a (granting a t m w)
  -- A served table sends a grant with a right.
  gives_right : (t : TxId) (w : Word) → a.served ≡ true → NobodyWrites a → a.right t.node ≡ NoRight → (IsFresh (a.home t) → ⊥) → WordFits a t w → Step a (giving a t w)
  -- A revocation comes to a node with a right, which answers with its readers, each of which has accessed the page.
  revokes : (n v : ℕ) (readers : List TxId) → a.right n ≡ Shelf v → Takes a n → NamesAll a n readers → NamesUsed a n readers → Step a (spending a n (suc a.era) readers)
  -- A node that is to own a later era turns its right into locks, and goes on to that era.
  turns : (n v e : ℕ) (readers : List TxId) → a.right n ≡ Shelf v → a.era ≤ a.reached n → a.reached n < e → NamesAll a n readers → NamesUsed a n readers → HaveUsed a n → Step a (reporting (spending a n e readers) n e)
  -- The answer to a revocation comes to the table.
  returns_right : (n : ℕ) (readers : List TxId) → a.right n ≡ Returning (suc a.era) readers → Step a (returning a n readers)
  -- A right that was lost with its node leaves the table.
  drops_right : (n : ℕ) → a.right n ≡ Dead → Step a (dropping a n)
  -- So does one whose grant was lost.
  drops_grant : (n : ℕ) (g : Sent) → a.right n ≡ Flying g → Step a (dropping a n)
  -- So does one whose answer never comes, once its readers are dead.
  drops_answer : (n upto : ℕ) (readers : List TxId) → a.right n ≡ Returning upto readers → ((t : TxId) → t.node ≡ n → has t readers ≡ true → IsClosed (a.home t) × ((f : ℕ) → a.era < f → a.listed t f ≡ None)) → Step a (dropping a n)
  -- A release comes to the table that serves, and has no change, or not the next one.
  releases : (t : TxId) (change : Option ℕ) → a.home t ≡ Ended change a.era → change ≢ Some (suc a.entry) → Step a (releasing a t a.era)
  -- A release comes with the next version, which goes into the owner's slot.
  releases_change : (t : TxId) → a.served ≡ true → a.home t ≡ Ended (Some (suc a.entry)) a.era → Step a (releasing_change a t (suc a.entry))
  -- The same, to disk, where the owner has no slot for it.
  releases_to_disk : (t : TxId) → a.served ≡ true → a.home t ≡ Ended (Some (suc a.entry)) a.era → a.slot a.owner ≡ None → Step a (releasing_to_disk a t (suc a.entry))
  -- A release comes to a table that is being rebuilt.
  releases_early : (t : TxId) (change : Option ℕ) (e : ℕ) → a.era < e → a.home t ≡ Ended change e → Step a (releasing a t e)
  -- A release is lost: the table to which it goes doesn't serve and never will.
  loses : (t : TxId) (change : Option ℕ) (e : ℕ) → a.home t ≡ Ended change e → (e ≡ a.era → a.served ≡ false) → Step a (losing a t)
  -- 3. Losses and eras.
  -- A node crashes or halts; the serving owner falls first.
  crashes : (n : ℕ) → (a.served ≡ true → n ≢ a.owner) → Step a (crashing a n)
  -- The authority serves no more.
  falls : Step a (falling a)
  -- A served table removes dead transactions, whose node's log has no change still to come.
  purges : (n : ℕ) (dead : TxId → Bool) → a.served ≡ true → a.log n (suc a.entry) ≡ None → IsDead a n a.era dead → Step a (purging a a.era dead)
  -- A served page is redone for a lost node, before the purge.
  redoes : a.served ≡ true → Step a (redoing a)
  -- A table that is being rebuilt removes dead transactions.
  purges_early : (n e : ℕ) (dead : TxId → Bool) → a.era < e → IsDead a n e dead → Step a (purging a e dead)
  -- What eras from e on have of transactions that are no more is removed.
  buries : (e : ℕ) (dead : TxId → Bool) → a.era < e → ((t : TxId) → dead t ≡ true → IsClosed (a.home t)) → Step a (burying a e dead)
  -- An answer that never comes counts for no era from `low` on, once its readers are no more.
  lowers : (n upto low : ℕ) (readers : List TxId) → a.right n ≡ Returning upto readers → a.era < low → low ≤ upto → ((t : TxId) → t.node ≡ n → has t readers ≡ true → IsClosed (a.home t) × ((f : ℕ) → low < f → a.listed t f ≡ None)) → Step a (lowering a n low readers)
  -- A node, each of whose locks was used, goes on to a later era, and reports.
  reports : (n e : ℕ) → a.era ≤ a.reached n → a.reached n < e → HaveUsed a n → Step a (reporting a n e)
  -- A node that starts afresh begins in an era.
  joins : (n e : ℕ) → a.era ≤ e → a.reached n ≤ e → ((t : TxId) → t.node ≡ n → IsClosed (a.home t)) → Step a (joining a n e)
  -- A later era is complete and serves.
  completes : (e o : ℕ) → a.served ≡ false → a.era < e → IsComplete a e → Step a (completing a e o)
  -- 4. Storage.
  -- The page of a version between the disk's and the entry's, or where nobody serves the current one, is written.
  restores : (w : ℕ) → a.disk.version ≤ w → w ≤ a.now → (a.served ≡ true → w ≤ a.entry) → Step a (restoring a w)
  -- The owner writes its dirty copy.
  flushes : (c : Copy) → a.dirty ≡ true → a.slot a.owner ≡ Some c → c.version ≤ a.entry → Step a (flushing a c)
  -- A node without open transactions on the page gives up its copy.
  evicts : (n : ℕ) → (n ≡ a.owner → a.dirty ≡ false) → ((t : TxId) → t.node ≡ n → IsClosed (a.home t)) → Step a (evicting a n)
  -- A node cuts records that the disk has.
  cuts : (n w : ℕ) → w ≤ a.disk.version → Step a (cutting a n w)

-- A list of steps, one after another.
pub data Run (a : Page) : Page → Type 0 where
  here : Run a a
  then : {b c : Page} → Run a b → Step b c → Run a c

-- The pages that a run leads to from the opening state.
abbrev pub Reached : List ℕ → Page → Type 0
Reached blank a = (era : ℕ) × (owner : ℕ) × Run (opening blank era owner) a
