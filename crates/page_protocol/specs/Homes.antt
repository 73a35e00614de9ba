-- What happens at the home node of a transaction.
use Rattle.std.specs.Prelude.{ℕ, true, ◌&&◌, eqb, ◌≡◌, List, [], ◌∷◌, ◌++◌, Some, None}
use Rattle.std.proofs.Common.{suc}
use Rattle.pcl_base.specs.declared.tx.TxId.{TxId}
use Rattle.pcl_base.specs.declared.tx.Mode.{Mode}
use Rattle.pcl_base.specs.declared.tx.Mode.TheVariants.{Shared, Exclusive}
use Rattle.page_protocol.specs.State.{pick, upd, updn, Sent, Shelf, Home, Fresh, Asking, Holding, HoldingAsks, Reading, ReadingAsks, Ended, Gone, Page, version_of, bytes_of, told_copy}
use Rattle.page_protocol.specs.Bytes.{put, Ranges, Read, Write}

-- A request: the version of the node's copy is told with it. Also what a report tells of an access that waits.
unfoldable pub asking : Page → TxId → Mode → Page
asking a t m = record a { home = upd a.home t (Asking m (version_of (a.slot t.node))) }

-- A holder, or a reader under a right, asks for the page exclusively.
unfoldable pub upgrading : Page → TxId → Home → Page
upgrading a t h = record a { home = upd a.home t h }

-- The transaction waits for the page in this mode.
abbrev pub Waits : Home → Mode → Type 0
Waits Fresh m = ⊥
Waits (Asking k h) m = k ≡ m
Waits (Holding k) m = ⊥
Waits HoldingAsks m = m ≡ Exclusive
Waits Reading m = ⊥
Waits ReadingAsks m = m ≡ Exclusive
Waits (Ended c e) m = ⊥
Waits Gone m = ⊥

-- The node hasn't left the era that serves, so it takes a grant; a later one lets it pass.
abbrev pub Takes : Page → ℕ → Type 0
Takes a n = a.reached n ≡ a.era

-- A grant without a right is taken: the slot gets the copy, the private copy is filled from it.
unfoldable pub accepting : Page → Sent → Page
accepting a g =
    record a {
      home = upd a.home g.tx (Holding g.mode);
      slot = updn a.slot g.tx.node (told_copy g.word g.version (a.slot g.tx.node) a.disk);
      image = upd a.image g.tx (bytes_of (told_copy g.word g.version (a.slot g.tx.node) a.disk));
    }

-- A grant with a right comes to a transaction that waits for it, which reads under the right.
unfoldable pub taking_right : Page → Sent → Page
taking_right a g =
    record a {
      home = upd a.home g.tx Reading;
      slot = updn a.slot g.tx.node (told_copy g.word g.version (a.slot g.tx.node) a.disk);
      right = updn a.right g.tx.node (Shelf g.version);
    }

-- A grant with a right comes, and its transaction waits no more: the right is accepted.
unfoldable pub keeping_right : Page → Sent → Page
keeping_right a g = record a { right = updn a.right g.tx.node (Shelf g.version) }

-- A first read at once, under the node's right.
unfoldable pub reading_under : Page → TxId → Page
reading_under a t = record a { home = upd a.home t Reading }

-- What a granted read answers: the private copy of a writer, the slot otherwise.
abbrev pub seen_by : Home → List ℕ → List ℕ → List ℕ
seen_by Fresh image slot = slot
seen_by (Asking m h) image slot = slot
seen_by (Holding Shared) image slot = slot
seen_by (Holding Exclusive) image slot = image
seen_by HoldingAsks image slot = slot
seen_by Reading image slot = slot
seen_by ReadingAsks image slot = slot
seen_by (Ended c e) image slot = slot
seen_by Gone image slot = slot

-- The same for a transaction of a page's state.
abbrev pub seen : Page → TxId → List ℕ
seen a t = seen_by (a.home t) (a.image t) (bytes_of (a.slot t.node))

-- A granted read.
unfoldable pub reading : Page → TxId → Page
reading a t = record a { script = upd a.script t (a.script t ++ Read (seen a t) ∷ []) }

-- A granted write.
unfoldable pub writing : Page → TxId → ℕ → List ℕ → Page
writing a t place piece =
    record a {
      script = upd a.script t (a.script t ++ Write place piece ∷ []);
      image = upd a.image t (put place piece (a.image t));
    }

-- A transaction ends without a change of the page: one release goes to the era of its node, but for
-- a reader under a right, and for one that never asked.
abbrev pub ended : Home → ℕ → Home
ended Fresh e = Gone
ended (Asking m h) e = Ended None e
ended (Holding m) e = Ended None e
ended HoldingAsks e = Ended None e
ended Reading e = Gone
ended ReadingAsks e = Ended None e
ended (Ended c f) e = Ended c f
ended Gone e = Gone

-- The end of a transaction that doesn't commit.
unfoldable pub ending : Page → TxId → Page
ending a t = record a { home = upd a.home t (ended (a.home t) (a.reached t.node)) }

-- A commit of a transaction that has read the page and not written it.
unfoldable pub committing_reads : Page → TxId → Page
committing_reads a t =
    record a {
      committed = a.committed ++ a.script t ∷ [];
      home = upd a.home t (ended (a.home t) (a.reached t.node));
    }

-- A commit of a writer: the record is forced to the log of its node, the slot becomes the private
-- copy at the next version (dirty at the serving owner), and a release with the change goes out.
unfoldable pub committing : Page → TxId → Ranges → Page
committing a t ranges =
    record a {
      now = suc a.now;
      hist = updn a.hist (suc a.now) (a.image t);
      committed = a.committed ++ a.script t ∷ [];
      log = updn a.log t.node (updn (a.log t.node) (suc a.now) (Some ranges));
      slot = updn a.slot t.node (Some (record { version = suc a.now; bytes = a.image t }));
      dirty = pick (a.served && eqb t.node a.owner) true a.dirty;
      home = upd a.home t (Ended (Some (suc a.now)) (a.reached t.node));
    }
