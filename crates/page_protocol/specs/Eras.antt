-- Losses of nodes, and the eras of authority.
use Rattle.std.specs.Prelude.{ℕ, ◌<◌, ◌≤◌, Bool, true, false, ◌&&◌, eqb, ltb, leb, ◌≡◌, List, [], Option, Some, None}
use Rattle.pcl_base.specs.declared.tx.TxId.{TxId}
use Rattle.pcl_base.specs.declared.tx.Mode.{Mode}
use Rattle.pcl_base.specs.declared.tx.Mode.TheVariants.{Shared}
use Rattle.page_protocol.specs.State.{pick, updn, Right, NoRight, Flying, Shelf, Returning, Dead, Home, Fresh, Asking, Holding, HoldingAsks, Reading, ReadingAsks, Ended, Gone, lock_of, InEra, Page, current, IsClosed, IsShelf}

-- A crash ends the open transactions of the node; releases that were sent stay on their way.
abbrev pub crashed : Home → Home
crashed Fresh = Fresh
crashed (Asking m h) = Gone
crashed (Holding m) = Gone
crashed HoldingAsks = Gone
crashed Reading = Gone
crashed ReadingAsks = Gone
crashed (Ended c e) = Ended c e
crashed Gone = Gone

-- A crash loses the right of the node, on its shelf or on its way; an answer that was sent stays.
abbrev pub lost : Right → Right
lost NoRight = NoRight
lost (Flying g) = Dead
lost (Shelf v) = Dead
lost (Returning e rs) = Returning e rs
lost Dead = Dead

-- A node crashes or halts.
unfoldable pub crashing : Page → ℕ → Page
crashing a n =
    record a {
      home = λ t. pick (eqb t.node n) (crashed (a.home t)) (a.home t);
      slot = updn a.slot n None;
      right = updn a.right n (lost (a.right n));
    }

-- The authority serves no more: its owner is lost, or has installed a later era.
unfoldable pub falling : Page → Page
falling a = record a { served = false; dirty = false }

-- A release of a dead transaction to this era is dropped.
abbrev pub forgotten : ℕ → Home → Home
forgotten e Fresh = Fresh
forgotten e (Asking m h) = Asking m h
forgotten e (Holding m) = Holding m
forgotten e HoldingAsks = HoldingAsks
forgotten e Reading = Reading
forgotten e ReadingAsks = ReadingAsks
forgotten e (Ended c f) = pick (eqb f e) Gone (Ended c f)
forgotten e Gone = Gone

-- Transactions of node n that are dead for era e: none of them is open, and no later era lists anything
-- of them.
abbrev pub IsDead : Page → ℕ → ℕ → (TxId → Bool) → Type 0
IsDead a n e dead =
    (t : TxId) → dead t ≡ true → (t.node ≡ n) × IsClosed (a.home t) × ((f : ℕ) → e < f → a.listed t f ≡ None)

-- What the table of era e has of dead transactions is removed.
unfoldable pub purging : Page → ℕ → (TxId → Bool) → Page
purging a e dead =
    record a {
      listed = λ t f. pick (dead t && eqb f e) None (a.listed t f);
      home = λ t. pick (dead t) (forgotten e (a.home t)) (a.home t);
    }

-- A release of a transaction that is no more, to this era or a later one, is dropped.
abbrev pub buried : ℕ → Home → Home
buried e Fresh = Fresh
buried e (Asking m h) = Asking m h
buried e (Holding m) = Holding m
buried e HoldingAsks = HoldingAsks
buried e Reading = Reading
buried e ReadingAsks = ReadingAsks
buried e (Ended c f) = pick (leb e f) Gone (Ended c f)
buried e Gone = Gone

-- What era e and all later ones have of transactions that are no more is removed.
unfoldable pub burying : Page → ℕ → (TxId → Bool) → Page
burying a e dead =
    record a {
      listed = λ t f. pick (dead t && leb e f) None (a.listed t f);
      home = λ t. pick (dead t) (buried e (a.home t)) (a.home t);
    }

-- An answer to a revocation counts for the eras below `low` alone.
unfoldable pub lowering : Page → ℕ → ℕ → List TxId → Page
lowering a n low readers = record a { right = updn a.right n (Returning low readers) }

-- The page is redone from disk and logs, written, and the entry gets its version.
unfoldable pub redoing : Page → Page
redoing a = record a { entry = a.now; disk = current a; dirty = false }

-- What a report lists of a transaction: its registered lock.
abbrev pub reported : Home → Option Mode
reported Fresh = None
reported (Asking m h) = None
reported (Holding m) = Some m
reported HoldingAsks = Some Shared
reported Reading = None
reported ReadingAsks = None
reported (Ended c e) = None
reported Gone = None

-- Whether era f is one for which node n reports t, when it goes on to era e.
abbrev pub reports_for : (ℕ → ℕ) → ℕ → ℕ → TxId → ℕ → Bool
reports_for reached n e t f = eqb t.node n && (ltb (reached n) f && leb f e)

-- What the tables list after the report.
abbrev pub with_report : (ℕ → ℕ) → (TxId → Home) → (TxId → ℕ → Option Mode) → ℕ → ℕ → TxId → ℕ → Option Mode
with_report reached home listed n e t f = pick (reports_for reached n e t f) (reported (home t)) (listed t f)

-- A node installs era e and reports to its owner.
unfoldable pub reporting : Page → ℕ → ℕ → Page
reporting a n e =
    record a {
      reached = updn a.reached n e;
      listed = with_report a.reached a.home a.listed n e;
    }

-- A node that starts afresh begins in era e.
unfoldable pub joining : Page → ℕ → ℕ → Page
joining a n e = record a { reached = updn a.reached n e }

-- The node isn't listed by eras from e on, unless its right is on the shelf or was given back later.
abbrev pub settled : ℕ → Right → Right
settled e NoRight = NoRight
settled e (Flying g) = NoRight
settled e (Shelf v) = Shelf v
settled e (Returning upto rs) = pick (ltb e upto) (Returning upto rs) NoRight
settled e Dead = NoRight

-- Era e has all that it needs: each node with a lock or a right on its shelf has reported to it.
abbrev pub IsComplete : Page → ℕ → Type 0
IsComplete a e = ((t : TxId) → InEra (lock_of (a.home t)) e (a.reached t.node)) × ((n : ℕ) → IsShelf (a.right n) → e ≤ a.reached n)

-- The table of era e is complete: it serves, and what earlier authorities sent is void.
unfoldable pub completing : Page → ℕ → ℕ → Page
completing a e o =
    record a {
      era = e;
      owner = o;
      served = true;
      dirty = false;
      entry = a.now;
      disk = current a;
      sent = [];
      right = λ n. settled e (a.right n);
    }
