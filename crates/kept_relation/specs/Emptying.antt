-- What the table of an era has of dead transactions and of nodes that are no more is removed: the state of the machine then.
use Rattle.std.specs.Prelude.{◌≡◌, ℕ, ◌<◌, eqb, ltb, ◌&&◌, Bool, true, false, List, None}
use Rattle.std.proofs.Common.{suc}
use Rattle.pcl_base.specs.declared.tx.TxId.{TxId}
use Rattle.page_protocol.specs.Eras.{forgotten}
use Rattle.page_protocol.specs.State.{pick, has, NoRight, Returning, Page, IsClosed, IsShelf}
use Rattle.page_protocol.specs.Steps.{Run}

-- the state in which era e lists no dead transaction, and nodes that are gone have no right
abbrev pub emptied : Page → ℕ → (TxId → Bool) → (ℕ → Bool) → Page
emptied a e dead gone =
    record a {
      listed = λ t f. pick (dead t && eqb f e) None (a.listed t f);
      home = λ t. pick (dead t) (forgotten e (a.home t)) (a.home t);
      right = λ m. pick (gone m) NoRight (a.right m);
    }

-- the dead ones of nodes below k, and the nodes that are gone below k
abbrev pub dead_below : ℕ → (TxId → Bool) → TxId → Bool
dead_below k dead t = ltb t.node k && dead t

abbrev pub gone_below : ℕ → (ℕ → Bool) → ℕ → Bool
gone_below k gone m = ltb m k && gone m

-- no node is gone
abbrev pub nobody : ℕ → Bool
nobody m = false

-- Dead for era e: of nodes that are gone, closed, and no later era lists them.
pub record AreDead (a : Page) (e : ℕ) (dead : TxId → Bool) (gone : ℕ → Bool) : Type 0 where
  pub named : (t : TxId) → dead t ≡ true → gone t.node ≡ true
  pub closed : (t : TxId) → dead t ≡ true → IsClosed (a.home t)
  pub unlisted : (t : TxId) → dead t ≡ true → (f : ℕ) → e < f → a.listed t f ≡ None

-- What the table that serves may drop with them: the log of a node that is gone has no change still to come, its right
-- isn't on a shelf, and readers that it named are dead.
pub record AreGone (a : Page) (gone : ℕ → Bool) : Type 0 where
  pub logs : (m : ℕ) → gone m ≡ true → a.log m (suc a.entry) ≡ None
  pub shelves : (m : ℕ) → gone m ≡ true → IsShelf (a.right m) → ⊥
  pub readers : (m upto : ℕ) (readers : List TxId) → gone m ≡ true → a.right m ≡ Returning upto readers → (t : TxId) → t.node ≡ m → has t readers ≡ true
      → IsClosed (a.home t) × ((f : ℕ) → a.era < f → a.listed t f ≡ None)

-- The machine comes there where the table serves, and where it is being rebuilt for a later era.
abbrev pub EmptyingIsRun : Type 0
EmptyingIsRun =
    (a : Page) (k : ℕ) (dead : TxId → Bool) (gone : ℕ → Bool) → a.served ≡ true → AreDead a a.era dead gone → AreGone a gone
    → Run a (emptied a a.era (dead_below k dead) (gone_below k gone))

abbrev pub EmptyingEarlyIsRun : Type 0
EmptyingEarlyIsRun =
    (a : Page) (e k : ℕ) (dead : TxId → Bool) (gone : ℕ → Bool) → a.era < e → AreDead a e dead gone → Run a (emptied a e (dead_below k dead) nobody)
