-- What the looks of a trace are after one moment more.
use Rattle.std.specs.Prelude.{◌≡◌, ◌≢◌, ℕ, List, [], ◌∷◌, ◌++◌, Option, Some, None}
use Rattle.pcl_base.specs.Limits.{Sizes}
use Rattle.pcl_base.specs.declared.trace.Entry.{Entry}
use Rattle.pcl_base.specs.declared.tx.TxId.{TxId}
use Rattle.run_rules.specs.Fresh.{IsFresh}
use Rattle.run_rules.specs.Now.{now, ran_on}
use Rattle.run_rules.specs.Script.{Asks, Gets, Writes, Commits, moments, script}
use Rattle.run_rules.specs.Serial.{serial}
use Rattle.page_protocol.specs.Bytes.{Copy, Access, Read, Write, Leaves}
use Rattle.page_protocol.specs.State.{upd}
use Rattle.page_laws.specs.Moment.Looks.{accesses_in, asked_last, HasPage, Adds}

-- the granted accesses, what was asked for last, what commits have made and their order are as before
pub record TellsSame (c : Sizes) (before after : List Entry) : Type 0 where
  pub accesses : (t : TxId) (p : ℕ) → accesses_in t p after ≡ accesses_in t p before
  pub asked : (t : TxId) → asked_last t after ≡ asked_last t before
  pub now_same : now c after ≡ now c before
  pub order : serial after ≡ serial before
  pub fresh : IsFresh c before → IsFresh c after

-- No moment more changes nothing.
abbrev pub NothingTells : Type 0
NothingTells = (c : Sizes) (before after : List Entry) → Adds before [] after → TellsSame c before after

-- transaction u asked for an access
pub record TellsAsked (c : Sizes) (before after : List Entry) (u : TxId) (w : Option (ℕ × List ℕ)) : Type 0 where
  pub accesses : (t : TxId) (p : ℕ) → accesses_in t p after ≡ accesses_in t p before
  pub asked : (t : TxId) → asked_last t after ≡ upd (λ v. asked_last v before) u w t
  pub now_same : now c after ≡ now c before
  pub order : serial after ≡ serial before
  pub fresh : IsFresh c before → IsFresh c after

-- An access that is asked for is what its transaction asked for last.
abbrev pub AskTells : Type 0
AskTells =
    (c : Sizes) (before after : List Entry) (u : TxId) (w : Option (ℕ × List ℕ)) → Adds before (Asks u w ∷ []) after → TellsAsked c before after u w

-- a granted access is right: its version is the page's, and its bytes are what the transaction's own
-- accesses leave of the page
pub record IsRight (c : Sizes) (before : List Entry) (u : TxId) (q v : ℕ) (bytes : List ℕ) : Type 0 where
  pub page : Copy
  pub has : HasPage (now c before) q page
  pub version : v ≡ page.version
  pub leaves : Leaves (accesses_in u q before) page.bytes bytes

-- transaction u was granted this access of page q
pub record TellsAccess (c : Sizes) (before after : List Entry) (u : TxId) (q : ℕ) (a : Access) : Type 0 where
  pub here : (t : TxId) → accesses_in t q after ≡ upd (λ v. accesses_in v q before) u (accesses_in u q before ++ a ∷ []) t
  pub there : (t : TxId) (p : ℕ) → p ≢ q → accesses_in t p after ≡ accesses_in t p before
  pub asked : (t : TxId) → asked_last t after ≡ asked_last t before
  pub now_same : now c after ≡ now c before
  pub order : serial after ≡ serial before

-- A granted read is a further access, and fresh where it is right.
abbrev pub ReadTells : Type 0
ReadTells =
    (c : Sizes) (before after : List Entry) (u : TxId) (q v : ℕ) (bytes : List ℕ) → Adds before (Gets u q v bytes ∷ []) after
    → TellsAccess c before after u q (Read bytes) × (IsRight c before u q v bytes → IsFresh c before → IsFresh c after)

-- A granted write is a further access with the place and bytes that were asked for, and fresh where its
-- version is the page's.
abbrev pub WriteTells : Type 0
WriteTells =
    (c : Sizes) (before after : List Entry) (u : TxId) (q v place : ℕ) (piece : List ℕ) → asked_last u before ≡ Some (place, piece) → Adds before (Writes u q v ∷ []) after
    → TellsAccess c before after u q (Write place piece)
    × ((page : Copy) → HasPage (now c before) q page → v ≡ page.version → IsFresh c before → IsFresh c after)

-- transaction u was committed
pub record TellsCommit (c : Sizes) (before after : List Entry) (u : TxId) : Type 0 where
  pub accesses : (t : TxId) (p : ℕ) → accesses_in t p after ≡ accesses_in t p before
  pub asked : (t : TxId) → asked_last t after ≡ asked_last t before
  pub ran : now c after ≡ ran_on (now c before) (script u (moments before))
  pub order : serial after ≡ serial before ++ u ∷ []
  pub fresh : IsFresh c before → IsFresh c after

-- A commit point runs the script of its transaction, and is last in the order.
abbrev pub CommitTells : Type 0
CommitTells = (c : Sizes) (before after : List Entry) (u : TxId) → Adds before (Commits u ∷ []) after → TellsCommit c before after u

-- a trace that tells nothing
pub record TellsNothing (c : Sizes) : Type 0 where
  pub accesses : (t : TxId) (p : ℕ) → accesses_in t p [] ≡ []
  pub asked : (t : TxId) → asked_last t [] ≡ None
  pub order : serial [] ≡ []
  pub fresh : IsFresh c []

-- The empty trace tells nothing.
abbrev pub EmptyTells : Type 0
EmptyTells = (c : Sizes) → TellsNothing c
