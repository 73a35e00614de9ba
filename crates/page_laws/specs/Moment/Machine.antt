-- Granted accesses and commits of a trace, as the machine of one page has them.
use Rattle.std.specs.Prelude.{◌≡◌, ℕ, ◌<◌, ◌≤◌, true, false, List, [], ◌∷◌, Some}
use Rattle.pcl_base.specs.Limits.{Sizes}
use Rattle.pcl_base.specs.declared.trace.Entry.{Entry}
use Rattle.pcl_base.specs.declared.tx.Mode.TheVariants.{Exclusive}
use Rattle.pcl_base.specs.declared.tx.TxId.{TxId}
use Rattle.run_rules.specs.Fresh.{IsFresh}
use Rattle.run_rules.specs.Now.{now}
use Rattle.run_rules.specs.Script.{Gets, Writes, Commits}
use Rattle.page_protocol.specs.Bytes.{Ranges, writes}
use Rattle.page_protocol.specs.Homes.{seen, reading, writing, committing_reads, committing}
use Rattle.page_protocol.specs.State.{Holding, IsGranted, Page, current, version_of}
use Rattle.page_protocol.specs.Steps.{Reached}
use Rattle.page_laws.specs.Moment.Looks.{accesses_in, asked_last, HasPage, IsNow, Adds}

-- the granted accesses of a page are those of a state of the machine
abbrev pub HasScripts : List Entry → ℕ → Page → Type 0
HasScripts trace p a = (t : TxId) → a.script t ≡ accesses_in t p trace

-- a granted access is fresh where the commits have made the machine's current page, and the access has the
-- version of its node's copy
abbrev pub IsFreshThen : Sizes → List Entry → List Entry → TxId → ℕ → ℕ → Page → Type 0
IsFreshThen c before after u q v a =
    IsGranted (a.home u) → HasPage (now c before) q (current a) → version_of (a.slot u.node) ≡ Some v → IsFresh c before → IsFresh c after

-- A granted read of what its transaction sees is the machine's.
abbrev pub ReadsAreReading : Type 0
ReadsAreReading =
    (c : Sizes) (before after : List Entry) (u : TxId) (q v : ℕ) (blank : List ℕ) (a : Page) → Adds before (Gets u q v (seen a u) ∷ []) after → Reached blank a → HasScripts before q a
    → HasScripts after q (reading a u) × IsFreshThen c before after u q v a

-- A granted write of what its transaction asked for is the machine's.
abbrev pub WritesAreWriting : Type 0
WritesAreWriting =
    (c : Sizes) (before after : List Entry) (u : TxId) (q v place : ℕ) (piece blank : List ℕ) (a : Page) → Adds before (Writes u q v ∷ []) after
    → asked_last u before ≡ Some (place, piece) → Reached blank a → HasScripts before q a
    → HasScripts after q (writing a u place piece) × IsFreshThen c before after u q v a

-- what a commit of t is to one page
pub data CommitStep (t : TxId) (a : Page) : Page → Type 0 where
  wrote : (ranges : Ranges) → a.home t ≡ Holding Exclusive → writes (a.script t) ≡ true → CommitStep t a (committing a t ranges)
  read : IsGranted (a.home t) → writes (a.script t) ≡ false → CommitStep t a (committing_reads a t)
  untouched : a.script t ≡ [] → CommitStep t a a

-- the commits have made the machine's current page of each page, and its scripts are those of the trace
pub record AreCurrent (c : Sizes) (trace : List Entry) (page : ℕ → Page) : Type 0 where
  pub now_same : IsNow c trace (λ p. current (page p))
  pub scripts : (p : ℕ) → p < c.pages → HasScripts trace p (page p)

-- A commit is the machine's at each page.
abbrev pub CommitsAreCommitting : Type 0
CommitsAreCommitting =
    (c : Sizes) (before after : List Entry) (u : TxId) (blank : List ℕ) (page next : ℕ → Page) → Adds before (Commits u ∷ []) after
    → ((p : ℕ) → p < c.pages → Reached blank (page p)) → ((p : ℕ) → p < c.pages → CommitStep u (page p) (next p)) → ((p : ℕ) → c.pages ≤ p → accesses_in u p before ≡ [])
    → AreCurrent c before page → AreCurrent c after next
