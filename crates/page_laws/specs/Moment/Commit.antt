-- What a commit makes of each page, and that commits which go well are serial.
use Rattle.std.specs.Prelude.{◌≡◌, ℕ, ◌<◌, ◌≤◌, List, [], ◌∷◌, length, replicate, Some}
use Rattle.pcl_base.specs.Limits.{Sizes}
use Rattle.pcl_base.specs.declared.script.Step.{Step}
use Rattle.pcl_base.specs.declared.trace.Entry.{Entry}
use Rattle.pcl_base.specs.declared.tx.TxId.{TxId}
use Rattle.run_rules.specs.Base.{Base}
use Rattle.run_rules.specs.Fresh.{written_over}
use Rattle.run_rules.specs.Now.{now}
use Rattle.run_rules.specs.Script.{Commits}
use Rattle.run_rules.specs.Serial.{IsSerial}
use Rattle.page_protocol.specs.Bytes.{Copy, Access, Leaves, version_after}
use Rattle.page_laws.specs.Moment.Looks.{accesses_of, accesses_in, HasPage, IsNow, Adds}

-- The writes of a script, put over a page, are what its accesses of the page leave.
abbrev pub WritesAreLeft : Type 0
WritesAreLeft = (steps : List Step) (p : ℕ) (before after : List ℕ) → Leaves (accesses_of p steps) before after → written_over steps p before ≡ after

-- a page that a commit leaves with these bytes
abbrev pub committed_page : List Access → ℕ → List ℕ → Copy
committed_page accesses version bytes = record { version = version_after accesses version; bytes = bytes }

-- A commit whose accesses run well page by page runs well, and leaves each page as they leave it, at the
-- next version where they write.
abbrev pub CommitRuns : Type 0
CommitRuns =
    (c : Sizes) (before after : List Entry) (u : TxId) (page : ℕ → Copy) (left : ℕ → List ℕ) → Adds before (Commits u ∷ []) after → IsNow c before page
    → ((p : ℕ) → p < c.pages → Leaves (accesses_in u p before) (page p).bytes (left p)) → ((p : ℕ) → c.pages ≤ p → accesses_in u p before ≡ [])
    → IsNow c after (λ p. committed_page (accesses_in u p before) (page p).version (left p))

-- Before any commit each page is at version 0 with zero bytes.
abbrev pub NowBegins : Type 0
NowBegins = (c : Sizes) → IsNow c [] (λ p. record { version = 0; bytes = replicate c.size 0 })

-- What commits have made has each page of the database.
abbrev pub NowHasAllPages : Type 0
NowHasAllPages = (c : Sizes) (trace : List Entry) (base : Base) → now c trace ≡ Some base → length base ≡ c.pages

-- Where each page is known, all are.
abbrev pub PagesAreNow : Type 0
PagesAreNow =
    (c : Sizes) (trace : List Entry) (page : ℕ → Copy) → 0 < c.pages → ((p : ℕ) → p < c.pages → HasPage (now c trace) p (page p)) → IsNow c trace page

-- And where all are, each is.
abbrev pub NowHasPages : Type 0
NowHasPages = (c : Sizes) (trace : List Entry) (page : ℕ → Copy) → IsNow c trace page → (p : ℕ) → p < c.pages → HasPage (now c trace) p (page p)

-- Where the commits have made something, no read of them differs.
abbrev pub NowIsSerial : Type 0
NowIsSerial = (c : Sizes) (trace : List Entry) (base : Base) → now c trace ≡ Some base → IsSerial c trace
