-- Chains of entries in logs that lead from a stored page to its redo.
use Rattle.std.specs.Prelude.{◌≡◌, ⊤, ℕ, ◌+◌, ◌-◌, ◌^◌, ◌<◌, ◌≤◌, ◌⊎◌, ◌≢◌, ◌==◌, not, Bool, true, List, [], ◌∷◌, ◌++◌, length, map, Option, Some, None, Result, Ok, Err, IfOk}
use Rattle.std.specs.List.{AllByRecursion, filter}
use Rattle.pcl_base.specs.Limits.{Sizes}
use Rattle.pcl_base.specs.declared.log.Logged.{Logged}
use Rattle.pcl_base.specs.declared.trace.Call.{Call}
use Rattle.pcl_base.specs.declared.trace.Call.TheVariants as call
use Rattle.text_rules.specs.StoredPage.{PageAt, BadNumber, stored_page}
use Rattle.run_rules.specs.Disk.{Disk, raw_page, log_at}
use Rattle.run_rules.specs.Redo.{redo}
use Rattle.redo_log.specs.Placed.{Placed, IsPlaced}
use Rattle.redo_log.specs.Applied.{with_part}
use Rattle.partition_redo.specs.declared.site.Site.{Site}
use Rattle.partition_redo.specs.declared.site.Base.{Base}
use Rattle.partition_redo.specs.declared.site.Chain.{Chain}
use Rattle.page_store.specs.declared.fault.RedoFault.{RedoFault}
use Rattle.page_store.specs.declared.fault.RedoFault.TheVariants.{BadPage, Failed, NoMemory}
use Rattle.partition_redo.specs.Index.{IndexView, base_of, ranges_of}

-- an entry in the whole records of a log, and where it stands
pub record Stands (c : Sizes) (d : Disk) (s : Site) (x : Logged) : Type 0 where
  pub node : s.node < c.nodes
  pub placed : Placed
  pub there : IsPlaced c (log_at d s.node) s.place s.whole placed
  pub same : placed.entry ≡ x

-- so some entry does at a site
abbrev pub IsSite : Sizes → Disk → Site → Type 0
IsSite c d s = (x : Logged) × Stands c d s x

-- and at each site of some chains
abbrev pub AllStand : Sizes → Disk → List Chain → Type 0
AllStand c d xs = AllByRecursion (λ x. AllByRecursion (IsSite c d) x.sites) xs

-- entries one after the other lead from the bytes of a page to others
abbrev pub Leads : Sizes → Disk → List Site → List ℕ → List ℕ → Type 0
Leads c d [] from to = from ≡ to
Leads c d (s ∷ ss) from to = (x : Logged) × (Stands c d s x × Leads c d ss (with_part x.part from) to)

-- changed ranges, one for each further version
abbrev pub AreNext : (ℕ → Option Site) → List Site → ℕ → ℕ → Type 0
AreNext ranges [] from to = from ≡ to
AreNext ranges (s ∷ ss) from to = (ranges (from + 1) ≡ Some s) × AreNext ranges ss (from + 1) to

-- a chain leads to the redo of its page, where that is newer than the stored page
pub record IsChain (c : Sizes) (d : Disk) (x : Chain) : Type 0 where
  pub old : PageAt
  pub new : PageAt
  pub stored : stored_page x.page (raw_page d.pages x.page) ≡ Ok old
  pub redone : redo c d x.page ≡ Some new
  pub version : new.version ≡ x.version
  pub leads : old.version < x.version → Leads c d x.sites old.bytes new.bytes
  pub fresh : x.sites ≡ [] → x.version ≤ old.version
  pub small : x.page < 2 ^ 32
  pub fits : x.version < 2 ^ 64

-- whether a chain has entries
abbrev pub has_sites : Chain → Bool
has_sites x = not (length x.sites == 0)

-- the pages of the chains that have some: redo writes these
abbrev pub written_pages : List Chain → List ℕ
written_pages xs = map (λ (x : Chain). x.page) (filter has_sites xs)

-- a chain that has entries leads to a newer page than the stored one
abbrev pub IsNewer : Disk → Chain → Type 0
IsNewer d x = has_sites x ≡ true → IfOk (stored_page x.page (raw_page d.pages x.page)) (λ old. old.version < x.version)

-- items of two lists belong together, each to the one at its place
abbrev pub AreAll : {X Y : Type 0} → (X → Y → Type 0) → List X → List Y → Type 0
AreAll P [] [] = ⊤
AreAll P [] (y ∷ ys) = ⊥
AreAll P (x ∷ xs) [] = ⊥
AreAll P (x ∷ xs) (y ∷ ys) = P x y × AreAll P xs ys

-- chains that lead the listed pages to their redo
abbrev pub AreChains : Sizes → Disk → List ℕ → List Chain → Type 0
AreChains c d ps xs = AreAll (λ p x. (x.page ≡ p) × IsChain c d x) ps xs

-- the version of a page that redo gives
abbrev pub IsRedone : Sizes → Disk → ℕ → ℕ × ℕ → Type 0
IsRedone c d p v = (v.0 ≡ p) × ((at : PageAt) × (redo c d p ≡ Some at) × (at.version ≡ v.1))

-- a page that is listed with the version of its stored page
pub record IsListed (d : Disk) (i : IndexView) (p : ℕ) : Type 0 where
  pub at : PageAt
  pub stored : stored_page p (raw_page d.pages p) ≡ Ok at
  pub base : base_of i p ≡ Some (record { version = at.version; image = None })

-- a plan of a redo: the version of each listed page and the chain that leads to it
pub record PlannedView : Type 0 where
  pub config : Sizes
  pub by : ℕ
  pub versions : List (ℕ × ℕ)
  pub chains : List Chain

-- the site of the newest whole page, where it stands in a log
abbrev pub image_sites : Option Site → List Site
image_sites None = []
image_sites (Some s) = s ∷ []

-- no changed ranges follow
abbrev pub AreLast : IndexView → ℕ → ℕ → Type 0
AreLast i page version = (ranges_of i page (version + 1) ≡ None) ⊎ (version ≡ 2 ^ 64 - 1)

-- a chain of a page that an index gives, from a version and some sites on
pub record Follows (i : IndexView) (page from : ℕ) (sites : List Site) (x : Chain) : Type 0 where
  pub page_same : x.page ≡ page
  pub more : List Site
  pub sites_same : x.sites ≡ sites ++ more
  pub next : AreNext (ranges_of i page) more from x.version
  pub last : AreLast i page x.version

-- the chain of a page that an index gives
pub record IsGiven (i : IndexView) (p : ℕ) (x : Chain) : Type 0 where
  pub page : x.page ≡ p
  pub small : x.page < 2 ^ 32
  pub fits : x.version < 2 ^ 64
  pub none : base_of i p ≡ None → x.sites ≡ []
  pub follows : (b : Base) → base_of i p ≡ Some b → Follows i p b.version (image_sites b.image) x

-- the newest whole page that is known is the stored one
abbrev pub IsStoredOne : Option Base → Type 0
IsStoredOne None = ⊤
IsStoredOne (Some b) = b.image ≡ None

-- what the reading of a stored page answers, and the bytes that it reads
abbrev pub AnswersStored : Disk → ℕ → List ℕ → Result ℕ RedoFault → Type 0
AnswersStored d page bytes (Ok v) =
    (at : PageAt) × (stored_page page (raw_page d.pages page) ≡ Ok at) × (at.version ≡ v) × (at.bytes ≡ bytes)
AnswersStored d page bytes (Err (Failed kind)) = kind ≡ call.Read
AnswersStored d page bytes (Err (BadPage q expected found)) =
    (q ≡ page) × (stored_page page (raw_page d.pages page) ≡ Err (record { expected = expected; found = found }))
AnswersStored d page bytes (Err NoMemory) = ⊥

-- a page that is named bad has another number than it must
abbrev pub NamesOther : RedoFault → Type 0
NamesOther (Failed call) = ⊤
NamesOther (BadPage page expected found) = (expected ≡ page + 1) × (found ≢ page + 1)
NamesOther NoMemory = ⊤

-- a page whose stored number is wrong
pub record Bad : Type 0 where
  pub page : ℕ
  pub expected : ℕ
  pub found : ℕ

abbrev pub bad_or : ℕ → Result PageAt BadNumber → Option Bad → Option Bad
bad_or p (Ok at) further = further
bad_or p (Err bad) further = Some (record { page = p; expected = bad.expected; found = bad.found })

-- the first of some pages whose stored number is wrong
abbrev pub first_bad : Disk → List ℕ → Option Bad
first_bad d [] = None
first_bad d (p ∷ ps) = bad_or p (stored_page p (raw_page d.pages p)) (first_bad d ps)

-- a named bad page is the first of the listed ones
abbrev pub NamesFirst : Disk → List ℕ → RedoFault → Type 0
NamesFirst d pages (Failed call) = ⊤
NamesFirst d pages (BadPage page expected found) = first_bad d pages ≡ Some (record { page = page; expected = expected; found = found })
NamesFirst d pages NoMemory = ⊤

-- a call that only reads stored pages or logs
abbrev pub IsReadCall : Call → Type 0
IsReadCall k = (k ≡ call.Read) ⊎ (k ≡ call.Log)

-- a call that a redo makes: one that only reads, or a page's write
abbrev pub IsRedoCall : Call → Type 0
IsRedoCall k = IsReadCall k ⊎ (k ≡ call.Write)

-- a failed call that is named only reads
abbrev pub NamesRead : RedoFault → Type 0
NamesRead (Failed call) = IsReadCall call
NamesRead (BadPage page expected found) = ⊤
NamesRead NoMemory = ⊤

-- a failed call that is named is one that a redo makes
abbrev pub NamesCall : RedoFault → Type 0
NamesCall (Failed call) = IsRedoCall call
NamesCall (BadPage page expected found) = ⊤
NamesCall NoMemory = ⊤
