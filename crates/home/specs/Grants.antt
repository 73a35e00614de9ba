-- What a grant comes to: by the rule over told pages, and by some image where they are untold.
use Rattle.std.specs.Prelude.{◌≡◌, ◌≢◌, ℕ, ◌≤◌, ◌==◌, ◌&&◌, not, Bool, true, false, List, [], length, Option, Some, None, is_some, IfSome, Result, Ok, Err, ⊤}
use Rattle.pcl_base.specs.declared.trace.Call.TheVariants.{Read}
use Rattle.pcl_base.specs.declared.tx.TxId.{TxId}
use Rattle.pcl_base.specs.declared.message.CopyPart.{CopyPart}
use Rattle.pcl_base.specs.declared.message.CopyPart.TheVariants as part
use Rattle.pcl_base.specs.declared.message.Grant.{Grant}
use Rattle.pcl_base.specs.declared.reply.Reply.{Reply}
use Rattle.disk_model.specs.Stops.{Failing, after_read}
use Rattle.text_rules.specs.StoredPage.{PageAt, BadNumber}
use Rattle.node_rules.specs.Words.{pick}
use Rattle.node_rules.specs.OpenTxs.{pending_of, waits_on, waits_as}
use Rattle.node_rules.specs.Shelf.{Right, right_on}
use Rattle.node_rules.specs.BufferRule.{Pool, install, find}
use Rattle.node_rules.specs.CopyRule.{is_version}
use Rattle.node_rules.specs.NodeState.{HomeState, runs_at}
use Rattle.node_rules.specs.Work.{HomeWork, Outcome, Goes, Differs, and_so}
use Rattle.node_rules.specs.AccessRule.{Granted, Arrived, clean_copy, write_of}
use Rattle.buffer_pool.specs.Buffer.{IsBuffer}
use Rattle.home_laws.specs.AccessNeeds.{MayDo}
use Rattle.home.specs.declared.fault.HomeFault.{HomeFault}
use Rattle.home.specs.declared.fault.HomeFault.TheVariants as fault
use Rattle.home.specs.Parts.{PartsView}

-- the work of a call that begins at a home with these stored pages
abbrev pub work_at : List (List ℕ) → HomeState → HomeWork
work_at pages h = record { home = h; pages = pages; calls = [] }

-- what differs in a stored page that was granted at a version
abbrev pub differing : ℕ → ℕ → Result PageAt BadNumber → Option HomeFault
differing p version (Ok at) = pick (at.version == version) None (Some (fault.Differs p version at.version))
differing p version (Err bad) = Some (fault.Differs p bad.expected bad.found)

-- a stored page is put into its slot, or a fault names what differs, where no read failed
abbrev pub Puts : {X : Type 0} → ℕ → ℕ → Result X HomeFault → Result PageAt BadNumber → Pool → Pool → Type 0
Puts p version (Ok x) (Ok at) old new = (at.version ≡ version) × (new ≡ install old p (clean_copy at))
Puts p version (Ok x) (Err bad) old new = ⊥
Puts p version (Err (fault.Failed call kept)) stored old new = ⊤
Puts p version (Err e) stored old new = differing p version stored ≡ Some e

-- some bytes at a version are put into a page's slot
pub record PutsBytes (p version : ℕ) (old new : Pool) : Type 0 where
  pub bytes : List ℕ
  pub size : length bytes ≡ old.size
  pub same : new ≡ install old p (clean_copy (record { version = version; bytes = bytes }))

-- an answer and a home are those of the rule, or a fault names what differs, where no read failed
abbrev pub Tells : {R : Type 0} → Outcome (R × HomeState) → Result R HomeFault → HomeState → Type 0
Tells (Goes x) (Ok r) h = (r ≡ x.0) × (h ≡ x.1)
Tells (Goes x) (Err (fault.Differs q expected found)) h = ⊥
Tells (Goes x) (Err e) h = ⊤
Tells (Differs p expected found) (Ok r) h = ⊥
Tells (Differs p expected found) (Err (fault.Differs q e f)) h = fault.Differs q e f ≡ fault.Differs p expected found
Tells (Differs p expected found) (Err e) h = ⊤

-- the home after a page was brought
abbrev pub brought : {X : Type 0} → X → Outcome HomeWork → Outcome (X × HomeState)
brought x o = and_so o (λ w. (x, w.home))

-- the reply and the home after a grant, and after one that arrived
abbrev pub outcome : Outcome Granted → Outcome (Reply × HomeState)
outcome o = and_so o (λ g. (g.reply, g.work.home))

abbrev pub arrival : Outcome Arrived → Outcome (Option Reply × HomeState)
arrival o = and_so o (λ a. (a.reply, a.work.home))

-- the image that stands for the content that a grant brings: the one that is given, or some other
-- where none is and the copy isn't of the granted version
pub record StandsFor (p version : ℕ) (given : Option (List ℕ)) (h : HomeState) (image : Option (List ℕ)) : Type 0 where
  pub same : is_some given ≡ true → image ≡ given
  pub size : IfSome image (λ bytes. length bytes ≡ h.config.size)
  pub there : is_version (find h.pool p) version ≡ false → is_some image ≡ true

-- a rule over an image that stands for the content goes to an answer and a home
pub record ByImage {R : Type 0} (p version : ℕ) (given : Option (List ℕ)) (rule : Option (List ℕ) → Outcome (R × HomeState)) (old : HomeState) (r : R) (new : HomeState) : Type 0 where
  pub image : Option (List ℕ)
  pub stands : StandsFor p version given old image
  pub goes : rule image ≡ Goes (r, new)

-- the part of a grant that brings an image
abbrev pub part_of : Option (List ℕ) → CopyPart
part_of None = part.Current
part_of (Some bytes) = part.Image bytes

-- a read of a page failed, or the page has another number or version than it must
abbrev pub IsReadFault : ℕ → HomeFault → Type 0
IsReadFault p (fault.Failed Read false) = ⊤
IsReadFault p (fault.Differs q expected found) = (q ≡ p) × (found ≢ expected)
IsReadFault p _ = ⊥

-- whether a read failed
abbrev pub is_read_failed : {X : Type 0} → Result X HomeFault → Bool
is_read_failed (Err (fault.Failed call kept)) = true
is_read_failed _ = false

-- whether a read failed, or the page differs
abbrev pub is_read_fault : {X : Type 0} → Result X HomeFault → Bool
is_read_fault (Err (fault.Failed call kept)) = true
is_read_fault (Err (fault.Differs q expected found)) = true
is_read_fault _ = false

-- whether a page that is granted at a version is read: no image came, and its copy isn't of that version
abbrev pub is_read : ℕ → ℕ → Option (List ℕ) → HomeState → Bool
is_read p version image h = not (is_version (find h.pool p) version) && not (is_some image)

-- the reads that fail, after one was made or none
abbrev pub after_reading : Bool → Failing → ℕ → Failing
after_reading true failing by = after_read failing by
after_reading false failing by = failing

-- the home with other rights
abbrev pub with_shelf : List Right → HomeState → HomeState
with_shelf shelf h = record h { shelf = shelf }

-- whether the transaction of a grant waits for its page and mode
abbrev pub is_awaited : Grant → HomeState → Bool
is_awaited g h = waits_as (pending_of h.txs g.tx) g.page g.mode

-- whether a right comes with a grant that is not awaited, and there is none of its page
abbrev pub wants_right : Grant → HomeState → Bool
wants_right g h = not (is_awaited g h) && (g.right && not (is_some (right_on h.shelf g.page)))

-- the fault of a grant that arrives: that of its read, or want of memory
abbrev pub IsGrantFault : ℕ → HomeFault → Type 0
IsGrantFault p fault.NoMemory = ⊤
IsGrantFault p e = IsReadFault p e

-- what the access that waits and is granted needs: its slot has a copy, and there is memory for it
pub record MayEnd (t : TxId) (p : ℕ) (v : PartsView) : Type 0 where
  pub sound : IsBuffer v.home.pool
  pub size : v.home.pool.size ≡ v.home.config.size
  pub waits : waits_on (pending_of v.home.txs t) p ≡ true
  pub may : IfSome (pending_of v.home.txs t) (λ w. MayDo t p w.write v.home)
  pub first : is_some (write_of (pending_of v.home.txs t)) ≡ true → runs_at v.home.written t p ≡ []
  pub places : 1 ≤ v.places
  pub replies : 1 ≤ v.replies
