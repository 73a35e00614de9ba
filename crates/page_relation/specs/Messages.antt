-- What the messages that speak of a page and may still be taken say of it.
use Rattle.std.specs.Prelude.{◌≡◌, ℕ, ◌<◌, ◌≤◌, ◌==◌, ◌&&◌, Bool, true, false, List, [], ◌∷◌, Option, Some, None, ⊤}
use Rattle.std.specs.List.{AllByRecursion, list_any}
use Rattle.std.proofs.Common.{suc}
use Rattle.pcl_base.specs.declared.message.Body.{Body}
use Rattle.pcl_base.specs.declared.message.Body.TheVariants as body
use Rattle.pcl_base.specs.declared.message.Change.{Change}
use Rattle.pcl_base.specs.declared.message.CopyPart.{CopyPart}
use Rattle.pcl_base.specs.declared.message.CopyPart.TheVariants as copy
use Rattle.pcl_base.specs.declared.message.Grant.{Grant}
use Rattle.pcl_base.specs.declared.message.Message.{Message}
use Rattle.pcl_base.specs.declared.message.Report.{Report}
use Rattle.pcl_base.specs.declared.message.ReportLock.{ReportLock}
use Rattle.pcl_base.specs.declared.message.ReportRight.{ReportRight}
use Rattle.pcl_base.specs.declared.message.ReportWait.{ReportWait}
use Rattle.pcl_base.specs.declared.tx.Mode.{Mode}
use Rattle.pcl_base.specs.declared.tx.TxId.{TxId}
use Rattle.node_rules.specs.Words.{pick, same_tx}
use Rattle.cluster_rules.specs.Clusters.{version_of_change}
use Rattle.page_protocol.specs.State.{Word, Current, Image, OnDisk, Sent, Right, NoRight, Flying, Shelf, Returning, Dead, Home, Fresh, Asking, Holding, HoldingAsks, Reading, ReadingAsks, Ended, Gone, In, IsFresh}
use Rattle.cluster_laws.specs.Link.Orders.{how_many}

-- what a grant says of the copy
abbrev pub word_of : CopyPart → Word
word_of copy.Current = Current
word_of (copy.Image bytes) = Image bytes
word_of copy.OnDisk = OnDisk

-- a grant as the machine of one page has it
abbrev pub sent_of : Grant → Sent
sent_of g = record { tx = g.tx; mode = g.mode; version = g.version; word = word_of g.copy }

-- The home told this version, where it waits for its first access.
abbrev pub IsTold : Option ℕ → Home → Type 0
IsTold have Fresh = ⊥
IsTold have (Asking m told) = told ≡ have
IsTold have (Holding m) = ⊤
IsTold have HoldingAsks = ⊤
IsTold have Reading = ⊤
IsTold have ReadingAsks = ⊤
IsTold have (Ended c e) = ⊤
IsTold have Gone = ⊤

-- Somebody asked who isn't fresh; and while its node is in this era, with the version that the home told.
-- (A node that goes on reports anew, and what it told earlier is older than that.)
pub record HasAsked (reached : ℕ) (e : ℕ) (home : Home) (have : Option ℕ) : Type 0 where
  pub begun : IsFresh home → ⊥
  pub told : reached ≡ e → IsTold have home

-- The grant was sent: without a right it is among those sent, with one the right is on its way.
abbrev pub IsSent : Bool → List Sent → Right → Sent → Type 0
IsSent true sent right g = right ≡ Flying g
IsSent false sent right g = In g sent

-- a change has the bytes of its version
abbrev pub ChangeHas : (ℕ → List ℕ) → Option Change → Type 0
ChangeHas hist None = ⊤
ChangeHas hist (Some x) = x.image ≡ hist x.version

-- the mode in which a report lists a lock of a transaction on a page
unfoldable pub mode_listed : List ReportLock → TxId → ℕ → Option Mode
mode_listed [] t p = None
mode_listed (x ∷ xs) t p = pick (same_tx x.tx t && x.page == p) (Some x.mode) (mode_listed xs t p)

-- whether a report lists a right on a page
abbrev pub lists_right : List ReportRight → ℕ → Bool
lists_right xs p = list_any (λ (x : ReportRight). x.page == p) xs

-- The right counts for an era that its node has reached: it is on the shelf, or was given back later.
abbrev pub CountsFor : ℕ → Right → Type 0
CountsFor e NoRight = ⊥
CountsFor e (Flying g) = ⊥
CountsFor e (Shelf v) = ⊤
CountsFor e (Returning upto readers) = e < upto
CountsFor e Dead = ⊥

-- an access that waits, as a report lists it, where it is one of the page
abbrev pub WaitIs : (ℕ → ℕ) → (TxId → Home) → ℕ → ℕ → ReportWait → Type 0
WaitIs reached home p e w = w.page ≡ p → HasAsked (reached w.tx.node) e (home w.tx) w.have

-- A report to a later era: its node has reached that era; it lists of each transaction of the node what the
-- era has of it, each right that counts, and accesses of transactions that asked.
pub record ReportIs (era : ℕ) (reached : ℕ → ℕ) (listed : TxId → ℕ → Option Mode) (right : ℕ → Right) (home : TxId → Home) (p from e : ℕ) (r : Report) : Type 0 where
  pub later : era < e
  pub reaches : e ≤ reached from
  pub locks : (t : TxId) → t.node ≡ from → mode_listed r.locks t p ≡ listed t e
  pub rights : CountsFor e (right from) → lists_right r.rights p ≡ true
  pub waits : AllByRecursion (WaitIs reached home p e) r.waits

-- What a message says that speaks of page p, is on the link from a to b, and is of era e. A grant, a
-- revocation and an answer are of an era that serves or has served.
abbrev pub SaysSo : (era : ℕ) (hist : ℕ → List ℕ) (reached : ℕ → ℕ) (listed : TxId → ℕ → Option Mode) (right : ℕ → Right) (home : TxId → Home) (sent : List Sent) → ℕ → ℕ → ℕ → ℕ → Body → Type 0
SaysSo era hist reached listed right home sent p a b e (body.Request r) = HasAsked (reached r.tx.node) e (home r.tx) r.have
SaysSo era hist reached listed right home sent p a b e (body.Grant g) =
    (e ≤ era) × (e ≡ era → IsSent g.right sent (right b) (sent_of g))
SaysSo era hist reached listed right home sent p a b e (body.Release r) =
    (home r.tx ≡ Ended (version_of_change r.change) e) × ChangeHas hist r.change
SaysSo era hist reached listed right home sent p a b e (body.Revoke page) = e ≤ era
SaysSo era hist reached listed right home sent p a b e (body.Return r) =
    (e ≤ era) × (e ≡ era → right a ≡ Returning (suc era) r.readers)
SaysSo era hist reached listed right home sent p a b e (body.Report r) = ReportIs era reached listed right home p a e r

-- whether a body is the release of a transaction
abbrev pub is_release : TxId → Body → Bool
is_release t (body.Release r) = same_tx r.tx t
is_release t _ = false

-- whether it is a grant with a right
abbrev pub is_right : Body → Bool
is_right (body.Grant g) = g.right
is_right _ = false

-- whether it is an answer to a revocation
abbrev pub is_answer : Body → Bool
is_answer (body.Return r) = true
is_answer _ = false

-- What is taken once is there once: releases, rights and answers.
pub record AreOnce (ms : List Message) : Type 0 where
  pub releases : (t : TxId) → how_many (is_release t) ms ≤ 1
  pub rights : how_many is_right ms ≤ 1
  pub answers : how_many is_answer ms ≤ 1
