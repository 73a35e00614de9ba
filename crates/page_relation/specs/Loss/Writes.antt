-- Page writes of a step that a stop ended, as the machine of one page takes them.
use Rattle.std.specs.Prelude.{◌≡◌, ◌≢◌, ◌⊎◌, ℕ, ◌<◌, ◌≤◌, ◌^◌, true, List, [], ◌∷◌, ◌++◌, ⊤, Some, None, Option}
use Rattle.pcl_base.specs.declared.message.Body.{Body}
use Rattle.pcl_base.specs.declared.message.Body.TheVariants as body
use Rattle.pcl_base.specs.declared.tx.Mode.TheVariants.{Exclusive}
use Rattle.pcl_base.specs.declared.tx.TxId.{TxId}
use Rattle.text_rules.specs.StoredPage.{stored_bytes}
use Rattle.node_rules.specs.DiskCalls.{DiskCall, WritePage, Force, TrimLog, CutLog}
use Rattle.node_rules.specs.NodeState.{NodeState, NodeEvent, Install, Deliver}
use Rattle.cluster_rules.specs.Clusters.{Cluster, node_at}
use Rattle.page_protocol.specs.Bytes.{writes}
use Rattle.page_protocol.specs.State.{Holding, Page}
use Rattle.page_laws.specs.Storage.Stored.{forced_by}
use Rattle.page_laws.specs.Moment.Looks.{accesses_in}
use Rattle.page_laws.specs.Moment.Machine.{CommitStep}

-- The bytes of a version of the page, neither older than `low` nor newer than `top`.
pub record IsVersion (hist : ℕ → List ℕ) (top p low : ℕ) (bytes : List ℕ) (w : ℕ) : Type 0 where
  pub least : low ≤ w
  pub most : w ≤ top
  pub made : bytes ≡ stored_bytes p (record { version = w; bytes = hist w })

-- The writes of page p among some calls put versions of it on disk that don't fall.
abbrev pub WritesRise : (ℕ → List ℕ) → ℕ → ℕ → ℕ → List DiskCall → Type 0
WritesRise hist top p low [] = ⊤
WritesRise hist top p low (WritePage q bytes ∷ calls) =
    ((q ≢ p) × WritesRise hist top p low calls)
    ⊎ ((w : ℕ) × (q ≡ p) × IsVersion hist top p low bytes w × WritesRise hist top p w calls)
WritesRise hist top p low (Force t bytes ∷ calls) = WritesRise hist top p low calls
WritesRise hist top p low (TrimLog keep ∷ calls) = WritesRise hist top p low calls
WritesRise hist top p low (CutLog count ∷ calls) = WritesRise hist top p low calls

-- no call writes page p
abbrev pub NoWrites : ℕ → List DiskCall → Type 0
NoWrites p [] = ⊤
NoWrites p (WritePage q bytes ∷ calls) = (q ≢ p) × NoWrites p calls
NoWrites p (Force t bytes ∷ calls) = NoWrites p calls
NoWrites p (TrimLog keep ∷ calls) = NoWrites p calls
NoWrites p (CutLog count ∷ calls) = NoWrites p calls

-- What a node may write of a page: nothing while another node serves it, and else versions of it.
pub data MayWrite (a : Page) (p n : ℕ) (calls : List DiskCall) : Type 0 where
  elsewhere : NoWrites p calls → MayWrite a p n calls
  versions : (a.served ≡ true → a.owner ≡ n) → WritesRise a.hist a.now p a.disk.version calls → MayWrite a p n calls

-- The state of a page past the commit point of the record that was forced, if one was.
pub data PastForce (a : Page) : Option TxId → Page → Type 0 where
  unforced : PastForce a None a
  past : (t : TxId) (b : Page) → CommitStep t a b → PastForce a (Some t) b

-- Each beginning of the calls of a step writes only versions of the page past the commit point that it forces.
abbrev pub WriteVersions : (ℕ → Page) → ℕ → ℕ → List DiskCall → Type 0
WriteVersions page pages n calls =
    (p : ℕ) (front back : List DiskCall) (b : Page) → p < pages → calls ≡ front ++ back → PastForce (page p) (forced_by front) b → MayWrite b p n front

-- What is needed of a cluster beside the relation where a record is kept: no access is one of a page past the last,
-- who holds a page exclusively has written it, and serials have four bytes.
pub record ScriptsFit (c : Cluster) (page : ℕ → Page) : Type 0 where
  pub within : (t : TxId) (p : ℕ) → c.config.pages ≤ p → accesses_in t p c.trace ≡ []
  pub wrote : (t : TxId) (p : ℕ) → p < c.config.pages → (page p).home t ≡ Holding Exclusive → writes ((page p).script t) ≡ true
  pub serials : (n : ℕ) (s : NodeState) → node_at c n ≡ Some s → s.home.txs.last < 2 ^ 32

-- a message that is no report
abbrev pub IsNoReport : Body → Type 0
IsNoReport (body.Report r) = ⊥
IsNoReport _ = ⊤

-- An event that redoes no page: any but an install and a report that arrives.
abbrev pub RedoesNothing : NodeEvent → Type 0
RedoesNothing (Install v) = ⊥
RedoesNothing (Deliver from m) = IsNoReport m.body
RedoesNothing _ = ⊤
