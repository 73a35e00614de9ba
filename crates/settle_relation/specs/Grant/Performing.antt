-- A granted access that is performed at its home.
use Rattle.std.specs.Prelude.{◌≡◌, ℕ, ◌+◌, ◌≤◌, ◌==◌, true, false, List, length, Option, Some, None, IfSome}
use Rattle.pcl_base.specs.declared.event.Event.{Event}
use Rattle.pcl_base.specs.declared.tx.Mode.TheVariants.{Exclusive}
use Rattle.pcl_base.specs.declared.tx.TxId.{TxId}
use Rattle.node_rules.specs.AccessRule.{mode_of_write, perform}
use Rattle.node_rules.specs.BufferRule.{has_private}
use Rattle.node_rules.specs.OpenTxs.{is_open, held_by, mode_held, pending_of}
use Rattle.node_rules.specs.OwnerRule.{told}
use Rattle.node_rules.specs.Words.{covers}
use Rattle.node_rules.specs.Work.{Work, work_of_home}
use Rattle.cluster_rules.specs.Clusters.{Cluster}
use Rattle.page_laws.specs.Moment.Looks.{asked_last}
use Rattle.page_protocol.specs.Homes.{reading, writing}
use Rattle.page_protocol.specs.State.{Home, Holding, Page, IsGranted}
use Rattle.page_protocol.specs.Steps.{Step}
use Rattle.page_relation.specs.Work.Events.{IsEntered}
use Rattle.page_relation.specs.Work.Keeping.{IsWorkOf}
use Rattle.page_relation.specs.Work.Landing.{Acts, trace_of}
use Rattle.page_relation.specs.Work.Unseen.{IsUnseen}

-- the machine's read or write
abbrev pub performing : Page → TxId → Option (ℕ × List ℕ) → Page
performing a t None = reading a t
performing a t (Some write) = writing a t write.0 write.1

-- where a transaction may do so: it may read, and write where it holds the page exclusively
abbrev pub MayAccess : Home → Option (ℕ × List ℕ) → Type 0
MayAccess h None = IsGranted h
MayAccess h (Some write) = h ≡ Holding Exclusive

-- a write is what its transaction asked for last, and ends within the page
pub record IsAskedFor (c : Cluster) (e : Event) (n : ℕ) (t : TxId) (w : Work) (write : ℕ × List ℕ) : Type 0 where
  pub last : asked_last t (trace_of c e n w) ≡ Some write
  pub inside : write.0 + length write.1 ≤ c.config.size

-- a transaction of the acting node that may do the access
pub record MayPerform (c : Cluster) (e : Event) (n : ℕ) (t : TxId) (write : Option (ℕ × List ℕ)) (w : Work) (a : Page) : Type 0 where
  pub mine : t.node ≡ n
  pub granted : MayAccess (a.home t) write
  pub asked : IfSome write (IsAskedFor c e n t w)

-- The access is the machine's step, and the relation holds with the state after it.
pub record IsPerformed (c : Cluster) (e : Event) (n p : ℕ) (t : TxId) (write : Option (ℕ × List ℕ)) (w : Work) (a : Page) : Type 0 where
  pub step : Step a (performing a t write)
  pub related : IsWorkOf c e n p (told w (perform t p write (work_of_home w))) (performing a t write)
  pub entered : IsEntered a → IsEntered (performing a t write)

abbrev pub PerformIsStep : Type 0
PerformIsStep =
    (c : Cluster) (e : Event) (n p : ℕ) (t : TxId) (write : Option (ℕ × List ℕ)) (w : Work) (a : Page) → Acts c n → MayPerform c e n t write w a
    → IsWorkOf c e n p w a → IsPerformed c e n p t write w a

-- A transaction that holds the page in a mode that allows the access, and waits for nothing, may do it.
abbrev pub HeldMayAccess : Type 0
HeldMayAccess =
    (c : Cluster) (e : Event) (n p : ℕ) (t : TxId) (write : Option (ℕ × List ℕ)) (w : Work) (a : Page) → Acts c n → t.node ≡ n
    → is_open w.node.home.txs t ≡ true → pending_of w.node.home.txs t ≡ None → covers (mode_held (held_by w.node.home.txs t p)) (mode_of_write write) ≡ true
    → IsWorkOf c e n p w a → MayAccess (a.home t) write

-- An access of another page isn't seen.
abbrev pub PerformsElsewhere : Type 0
PerformsElsewhere =
    (c : Cluster) (e : Event) (n p : ℕ) (t : TxId) (q : ℕ) (write : Option (ℕ × List ℕ)) (w : Work) → (q == p) ≡ false
    → IfSome write (λ x. (has_private w.node.home.pool t q ≡ true) × (asked_last t (trace_of c e n w) ≡ Some x))
    → IsUnseen c e n p w (told w (perform t q write (work_of_home w)))
