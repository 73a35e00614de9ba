-- Steps of the machine at the home of one transaction, and what an owner's entry and the replies have of an access.
use Rattle.std.specs.Prelude.{◌≡◌, ℕ, ◌+◌, ◌≤◌, true, false, List, length, Some, None}
use Rattle.pcl_base.specs.declared.event.Event.{Event}
use Rattle.pcl_base.specs.declared.lock.Waiter.{Waiter}
use Rattle.pcl_base.specs.declared.tx.Mode.TheVariants.{Exclusive}
use Rattle.pcl_base.specs.declared.tx.TxId.{TxId}
use Rattle.node_rules.specs.AccessRule.{Access, mode_of_write, perform, under_right, waiting}
use Rattle.node_rules.specs.BufferRule.{find, has_private}
use Rattle.node_rules.specs.InstallRule.{owned_before}
use Rattle.node_rules.specs.LockRule.{ask}
use Rattle.node_rules.specs.LockTable.{LockTable, entry_at, put_entry}
use Rattle.node_rules.specs.NodeState.{partition, number_of, table_of}
use Rattle.node_rules.specs.OpenTxs.{is_open, held_by, mode_held, pending_of}
use Rattle.node_rules.specs.OwnerRule.{told, waits_first, with_table}
use Rattle.node_rules.specs.Shelf.{Right, right_on}
use Rattle.node_rules.specs.Words.{covers}
use Rattle.node_rules.specs.Work.{Work, work_of_home, with_home}
use Rattle.cluster_rules.specs.Clusters.{Cluster}
use Rattle.cluster_laws.specs.Link.Coming.{delivers}
use Rattle.page_laws.specs.Moment.Looks.{asked_last}
use Rattle.page_protocol.specs.Homes.{reading, reading_under, writing}
use Rattle.page_protocol.specs.State.{Home, Holding, Page, IsGranted, version_of, upd}
use Rattle.page_protocol.specs.Steps.{Step, Reached}
use Rattle.page_relation.specs.Messages.{HasAsked}
use Rattle.page_relation.specs.Work.Keeping.{IsWorkOf}
use Rattle.page_relation.specs.Work.Landing.{Acts, trace_of}
use Rattle.end_relation.specs.Access.Altered.{altered}

-- a step of the machine, whose state a work has
pub record IsStepTo (c : Cluster) (e : Event) (n p : ℕ) (x : Work) (a next : Page) : Type 0 where
  pub step : Step a next
  pub related : IsWorkOf c e n p x next

-- a granted read
abbrev pub ReadingIsStep : Type 0
ReadingIsStep =
    (c : Cluster) (e : Event) (n p : ℕ) (t : TxId) (w : Work) (blank : List ℕ) (a : Page) → Acts c n → Reached blank a → IsWorkOf c e n p w a → t.node ≡ n → IsGranted (a.home t)
    → IsStepTo c e n p (told w (perform t p None (work_of_home w))) a (reading a t)

-- A granted write of what its transaction asked for last: its node has a private copy, and it lies within the page.
pub record MayWrite (c : Cluster) (e : Event) (n p : ℕ) (t : TxId) (write : ℕ × List ℕ) (w : Work) (a : Page) : Type 0 where
  pub holds : a.home t ≡ Holding Exclusive
  pub private : has_private w.node.home.pool t p ≡ true
  pub within : write.0 + length write.1 ≤ c.config.size
  pub asked : asked_last t (trace_of c e n w) ≡ Some write

abbrev pub WritingIsStep : Type 0
WritingIsStep =
    (c : Cluster) (e : Event) (n p : ℕ) (t : TxId) (write : ℕ × List ℕ) (w : Work) (blank : List ℕ) (a : Page) → Acts c n → Reached blank a → IsWorkOf c e n p w a → t.node ≡ n
    → MayWrite c e n p t write w a → IsStepTo c e n p (told w (perform t p (Some write) (work_of_home w))) a (writing a t write.0 write.1)

-- An open transaction that waits for nothing and doesn't hold the page, where its node has the right of a page that isn't
-- its own, and a copy of the right's version.
pub record MayReadUnder (p : ℕ) (t : TxId) (r : Right) (w : Work) : Type 0 where
  pub opened : is_open w.node.home.txs t ≡ true
  pub idle : pending_of w.node.home.txs t ≡ None
  pub free : held_by w.node.home.txs t p ≡ None
  pub right : right_on w.node.home.shelf p ≡ Some r
  pub version : find w.node.home.pool p ≡ Some r.version
  pub not_own : owned_before w.node.view (partition w.node.home.config p) (number_of w.node) ≡ false

abbrev pub ReadingUnderIsStep : Type 0
ReadingUnderIsStep =
    (c : Cluster) (e : Event) (n p : ℕ) (t : TxId) (r : Right) (w : Work) (a : Page) → Acts c n → IsWorkOf c e n p w a → t.node ≡ n → MayReadUnder p t r w
    → IsStepTo c e n p (with_home w (under_right t p w.node.home)) a (reading_under a t)

-- An open transaction that waits for nothing, and doesn't hold the page as it asks for it.
pub record MayAsk (x : Access) (w : Work) : Type 0 where
  pub opened : is_open w.node.home.txs x.tx ≡ true
  pub idle : pending_of w.node.home.txs x.tx ≡ None
  pub uncovered : covers (mode_held (held_by w.node.home.txs x.tx x.page)) (mode_of_write x.write) ≡ false

-- It has asked then, with the version of its node's copy.
pub record IsWaitingAt (c : Cluster) (e : Event) (n : ℕ) (x : Access) (w : Work) (a : Page) : Type 0 where
  pub home : Home
  pub step : IsStepTo c e n x.page (with_home w (waiting x w.node.home)) a (altered a (upd a.home x.tx home) a.script a.image)
  pub asked : (reached era : ℕ) → HasAsked reached era home (version_of (a.slot x.tx.node))

abbrev pub WaitingIsStep : Type 0
WaitingIsStep =
    (c : Cluster) (e : Event) (n : ℕ) (x : Access) (w : Work) (a : Page) → Acts c n → IsWorkOf c e n x.page w a → x.tx.node ≡ n → MayAsk x w → IsWaitingAt c e n x w a

-- A request goes into the entry of its page.
abbrev pub AskingIsEntered : Type 0
AskingIsEntered =
    (c : Cluster) (e : Event) (n p : ℕ) (t : LockTable) (k : Waiter) (w : Work) (a : Page) → Acts c n → w.node.home.config ≡ c.config → table_of w.node p ≡ Some t
    → ((reached era : ℕ) → HasAsked reached era (a.home k.tx) k.have) → IsWorkOf c e n p w a → IsWorkOf c e n p (with_table p (put_entry t p (ask (entry_at t p) k)) w) a

-- A reply stands in front of the others, at an event that delivers nothing.
abbrev pub WaitingIsToldFirst : Type 0
WaitingIsToldFirst =
    (c : Cluster) (e : Event) (n p q : ℕ) (t : TxId) (w : Work) (a : Page) → Acts c n → ((x y : ℕ) → delivers e x y ≡ false) → IsWorkOf c e n p w a
    → IsWorkOf c e n p (waits_first t q w) a
