-- A decision of settling that is carried out: the entry of the page after it, and what the authority has then.
use Rattle.std.specs.Prelude.{◌≡◌, ℕ, ◌<◌, true, List, Option, Some}
use Rattle.std.specs.List.{AllByRecursion}
use Rattle.std.proofs.Common.{suc}
use Rattle.pcl_base.specs.declared.event.Event.{Event}
use Rattle.pcl_base.specs.declared.message.Message.{Message}
use Rattle.pcl_base.specs.declared.tx.Mode.{Mode}
use Rattle.pcl_base.specs.declared.tx.TxId.{TxId}
use Rattle.node_rules.specs.LockRule.{LockEntry}
use Rattle.node_rules.specs.LockTable.{LockTable, put_entry}
use Rattle.node_rules.specs.NodeState.{partition, table_at, put_table}
use Rattle.node_rules.specs.Work.{Work, with_node}
use Rattle.cluster_rules.specs.Clusters.{Cluster}
use Rattle.page_laws.specs.Entry.Decisions.{NoWriterWaits}
use Rattle.page_laws.specs.Entry.Steps.{IsEntryOf}
use Rattle.cluster_laws.specs.Era.Eras.{era_in}
use Rattle.cluster_laws.specs.Link.Coming.{coming}
use Rattle.page_protocol.specs.State.{Sent, Right, Flying, Returning, Page, In}
use Rattle.page_relation.specs.Messages.{CountsFor, is_answer}
use Rattle.page_relation.specs.Relation.{on_shelf}
use Rattle.page_relation.specs.Tables.{WaiterIs}
use Rattle.page_relation.specs.Work.Keeping.{IsWorkOf}
use Rattle.page_relation.specs.Work.Landing.{land, Acts}

-- the work with this entry of the page in its partition's table
abbrev pub rewound : ℕ → LockTable → ℕ → LockEntry → Work → Work
rewound q t p x w = with_node w (put_table w.node q (Some (put_entry t p x)))

-- what the authority has of locks, grants and rights
abbrev pub decided : Page → (TxId → ℕ → Option Mode) → List Sent → (ℕ → Right) → Page
decided a listed sent right = record a { listed = listed; sent = sent; right = right }

-- Of the authority's era alone more or less is listed; no right comes to the shelves or leaves them, and none comes to
-- count for a later era; grants stay sent, and so do rights.
pub record IsDecided (a : Page) (listed : TxId → ℕ → Option Mode) (sent : List Sent) (right : ℕ → Right) : Type 0 where
  pub later : (u : TxId) (f : ℕ) → a.era < f → listed u f ≡ a.listed u f
  pub shelves : (m : ℕ) → on_shelf (right m) ≡ on_shelf (a.right m)
  pub counts : (m f : ℕ) → a.era < f → CountsFor f (right m) → CountsFor f (a.right m)
  pub sent_on : (g : Sent) → In g a.sent → In g sent
  pub flying : (m : ℕ) (g : Sent) → a.right m ≡ Flying g → right m ≡ Flying g

-- an answer that comes is one to what is still known
abbrev pub StillAnswers : Page → (ℕ → Right) → ℕ → Message → Type 0
StillAnswers a right from m = is_answer m.body ≡ true → (readers : List TxId) → a.right from ≡ Returning (suc a.era) readers → right from ≡ Returning (suc a.era) readers

-- The acting node serves the page's partition, with a table of which this is the entry of the page: it fits what is
-- decided.
pub record ServesWith (n q : ℕ) (t u : LockTable) (w : Work) (a b : Page) (x : LockEntry) : Type 0 where
  pub there : table_at w.node q ≡ Some u
  pub serving : t.serving ≡ true
  pub served : a.served ≡ true
  pub here : n ≡ a.owner
  pub now : era_in w.node.view q ≡ a.era
  pub entry : IsEntryOf b x
  pub waiting : AllByRecursion (WaiterIs a.reached a.home a.era) x.waiting
  pub writers : NoWriterWaits x

-- So the work with that entry has the state after the decision.
abbrev pub DecidingIsRelated : Type 0
DecidingIsRelated =
    (c : Cluster) (e : Event) (n p : ℕ) (t u : LockTable) (x : LockEntry) (w : Work) (a : Page) (listed : TxId → ℕ → Option Mode) (sent : List Sent) (right : ℕ → Right)
    → Acts c n → IsDecided a listed sent right → ((from to : ℕ) → AllByRecursion (StillAnswers a right from) (coming (land c e n w) p from to))
    → ServesWith n (partition c.config p) t u w a (decided a listed sent right) x → IsWorkOf c e n p w a
    → IsWorkOf c e n p (rewound (partition c.config p) t p x w) (decided a listed sent right)
