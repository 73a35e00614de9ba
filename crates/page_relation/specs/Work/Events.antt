-- The simplest events keep the relation.
use Rattle.std.specs.Prelude.{◌≡◌, ℕ, ◌<◌, ◌≤◌, true, false, List, Some, None}
use Rattle.pcl_base.specs.declared.event.Event.{Event}
use Rattle.pcl_base.specs.declared.lock.Verdict.TheVariants as verdict
use Rattle.pcl_base.specs.declared.message.Message.{Message}
use Rattle.pcl_base.specs.declared.tx.TxId.{TxId}
use Rattle.node_rules.specs.AccessRule.{on_pool}
use Rattle.node_rules.specs.BufferRule.{evict}
use Rattle.node_rules.specs.NodeState.{NodeState, NodeEvent, Begin, Deliver, Evict, Flush, Cut, number_of}
use Rattle.node_rules.specs.NodeStep.{partition_of, judge_in, do_event}
use Rattle.node_rules.specs.Work.{Work, Goes, work_of_home, with_home_work, write_back}
use Rattle.cluster_rules.specs.Clusters.{Cluster, stop_at}
use Rattle.cluster_rules.specs.ClusterStep.{left_of, step}
use Rattle.cluster_laws.specs.Handed.{IsHanded}
use Rattle.cluster_laws.specs.Sound.{IsCluster}
use Rattle.page_laws.specs.Look.Buffers.{is_used_by}
use Rattle.page_protocol.specs.Bytes.{Copy}
use Rattle.page_protocol.specs.State.{Page}
use Rattle.page_protocol.specs.Steps.{Reached}
use Rattle.page_relation.specs.Relation.{IsPageOf}
use Rattle.page_relation.specs.Work.Keeping.{Keeps}
use Rattle.page_relation.specs.Work.Landing.{Acts}
use Rattle.page_relation.specs.Work.StepEnds.{start_of, Follows}

-- The owner's dirty copy isn't newer than the entry. Within the commit of a transaction of the owner it is, until the
-- end is told.
abbrev pub IsEntered : Page → Type 0
IsEntered a = (x : Copy) → a.dirty ≡ true → a.slot a.owner ≡ Some x → x.version ≤ a.entry

-- a dirty copy of page q is written back, and leaves
abbrev pub back : ℕ → Work → Work
back q w = with_home_work w (write_back q (work_of_home w))

-- a copy leaves, written back where it is dirty
abbrev pub gone : ℕ → Work → Work
gone q w = with_home_work w (on_pool (λ b. evict b q) (write_back q (work_of_home w)))

-- no transaction of the node uses page q
abbrev pub IsUnused : ℕ → Work → Type 0
IsUnused q w = (t : TxId) → is_used_by w.node.home.txs q t ≡ false

-- A copy that is written back: the machine's flush, where it is a dirty one of the page.
abbrev pub BackKeeps : Type 0
BackKeeps =
    (c : Cluster) (e : Event) (n p q : ℕ) → Acts c n → p < c.config.pages
    → Keeps c e n p (λ w a. IsEntered a) (λ w. Goes (back q w)) (λ w a. IsEntered a)

-- A copy of a page that nobody uses, which leaves: after that the machine's eviction.
abbrev pub GoneKeeps : Type 0
GoneKeeps =
    (c : Cluster) (e : Event) (n p q : ℕ) → Acts c n → p < c.config.pages
    → Keeps c e n p (λ w a. IsEntered a × IsUnused q w) (λ w. Goes (gone q w)) (λ w a. IsEntered a)

-- no stop ends the step that a node makes on an event
abbrev pub IsUnstopped : Cluster → ℕ → NodeState → NodeEvent → Type 0
IsUnstopped c n s ev = (w : Work) → do_event c.disk ev (start_of c s) ≡ Goes w → left_of n c.disk w.calls (stop_at c n) ≡ None

-- A transaction that begins changes nothing of any page.
abbrev pub BeginIsKept : Type 0
BeginIsKept = (c : Cluster) (e : Event) (n p : ℕ) (s : NodeState) (a : Page) → IsCluster c → IsHanded c e n s Begin → IsPageOf c p a → IsPageOf (step c e) p a

-- A page that is evicted, and one that is flushed.
abbrev pub EvictIsKept : Type 0
EvictIsKept =
    (c : Cluster) (e : Event) (n p q : ℕ) (s : NodeState) (blank : List ℕ) (a : Page) → IsCluster c → IsHanded c e n s (Evict q) → IsUnstopped c n s (Evict q)
    → p < c.config.pages → Reached blank a → IsEntered a → IsPageOf c p a → Follows p IsEntered a (step c e)

-- a page that is flushed
abbrev pub FlushIsKept : Type 0
FlushIsKept =
    (c : Cluster) (e : Event) (n p q : ℕ) (s : NodeState) (blank : List ℕ) (a : Page) → IsCluster c → IsHanded c e n s (Flush q) → IsUnstopped c n s (Flush q)
    → p < c.config.pages → Reached blank a → IsEntered a → IsPageOf c p a → Follows p IsEntered a (step c e)

-- A log that is cut, where the length that may be cut is found.
abbrev pub CutIsKept : Type 0
CutIsKept =
    (c : Cluster) (e : Event) (n p : ℕ) (s : NodeState) (w : Work) (a : Page) → IsCluster c → IsHanded c e n s Cut → IsUnstopped c n s Cut
    → do_event c.disk Cut (start_of c s) ≡ Goes w → IsEntered a → IsPageOf c p a → Follows p IsEntered a (step c e)

-- A message that is held stays at its head, and one that is dropped is gone.
abbrev pub UntakenIsKept : Type 0
UntakenIsKept =
    (c : Cluster) (e : Event) (n p from : ℕ) (m : Message) (s : NodeState) (a : Page) → IsCluster c → IsHanded c e n s (Deliver from m)
    → (judge_in s.view (number_of s) from m.epoch (partition_of s.home.config m.body) ≡ verdict.Taken → ⊥) → IsPageOf c p a → IsPageOf (step c e) p a
