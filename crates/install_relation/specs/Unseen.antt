-- While another partition has its turn nothing is seen of the page, whether its own had it or not.
use Rattle.std.specs.Prelude.{◌≡◌, ◌⊎◌, ℕ, ◌==◌, false, [], Option}
use Rattle.pcl_base.specs.declared.event.Event.{Event}
use Rattle.pcl_base.specs.declared.reply.Reply.TheVariants as reply
use Rattle.run_rules.specs.Disk.{Disk}
use Rattle.run_rules.specs.Views.{View, born_of}
use Rattle.node_rules.specs.InstallRule.{tell_new_owner, begin_life, in_view}
use Rattle.node_rules.specs.NodeState.{NodeState, number_of, partition}
use Rattle.node_rules.specs.Work.{Work, reply, with_node}
use Rattle.cluster_rules.specs.Clusters.{Cluster}
use Rattle.page_relation.specs.Work.StepEnds.{start_of}
use Rattle.page_relation.specs.Work.Unseen.{IsUnseen}
use Rattle.kept_relation.specs.Turn.Standing.{as_before}
use Rattle.install_relation.specs.Taking.{taken}

-- a node that was born in the view that it had, or that has no open transaction
abbrev pub KeepsBirth : NodeState → Work → Work → Type 0
KeepsBirth s w x = (w.node.home.txs.born ≡ s.home.txs.born) ⊎ ((w.node.home.txs.txs ≡ []) × (x.node.home.txs.txs ≡ []))

-- What isn't seen isn't seen with the old view either.
abbrev pub UnseenBefore : Type 0
UnseenBefore =
    (c : Cluster) (e : Event) (n p : ℕ) (s : NodeState) (w x : Work) → KeepsBirth s w x → IsUnseen c e n p w x → IsUnseen c e n p (as_before s w) (as_before s x)

-- Another partition is told, and another one is taken over.
abbrev pub TellingElsewhere : Type 0
TellingElsewhere =
    (c : Cluster) (e : Event) (n p q : ℕ) (before : Option View) (v : View) (w : Work) → w.node.home.config ≡ c.config → (q == partition c.config p) ≡ false
    → IsUnseen c e n p w (tell_new_owner before v q w)

abbrev pub TakingElsewhere : Type 0
TakingElsewhere =
    (c : Cluster) (e : Event) (n p q : ℕ) (w : Work) → w.node.home.config ≡ c.config → (q == partition c.config p) ≡ false → IsUnseen c e n p w (taken q w)

-- the work of an install before its partitions
abbrev pub entered : Disk → View → NodeState → Work → Work
entered d v s w =
    begin_life (born_of v (number_of s) == v.epoch) d v (reply (reply.Installed v.epoch) (with_node w (in_view v s)))

-- Nothing is seen of it with the old view.
abbrev pub EnteringIsUnseen : Type 0
EnteringIsUnseen =
    (c : Cluster) (e : Event) (n p : ℕ) (s : NodeState) (v : View) → s.home.config ≡ c.config → number_of s ≡ n
    → IsUnseen c e n p (start_of c s) (as_before s (entered c.disk v s (start_of c s)))
