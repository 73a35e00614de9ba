-- The works of an install, partition after partition.
use Rattle.std.specs.Prelude.{◌≡◌, ℕ, ◌==◌, Some, None}
use Rattle.pcl_base.specs.declared.event.Event.{Event}
use Rattle.pcl_base.specs.declared.tx.TxId.{TxId}
use Rattle.run_rules.specs.Views.{View, born_of}
use Rattle.node_rules.specs.InstallRule.{owned_before}
use Rattle.node_rules.specs.NodeState.{NodeState, Install, number_of}
use Rattle.node_rules.specs.Refusals.{refusal}
use Rattle.node_rules.specs.Words.{pick}
use Rattle.node_rules.specs.Work.{Work}
use Rattle.node_laws.proofs.Installs.{at, upto}
use Rattle.node_laws.proofs.Works.{Base}
use Rattle.cluster_rules.specs.Clusters.{Cluster, node_at}
use Rattle.cluster_laws.specs.Handed.{IsHanded}
use Rattle.cluster_laws.specs.Sound.{IsCluster}
use Rattle.cluster_laws.specs.Call.Calls.{BeginsWith, on_log}
use Rattle.page_relation.specs.Together.{WaitsAsAsked}
use Rattle.page_relation.specs.Work.StepEnds.{start_of}
use Rattle.page_relation.specs.Work.Unseen.{IsUnseen}
use Rattle.settle_relation.specs.Midway.{IsMidway}
use Rattle.install_relation.specs.Unseen.{entered}

-- an install that isn't refused
pub record IsInstall (c : Cluster) (e : Event) (n : ℕ) (s : NodeState) (v : View) : Type 0 where
  pub cluster : IsCluster c
  pub asks : (t : TxId) → WaitsAsAsked c t (node_at c t.node)
  pub handed : IsHanded c e n s (Install v)
  pub free : refusal s (Install v) ≡ None

-- the numbers of the node in the new view
abbrev pub numbers : NodeState → View → Base
numbers s v =
    record {
      config = s.home.config;
      number = number_of s;
      born = pick (born_of v (number_of s) == v.epoch) v.epoch s.home.txs.born;
      epoch = v.epoch;
      view = Some v;
      has = λ q. owned_before s.view q (number_of s);
    }

-- the same where it has tables when so many partitions are done
abbrev pub numbers_at : NodeState → View → ℕ → Base
numbers_at s v k = at (numbers s v) (upto s.view v (number_of s) k)

-- what is known of the work then, whatever page
pub record IsInstalling (c : Cluster) (e : Event) (n : ℕ) (s : NodeState) (v : View) (k : ℕ) (w : Work) : Type 0 where
  pub midway : IsMidway (numbers_at s v k) c e n w
  pub calls : BeginsWith (on_log s c.disk (Install v)) w.calls

-- while a page's partition waits for its turn nothing was seen of the page since the partitions began
pub record IsWaiting (c : Cluster) (e : Event) (n p : ℕ) (s : NodeState) (v : View) (k : ℕ) (w : Work) : Type 0 where
  pub installing : IsInstalling c e n s v k w
  pub unseen : IsUnseen c e n p (entered c.disk v s (start_of c s)) w
