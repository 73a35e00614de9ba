-- What comes and counts for a partition that a node keeps, by the node's new view.
use Rattle.std.specs.Prelude.{◌≡◌, ℕ, ◌≤◌, ◌&&◌, not, nat_le, Bool, true, false, Some}
use Rattle.std.specs.List.{AllByRecursion}
use Rattle.pcl_base.specs.declared.event.Event.{Event}
use Rattle.pcl_base.specs.declared.message.Message.{Message}
use Rattle.pcl_base.specs.declared.tx.TxId.{TxId}
use Rattle.run_rules.specs.Views.{View, is_live}
use Rattle.node_rules.specs.NodeState.{number_of, partition}
use Rattle.node_rules.specs.Work.{Work}
use Rattle.cluster_rules.specs.Clusters.{Cluster, last_view, view_of_epoch}
use Rattle.cluster_laws.specs.Era.Eras.{era_at, owner_at}
use Rattle.cluster_laws.specs.Link.Coming.{coming}
use Rattle.page_protocol.specs.State.{Page}
use Rattle.page_relation.specs.Messages.{is_answer}
use Rattle.page_relation.specs.Together.{IsParty}
use Rattle.page_relation.specs.Work.Keeping.{IsWorkOf}
use Rattle.page_relation.specs.Work.Landing.{land, Acts}
use Rattle.kept_relation.specs.Emptying.{nobody}
use Rattle.kept_relation.specs.Purging.{AreSpared}

-- the transactions of nodes that a view doesn't list, born by then
abbrev pub dead_in : View → TxId → Bool
dead_in v t = not (is_live v.live t.node) && nat_le t.born v.epoch

-- no answer of a node that is gone comes for the era
abbrev pub IsNoAnswer : Cluster → ℕ → ℕ → Message → Type 0
IsNoAnswer d q era m = is_answer m.body ≡ true → era_at d q m.epoch ≡ era → ⊥

-- The acting node is in a view that lists it, and owns an era there; what comes has its parties; what it sent is of no
-- later epoch; and no node that is gone answers.
pub record OwnsIn (c : Cluster) (e : Event) (n p : ℕ) (v : View) (gone : ℕ → Bool) (w : Work) (era : ℕ) : Type 0 where
  pub there : view_of_epoch c.views v.epoch ≡ Some v
  pub made : v.epoch ≤ (last_view c).epoch
  pub listed : is_live v.live n ≡ true
  pub number : number_of w.node ≡ n
  pub view : w.node.view ≡ Some v
  pub has : era_at c (partition c.config p) v.epoch ≡ era
  pub owner : owner_at c (partition c.config p) v.epoch ≡ n
  pub unlisted : (m : ℕ) → gone m ≡ true → is_live v.live m ≡ false
  pub parties : (from to : ℕ) → AllByRecursion (IsParty c from to) (coming (land c e n w) p from to)
  pub behind : (to : ℕ) → AllByRecursion (λ (m : Message). m.epoch ≤ v.epoch) (coming (land c e n w) p n to)
  pub no_answers : (from to : ℕ) → gone from ≡ true → AllByRecursion (IsNoAnswer (land c e n w) (partition c.config p) era) (coming (land c e n w) p from to)

-- So nothing that comes and counts speaks of what the purge removes.
abbrev pub ComingIsSpared : Type 0
ComingIsSpared =
    (c : Cluster) (e : Event) (n p : ℕ) (v : View) (gone : ℕ → Bool) (w : Work) (a : Page) → Acts c n → IsWorkOf c e n p w a → OwnsIn c e n p v gone w a.era
    → AreSpared c e n p w a a.era (dead_in v) gone

-- the same of an era for which it rebuilds its table
abbrev pub ComingIsSparedEarly : Type 0
ComingIsSparedEarly =
    (c : Cluster) (e : Event) (n p : ℕ) (v : View) (era : ℕ) (w : Work) (a : Page) → Acts c n → IsWorkOf c e n p w a → OwnsIn c e n p v nobody w era
    → AreSpared c e n p w a era (dead_in v) nobody
