-- A message that is taken: what every event of a message starts from.
use Rattle.std.specs.Prelude.{◌≡◌, ℕ, ◌≤◌, true, Some}
use Rattle.pcl_base.specs.declared.event.Event.{Event}
use Rattle.pcl_base.specs.declared.lock.Verdict.TheVariants as verdict
use Rattle.pcl_base.specs.declared.message.Message.{Message}
use Rattle.pcl_base.specs.declared.reply.Reply.TheVariants as reply
use Rattle.run_rules.specs.Views.{View}
use Rattle.node_rules.specs.NodeState.{NodeState, Deliver, number_of, partition}
use Rattle.node_rules.specs.NodeStep.{partition_of, judge_in, do_event, work_off}
use Rattle.node_rules.specs.Work.{Work, reply}
use Rattle.cluster_rules.specs.Clusters.{Cluster}
use Rattle.cluster_laws.specs.Handed.{IsHanded}
use Rattle.cluster_laws.specs.Sound.{IsCluster}
use Rattle.cluster_laws.specs.Era.CountLaws.{IsOfView}
use Rattle.cluster_laws.specs.Era.Eras.{era_at}
use Rattle.cluster_laws.specs.Link.Coming.{speaks_of}
use Rattle.page_protocol.specs.State.{Page}
use Rattle.page_relation.specs.Relation.{IsPageOf}
use Rattle.page_relation.specs.Work.Keeping.{IsWorkOf}
use Rattle.page_relation.specs.Work.StepEnds.{start_of, HeadSays}

-- the work of a node once it has taken a message, and before it works it off
abbrev pub taken_of : Cluster → NodeState → Work
taken_of c s = reply reply.Taken (start_of c s)

-- The step goes on from there, with the same state of the machine. Where the message speaks of the page, it is known
-- what it says, and its era is the one that the node has reached, which isn't below the one that serves.
pub record TakenSays (c : Cluster) (e : Event) (n p : ℕ) (a : Page) (s : NodeState) (from : ℕ) (m : Message) : Type 0 where
  pub view : View
  pub in_view : s.view ≡ Some view
  pub goes_on : do_event c.disk (Deliver from m) (start_of c s) ≡ work_off c.disk from m.body (taken_of c s)
  pub related : IsWorkOf c e n p (taken_of c s) a
  pub head : speaks_of c.config p m.body ≡ true → HeadSays c e n p a (taken_of c s) from m
  pub reached : speaks_of c.config p m.body ≡ true → a.reached n ≡ era_at c (partition c.config p) m.epoch
  pub of_view : speaks_of c.config p m.body ≡ true → IsOfView c view n from (partition c.config p) m.epoch
  pub not_past : a.era ≤ a.reached n

abbrev pub TakenIsSaid : Type 0
TakenIsSaid =
    (c : Cluster) (e : Event) (n p : ℕ) (s : NodeState) (from : ℕ) (m : Message) (a : Page) → IsCluster c → IsHanded c e n s (Deliver from m)
    → judge_in s.view (number_of s) from m.epoch (partition_of s.home.config m.body) ≡ verdict.Taken → IsPageOf c p a → TakenSays c e n p a s from m
