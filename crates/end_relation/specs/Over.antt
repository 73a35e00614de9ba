-- The work of a node once a transaction was closed at its home and answered, before any page's owner is told.
use Rattle.std.specs.Prelude.{ℕ, ◌==◌, ◌&&◌, ◌||◌, Bool, true, false, List, [], ◌∷◌, is_some}
use Rattle.pcl_base.specs.declared.reply.Reply.{Reply}
use Rattle.pcl_base.specs.declared.reply.Reply.TheVariants as reply
use Rattle.pcl_base.specs.declared.tx.TxId.{TxId}
use Rattle.node_rules.specs.EndRule.{Ending, Closed, commit, abort}
use Rattle.node_rules.specs.NodeState.{NodeState, NodeEvent, Commit, Abort}
use Rattle.node_rules.specs.OwnerRule.{clean_unserved}
use Rattle.node_rules.specs.Work.{HomeWork, Work, work_of_home, with_home_work, reply}
use Rattle.cluster_rules.specs.Clusters.{Cluster}
use Rattle.page_relation.specs.Work.StepEnds.{start_of}

-- the transaction is closed, copies of partitions that aren't served are clean, and the reply is given
abbrev pub over : Reply → Closed → Work → Work
over r x w = reply r (clean_unserved x.endings (with_home_work w x.work))

-- whether some ending has a change of the page
abbrev pub changes : ℕ → List Ending → Bool
changes q [] = false
changes q (x ∷ es) = (is_some x.change && x.page == q) || changes q es

-- the event, the reply and the home's part of an end, which is a commit or not
abbrev pub event_of : Bool → TxId → NodeEvent
event_of true t = Commit t
event_of false t = Abort t

-- what is answered
abbrev pub reply_of : Bool → TxId → Reply
reply_of true t = reply.Committed t
reply_of false t = reply.Aborted t

-- what the home makes of its part
abbrev pub closed_of : Bool → TxId → HomeWork → Closed
closed_of true t w = commit t w
closed_of false t w = abort t w

-- the work then, from a node at the start of its step
abbrev pub over_of : Bool → TxId → Cluster → NodeState → Work
over_of b t c s = over (reply_of b t) (closed_of b t (work_of_home (start_of c s))) (start_of c s)
