-- How many messages with lists one step of a node sends at most.
use Rattle.std.specs.Prelude.{◌≡◌, ℕ, ◌≤◌, List}
use Rattle.pcl_base.specs.Limits.{Sizes}
use Rattle.pcl_base.specs.declared.message.Body.{Body}
use Rattle.pcl_base.specs.declared.message.Body.TheVariants as body
use Rattle.run_rules.specs.Disk.{Disk}
use Rattle.node_rules.specs.NodeState.{NodeState, NodeEvent, Deliver, Install, Outgoing}
use Rattle.node_rules.specs.Work.{Goes}
use Rattle.node_rules.specs.NodeStep.{Plan, nodestep}
use Rattle.step_laws.specs.Most.{sum_of}

-- 1 for a message with lists
abbrev pub one_list : Body → ℕ
one_list (body.Return r) = 1
one_list (body.Report r) = 1
one_list _ = 0

-- how many messages with lists are sent
abbrev pub lists_sent : List Outgoing → ℕ
lists_sent sends = sum_of (λ o. one_list o.message.body) sends

-- 1 for a revocation, which may be answered
abbrev pub one_answer : Body → ℕ
one_answer (body.Revoke p) = 1
one_answer _ = 0

-- a report for each partition as a view is installed, and one answer to a revocation
abbrev pub lists_by : Sizes → NodeEvent → ℕ
lists_by c (Install v) = c.nodes
lists_by c (Deliver from m) = one_answer m.body
lists_by c _ = 0

-- a step sends at most so many
abbrev pub ListsAreFew : Type 0
ListsAreFew =
    (n : NodeState) (event : NodeEvent) (d : Disk) (p : Plan) → nodestep n event d ≡ Goes p
    → lists_sent p.sends ≤ lists_by n.home.config event
