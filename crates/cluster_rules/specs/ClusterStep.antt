-- One step of a cluster: one step of a node, or one of the environment.
use Rattle.std.specs.Prelude.{ℕ, ◌+◌, ◌-◌, ◌&&◌, not, nat_le, Bool, true, false, List, [], ◌∷◌, ◌++◌, map, length, Option, Some, None, is_some, Result, Ok, Err}
use Rattle.std.specs.List.{list_any, filter, fold}
use Rattle.pcl_base.specs.declared.event.Event.{Event}
use Rattle.pcl_base.specs.declared.event.Event.TheVariants as event
use Rattle.pcl_base.specs.declared.message.Message.{Message}
use Rattle.pcl_base.specs.declared.reply.Reason.{Reason}
use Rattle.pcl_base.specs.declared.reply.Reason.TheVariants as reason
use Rattle.pcl_base.specs.declared.reply.Reply.{Reply}
use Rattle.pcl_base.specs.declared.reply.Reply.TheVariants as reply
use Rattle.run_rules.specs.Views.{View, is_live, next, reopen, count_from}
use Rattle.node_rules.specs.Words.{pick}
use Rattle.node_rules.specs.NodeState.{NodeState, NodeEvent, Outgoing, start_node}
use Rattle.node_rules.specs.NodeState as node
use Rattle.run_rules.specs.Disk.{Disk}
use Rattle.node_rules.specs.DiskCalls.{DiskCall, Stop, Left, all_done, left_by}
use Rattle.node_rules.specs.Work.{Outcome, Goes, Differs}
use Rattle.node_rules.specs.NodeStep.{Plan, nodestep}
use Rattle.cluster_rules.specs.Links.{Links, head_at, take_head, send_all}
use Rattle.cluster_rules.specs.Clusters.{Cluster, node_at, is_up, put_node, stop_at, put_stop, lose, view_of_epoch, last_view, note_entry, answer, sent_by}

-- what becomes of the head of the link: a message that is held stays
abbrev pub is_taken : List Reply → Bool
is_taken [] = true
is_taken (reply.Held ∷ rs) = false
is_taken (reply.Refused r ∷ rs) = false
is_taken (_ ∷ rs) = true

-- the links once a node's event took the head that it took, if any
abbrev pub links_after : Event → List Reply → Links → Links
links_after (event.Deliver from to) rs ls = pick (is_taken rs) (take_head ls from to) ls
links_after _ rs ls = ls

-- a stop that has not come due after so many calls
abbrev pub later_stop : ℕ → Option Stop → Option Stop
later_stop n None = None
later_stop n (Some s) = Some (record { before = s.before - n; kept = s.kept })

-- a step that was made whole
abbrev pub made : Event → ℕ → Plan → Cluster → Cluster
made e n p c =
    note_entry e p.replies (map (sent_by n) p.sends) None
    (record c {
      nodes = (put_node c n (Some p.node)).nodes;
      links = send_all (is_up c) n (links_after e p.replies c.links) p.sends;
      disk = all_done n c.disk p.calls;
      stops = (put_stop c n (later_stop (length p.calls) (stop_at c n))).stops;
    })

-- a step that a stop ended: the entry says so alone, and the node is down
abbrev pub halted : Event → ℕ → Left → Cluster → Cluster
halted e n l c =
    note_entry e [] [] (Some (record { call = l.call; kept = l.kept }))
    (lose n (record c { disk = l.disk; links = links_after e [] c.links }))

-- a step is made, or a stop ends it
abbrev pub made_or_halted : Event → ℕ → Plan → Option Left → Cluster → Cluster
made_or_halted e n p None c = made e n p c
made_or_halted e n p (Some l) c = halted e n l c

-- what the armed stop leaves of a step, if it comes due
abbrev pub left_of : ℕ → Disk → List DiskCall → Option Stop → Option Left
left_of n d calls None = None
left_of n d calls (Some s) = left_by n d calls s

-- a node's step; a page that was read and differs comes in no run, and would lose the node
abbrev pub after_plan : Event → ℕ → Cluster → Outcome Plan → Cluster
after_plan e n c (Goes p) = made_or_halted e n p (left_of n c.disk p.calls (stop_at c n)) c
after_plan e n c (Differs p expected found) = note_entry e [] [] None (lose n c)

-- a step of a node within the cluster
unfoldable pub node_step : Event → ℕ → NodeState → NodeEvent → Cluster → Cluster
node_step e n s ev c = after_plan e n c (nodestep s ev c.disk)

-- a refused event changes nothing but the trace
abbrev pub refuse : Event → Reason → Cluster → Cluster
refuse e r c = answer e (reply.Refused r) c

-- a delivery to a node in a view, of the head of the link
abbrev pub deliver_head : Event → ℕ → ℕ → NodeState → Option Message → Cluster → Cluster
deliver_head e from to s None c = refuse e reason.EmptyLink c
deliver_head e from to s (Some m) c = node_step e to s (node.Deliver from m) c

-- a delivery to a node, which has to be in a view
abbrev pub deliver_in : Bool → Event → ℕ → ℕ → NodeState → Cluster → Cluster
deliver_in false e from to s c = refuse e reason.NotInView c
deliver_in true e from to s c = deliver_head e from to s (head_at c.links from to) c

-- the view after the node's own
abbrev pub install_next : Event → ℕ → NodeState → Option View → Cluster → Cluster
install_next e n s None c = refuse e reason.NoView c
install_next e n s (Some v) c = node_step e n s (node.Install v) c

-- a stop is armed: the call that it names is counted from 1
abbrev pub arm : Event → ℕ → ℕ → ℕ → Cluster → Cluster
arm e n call kept c = answer e reply.Armed (put_stop c n (Some (record { before = call - 1; kept = kept })))

-- an event of a node that is up
abbrev pub do_event : Event → NodeState → Cluster → Cluster
do_event (event.Begin n) s c = node_step (event.Begin n) n s node.Begin c
do_event (event.Read t p) s c = node_step (event.Read t p) t.node s (node.Read t p) c
do_event (event.Write t p place bytes) s c =
    node_step (event.Write t p place bytes) t.node s (node.Write t p place bytes) c
do_event (event.Commit t) s c = node_step (event.Commit t) t.node s (node.Commit t) c
do_event (event.Abort t) s c = node_step (event.Abort t) t.node s (node.Abort t) c
do_event (event.Deliver from to) s c = deliver_in (is_some s.view) (event.Deliver from to) from to s c
do_event (event.Evict n p) s c = node_step (event.Evict n p) n s (node.Evict p) c
do_event (event.Flush n p) s c = node_step (event.Flush n p) n s (node.Flush p) c
do_event (event.Crash n) s c = answer (event.Crash n) reply.Crashed (lose n c)
do_event (event.View live owners) s c = c
do_event (event.Install n) s c =
    install_next (event.Install n) n s (view_of_epoch c.views (s.epoch + 1)) c
do_event event.Reopen s c = c
do_event (event.Arm n call kept) s c = arm (event.Arm n call kept) n call kept c
do_event (event.Cut n) s c = node_step (event.Cut n) n s node.Cut c

-- the nodes that an event names, the acting one first
abbrev pub named : Event → List ℕ
named (event.Begin n) = n ∷ []
named (event.Read t p) = t.node ∷ []
named (event.Write t p place bytes) = t.node ∷ []
named (event.Commit t) = t.node ∷ []
named (event.Abort t) = t.node ∷ []
named (event.Deliver from to) = to ∷ from ∷ []
named (event.Evict n p) = n ∷ []
named (event.Flush n p) = n ∷ []
named (event.Crash n) = n ∷ []
named (event.View live owners) = []
named (event.Install n) = n ∷ []
named event.Reopen = []
named (event.Arm n call kept) = n ∷ []
named (event.Cut n) = n ∷ []

-- an event of a node, which has to be up
abbrev pub if_up : Event → Option NodeState → Cluster → Cluster
if_up e None c = refuse e reason.Down c
if_up e (Some s) c = do_event e s c

-- an event of nodes, which have to be there
abbrev pub if_known : Bool → Event → ℕ → Cluster → Cluster
if_known false e n c = refuse e reason.NoNode c
if_known true e n c = if_up e (node_at c n) c

-- new views start nodes at the epoch before
abbrev pub start_one : ℕ → Cluster → ℕ → Cluster
start_one epoch c n = put_node c n (Some (start_node c.config n epoch))

-- some nodes start at an epoch
abbrev pub start_all : ℕ → List ℕ → Cluster → Cluster
start_all epoch ns c = fold (start_one epoch) c ns

-- the nodes of the cluster
abbrev pub all_nodes : Cluster → List ℕ
all_nodes c = count_from 0 c.config.nodes

-- the returning nodes of a view
abbrev pub returning : View → View → List ℕ → List ℕ
returning before v ns = filter (λ n. is_live v.live n && not (is_live before.live n)) ns

-- whether a node that a view doesn't keep is up
abbrev pub drops_up : Cluster → View → Bool
drops_up c v = list_any (λ n. is_up c n && not (is_live v.live n)) (all_nodes c)

-- a further view
abbrev pub add_view : View → Cluster → Cluster
add_view v c = record c { views = c.views ++ v ∷ [] }

-- a view is made where it drops no node that is up
abbrev pub make_view : Bool → Event → View → Cluster → Cluster
make_view true e v c = refuse e reason.StillUp c
make_view false e v c =
    answer e (reply.Viewed v.epoch)
    (add_view v (start_all (last_view c).epoch (returning (last_view c) v (all_nodes c)) c))

-- a view is made where it keeps the rules
abbrev pub view_or_refuse : Event → Result View ℕ → Cluster → Cluster
view_or_refuse e (Err rule) c = refuse e (reason.BadView rule) c
view_or_refuse e (Ok v) c = make_view (drops_up c v) e v c

-- all nodes start again where none is up
abbrev pub make_reopened : Bool → Event → View → Cluster → Cluster
make_reopened true e v c = refuse e reason.StillUp c
make_reopened false e v c =
    answer e (reply.Reopened v.epoch) (add_view v (start_all (last_view c).epoch (all_nodes c) c))

-- the reopening where the rules are kept
abbrev pub reopen_or_refuse : Event → Result View ℕ → Cluster → Cluster
reopen_or_refuse e (Err rule) c = refuse e (reason.BadView rule) c
reopen_or_refuse e (Ok v) c = make_reopened (list_any (is_up c) (all_nodes c)) e v c

-- an event of the environment, and one of a node
abbrev pub step_of : Event → List ℕ → Cluster → Cluster
step_of (event.View live owners) ns c =
    view_or_refuse (event.View live owners) (next c.config (last_view c) live owners) c
step_of event.Reopen ns c = reopen_or_refuse event.Reopen (reopen c.config (last_view c)) c
step_of e [] c = c
step_of e (n ∷ ns) c = if_known (not (list_any (nat_le c.config.nodes) (n ∷ ns))) e n c

-- the step of a cluster on an event
unfoldable pub step : Cluster → Event → Cluster
step c e = step_of e (named e) c
