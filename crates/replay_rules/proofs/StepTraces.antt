-- A step adds one entry to the trace.
use Rattle.std.proofs.Common.{◌≡◌, ℕ, ◌+◌, Bool, true, false, not, nat_le, List, [], ◌∷◌, ◌++◌, Option, Some, None, is_some, Result, Ok, Err, refl, ap}
use Rattle.std.specs.List.{list_any}
use Rattle.pcl_base.specs.declared.event.Event.{Event}
use Rattle.pcl_base.specs.declared.event.Event.TheVariants as event
use Rattle.pcl_base.specs.declared.message.Message.{Message}
use Rattle.pcl_base.specs.declared.reply.Reply.{Reply}
use Rattle.pcl_base.specs.declared.reply.Reply.TheVariants as reply
use Rattle.pcl_base.specs.declared.reply.Reason.{Reason}
use Rattle.pcl_base.specs.declared.trace.Entry.{Entry}
use Rattle.pcl_base.specs.declared.trace.Halt.{Halt}
use Rattle.pcl_base.specs.declared.trace.Sent.{Sent}
use Rattle.run_rules.specs.Views.{View, next, reopen}
use Rattle.node_rules.specs.NodeState.{NodeState, NodeEvent}
use Rattle.node_rules.specs.NodeState as node
use Rattle.node_rules.specs.DiskCalls.{Left}
use Rattle.node_rules.specs.Work.{Outcome, Goes, Differs}
use Rattle.node_rules.specs.NodeStep.{Plan, nodestep}
use Rattle.cluster_rules.specs.Links.{head_at}
use Rattle.cluster_rules.specs.Clusters.{Cluster, lose, view_of_epoch, last_view, note_entry, node_at, stop_at}
use Rattle.cluster_rules.specs.ClusterStep.{made_or_halted, left_of, after_plan, node_step, deliver_head, deliver_in, install_next, do_event, named, if_up, if_known, start_one, start_all, all_nodes, returning, drops_up, add_view, make_view, view_or_refuse, make_reopened, reopen_or_refuse, step}
use Rattle.replay_rules.specs.StepTrace.{AddsOne}

-- an entry that is noted behind changes that leave the trace
noted : (c d : Cluster) (e : Event) (replies : List Reply) (sent : List Sent) (halted : Option Halt) → d.trace ≡ c.trace
    → AddsOne c e (note_entry e replies sent halted d)
noted c d e replies sent halted same =
    let x : Entry = record { event = e; replies = replies; sent = sent; halted = halted } in
    record { entry = x; event = refl; trace = ap (λ (t : List Entry). t ++ x ∷ []) same }

refused : (c : Cluster) (e : Event) (r : Reason) → AddsOne c e (note_entry e (reply.Refused r ∷ []) [] None c)
refused c e r = noted c c e (reply.Refused r ∷ []) [] None refl

-- a step of a node
ended : (e : Event) (n : ℕ) (p : Plan) (l : Option Left) (c : Cluster) → AddsOne c e (made_or_halted e n p l c)
unfolding lose
ended e n p None c = record { entry = _; event = refl; trace = refl }
ended e n p (Some l) c = record { entry = _; event = refl; trace = refl }

planned : (e : Event) (n : ℕ) (c : Cluster) (o : Outcome Plan) → AddsOne c e (after_plan e n c o)
unfolding lose
planned e n c (Goes p) = ended e n p (left_of n c.disk p.calls (stop_at c n)) c
planned e n c (Differs p expected found) = record { entry = _; event = refl; trace = refl }

stepped : (e : Event) (n : ℕ) (s : NodeState) (ev : NodeEvent) (c : Cluster) → AddsOne c e (node_step e n s ev c)
unfolding node_step
stepped e n s ev c = planned e n c (nodestep s ev c.disk)

headed : (e : Event) (from to : ℕ) (s : NodeState) (m : Option Message) (c : Cluster) → AddsOne c e (deliver_head e from to s m c)
headed e from to s None c = refused c e _
headed e from to s (Some m) c = stepped e to s (node.Deliver from m) c

delivered : (t : Bool) (e : Event) (from to : ℕ) (s : NodeState) (c : Cluster) → AddsOne c e (deliver_in t e from to s c)
delivered false e from to s c = refused c e _
delivered true e from to s c = headed e from to s (head_at c.links from to) c

installed : (e : Event) (n : ℕ) (s : NodeState) (v : Option View) (c : Cluster) → AddsOne c e (install_next e n s v c)
installed e n s None c = refused c e _
installed e n s (Some v) c = stepped e n s (node.Install v) c

-- an event of a node
abbrev IsOfNode : Event → Type 0
IsOfNode (event.View live owners) = ⊥
IsOfNode event.Reopen = ⊥
IsOfNode _ = Unit {0}

done : (e : Event) (s : NodeState) (c : Cluster) → IsOfNode e → AddsOne c e (do_event e s c)
unfolding lose
done (event.Begin n) s c h = stepped (event.Begin n) n s node.Begin c
done (event.Read t p) s c h = stepped (event.Read t p) t.node s (node.Read t p) c
done (event.Write t p place bytes) s c h = stepped (event.Write t p place bytes) t.node s (node.Write t p place bytes) c
done (event.Commit t) s c h = stepped (event.Commit t) t.node s (node.Commit t) c
done (event.Abort t) s c h = stepped (event.Abort t) t.node s (node.Abort t) c
done (event.Deliver from to) s c h = delivered (is_some s.view) (event.Deliver from to) from to s c
done (event.Evict n p) s c h = stepped (event.Evict n p) n s (node.Evict p) c
done (event.Flush n p) s c h = stepped (event.Flush n p) n s (node.Flush p) c
done (event.Crash n) s c h = record { entry = _; event = refl; trace = refl }
done (event.View live owners) s c h = absurd h
done (event.Install n) s c h = installed (event.Install n) n s (view_of_epoch c.views (s.epoch + 1)) c
done event.Reopen s c h = absurd h
done (event.Arm n call kept) s c h = record { entry = _; event = refl; trace = refl }
done (event.Cut n) s c h = stepped (event.Cut n) n s node.Cut c

up : (e : Event) (s : Option NodeState) (c : Cluster) → IsOfNode e → AddsOne c e (if_up e s c)
up e None c h = refused c e _
up e (Some s) c h = done e s c h

known : (t : Bool) (e : Event) (n : ℕ) (c : Cluster) → IsOfNode e → AddsOne c e (if_known t e n c)
known false e n c h = refused c e _
known true e n c h = up e (node_at c n) c h

-- nodes that start leave the trace
started : (epoch : ℕ) (ns : List ℕ) (c : Cluster) → (start_all epoch ns c).trace ≡ c.trace
started epoch [] c = refl
started epoch (n ∷ ns) c = started epoch ns (start_one epoch c n)

viewed : (t : Bool) (e : Event) (v : View) (c : Cluster) → AddsOne c e (make_view t e v c)
viewed true e v c = refused c e _
viewed false e v c =
    let ns : List ℕ = returning (last_view c) v (all_nodes c) in
    noted c (add_view v (start_all (last_view c).epoch ns c)) e (reply.Viewed v.epoch ∷ []) [] None (started (last_view c).epoch ns c)

view_made : (e : Event) (r : Result View ℕ) (c : Cluster) → AddsOne c e (view_or_refuse e r c)
view_made e (Err rule) c = refused c e _
view_made e (Ok v) c = viewed (drops_up c v) e v c

reopened : (t : Bool) (e : Event) (v : View) (c : Cluster) → AddsOne c e (make_reopened t e v c)
reopened true e v c = refused c e _
reopened false e v c =
    noted c (add_view v (start_all (last_view c).epoch (all_nodes c) c)) e (reply.Reopened v.epoch ∷ []) [] None
    (started (last_view c).epoch (all_nodes c) c)

reopen_made : (e : Event) (r : Result View ℕ) (c : Cluster) → AddsOne c e (reopen_or_refuse e r c)
reopen_made e (Err rule) c = refused c e _
reopen_made e (Ok v) c = reopened (list_any (λ n. is_some (node_at c n)) (all_nodes c)) e v c

-- a step
pub step_adds : (c : Cluster) (e : Event) → AddsOne c e (step c e)
unfolding step
step_adds c (event.View live owners) = view_made (event.View live owners) (next c.config (last_view c) live owners) c
step_adds c event.Reopen = reopen_made event.Reopen (reopen c.config (last_view c)) c
step_adds c (event.Begin n) = known (not (list_any (nat_le c.config.nodes) (named (event.Begin n)))) (event.Begin n) n c tt
step_adds c (event.Read t p) = known (not (list_any (nat_le c.config.nodes) (named (event.Read t p)))) (event.Read t p) t.node c tt
step_adds c (event.Write t p place bytes) =
    known (not (list_any (nat_le c.config.nodes) (named (event.Write t p place bytes)))) (event.Write t p place bytes) t.node c tt
step_adds c (event.Commit t) = known (not (list_any (nat_le c.config.nodes) (named (event.Commit t)))) (event.Commit t) t.node c tt
step_adds c (event.Abort t) = known (not (list_any (nat_le c.config.nodes) (named (event.Abort t)))) (event.Abort t) t.node c tt
step_adds c (event.Deliver from to) =
    known (not (list_any (nat_le c.config.nodes) (named (event.Deliver from to)))) (event.Deliver from to) to c tt
step_adds c (event.Evict n p) = known (not (list_any (nat_le c.config.nodes) (named (event.Evict n p)))) (event.Evict n p) n c tt
step_adds c (event.Flush n p) = known (not (list_any (nat_le c.config.nodes) (named (event.Flush n p)))) (event.Flush n p) n c tt
step_adds c (event.Crash n) = known (not (list_any (nat_le c.config.nodes) (named (event.Crash n)))) (event.Crash n) n c tt
step_adds c (event.Install n) = known (not (list_any (nat_le c.config.nodes) (named (event.Install n)))) (event.Install n) n c tt
step_adds c (event.Arm n call kept) =
    known (not (list_any (nat_le c.config.nodes) (named (event.Arm n call kept)))) (event.Arm n call kept) n c tt
step_adds c (event.Cut n) = known (not (list_any (nat_le c.config.nodes) (named (event.Cut n)))) (event.Cut n) n c tt
