-- A node's step that was carried out, or stopped, is that of the cluster once it is noted.
use Rattle.std.proofs.Common.{◌≡◌, refl, ap, sym, subst, ◌∙◌, ℕ, ◌<◌, Bool, true, false, List, [], length, map, Option, Some, None, is_some, option_map}
use Rattle.pcl_base.specs.declared.event.Event.{Event}
use Rattle.pcl_base.specs.declared.event.Event.TheVariants as event
use Rattle.pcl_base.specs.declared.message.Message.{Message}
use Rattle.pcl_base.specs.declared.reply.Reply.{Reply}
use Rattle.pcl_base.specs.declared.trace.Call.{Call}
use Rattle.pcl_base.specs.declared.tx.TxId.{TxId}
use Rattle.run_rules.specs.Views.{View}
use Rattle.node_rules.specs.Words.{pick, head_of}
use Rattle.node_rules.specs.DiskCalls.{Left}
use Rattle.node_rules.specs.NodeState.{NodeState, NodeEvent, Outgoing}
use Rattle.node_rules.specs.NodeState as node
use Rattle.node_rules.specs.NodeStep.{Plan, nodestep}
use Rattle.node_rules.specs.Work.{Goes, Differs}
use Rattle.cluster_rules.specs.Links.{Links, row_at, head_at, take_head, send_all}
use Rattle.cluster_rules.specs.Clusters.{Cluster, is_up, lose, node_at, note_entry, sent_by, stop_at}
use Rattle.cluster_rules.specs.ClusterStep.{after_plan, halted, is_taken, left_of, links_after, made, made_or_halted, named, node_step, step}
use Rattle.cluster_laws.specs.Handed.{handed_to, IsHanded}
use Rattle.node_laws.proofs.Lists.{set_look}
use Rattle.link_model.specs.Spares.{LinksView}
use Rattle.cluster_laws.proofs.Cases.{handed_is_stepped_law}
use Rattle.cluster_parts.specs.State.{ClusterView, cluster_of, disk_of}
use Rattle.cluster_parts.specs.Ends.{StepDiffers}
use Rattle.cluster_parts.specs.Laws.{MadeStepsAreSteps, StoppedStepsAreSteps}
use Rattle.cluster_parts.specs.Steps.{IsReady, MayGoBack, before_taking, carried, noted, stopped, with_head}
use Rattle.cluster_parts.proofs.Heads.{taken_back}
use Rattle.cluster_parts.proofs.Sending.{same_sends}

-- the message of an event goes back on a link that is there
abbrev pub HasLink : ℕ → NodeEvent → Links → Type 0
HasLink n (node.Deliver from m) ls = (from < length ls) × (n < length (row_at ls from))
HasLink n _ ls = Unit {0}

pub link_of : (n : ℕ) (ev : NodeEvent) (v : LinksView) → MayGoBack n ev v → HasLink n ev v.links
link_of n node.Begin v may = tt
link_of n (node.Read t p) v may = tt
link_of n (node.Write t p place bytes) v may = tt
link_of n (node.Commit t) v may = tt
link_of n (node.Abort t) v may = tt
link_of n (node.Deliver from m) v may = (may.1, may.2)
link_of n (node.Evict p) v may = tt
link_of n (node.Flush p) v may = tt
link_of n (node.Install w) v may = tt
link_of n node.Cut v may = tt

same_pick : (b : Bool) (ls : Links) → ls ≡ pick b ls ls
same_pick true ls = refl
same_pick false ls = refl

-- the links once a node's event has taken its message, or left it
plain : (n : ℕ) (ev x : NodeEvent) (ls : Links) (b : Bool) → Some x ≡ Some ev → with_head n x ls ≡ ls → with_head n ev ls ≡ pick b ls (with_head n ev ls)
plain n ev x ls b e same =
    let is : x ≡ ev = cc in
    let here : with_head n ev ls ≡ ls = ap (λ (y : NodeEvent). with_head n y ls) (sym is) ∙ same in
    subst (λ (l : Links). l ≡ pick b ls l) (sym here) (same_pick b ls)

delivered : (n from : ℕ) (m : Message) (ls : Links) (b : Bool) → HasLink n (node.Deliver from m) ls
    → pick b (take_head (with_head n (node.Deliver from m) ls) from n) (with_head n (node.Deliver from m) ls) ≡ pick b ls (with_head n (node.Deliver from m) ls)
delivered n from m ls true has = taken_back ls from n m has.0 has.1
delivered n from m ls false has = refl

installed : (n : ℕ) (ev : NodeEvent) (o : Option View) (ls : Links) (b : Bool) → option_map node.Install o ≡ Some ev → with_head n ev ls ≡ pick b ls (with_head n ev ls)
installed n ev None ls b e = absurd (cc)
installed n ev (Some v) ls b e = plain n ev (node.Install v) ls b e refl

pub links_are : (c : Cluster) (e : Event) (n : ℕ) (s : NodeState) (ev : NodeEvent) (rs : List Reply) → HasLink n ev c.links → head_of (named e) ≡ Some n → handed_to (before_taking n ev c) s e ≡ Some ev
    → links_after e rs (with_head n ev c.links) ≡ pick (is_taken rs) c.links (with_head n ev c.links)
links_are c (event.Begin m) n s ev rs has acts h = plain n ev node.Begin c.links (is_taken rs) h refl
links_are c (event.Read t p) n s ev rs has acts h = plain n ev (node.Read t p) c.links (is_taken rs) h refl
links_are c (event.Write t p place bytes) n s ev rs has acts h = plain n ev (node.Write t p place bytes) c.links (is_taken rs) h refl
links_are c (event.Commit t) n s ev rs has acts h = plain n ev (node.Commit t) c.links (is_taken rs) h refl
links_are c (event.Abort t) n s ev rs has acts h = plain n ev (node.Abort t) c.links (is_taken rs) h refl
links_are c (event.Deliver from to) n s ev rs has acts h = by (is_some s.view) (head_at (with_head n ev c.links) from to) h
  where
    at : to ≡ n
    at = cc

    same : (m : Message) → node.Deliver from m ≡ ev → pick (is_taken rs) (take_head (with_head n ev c.links) from n) (with_head n ev c.links) ≡ pick (is_taken rs) c.links (with_head n ev c.links)
    same m is =
        subst (λ (x : NodeEvent). HasLink n x c.links → pick (is_taken rs) (take_head (with_head n x c.links) from n) (with_head n x c.links) ≡ pick (is_taken rs) c.links (with_head n x c.links)) is
        (delivered n from m c.links (is_taken rs)) has

    by : (b : Bool) (o : Option Message) → pick b (option_map (node.Deliver from) o) None ≡ Some ev → links_after (event.Deliver from to) rs (with_head n ev c.links) ≡ pick (is_taken rs) c.links (with_head n ev c.links)
    by false o g = absurd (cc)
    by true None g = absurd (cc)
    by true (Some m) g =
        let is : node.Deliver from m ≡ ev = cc in
        ap (λ (k : ℕ). pick (is_taken rs) (take_head (with_head n ev c.links) from k) (with_head n ev c.links)) at ∙ same m is
links_are c (event.Evict m p) n s ev rs has acts h = plain n ev (node.Evict p) c.links (is_taken rs) h refl
links_are c (event.Flush m p) n s ev rs has acts h = plain n ev (node.Flush p) c.links (is_taken rs) h refl
links_are c (event.Crash m) n s ev rs has acts h = absurd (cc)
links_are c (event.View live owners) n s ev rs has acts h = absurd (cc)
links_are c (event.Install m) n s ev rs has acts h = installed n ev _ c.links (is_taken rs) h
links_are c event.Reopen n s ev rs has acts h = absurd (cc)
links_are c (event.Arm m call kept) n s ev rs has acts h = absurd (cc)
links_are c (event.Cut m) n s ev rs has acts h = plain n ev node.Cut c.links (is_taken rs) h refl

-- the same nodes are up
still_up : (c : Cluster) (n : ℕ) (s : NodeState) (p : Plan) → node_at c n ≡ Some s → (b : ℕ) → is_up (carried n p c) b ≡ is_up c b
still_up c n s p up b =
    set_look (λ (o : Option NodeState). is_some o ≡ is_some (node_at c b)) None c.nodes n b (Some p.node)
    (λ e. sym (ap (λ (k : ℕ). is_some (node_at c k)) e ∙ ap (λ (o : Option NodeState). is_some o) up)) refl

-- a step that was carried out
pub made_noted : (c : Cluster) (e : Event) (n : ℕ) (s : NodeState) (ev : NodeEvent) (p : Plan) → HasLink n ev c.links → IsHanded (before_taking n ev c) e n s ev → nodestep s ev c.disk ≡ Goes p → left_of n c.disk p.calls (stop_at c n) ≡ None
    → noted e n ev p.replies p.sends (carried n p c) ≡ node_step e n s ev (before_taking n ev c)
unfolding node_step
made_noted c e n s ev p has h goes left =
    let base : Cluster = before_taking n ev c in
    let links : send_all (is_up (carried n p c)) n (pick (is_taken p.replies) c.links (with_head n ev c.links)) p.sends ≡ send_all (is_up base) n (links_after e p.replies (with_head n ev c.links)) p.sends =
    same_sends (is_up (carried n p c)) (is_up base) n p.sends (pick (is_taken p.replies) c.links (with_head n ev c.links)) (still_up c n s p h.up)
    ∙ ap (λ (ls : Links). send_all (is_up base) n ls p.sends) (sym (links_are c e n s ev p.replies has h.acts h.event)) in
    ap (λ (ls : Links). note_entry e p.replies (map (sent_by n) p.sends) None (record (carried n p c) { links = ls })) links
    ∙ sym (ap (after_plan e n base) goes ∙ ap (λ (o : Option Left). made_or_halted e n p o base) left)

-- a step that a stop has ended
pub stopped_noted : (c d : Cluster) (e : Event) (n : ℕ) (s : NodeState) (ev : NodeEvent) (p : Plan) (l : Left) (call : Call) (kept : Option TxId) → HasLink n ev c.links → IsHanded (before_taking n ev c) e n s ev → nodestep s ev c.disk ≡ Goes p
    → left_of n c.disk p.calls (stop_at c n) ≡ Some l → call ≡ l.call → kept ≡ l.kept → lose n d ≡ lose n (record c { disk = l.disk })
    → stopped e n call kept d ≡ node_step e n s ev (before_taking n ev c)
unfolding node_step
stopped_noted c d e n s ev p l call kept has h goes left same_call same_kept lost =
    let base : Cluster = before_taking n ev c in
    ap (λ (x : Cluster). note_entry e [] [] (Some (record { call = call; kept = kept })) x) lost
    ∙ ap (λ (k : Call). note_entry e [] [] (Some (record { call = k; kept = kept })) (lose n (record c { disk = l.disk }))) same_call
    ∙ ap (λ (k : Option TxId). note_entry e [] [] (Some (record { call = l.call; kept = k })) (lose n (record c { disk = l.disk }))) same_kept
    ∙ ap (λ (ls : Links). note_entry e [] [] (Some (record { call = l.call; kept = l.kept })) (lose n (record c { disk = l.disk; links = ls }))) (sym (links_are c e n s ev [] has h.acts h.event))
    ∙ sym (ap (after_plan e n base) goes ∙ ap (λ (o : Option Left). made_or_halted e n p o base) left)

-- the cluster's step on an event that a node gets
is_step : (v : ClusterView) (e : Event) (n : ℕ) (ev : NodeEvent) (r : IsReady v e n ev) → step (before_taking n ev (cluster_of v)) e ≡ node_step e n r.state ev (before_taking n ev (cluster_of v))
is_step v e n ev r = handed_is_stepped_law (before_taking n ev (cluster_of v)) e n r.state ev r.handed

-- is that of the node, once its messages are sent and it is noted
pub made_steps_are_steps_law : MadeStepsAreSteps
made_steps_are_steps_law v w x e n ev p r out goes made is =
    is
    ∙ ap (λ (c : Cluster). noted e n ev out.replies out.sends c) made.cluster
    ∙ ap (λ (rs : List Reply). noted e n ev rs out.sends (carried n p (cluster_of v))) made.replies
    ∙ ap (λ (os : List Outgoing). noted e n ev p.replies os (carried n p (cluster_of v))) made.sends
    ∙ made_noted (cluster_of v) e n r.state ev p (link_of n ev v.links r.back) r.handed goes made.unstopped
    ∙ sym (is_step v e n ev r)

-- and one that a stop has ended
pub stopped_steps_are_steps_law : StoppedStepsAreSteps
stopped_steps_are_steps_law v w x e n ev p r call kept goes halted is =
    is
    ∙ stopped_noted (cluster_of v) (cluster_of w) e n r.state ev p halted.left call kept (link_of n ev v.links r.back) r.handed goes halted.stopped halted.same_call halted.same_kept halted.cluster
    ∙ sym (is_step v e n ev r)

-- where a page differs, the cluster's step reads it
pub differs_step : (v : ClusterView) (e : Event) (n : ℕ) (ev : NodeEvent) (p expected found : ℕ) → (r : IsReady v e n ev) → nodestep r.state ev (disk_of v.storage) ≡ Differs p expected found
    → StepDiffers (before_taking n ev (cluster_of v)) e p expected found
differs_step v e n ev p expected found r reads = record { node = n; state = r.state; event = ev; handed = r.handed; reads = reads }
