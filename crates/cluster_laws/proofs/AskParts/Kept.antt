-- Through a step of the cluster each transaction waits for what it asked for last.
use Rattle.std.proofs.Common.{◌≡◌, refl, ap, sym, subst, ◌∙◌, ℕ, ◌+◌, ◌<◌, ◌==◌, not, nat_le, Bool, true, false, List, [], ◌∷◌, ◌++◌, length, map, slice_index_or, slice_set, Option, Some, None}
use Rattle.std.specs.Prelude.{IfSome}
use Rattle.std.specs.List.{list_any}
use Rattle.pcl_base.specs.declared.event.Event.{Event}
use Rattle.pcl_base.specs.declared.event.Event.TheVariants as event
use Rattle.pcl_base.specs.declared.lock.Pending.{Pending}
use Rattle.pcl_base.specs.declared.reply.Reason.{Reason}
use Rattle.pcl_base.specs.declared.reply.Reason.TheVariants as reason
use Rattle.pcl_base.specs.declared.reply.Reply.{Reply}
use Rattle.pcl_base.specs.declared.reply.Reply.TheVariants as reply
use Rattle.pcl_base.specs.declared.trace.Entry.{Entry}
use Rattle.pcl_base.specs.declared.tx.TxId.{TxId}
use Rattle.run_rules.specs.Script.{is_refused, asked, moments}
use Rattle.node_rules.specs.Words.{pick, head_of}
use Rattle.node_rules.specs.NodeState.{NodeState, NodeEvent, start_node, first_node}
use Rattle.node_rules.specs.NodeState as node
use Rattle.node_rules.specs.DiskCalls.{Left}
use Rattle.node_rules.specs.Work.{Outcome, Goes, Differs}
use Rattle.node_rules.specs.NodeStep.{Plan, nodestep}
use Rattle.node_rules.specs.OpenTxs.{is_own, with_serial, waiting_of_open, pending_of}
use Rattle.node_laws.proofs.Lists.{set_look, set_at}
use Rattle.cluster_rules.specs.Clusters.{Cluster, opening, node_at, stop_at, lose, answer, last_view, sent_by}
use Rattle.cluster_rules.specs.ClusterStep.{refuse, arm, do_event, named, if_up, if_known, made, made_or_halted, left_of, after_plan, node_step, start_one, start_all, all_nodes, returning, make_view, make_reopened, step}
use Rattle.cluster_laws.specs.Handed.{handed_to, IsHanded}
use Rattle.cluster_laws.specs.Sound.{IsCluster}
use Rattle.cluster_laws.proofs.Cases.{by_step}
use Rattle.cluster_laws.proofs.Lists.{look_counted}
use Rattle.cluster_laws.proofs.Steps.{up_is_member_law}
use Rattle.cluster_laws.specs.Ask.Asked.{asked_last, WaitsAsAsked, AllWaitAsAsked}
use Rattle.cluster_laws.specs.Ask.AskLaws.{OpeningWaitsAsAsked, StepsWaitAsAsked}
use Rattle.cluster_laws.proofs.AskParts.Acting.{asks, others_ask, acted}
use Rattle.cluster_laws.proofs.AskParts.Lists.{named_waits}
use Rattle.cluster_laws.proofs.AskParts.Traces.{asks_of, trace_more, asks_nothing, asks_refused}

-- a further entry by which a transaction asks for nothing
kept : (c d : Cluster) (t : TxId) (x : Entry) (o : Option NodeState) → d.trace ≡ c.trace ++ x ∷ [] → asks_of t (asks c t) x ≡ asks c t → WaitsAsAsked c t o → WaitsAsAsked d t o
kept c d t x None more none w = tt
kept c d t x (Some s) more none w = of (pending_of s.home.txs t) w
  where
    same : asks c t ≡ asks d t
    same = sym none ∙ sym (trace_more t c.trace x) ∙ ap (λ (es : List Entry). asked_last t None (moments es)) (sym more)

    of : (p : Option Pending) → IfSome p (λ (w : Pending). w.write ≡ asks c t) → IfSome p (λ (w : Pending). w.write ≡ asks d t)
    of None w = tt
    of (Some p) w = w ∙ same

-- an event that asks for nothing
quiet : (c d : Cluster) (t : TxId) (e : Event) (x : Entry) (o : Option NodeState) → d.trace ≡ c.trace ++ x ∷ [] → x.event ≡ e → asked e ≡ [] → WaitsAsAsked c t o → WaitsAsAsked d t o
quiet c d t e x o more is none w = kept c d t x o more (asks_nothing t (asks c t) x (ap asked is ∙ none)) w

refused_kept : (c : Cluster) (t : TxId) (e : Event) (r : Reason) → AllWaitAsAsked c → WaitsAsAsked (refuse e r c) t (node_at (refuse e r c) t.node)
refused_kept c t e r h =
    kept c (refuse e r c) t (record { event = e; replies = reply.Refused r ∷ []; sent = []; halted = None }) (node_at c t.node) refl
    (asks_refused t (asks c t) (record { event = e; replies = reply.Refused r ∷ []; sent = []; halted = None }) refl) (h t)

-- no moment changes nothing
nothing : (t : TxId) (w : Option (ℕ × List ℕ)) → asked_last t w [] ≡ w
unfolding asked_last
nothing t w = refl

-- nothing waits where nothing was begun
none_waits : (node born last : ℕ) (t : TxId) → pending_of (record { node = node; born = born; last = last; txs = [] }) t ≡ None
unfolding with_serial
none_waits node born last t = by (is_own (record { node = node; born = born; last = last; txs = [] }) t)
  where
    by : (b : Bool) → waiting_of_open (pick b (with_serial [] t.serial) None) ≡ None
    by true = refl
    by false = refl

waits_none : (c : Cluster) (n k : ℕ) (t : TxId) → WaitsAsAsked (start_one k c n) t (Some (start_node c.config n k))
unfolding start_node
waits_none c n k t =
    subst (λ (o : Option Pending). IfSome o (λ (w : Pending). w.write ≡ asks (start_one k c n) t)) (sym (none_waits n k 0 t)) tt

-- a transaction of another node than the acting one
other_asks : (c : Cluster) (e : Event) (n : ℕ) (t : TxId) (x : Entry) → head_of (named e) ≡ Some n → x.event ≡ e → (t.node == n) ≡ false → asks_of t (asks c t) x ≡ asks c t
other_asks c e n t x acts is other = by (is_refused x)
  where
    by : (b : Bool) → asked_last t (asks c t) (pick b [] (asked x.event)) ≡ asks c t
    by true = nothing t (asks c t)
    by false = ap (λ (y : Event). asked_last t (asks c t) (asked y)) is ∙ others_ask e n t (asks c t) acts other

-- a step of a node
stepped : (c : Cluster) (e : Event) (n : ℕ) (s : NodeState) (ev : NodeEvent) (t : TxId) → IsCluster c → AllWaitAsAsked c → IsHanded c e n s ev
    → WaitsAsAsked (node_step e n s ev c) t (node_at (node_step e n s ev c) t.node)
unfolding node_step lose
stepped c e n s ev t i h handed = by (nodestep s ev c.disk) refl
  where
    low : n < length c.nodes
    low = subst (λ (k : ℕ). n < k) (sym i.nodes) (up_is_member_law c n s i handed.up).0

    -- the node is lost
    gone : (d : Cluster) (x : Entry) → d.trace ≡ c.trace ++ x ∷ [] → x.event ≡ e → WaitsAsAsked d t (slice_index_or (slice_set c.nodes n None) t.node None)
    gone d x more is =
        set_at (WaitsAsAsked d t) None c.nodes n t.node None low (λ at. tt)
        (λ other. kept c d t x (node_at c t.node) more (other_asks c e n t x handed.acts is other) (h t))

    whole : (p : Plan) → nodestep s ev c.disk ≡ Goes p → WaitsAsAsked (made e n p c) t (node_at (made e n p c) t.node)
    whole p goes =
        set_at (WaitsAsAsked (made e n p c) t) None c.nodes n t.node (Some p.node) low
        (λ at.
        subst (λ (w : Option (ℕ × List ℕ)). IfSome (pending_of p.node.home.txs t) (λ (x : Pending). x.write ≡ w)) (sym (trace_more t c.trace entry))
        (named_waits (λ u. asks_of u (asks c u) entry) p.node.home.txs t (acted c e n s ev p i h handed goes entry refl refl)))
        (λ other. kept c (made e n p c) t entry (node_at c t.node) refl (other_asks c e n t entry handed.acts refl other) (h t))
      where
        entry : Entry
        entry = record { event = e; replies = p.replies; sent = map (sent_by n) p.sends; halted = None }

    ended : (p : Plan) → nodestep s ev c.disk ≡ Goes p → (o : Option Left) → WaitsAsAsked (made_or_halted e n p o c) t (node_at (made_or_halted e n p o c) t.node)
    ended p goes None = whole p goes
    ended p goes (Some l) =
        gone (made_or_halted e n p (Some l) c) (record { event = e; replies = []; sent = []; halted = Some (record { call = l.call; kept = l.kept }) }) refl refl

    by : (o : Outcome Plan) → nodestep s ev c.disk ≡ o → WaitsAsAsked (after_plan e n c o) t (node_at (after_plan e n c o) t.node)
    by (Goes p) goes = ended p goes (left_of n c.disk p.calls (stop_at c n))
    by (Differs p expected found) goes = gone (after_plan e n c (Differs p expected found)) (record { event = e; replies = []; sent = []; halted = None }) refl refl

-- a node that crashes
crashed : (c : Cluster) (e : Event) (n : ℕ) (t : TxId) → asked e ≡ [] → AllWaitAsAsked c → WaitsAsAsked (answer e reply.Crashed (lose n c)) t (node_at (answer e reply.Crashed (lose n c)) t.node)
unfolding lose
crashed c e n t none h =
    set_look (WaitsAsAsked (answer e reply.Crashed (lose n c)) t) None c.nodes n t.node None (λ at. tt)
    (quiet c (answer e reply.Crashed (lose n c)) t e (record { event = e; replies = reply.Crashed ∷ []; sent = []; halted = None }) (node_at c t.node) refl refl none (h t))

-- nodes that start
started : (c : Cluster) (k : ℕ) (ns : List ℕ) (t : TxId) → WaitsAsAsked c t (node_at c t.node) → WaitsAsAsked (start_all k ns c) t (node_at (start_all k ns c) t.node)
started c k [] t w = w
started c k (n ∷ ns) t w = started (start_one k c n) k ns t (set_look (WaitsAsAsked (start_one k c n) t) None c.nodes n t.node (Some (start_node c.config n k)) (λ at. waits_none c n k t) w)

-- an event that asks for nothing
quiet_step : (c : Cluster) (e : Event) (t : TxId) → IsCluster c → AllWaitAsAsked c → asked e ≡ [] → WaitsAsAsked (step c e) t (node_at (step c e) t.node)
quiet_step c e t i h none =
    by_step (λ d. WaitsAsAsked d t (node_at d t.node)) c e
    (record {
      refused = λ r. refused_kept c t e r h;
      crashed = λ n is. crashed c e n t none h;
      armed = λ n call stops is.
          quiet c (arm e n call stops c) t e (record { event = e; replies = reply.Armed ∷ []; sent = []; halted = None }) (node_at c t.node) refl refl none (h t);
      handed = λ n s ev handed. stepped c e n s ev t i h handed;
      viewed = λ live owners v made drops. later (returning (last_view c) v (all_nodes c)) (reply.Viewed v.epoch) (make_view false e v c) refl refl;
      reopened = λ v made down. later (all_nodes c) (reply.Reopened v.epoch) (make_reopened false e v c) refl refl;
    })
  where
    later : (ns : List ℕ) (r : Reply) (d : Cluster) → d.nodes ≡ (start_all (last_view c).epoch ns c).nodes → d.trace ≡ (start_all (last_view c).epoch ns c).trace ++ record { event = e; replies = r ∷ []; sent = []; halted = None } ∷ []
        → WaitsAsAsked d t (node_at d t.node)
    later ns r d nodes more =
        subst (λ (xs : List (Option NodeState)). WaitsAsAsked d t (slice_index_or xs t.node None)) (sym nodes)
        (quiet (start_all (last_view c).epoch ns c) d t e (record { event = e; replies = r ∷ []; sent = []; halted = None }) (node_at (start_all (last_view c).epoch ns c) t.node) more refl none
        (started c (last_view c).epoch ns t (h t)))

-- an access
ask_step : (c : Cluster) (e : Event) (n : ℕ) (ev : NodeEvent) (t : TxId) → IsCluster c → AllWaitAsAsked c → named e ≡ n ∷ [] → ((s : NodeState) → handed_to c s e ≡ Some ev) → ((s : NodeState) → do_event e s c ≡ node_step e n s ev c)
    → WaitsAsAsked (if_known (not (list_any (nat_le c.config.nodes) (n ∷ []))) e n c) t (node_at (if_known (not (list_any (nat_le c.config.nodes) (n ∷ []))) e n c) t.node)
ask_step c e n ev t i h names gets does = by (list_any (nat_le c.config.nodes) (n ∷ [])) refl
  where
    up : list_any (nat_le c.config.nodes) (n ∷ []) ≡ false → (o : Option NodeState) → node_at c n ≡ o → WaitsAsAsked (if_up e o c) t (node_at (if_up e o c) t.node)
    up low None at = refused_kept c t e reason.Down h
    up low (Some s) at =
        subst (λ (d : Cluster). WaitsAsAsked d t (node_at d t.node)) (sym (does s))
        (stepped c e n s ev t i h
        (record { known = ap (list_any (nat_le c.config.nodes)) names ∙ low; acts = ap head_of names; up = at; event = gets s }))

    by : (b : Bool) → list_any (nat_le c.config.nodes) (n ∷ []) ≡ b → WaitsAsAsked (if_known (not b) e n c) t (node_at (if_known (not b) e n c) t.node)
    by true known = refused_kept c t e reason.NoNode h
    by false known = up known (node_at c n) refl

pub steps_wait_as_asked_law : StepsWaitAsAsked
unfolding step
steps_wait_as_asked_law c (event.Read u p) i h t = ask_step c (event.Read u p) u.node (node.Read u p) t i h refl (λ s. refl) (λ s. refl)
steps_wait_as_asked_law c (event.Write u p place bytes) i h t = ask_step c (event.Write u p place bytes) u.node (node.Write u p place bytes) t i h refl (λ s. refl) (λ s. refl)
steps_wait_as_asked_law c (event.Begin n) i h t = quiet_step c (event.Begin n) t i h refl
steps_wait_as_asked_law c (event.Commit u) i h t = quiet_step c (event.Commit u) t i h refl
steps_wait_as_asked_law c (event.Abort u) i h t = quiet_step c (event.Abort u) t i h refl
steps_wait_as_asked_law c (event.Deliver from to) i h t = quiet_step c (event.Deliver from to) t i h refl
steps_wait_as_asked_law c (event.Evict n p) i h t = quiet_step c (event.Evict n p) t i h refl
steps_wait_as_asked_law c (event.Flush n p) i h t = quiet_step c (event.Flush n p) t i h refl
steps_wait_as_asked_law c (event.Crash n) i h t = quiet_step c (event.Crash n) t i h refl
steps_wait_as_asked_law c (event.View live owners) i h t = quiet_step c (event.View live owners) t i h refl
steps_wait_as_asked_law c (event.Install n) i h t = quiet_step c (event.Install n) t i h refl
steps_wait_as_asked_law c event.Reopen i h t = quiet_step c event.Reopen t i h refl
steps_wait_as_asked_law c (event.Arm n call stops) i h t = quiet_step c (event.Arm n call stops) t i h refl
steps_wait_as_asked_law c (event.Cut n) i h t = quiet_step c (event.Cut n) t i h refl

pub opening_waits_as_asked_law : OpeningWaitsAsAsked
unfolding opening first_node
opening_waits_as_asked_law c t =
    look_counted (λ n o. WaitsAsAsked (opening c) t o) None (λ n. Some (first_node c n)) c.nodes 0 t.node
    (λ j low. subst (λ (o : Option Pending). IfSome o (λ (w : Pending). w.write ≡ asks (opening c) t)) (sym (none_waits (0 + j) 1 0 t)) tt) (λ j. tt)
