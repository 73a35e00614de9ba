-- The kinds of a cluster's steps, each with its event.
use Rattle.std.proofs.Common.{◌≡◌, refl, ap, sym, subst, ◌∙◌, ℕ, ◌+◌, not, nat_le, Bool, true, false, List, [], ◌∷◌, Option, Some, None, is_some, option_map, Result, Ok, Err}
use Rattle.std.specs.List.{list_any}
use Rattle.pcl_base.specs.declared.event.Event.{Event}
use Rattle.pcl_base.specs.declared.event.Event.TheVariants as event
use Rattle.pcl_base.specs.declared.message.Message.{Message}
use Rattle.pcl_base.specs.declared.reply.Reason.{Reason}
use Rattle.pcl_base.specs.declared.reply.Reason.TheVariants as reason
use Rattle.pcl_base.specs.declared.reply.Reply.TheVariants as reply
use Rattle.run_rules.specs.Views.{View, next, reopen}
use Rattle.node_rules.specs.DiskCalls.{Left}
use Rattle.node_rules.specs.Words.{pick, head_of}
use Rattle.node_rules.specs.NodeState.{NodeState, NodeEvent}
use Rattle.node_rules.specs.NodeState as node
use Rattle.node_rules.specs.Work.{Outcome, Goes, Differs}
use Rattle.node_rules.specs.NodeStep.{Plan, nodestep}
use Rattle.cluster_rules.specs.Links.{head_at}
use Rattle.cluster_rules.specs.Clusters.{Cluster, node_at, is_up, stop_at, view_of_epoch, last_view, lose, note_entry, answer}
use Rattle.cluster_rules.specs.ClusterStep.{refuse, arm, made, halted, made_or_halted, left_of, after_plan, deliver_head, deliver_in, install_next, node_step, do_event, named, if_up, if_known, all_nodes, drops_up, make_view, view_or_refuse, make_reopened, reopen_or_refuse, step}
use Rattle.cluster_laws.specs.Handed.{handed_to, IsHanded}
use Rattle.cluster_laws.proofs.Cases.{handed_is_stepped_law}

-- what a step may come to, each of which has Q
pub record Kinds (c : Cluster) (Q : Event → Cluster → Type 0) : Type 0 where
  pub refused : (e : Event) (r : Reason) → Q e (refuse e r c)
  pub crashed : (n : ℕ) → Q (event.Crash n) (answer (event.Crash n) reply.Crashed (lose n c))
  pub armed : (n call kept : ℕ) → Q (event.Arm n call kept) (arm (event.Arm n call kept) n call kept c)
  pub viewed :
      (live : List Bool) (owners : List ℕ) (v : View) → next c.config (last_view c) live owners ≡ Ok v → drops_up c v ≡ false
      → Q (event.View live owners) (make_view false (event.View live owners) v c)
  pub reopened : (v : View) → reopen c.config (last_view c) ≡ Ok v → list_any (is_up c) (all_nodes c) ≡ false → Q event.Reopen (make_reopened false event.Reopen v c)
  pub differs :
      (e : Event) (n : ℕ) (s : NodeState) (ev : NodeEvent) (page expected found : ℕ) → IsHanded c e n s ev → nodestep s ev c.disk ≡ Differs page expected found
      → Q e (note_entry e [] [] None (lose n c))
  pub halts :
      (e : Event) (n : ℕ) (s : NodeState) (ev : NodeEvent) (p : Plan) (l : Left) → IsHanded c e n s ev → nodestep s ev c.disk ≡ Goes p
      → left_of n c.disk p.calls (stop_at c n) ≡ Some l → Q e (halted e n l c)
  pub goes :
      (e : Event) (n : ℕ) (s : NodeState) (ev : NodeEvent) (p : Plan) → IsHanded c e n s ev → nodestep s ev c.disk ≡ Goes p
      → left_of n c.disk p.calls (stop_at c n) ≡ None → Q e (made e n p c)

module _ (c : Cluster) (Q : Event → Cluster → Type 0) (k : Kinds c Q) where
  -- a step of a node
  handed : (e : Event) (n : ℕ) (s : NodeState) (ev : NodeEvent) → IsHanded c e n s ev → Q e (node_step e n s ev c)
  unfolding node_step
  handed e n s ev h = by (nodestep s ev c.disk) refl
    where
      whole : (p : Plan) → nodestep s ev c.disk ≡ Goes p → (o : Option Left) → left_of n c.disk p.calls (stop_at c n) ≡ o → Q e (made_or_halted e n p o c)
      whole p g None l = k.goes e n s ev p h g l
      whole p g (Some x) l = k.halts e n s ev p x h g l

      by : (o : Outcome Plan) → nodestep s ev c.disk ≡ o → Q e (after_plan e n c o)
      by (Goes p) g = whole p g (left_of n c.disk p.calls (stop_at c n)) refl
      by (Differs page expected found) g = k.differs e n s ev page expected found h g

  -- where nothing is handed to a node, it is no step of a node
  head_none : (e : Event) (from to : ℕ) (s : NodeState) (b : Bool) (o : Option Message) → head_at c.links from to ≡ o → pick b (option_map (node.Deliver from) o) None ≡ None
      → Q e (deliver_in b e from to s c)
  head_none e from to s false o h g = k.refused e reason.NotInView
  head_none e from to s true None h g = subst (λ (o : Option Message). Q e (deliver_head e from to s o c)) (sym h) (k.refused e reason.EmptyLink)
  head_none e from to s true (Some m) h g = absurd (cc)

  view_none : (e : Event) (n : ℕ) (s : NodeState) (o : Option View) → option_map node.Install o ≡ None → Q e (install_next e n s o c)
  view_none e n s None g = k.refused e reason.NoView
  view_none e n s (Some v) g = absurd (cc)

  do_none : (e : Event) (n : ℕ) (s : NodeState) → head_of (named e) ≡ Some n → handed_to c s e ≡ None → Q e (do_event e s c)
  do_none (event.Begin m) n s a g = absurd (cc)
  do_none (event.Read t p) n s a g = absurd (cc)
  do_none (event.Write t p place bytes) n s a g = absurd (cc)
  do_none (event.Commit t) n s a g = absurd (cc)
  do_none (event.Abort t) n s a g = absurd (cc)
  do_none (event.Deliver from to) n s a g = head_none (event.Deliver from to) from to s (is_some s.view) (head_at c.links from to) refl g
  do_none (event.Evict m p) n s a g = absurd (cc)
  do_none (event.Flush m p) n s a g = absurd (cc)
  do_none (event.Crash m) n s a g = k.crashed m
  do_none (event.View live owners) n s a g = absurd (cc)
  do_none (event.Install m) n s a g = view_none (event.Install m) m s (view_of_epoch c.views (s.epoch + 1)) g
  do_none event.Reopen n s a g = absurd (cc)
  do_none (event.Arm m call stops) n s a g = k.armed m call stops
  do_none (event.Cut m) n s a g = absurd (cc)

  -- an event of a node
  node_event : (e : Event) (n : ℕ) (ns : List ℕ) → named e ≡ n ∷ ns → step c e ≡ if_known (not (list_any (nat_le c.config.nodes) (n ∷ ns))) e n c → Q e (step c e)
  node_event e n ns names same = by (list_any (nat_le c.config.nodes) (n ∷ ns)) refl
    where
      acts : head_of (named e) ≡ Some n
      acts = ap head_of names

      given : (s : NodeState) → list_any (nat_le c.config.nodes) (named e) ≡ false → node_at c n ≡ Some s → step c e ≡ do_event e s c → (o : Option NodeEvent) → handed_to c s e ≡ o → Q e (step c e)
      given s low at does None h = subst (Q e) (sym does) (do_none e n s acts h)
      given s low at does (Some ev) h =
          let there : IsHanded c e n s ev = record { known = low; acts = acts; up = at; event = h } in
          subst (Q e) (sym (handed_is_stepped_law c e n s ev there)) (handed e n s ev there)

      up : list_any (nat_le c.config.nodes) (named e) ≡ false → step c e ≡ if_up e (node_at c n) c → (o : Option NodeState) → node_at c n ≡ o → Q e (step c e)
      up low does None at = subst (Q e) (sym (does ∙ ap (λ o. if_up e o c) at)) (k.refused e reason.Down)
      up low does (Some s) at = given s low at (does ∙ ap (λ o. if_up e o c) at) (handed_to c s e) refl

      by : (b : Bool) → list_any (nat_le c.config.nodes) (n ∷ ns) ≡ b → Q e (step c e)
      by true f = subst (Q e) (sym (same ∙ ap (λ b. if_known (not b) e n c) f)) (k.refused e reason.NoNode)
      by false f = up (ap (list_any (nat_le c.config.nodes)) names ∙ f) (same ∙ ap (λ b. if_known (not b) e n c) f) (node_at c n) refl

  -- a view
  view_event : (live : List Bool) (owners : List ℕ) (r : Result View ℕ) → next c.config (last_view c) live owners ≡ r → Q (event.View live owners) (view_or_refuse (event.View live owners) r c)
  view_event live owners (Err rule) made = k.refused (event.View live owners) (reason.BadView rule)
  view_event live owners (Ok v) made = by (drops_up c v) refl
    where
      by : (b : Bool) → drops_up c v ≡ b → Q (event.View live owners) (make_view b (event.View live owners) v c)
      by true f = k.refused (event.View live owners) reason.StillUp
      by false f = k.viewed live owners v made f

  reopen_event : (r : Result View ℕ) → reopen c.config (last_view c) ≡ r → Q event.Reopen (reopen_or_refuse event.Reopen r c)
  reopen_event (Err rule) made = k.refused event.Reopen (reason.BadView rule)
  reopen_event (Ok v) made = by (list_any (is_up c) (all_nodes c)) refl
    where
      by : (b : Bool) → list_any (is_up c) (all_nodes c) ≡ b → Q event.Reopen (make_reopened b event.Reopen v c)
      by true f = k.refused event.Reopen reason.StillUp
      by false f = k.reopened v made f

  pub by_kind : (e : Event) → Q e (step c e)
  unfolding step
  by_kind (event.Begin n) = node_event (event.Begin n) n [] refl refl
  by_kind (event.Read t p) = node_event (event.Read t p) t.node [] refl refl
  by_kind (event.Write t p place bytes) = node_event (event.Write t p place bytes) t.node [] refl refl
  by_kind (event.Commit t) = node_event (event.Commit t) t.node [] refl refl
  by_kind (event.Abort t) = node_event (event.Abort t) t.node [] refl refl
  by_kind (event.Deliver from to) = node_event (event.Deliver from to) to (from ∷ []) refl refl
  by_kind (event.Evict n p) = node_event (event.Evict n p) n [] refl refl
  by_kind (event.Flush n p) = node_event (event.Flush n p) n [] refl refl
  by_kind (event.Crash n) = node_event (event.Crash n) n [] refl refl
  by_kind (event.Install n) = node_event (event.Install n) n [] refl refl
  by_kind (event.Arm n call stops) = node_event (event.Arm n call stops) n [] refl refl
  by_kind (event.Cut n) = node_event (event.Cut n) n [] refl refl
  by_kind (event.View live owners) = view_event live owners (next c.config (last_view c) live owners) refl
  by_kind event.Reopen = reopen_event (reopen c.config (last_view c)) refl
