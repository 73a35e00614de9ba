-- All kinds of steps.
use Rattle.std.proofs.Common.{◌≡◌, refl, ap, sym, subst, ◌∙◌, ℕ, ◌+◌, not, nat_le, Bool, true, false, List, [], ◌∷◌, Option, Some, None, is_some, option_map, Result, Ok, Err}
use Rattle.std.specs.List.{list_any}
use Rattle.pcl_base.specs.declared.event.Event.{Event}
use Rattle.pcl_base.specs.declared.event.Event.TheVariants as event
use Rattle.pcl_base.specs.declared.message.Message.{Message}
use Rattle.pcl_base.specs.declared.reply.Reason.{Reason}
use Rattle.pcl_base.specs.declared.reply.Reason.TheVariants as reason
use Rattle.pcl_base.specs.declared.reply.Reply.TheVariants as reply
use Rattle.run_rules.specs.Views.{View, next, reopen}
use Rattle.node_rules.specs.DiskCalls.{Left}
use Rattle.node_rules.specs.Words.{pick, head_of}
use Rattle.node_rules.specs.NodeState.{NodeState, NodeEvent}
use Rattle.node_rules.specs.NodeState as node
use Rattle.node_rules.specs.Refusals.{refusal}
use Rattle.node_rules.specs.Work.{Work, Outcome, Goes, Differs, and_so, reply}
use Rattle.node_rules.specs.NodeStep as rules
use Rattle.node_rules.specs.NodeStep.{Plan, plan_of, begin_work, unless_refused, nodestep}
use Rattle.cluster_rules.specs.Links.{head_at}
use Rattle.cluster_rules.specs.Clusters.{Cluster, node_at, is_up, stop_at, view_of_epoch, last_view}
use Rattle.cluster_rules.specs.ClusterStep.{made, made_or_halted, left_of, after_plan, deliver_head, deliver_in, install_next, node_step, do_event, named, if_up, if_known, all_nodes, drops_up, make_view, view_or_refuse, make_reopened, reopen_or_refuse, step}
use Rattle.cluster_laws.specs.Handed.{handed_to, IsHanded}
use Rattle.cluster_laws.proofs.Cases.{handed_is_stepped_law}
use Rattle.related_runs.specs.Kinds.{StepsByKind, KindsAreAll}
use Rattle.related_runs.specs.RunLaws.{IsOfRun, LeavesPages}

module _ (blank : List ℕ) (c : Cluster) (k : StepsByKind blank c) (is : IsOfRun blank c) where
  abbrev Kept : Cluster → Type 0
  Kept d = LeavesPages blank d

  -- a step of a node
  handed : (e : Event) (n : ℕ) (s : NodeState) (ev : NodeEvent) → IsHanded c e n s ev → Kept (node_step e n s ev c)
  unfolding node_step nodestep
  handed e n s ev h = by (refusal s ev) refl
    where
      goes : (p : Plan) → nodestep s ev c.disk ≡ Goes p → (left_of n c.disk p.calls (stop_at c n) ≡ None → Kept (made e n p c)) → (o : Option Left) → left_of n c.disk p.calls (stop_at c n) ≡ o
          → Kept (made_or_halted e n p o c)
      goes p g whole None l = whole l
      goes p g whole (Some x) l = k.stopped e n s ev p x is h g l

      did : refusal s ev ≡ None → (o : Outcome Work) → rules.do_event c.disk ev (begin_work s c.disk) ≡ o → Kept (after_plan e n c (and_so o plan_of))
      did none (Goes w) g =
          goes (plan_of w) (ap (λ r. and_so (unless_refused r c.disk ev (begin_work s c.disk)) plan_of) none ∙ ap (λ o. and_so o plan_of) g) (λ l. k.acted e n s ev w is h none g l)
          (left_of n c.disk w.calls (stop_at c n)) refl
      did none (Differs p expected found) g = k.differs e n s ev is h

      by : (r : Option Reason) → refusal s ev ≡ r → Kept (after_plan e n c (and_so (unless_refused r c.disk ev (begin_work s c.disk)) plan_of))
      by (Some r) f =
          goes (plan_of (reply (reply.Refused r) (begin_work s c.disk))) (ap (λ r. and_so (unless_refused r c.disk ev (begin_work s c.disk)) plan_of) f)
          (λ l. k.refused_there e n s ev r is h f) (left_of n c.disk (reply (reply.Refused r) (begin_work s c.disk)).calls (stop_at c n)) refl
      by None f = did f (rules.do_event c.disk ev (begin_work s c.disk)) refl

  -- where nothing is handed to a node, it is no step of a node
  head_none : (e : Event) (from to : ℕ) (s : NodeState) (b : Bool) (o : Option Message) → head_at c.links from to ≡ o → pick b (option_map (node.Deliver from) o) None ≡ None
      → Kept (deliver_in b e from to s c)
  head_none e from to s false o h g = k.refused e reason.NotInView is
  head_none e from to s true None h g = subst (λ (o : Option Message). Kept (deliver_head e from to s o c)) (sym h) (k.refused e reason.EmptyLink is)
  head_none e from to s true (Some m) h g = absurd (cc)

  view_none : (e : Event) (n : ℕ) (s : NodeState) (o : Option View) → option_map node.Install o ≡ None → Kept (install_next e n s o c)
  view_none e n s None g = k.refused e reason.NoView is
  view_none e n s (Some v) g = absurd (cc)

  do_none : (e : Event) (n : ℕ) (s : NodeState) → head_of (named e) ≡ Some n → handed_to c s e ≡ None → Kept (do_event e s c)
  do_none (event.Begin m) n s a g = absurd (cc)
  do_none (event.Read t p) n s a g = absurd (cc)
  do_none (event.Write t p place bytes) n s a g = absurd (cc)
  do_none (event.Commit t) n s a g = absurd (cc)
  do_none (event.Abort t) n s a g = absurd (cc)
  do_none (event.Deliver from to) n s a g = head_none (event.Deliver from to) from to s (is_some s.view) (head_at c.links from to) refl g
  do_none (event.Evict m p) n s a g = absurd (cc)
  do_none (event.Flush m p) n s a g = absurd (cc)
  do_none (event.Crash m) n s a g = k.crashed m is
  do_none (event.View live owners) n s a g = absurd (cc)
  do_none (event.Install m) n s a g = view_none (event.Install m) m s (view_of_epoch c.views (s.epoch + 1)) g
  do_none event.Reopen n s a g = absurd (cc)
  do_none (event.Arm m call stops) n s a g = k.armed m call stops is
  do_none (event.Cut m) n s a g = absurd (cc)

  -- an event of a node
  node_event : (e : Event) (n : ℕ) (ns : List ℕ) → named e ≡ n ∷ ns → step c e ≡ if_known (not (list_any (nat_le c.config.nodes) (n ∷ ns))) e n c → Kept (step c e)
  node_event e n ns names same = by (list_any (nat_le c.config.nodes) (n ∷ ns)) refl
    where
      acts : head_of (named e) ≡ Some n
      acts = ap head_of names

      given : (s : NodeState) → list_any (nat_le c.config.nodes) (named e) ≡ false → node_at c n ≡ Some s → step c e ≡ do_event e s c → (o : Option NodeEvent) → handed_to c s e ≡ o → Kept (step c e)
      given s low at does None h = subst Kept (sym does) (do_none e n s acts h)
      given s low at does (Some ev) h =
          let there : IsHanded c e n s ev = record { known = low; acts = acts; up = at; event = h } in
          subst Kept (sym (handed_is_stepped_law c e n s ev there)) (handed e n s ev there)

      up : list_any (nat_le c.config.nodes) (named e) ≡ false → step c e ≡ if_up e (node_at c n) c → (o : Option NodeState) → node_at c n ≡ o → Kept (step c e)
      up low does None at = subst Kept (sym (does ∙ ap (λ o. if_up e o c) at)) (k.refused e reason.Down is)
      up low does (Some s) at = given s low at (does ∙ ap (λ o. if_up e o c) at) (handed_to c s e) refl

      by : (b : Bool) → list_any (nat_le c.config.nodes) (n ∷ ns) ≡ b → Kept (step c e)
      by true f = subst Kept (sym (same ∙ ap (λ b. if_known (not b) e n c) f)) (k.refused e reason.NoNode is)
      by false f =
          up (ap (list_any (nat_le c.config.nodes)) names ∙ f) (same ∙ ap (λ b. if_known (not b) e n c) f) (node_at c n) refl

  -- a view
  view_event : (live : List Bool) (owners : List ℕ) (r : Result View ℕ) → next c.config (last_view c) live owners ≡ r → Kept (view_or_refuse (event.View live owners) r c)
  view_event live owners (Err rule) made = k.refused (event.View live owners) (reason.BadView rule) is
  view_event live owners (Ok v) made = by (drops_up c v) refl
    where
      by : (b : Bool) → drops_up c v ≡ b → Kept (make_view b (event.View live owners) v c)
      by true f = k.refused (event.View live owners) reason.StillUp is
      by false f = k.viewed live owners v is made f

  reopen_event : (r : Result View ℕ) → reopen c.config (last_view c) ≡ r → Kept (reopen_or_refuse event.Reopen r c)
  reopen_event (Err rule) made = k.refused event.Reopen (reason.BadView rule) is
  reopen_event (Ok v) made = by (list_any (is_up c) (all_nodes c)) refl
    where
      by : (b : Bool) → list_any (is_up c) (all_nodes c) ≡ b → Kept (make_reopened b event.Reopen v c)
      by true f = k.refused event.Reopen reason.StillUp is
      by false f = k.reopened v is made f

  pub all_kinds : (e : Event) → LeavesPages blank (step c e)
  unfolding step
  all_kinds (event.Begin n) = node_event (event.Begin n) n [] refl refl
  all_kinds (event.Read t p) = node_event (event.Read t p) t.node [] refl refl
  all_kinds (event.Write t p place bytes) = node_event (event.Write t p place bytes) t.node [] refl refl
  all_kinds (event.Commit t) = node_event (event.Commit t) t.node [] refl refl
  all_kinds (event.Abort t) = node_event (event.Abort t) t.node [] refl refl
  all_kinds (event.Deliver from to) = node_event (event.Deliver from to) to (from ∷ []) refl refl
  all_kinds (event.Evict n p) = node_event (event.Evict n p) n [] refl refl
  all_kinds (event.Flush n p) = node_event (event.Flush n p) n [] refl refl
  all_kinds (event.Crash n) = node_event (event.Crash n) n [] refl refl
  all_kinds (event.Install n) = node_event (event.Install n) n [] refl refl
  all_kinds (event.Arm n call stops) = node_event (event.Arm n call stops) n [] refl refl
  all_kinds (event.Cut n) = node_event (event.Cut n) n [] refl refl
  all_kinds (event.View live owners) = view_event live owners (next c.config (last_view c) live owners) refl
  all_kinds event.Reopen = reopen_event (reopen c.config (last_view c)) refl

pub kinds_are_all_law : KindsAreAll
kinds_are_all_law blank c e k is = all_kinds blank c k is e
