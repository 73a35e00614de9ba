-- The cases of a cluster's step.
use Rattle.std.proofs.Common.{◌≡◌, refl, ap, sym, subst, ◌∙◌, ℕ, ◌+◌, not, nat_le, Bool, true, false, List, [], ◌∷◌, Option, Some, None, is_some, option_map, Result, Ok, Err}
use Rattle.std.specs.List.{list_any}
use Rattle.pcl_base.specs.declared.event.Event.{Event}
use Rattle.pcl_base.specs.declared.event.Event.TheVariants as event
use Rattle.pcl_base.specs.declared.message.Message.{Message}
use Rattle.pcl_base.specs.declared.reply.Reason.{Reason}
use Rattle.pcl_base.specs.declared.reply.Reason.TheVariants as reason
use Rattle.pcl_base.specs.declared.reply.Reply.TheVariants as reply
use Rattle.run_rules.specs.Views.{View, next, reopen}
use Rattle.node_rules.specs.Words.{pick, head_of}
use Rattle.node_rules.specs.NodeState.{NodeState, NodeEvent, start_node, number_of, first_node}
use Rattle.node_rules.specs.NodeState as node
use Rattle.cluster_rules.specs.Links.{head_at}
use Rattle.cluster_rules.specs.Clusters.{Cluster, node_at, is_up, answer, lose, view_of_epoch, last_view}
use Rattle.cluster_rules.specs.ClusterStep.{refuse, arm, deliver_head, deliver_in, install_next, node_step, do_event, named, if_up, if_known, all_nodes, drops_up, make_view, view_or_refuse, make_reopened, reopen_or_refuse, step}
use Rattle.cluster_laws.specs.Handed.{handed_to, IsHanded}
use Rattle.cluster_laws.specs.Laws.{HandedIsStepped}

-- the cluster's event is then the step of that node
head_is : (c : Cluster) (e : Event) (from to : ℕ) (s : NodeState) (b : Bool) (o : Option Message) (ev : NodeEvent) → head_at c.links from to ≡ o
    → pick b (option_map (node.Deliver from) o) None ≡ Some ev → deliver_in b e from to s c ≡ node_step e to s ev c
head_is c e from to s false o ev h g = absurd (cc)
head_is c e from to s true None ev h g = absurd (cc)
head_is c e from to s true (Some m) ev h g =
    let same : node.Deliver from m ≡ ev = cc in ap (λ (o : Option Message). deliver_head e from to s o c) h ∙ ap (λ (x : NodeEvent). node_step e to s x c) same

view_is : (c : Cluster) (e : Event) (n : ℕ) (s : NodeState) (o : Option View) (ev : NodeEvent) → option_map node.Install o ≡ Some ev → install_next e n s o c ≡ node_step e n s ev c
view_is c e n s None ev g = absurd (cc)
view_is c e n s (Some v) ev g = let same : node.Install v ≡ ev = cc in ap (λ (x : NodeEvent). node_step e n s x c) same

stepped_as : (c : Cluster) (e : Event) (n m : ℕ) (s : NodeState) (ev x : NodeEvent) → Some m ≡ Some n → Some x ≡ Some ev → node_step e m s x c ≡ node_step e n s ev c
stepped_as c e n m s ev x a h =
    let at : m ≡ n = cc in
    let is : x ≡ ev = cc in
    ap (λ (k : ℕ). node_step e k s x c) at ∙ ap (λ (y : NodeEvent). node_step e n s y c) is

do_is : (c : Cluster) (e : Event) (n : ℕ) (s : NodeState) (ev : NodeEvent) → head_of (named e) ≡ Some n → handed_to c s e ≡ Some ev → do_event e s c ≡ node_step e n s ev c
do_is c (event.Begin m) n s ev a e = stepped_as c (event.Begin m) n m s ev node.Begin a e
do_is c (event.Read t p) n s ev a e = stepped_as c (event.Read t p) n t.node s ev (node.Read t p) a e
do_is c (event.Write t p place bytes) n s ev a e = stepped_as c (event.Write t p place bytes) n t.node s ev (node.Write t p place bytes) a e
do_is c (event.Commit t) n s ev a e = stepped_as c (event.Commit t) n t.node s ev (node.Commit t) a e
do_is c (event.Abort t) n s ev a e = stepped_as c (event.Abort t) n t.node s ev (node.Abort t) a e
do_is c (event.Deliver from to) n s ev a e =
    let same : to ≡ n = cc in
    head_is c (event.Deliver from to) from to s (is_some s.view) (head_at c.links from to) ev refl e
    ∙ ap (λ (k : ℕ). node_step (event.Deliver from to) k s ev c) same
do_is c (event.Evict m p) n s ev a e = stepped_as c (event.Evict m p) n m s ev (node.Evict p) a e
do_is c (event.Flush m p) n s ev a e = stepped_as c (event.Flush m p) n m s ev (node.Flush p) a e
do_is c (event.Crash m) n s ev a e = absurd (cc)
do_is c (event.View live owners) n s ev a e = absurd (cc)
do_is c (event.Install m) n s ev a e =
    let same : m ≡ n = cc in
    view_is c (event.Install m) m s (view_of_epoch c.views (s.epoch + 1)) ev e ∙ ap (λ (k : ℕ). node_step (event.Install m) k s ev c) same
do_is c event.Reopen n s ev a e = absurd (cc)
do_is c (event.Arm m call kept) n s ev a e = absurd (cc)
do_is c (event.Cut m) n s ev a e = stepped_as c (event.Cut m) n m s ev node.Cut a e

-- what a step may come to, each of which has Q
pub record Cases (c : Cluster) (e : Event) (Q : Cluster → Type 0) : Type 0 where
  pub refused : (r : Reason) → Q (refuse e r c)
  pub crashed : (n : ℕ) → e ≡ event.Crash n → Q (answer e reply.Crashed (lose n c))
  pub armed : (n call kept : ℕ) → e ≡ event.Arm n call kept → Q (arm e n call kept c)
  pub handed : (n : ℕ) (s : NodeState) (ev : NodeEvent) → IsHanded c e n s ev → Q (node_step e n s ev c)
  pub viewed : (live : List Bool) (owners : List ℕ) (v : View) → next c.config (last_view c) live owners ≡ Ok v → drops_up c v ≡ false → Q (make_view false e v c)
  pub reopened : (v : View) → reopen c.config (last_view c) ≡ Ok v → list_any (is_up c) (all_nodes c) ≡ false → Q (make_reopened false e v c)

module _ (Q : Cluster → Type 0) (c : Cluster) where
  -- where nothing is handed to a node, it is no step of a node
  head_none : (e : Event) (from to : ℕ) (s : NodeState) (b : Bool) (o : Option Message) → Cases c e Q → head_at c.links from to ≡ o
      → pick b (option_map (node.Deliver from) o) None ≡ None → Q (deliver_in b e from to s c)
  head_none e from to s false o k h g = k.refused reason.NotInView
  head_none e from to s true None k h g = subst (λ (o : Option Message). Q (deliver_head e from to s o c)) (sym h) (k.refused reason.EmptyLink)
  head_none e from to s true (Some m) k h g = absurd (cc)

  view_none : (e : Event) (n : ℕ) (s : NodeState) (o : Option View) → Cases c e Q → option_map node.Install o ≡ None → Q (install_next e n s o c)
  view_none e n s None k g = k.refused reason.NoView
  view_none e n s (Some v) k g = absurd (cc)

  do_none : (e : Event) (n : ℕ) (s : NodeState) → Cases c e Q → head_of (named e) ≡ Some n → handed_to c s e ≡ None → Q (do_event e s c)
  do_none (event.Begin m) n s k a g = absurd (cc)
  do_none (event.Read t p) n s k a g = absurd (cc)
  do_none (event.Write t p place bytes) n s k a g = absurd (cc)
  do_none (event.Commit t) n s k a g = absurd (cc)
  do_none (event.Abort t) n s k a g = absurd (cc)
  do_none (event.Deliver from to) n s k a g = head_none (event.Deliver from to) from to s (is_some s.view) (head_at c.links from to) k refl g
  do_none (event.Evict m p) n s k a g = absurd (cc)
  do_none (event.Flush m p) n s k a g = absurd (cc)
  do_none (event.Crash m) n s k a g = k.crashed m refl
  do_none (event.View live owners) n s k a g = absurd (cc)
  do_none (event.Install m) n s k a g = view_none (event.Install m) m s (view_of_epoch c.views (s.epoch + 1)) k g
  do_none event.Reopen n s k a g = absurd (cc)
  do_none (event.Arm m call kept) n s k a g = k.armed m call kept refl
  do_none (event.Cut m) n s k a g = absurd (cc)

  -- an event of a node
  node_event : (e : Event) (n : ℕ) (ns : List ℕ) → named e ≡ n ∷ ns → Cases c e Q → Q (if_known (not (list_any (nat_le c.config.nodes) (n ∷ ns))) e n c)
  node_event e n ns names k = by (list_any (nat_le c.config.nodes) (n ∷ ns)) refl
    where
      acts : head_of (named e) ≡ Some n
      acts = ap head_of names

      handed : (s : NodeState) → list_any (nat_le c.config.nodes) (named e) ≡ false → node_at c n ≡ Some s → (o : Option NodeEvent) → handed_to c s e ≡ o → Q (do_event e s c)
      handed s low at None h = do_none e n s k acts h
      handed s low at (Some ev) h = subst Q (sym (do_is c e n s ev acts h)) (k.handed n s ev (record { known = low; acts = acts; up = at; event = h }))

      up : list_any (nat_le c.config.nodes) (named e) ≡ false → (o : Option NodeState) → node_at c n ≡ o → Q (if_up e o c)
      up low None at = k.refused reason.Down
      up low (Some s) at = handed s low at (handed_to c s e) refl

      by : (b : Bool) → list_any (nat_le c.config.nodes) (n ∷ ns) ≡ b → Q (if_known (not b) e n c)
      by true f = k.refused reason.NoNode
      by false f = up (ap (list_any (nat_le c.config.nodes)) names ∙ f) (node_at c n) refl

  -- a view
  view_event : (e : Event) (live : List Bool) (owners : List ℕ) (r : Result View ℕ) → Cases c e Q → next c.config (last_view c) live owners ≡ r → Q (view_or_refuse e r c)
  view_event e live owners (Err rule) k made = k.refused (reason.BadView rule)
  view_event e live owners (Ok v) k made = by (drops_up c v) refl
    where
      by : (b : Bool) → drops_up c v ≡ b → Q (make_view b e v c)
      by true f = k.refused reason.StillUp
      by false f = k.viewed live owners v made f

  reopen_event : (e : Event) (r : Result View ℕ) → Cases c e Q → reopen c.config (last_view c) ≡ r → Q (reopen_or_refuse e r c)
  reopen_event e (Err rule) k made = k.refused (reason.BadView rule)
  reopen_event e (Ok v) k made = by (list_any (is_up c) (all_nodes c)) refl
    where
      by : (b : Bool) → list_any (is_up c) (all_nodes c) ≡ b → Q (make_reopened b e v c)
      by true f = k.refused reason.StillUp
      by false f = k.reopened v made f

  pub by_step : (e : Event) → Cases c e Q → Q (step c e)
  unfolding step
  by_step (event.Begin n) k = node_event (event.Begin n) n [] refl k
  by_step (event.Read t p) k = node_event (event.Read t p) t.node [] refl k
  by_step (event.Write t p place bytes) k = node_event (event.Write t p place bytes) t.node [] refl k
  by_step (event.Commit t) k = node_event (event.Commit t) t.node [] refl k
  by_step (event.Abort t) k = node_event (event.Abort t) t.node [] refl k
  by_step (event.Deliver from to) k = node_event (event.Deliver from to) to (from ∷ []) refl k
  by_step (event.Evict n p) k = node_event (event.Evict n p) n [] refl k
  by_step (event.Flush n p) k = node_event (event.Flush n p) n [] refl k
  by_step (event.Crash n) k = node_event (event.Crash n) n [] refl k
  by_step (event.Install n) k = node_event (event.Install n) n [] refl k
  by_step (event.Arm n call kept) k = node_event (event.Arm n call kept) n [] refl k
  by_step (event.Cut n) k = node_event (event.Cut n) n [] refl k
  by_step (event.View live owners) k = view_event (event.View live owners) live owners (next c.config (last_view c) live owners) k refl
  by_step event.Reopen k = reopen_event event.Reopen (reopen c.config (last_view c)) k refl

-- the cluster's step is that of the node
known_is : (c : Cluster) (e : Event) (m : ℕ) (ns : List ℕ) (n : ℕ) (s : NodeState) (ev : NodeEvent) → named e ≡ m ∷ ns → IsHanded c e n s ev
    → if_known (not (list_any (nat_le c.config.nodes) (m ∷ ns))) e m c ≡ node_step e n s ev c
known_is c e m ns n s ev names h =
    let first : Some m ≡ Some n = sym (ap head_of names) ∙ h.acts in
    let same : m ≡ n = cc in
    let all : list_any (nat_le c.config.nodes) (m ∷ ns) ≡ false = sym (ap (list_any (nat_le c.config.nodes)) names) ∙ h.known in
    ap (λ b. if_known (not b) e m c) all
    ∙ ap (λ (k : ℕ). if_up e (node_at c k) c) same
    ∙ ap (λ (o : Option NodeState). if_up e o c) h.up
    ∙ do_is c e n s ev h.acts h.event

pub handed_is_stepped_law : HandedIsStepped
unfolding step
handed_is_stepped_law c (event.Begin m) n s ev h = known_is c (event.Begin m) m [] n s ev refl h
handed_is_stepped_law c (event.Read t p) n s ev h = known_is c (event.Read t p) t.node [] n s ev refl h
handed_is_stepped_law c (event.Write t p place bytes) n s ev h = known_is c (event.Write t p place bytes) t.node [] n s ev refl h
handed_is_stepped_law c (event.Commit t) n s ev h = known_is c (event.Commit t) t.node [] n s ev refl h
handed_is_stepped_law c (event.Abort t) n s ev h = known_is c (event.Abort t) t.node [] n s ev refl h
handed_is_stepped_law c (event.Deliver from to) n s ev h = known_is c (event.Deliver from to) to (from ∷ []) n s ev refl h
handed_is_stepped_law c (event.Evict m p) n s ev h = known_is c (event.Evict m p) m [] n s ev refl h
handed_is_stepped_law c (event.Flush m p) n s ev h = known_is c (event.Flush m p) m [] n s ev refl h
handed_is_stepped_law c (event.Crash m) n s ev h = known_is c (event.Crash m) m [] n s ev refl h
handed_is_stepped_law c (event.View live owners) n s ev h = let bad = h.acts in absurd (cc)
handed_is_stepped_law c (event.Install m) n s ev h = known_is c (event.Install m) m [] n s ev refl h
handed_is_stepped_law c event.Reopen n s ev h = let bad = h.acts in absurd (cc)
handed_is_stepped_law c (event.Arm m call kept) n s ev h = known_is c (event.Arm m call kept) m [] n s ev refl h
handed_is_stepped_law c (event.Cut m) n s ev h = known_is c (event.Cut m) m [] n s ev refl h
