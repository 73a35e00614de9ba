-- The head of a link, taken for its delivery.
use Rattle.std.proofs.Common.{◌≡◌, refl, ap, sym, subst, ◌∙◌, ℕ, ◌<◌, ◌≤◌, ◌||◌, nat_le, Bool, true, false, List, [], ◌∷◌, length, Option, Some, None, is_some, option_map, Result, arith}
use Rattle.std.specs.List.{AllByRecursion, list_any}
use Rattle.std.proofs.lemmas.Bool.Decides.{nat_tests}
use Rattle.pcl_base.specs.declared.event.Event.{Event}
use Rattle.pcl_base.specs.declared.event.Event.TheVariants as event
use Rattle.pcl_base.specs.declared.reply.Reason.TheVariants as reason
use Rattle.pcl_base.specs.declared.message.Message.{Message}
use Rattle.node_rules.specs.Words.{pick, head_of}
use Rattle.node_rules.specs.NodeState.{NodeState}
use Rattle.node_rules.specs.NodeState as node
use Rattle.link_model.specs.Spares.{LinksView, FreesOne}
use Rattle.cluster_rules.specs.Links.{Links, row_at, link_at, put_link, head_at, tail_of, take_head}
use Rattle.cluster_rules.specs.Clusters.{Cluster, node_at, last_view}
use Rattle.cluster_rules.specs.ClusterStep.{deliver_head, deliver_in, refuse, step}
use Rattle.cluster_laws.specs.Handed.{IsHanded}
use Rattle.cluster_laws.specs.Sound.{IsCluster, IsOnLink}
use Rattle.cluster_parts.specs.declared.fault.ClusterFault.{ClusterFault}
use Rattle.cluster_parts.specs.Ends.{ComesTo, Ends}
use Rattle.cluster_parts.specs.Events.{absent_at, viewed}
use Rattle.cluster_parts.specs.State.{AreParts, ClusterView, ReadsWell, cluster_of}
use Rattle.cluster_parts.specs.Steps.{IsReady, MayGoBack, before_taking}
use Rattle.cluster_parts.proofs.Heads.{back_again, link_same}
use Rattle.cluster_parts.proofs.Named.{IsPresent, all_known, present, present_step, unknown_refused}
use Rattle.cluster_parts.proofs.Room.{up_below}
use Rattle.cluster_parts.proofs.Sending.{row_put, rows_put}
use Rattle.cluster.proofs.Answering.{EndsWell, came}

-- both nodes are the cluster's
pub from_low : (v : ClusterView) (from : ℕ) → AreParts v → from < v.config.nodes → from < length v.links.links
from_low v from i low = let rows = i.cluster.links.rows in omega (arith, low, rows)

pub to_low : (v : ClusterView) (from to : ℕ) → AreParts v → from < v.config.nodes → absent_at (cluster_of v) to ≡ None → to < length (row_at v.links.links from)
to_low v from to i low absent =
    let is = present (cluster_of v) to absent in
    let below = up_below v.nodes to is.state is.up in
    let nodes = i.cluster.nodes in
    let row = i.cluster.links.row from low in
    omega (arith, below, nodes, row)

-- a link without a message is as it was
pub empty_same : (v : ClusterView) (from to : ℕ) (ls : Links) → AreParts v → from < v.config.nodes → absent_at (cluster_of v) to ≡ None → ls ≡ take_head v.links.links from to → link_at v.links.links from to ≡ [] → ls ≡ v.links.links
empty_same v from to ls i low absent taken empty =
    taken
    ∙ ap (λ (ms : List Message). put_link v.links.links from to (tail_of ms)) empty
    ∙ ap (put_link v.links.links from to) (sym empty)
    ∙ link_same v.links.links from to (from_low v from i low) (to_low v from to i low absent)

first_of : (P : Message → Type 0) (ms : List Message) (m : Message) → AllByRecursion P ms → head_of ms ≡ Some m → P m
first_of P [] m all head = absurd (cc)
first_of P (x ∷ ms) m all head = let same : x ≡ m = cc in subst P same all.0

pub none_high : (k n : ℕ) → n < k → list_any (nat_le k) (n ∷ []) ≡ false
none_high k n low = by (nat_le k n) (grind (arith, nat_tests))
  where
    by : (b : Bool) → b ≡ false → b || false ≡ false
    by false e = refl
    by true e = absurd (cc)

given : (s : NodeState) (from : ℕ) (o : Option Message) (m : Message) → is_some s.view ≡ true → o ≡ Some m → pick (is_some s.view) (option_map (node.Deliver from) o) None ≡ Some (node.Deliver from m)
given s from o m view head =
    ap (λ (b : Bool). pick b (option_map (node.Deliver from) o) None) view ∙ ap (λ (x : Option Message). option_map (node.Deliver from) x) head

seen : (c : Cluster) (n : ℕ) (s : NodeState) → node_at c n ≡ Some s → viewed (node_at c n) ≡ true → is_some s.view ≡ true
seen c n s up view = sym (ap viewed up) ∙ view

-- the receiver is ready for the head that was taken
pub head_ready : (v w : ClusterView) (from to : ℕ) (m : Message) → AreParts v → from < v.config.nodes → absent_at (cluster_of v) to ≡ None → viewed (node_at (cluster_of v) to) ≡ true
    → head_at v.links.links from to ≡ Some m → (l : LinksView) → w ≡ record v { links = l } → l.links ≡ take_head v.links.links from to → FreesOne v.links.spares l.spares from to
    → IsReady w (event.Deliver from to) to (node.Deliver from m) × (before_taking to (node.Deliver from m) (cluster_of w) ≡ cluster_of v)
head_ready v w from to m i low absent view head l same taken frees = (ready, back)
  where
    is : IsPresent (cluster_of v) to
    is = present (cluster_of v) to absent

    on : IsOnLink v.config (last_view (cluster_of v)).epoch from to m
    on = first_of (IsOnLink v.config (last_view (cluster_of v)).epoch from to) (link_at v.links.links from to) m (i.cluster.links.messages from to) head

    back : before_taking to (node.Deliver from m) (cluster_of w) ≡ cluster_of v
    back =
        ap (λ (x : ClusterView). before_taking to (node.Deliver from m) (cluster_of x)) same
        ∙ ap (λ (ls : Links). record (cluster_of v) { links = put_link ls from to (m ∷ link_at ls from to) }) taken
        ∙ ap (λ (ls : Links). record (cluster_of v) { links = ls }) (back_again v.links.links from to m (from_low v from i low) (to_low v from to i low absent) head)

    handed : IsHanded (cluster_of v) (event.Deliver from to) to is.state (node.Deliver from m)
    handed =
        record {
          known = all_known (cluster_of v) to (from ∷ []) is (none_high v.config.nodes from low);
          acts = refl;
          up = is.up;
          event = given is.state from (head_at v.links.links from to) m (seen (cluster_of v) to is.state is.up view) head;
        }

    may : MayGoBack to (node.Deliver from m) l
    may =
        let rows = ap (λ (ls : Links). length ls) taken ∙ rows_put v.links.links from to (tail_of (link_at v.links.links from to)) in
        let row = ap (λ (ls : Links). length (row_at ls from)) taken ∙ row_put v.links.links from to from (tail_of (link_at v.links.links from to)) in
        let here = from_low v from i low in
        let there = to_low v from to i low absent in
        let one = frees.one in
        (on.others, omega (arith, rows, here), omega (arith, row, there), omega (arith, one))

    ready : IsReady w (event.Deliver from to) to (node.Deliver from m)
    ready =
        record {
          state = is.state;
          handed = subst (λ (c : Cluster). IsHanded c (event.Deliver from to) to is.state (node.Deliver from m)) (sym back) handed;
          cluster = subst IsCluster (sym back) i.cluster;
          back = subst (λ (x : ClusterView). MayGoBack to (node.Deliver from m) x.links) (sym same) may;
          title = ap (λ (x : ClusterView). x.trace.config) same ∙ i.title ∙ sym (ap (λ (x : ClusterView). x.config) same);
          reads = subst (λ (x : ClusterView). ReadsWell x.storage) (sym same) i.reads;
        }

-- a sender that isn't there, a receiver that can't act or is in no view, and a link without a message
pub unknown_sender : (v : ClusterView) (e : Event) (from to : ℕ) → e ≡ event.Deliver from to → v.config.nodes ≤ from → refuse e reason.NoNode (cluster_of v) ≡ step (cluster_of v) e
unknown_sender v e from to same high =
    subst (λ (x : Event). refuse x reason.NoNode (cluster_of v) ≡ step (cluster_of v) x) (sym same) (sym (unknown_refused (cluster_of v) (event.Deliver from to) to from refl high))

pub outside_step : (v : ClusterView) (e : Event) (from to : ℕ) → e ≡ event.Deliver from to → from < v.config.nodes → absent_at (cluster_of v) to ≡ None → viewed (node_at (cluster_of v) to) ≡ false
    → refuse e reason.NotInView (cluster_of v) ≡ step (cluster_of v) e
outside_step v e from to same low absent outside =
    let is = present (cluster_of v) to absent in
    let none : is_some is.state.view ≡ false = sym (ap viewed is.up) ∙ outside in
    subst (λ (x : Event). refuse x reason.NotInView (cluster_of v) ≡ step (cluster_of v) x) (sym same)
    (sym
    (present_step (cluster_of v) (event.Deliver from to) to (from ∷ []) refl is (none_high v.config.nodes from low)
    ∙ ap (λ (b : Bool). deliver_in b (event.Deliver from to) from to is.state (cluster_of v)) none))

pub empty_step : (v : ClusterView) (e : Event) (from to : ℕ) → e ≡ event.Deliver from to → from < v.config.nodes → absent_at (cluster_of v) to ≡ None → viewed (node_at (cluster_of v) to) ≡ true
    → link_at v.links.links from to ≡ [] → refuse e reason.EmptyLink (cluster_of v) ≡ step (cluster_of v) e
empty_step v e from to same low absent view empty =
    let is = present (cluster_of v) to absent in
    subst (λ (x : Event). refuse x reason.EmptyLink (cluster_of v) ≡ step (cluster_of v) x) (sym same)
    (sym
    (present_step (cluster_of v) (event.Deliver from to) to (from ∷ []) refl is (none_high v.config.nodes from low)
    ∙ ap (λ (b : Bool). deliver_in b (event.Deliver from to) from to is.state (cluster_of v)) (seen (cluster_of v) to is.state is.up view)
    ∙ ap (λ (ms : List Message). deliver_head (event.Deliver from to) from to is.state (head_of ms) (cluster_of v)) empty))

-- the delivery of a head to a node in a view
pub record IsDue (v : ClusterView) (e : Event) (from to : ℕ) : Type 0 where
  pub parts : AreParts v
  pub event : e ≡ event.Deliver from to
  pub sender : from < v.config.nodes
  pub receiver : absent_at (cluster_of v) to ≡ None
  pub view : viewed (node_at (cluster_of v) to) ≡ true

module _ (v : ClusterView) (l : LinksView) (e : Event) (from to : ℕ) (due : IsDue v e from to) (taken : l.links ≡ take_head v.links.links from to) where
  -- a link without a message refuses it
  pub due_empty : (w : ClusterView) (r : Result (Unit {0}) ClusterFault) → link_at v.links.links from to ≡ []
      → ComesTo (cluster_of (record v { links = l })) (refuse e reason.EmptyLink (cluster_of (record v { links = l }))) r (cluster_of w)
      → w.trace.config ≡ v.trace.config → w.storage.failing ≡ v.storage.failing → EndsWell v e r w
  due_empty w r empty comes title failing =
      let before = ap (λ (ls : Links). record (cluster_of v) { links = ls }) (empty_same v from to l.links due.parts due.sender due.receiver taken empty) in
      came v w (refuse e reason.EmptyLink (cluster_of v)) e r due.parts (empty_step v e from to due.event due.sender due.receiver due.view empty)
      (subst (λ (c : Cluster). ComesTo c (refuse e reason.EmptyLink c) r (cluster_of w)) before comes) title failing

  module _ (m : Message) (head : head_at v.links.links from to ≡ Some m) (frees : FreesOne v.links.spares l.spares from to) where
    due_both : IsReady (record v { links = l }) (event.Deliver from to) to (node.Deliver from m) × (before_taking to (node.Deliver from m) (cluster_of (record v { links = l })) ≡ cluster_of v)
    due_both = head_ready v (record v { links = l }) from to m due.parts due.sender due.receiver due.view head l refl taken frees

    -- the receiver is ready for the head that was taken
    pub due_ready : IsReady (record v { links = l }) e to (node.Deliver from m)
    due_ready = subst (λ (x : Event). IsReady (record v { links = l }) x to (node.Deliver from m)) (sym due.event) due_both.0

    pub due_ends : (r : Result (Unit {0}) ClusterFault) (d : Cluster) → Ends (before_taking to (node.Deliver from m) (cluster_of (record v { links = l }))) e r d → Ends (cluster_of v) e r d
    due_ends r d ends = subst (λ (c : Cluster). Ends c e r d) due_both.1 ends
