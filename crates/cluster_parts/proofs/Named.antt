-- The nodes that an event names: one that isn't there or is down refuses it.
use Rattle.std.proofs.Common.{◌≡◌, refl, ap, ◌∙◌, ℕ, ◌≤◌, ◌||◌, not, nat_le, Bool, true, false, List, [], ◌∷◌, Option, Some, None, is_some, arith}
use Rattle.std.specs.List.{list_any}
use Rattle.std.proofs.lemmas.Bool.Decides.{nat_tests}
use Rattle.pcl_base.specs.declared.event.Event.{Event}
use Rattle.pcl_base.specs.declared.event.Event.TheVariants as event
use Rattle.pcl_base.specs.declared.reply.Reason.{Reason}
use Rattle.pcl_base.specs.declared.reply.Reason.TheVariants as reason
use Rattle.node_rules.specs.Words.{pick, head_of}
use Rattle.node_rules.specs.NodeState.{NodeState, NodeEvent}
use Rattle.cluster_rules.specs.Clusters.{Cluster, node_at}
use Rattle.cluster_rules.specs.ClusterStep.{refuse, do_event, named, if_up, if_known, step}
use Rattle.cluster_laws.specs.Handed.{IsHanded}
use Rattle.cluster_parts.specs.Events.{IsPlain, absent_at}

-- a step on an event of nodes begins with the nodes that it names
begins : (c : Cluster) (e : Event) (m n : ℕ) (ms ns : List ℕ) → m ∷ ms ≡ n ∷ ns → if_known (not (list_any (nat_le c.config.nodes) (m ∷ ms))) e m c ≡ if_known (not (list_any (nat_le c.config.nodes) (n ∷ ns))) e n c
begins c e m n ms ns names =
    let first : m ≡ n = cc in
    let rest : ms ≡ ns = cc in
    ap (λ (k : ℕ). if_known (not (list_any (nat_le c.config.nodes) (k ∷ ms))) e k c) first ∙ ap (λ (ks : List ℕ). if_known (not (list_any (nat_le c.config.nodes) (n ∷ ks))) e n c) rest

pub known_step : (c : Cluster) (e : Event) (n : ℕ) (ns : List ℕ) → named e ≡ n ∷ ns → step c e ≡ if_known (not (list_any (nat_le c.config.nodes) (n ∷ ns))) e n c
unfolding step
known_step c (event.Begin m) n ns names = begins c (event.Begin m) m n [] ns names
known_step c (event.Read t p) n ns names = begins c (event.Read t p) t.node n [] ns names
known_step c (event.Write t p place bytes) n ns names = begins c (event.Write t p place bytes) t.node n [] ns names
known_step c (event.Commit t) n ns names = begins c (event.Commit t) t.node n [] ns names
known_step c (event.Abort t) n ns names = begins c (event.Abort t) t.node n [] ns names
known_step c (event.Deliver from to) n ns names = begins c (event.Deliver from to) to n (from ∷ []) ns names
known_step c (event.Evict m p) n ns names = begins c (event.Evict m p) m n [] ns names
known_step c (event.Flush m p) n ns names = begins c (event.Flush m p) m n [] ns names
known_step c (event.Crash m) n ns names = begins c (event.Crash m) m n [] ns names
known_step c (event.View live owners) n ns names = absurd (cc)
known_step c (event.Install m) n ns names = begins c (event.Install m) m n [] ns names
known_step c event.Reopen n ns names = absurd (cc)
known_step c (event.Arm m call kept) n ns names = begins c (event.Arm m call kept) m n [] ns names
known_step c (event.Cut m) n ns names = begins c (event.Cut m) m n [] ns names

-- a node that can't act refuses the event
pub absent_refused : (c : Cluster) (e : Event) (n : ℕ) (ns : List ℕ) (r : Reason) → named e ≡ n ∷ ns → list_any (nat_le c.config.nodes) ns ≡ false → absent_at c n ≡ Some r → step c e ≡ refuse e r c
absent_refused c e n ns r names others absent =
    known_step c e n ns names ∙ by (nat_le c.config.nodes n) (list_any (nat_le c.config.nodes) ns) (node_at c n) others refl absent
  where
    by : (a b : Bool) (o : Option NodeState) → b ≡ false → node_at c n ≡ o → pick a (Some reason.NoNode) (pick (is_some o) None (Some reason.Down)) ≡ Some r → if_known (not (a || b)) e n c ≡ refuse e r c
    by true b o f at g = let same : reason.NoNode ≡ r = cc in ap (λ (x : Reason). refuse e x c) same
    by false true o f at g = absurd (cc)
    by false false (Some s) f at g = absurd (cc)
    by false false None f at g =
        let same : reason.Down ≡ r = cc in
        ap (λ (o : Option NodeState). if_up e o c) at ∙ ap (λ (x : Reason). refuse e x c) same

-- an event that names another node that isn't there
pub unknown_refused : (c : Cluster) (e : Event) (n m : ℕ) → named e ≡ n ∷ m ∷ [] → c.config.nodes ≤ m → step c e ≡ refuse e reason.NoNode c
unknown_refused c e n m names high =
    known_step c e n (m ∷ []) names ∙ by (nat_le c.config.nodes n) (nat_le c.config.nodes m) (grind (arith, nat_tests))
  where
    by : (a b : Bool) → b ≡ true → if_known (not (a || (b || false))) e n c ≡ refuse e reason.NoNode c
    by true b f = refl
    by false true f = refl
    by false false f = absurd (cc)

-- a node that can act
pub record IsPresent (c : Cluster) (n : ℕ) : Type 0 where
  pub state : NodeState
  pub up : node_at c n ≡ Some state
  pub low : nat_le c.config.nodes n ≡ false

pub present : (c : Cluster) (n : ℕ) → absent_at c n ≡ None → IsPresent c n
present c n absent = by (nat_le c.config.nodes n) (node_at c n) refl refl absent
  where
    by : (a : Bool) (o : Option NodeState) → nat_le c.config.nodes n ≡ a → node_at c n ≡ o → pick a (Some reason.NoNode) (pick (is_some o) None (Some reason.Down)) ≡ None → IsPresent c n
    by true o low at g = absurd (cc)
    by false None low at g = absurd (cc)
    by false (Some s) low at g = record { state = s; up = at; low = low }

none_else : (a b : Bool) → a ≡ false → b ≡ false → a || b ≡ false
none_else false b e f = f
none_else true b e f = absurd (cc)

pub all_known : (c : Cluster) (n : ℕ) (ns : List ℕ) → IsPresent c n → list_any (nat_le c.config.nodes) ns ≡ false → list_any (nat_le c.config.nodes) (n ∷ ns) ≡ false
all_known c n ns is others = none_else (nat_le c.config.nodes n) (list_any (nat_le c.config.nodes) ns) is.low others

-- an event of a node that can act
pub present_step : (c : Cluster) (e : Event) (n : ℕ) (ns : List ℕ) → named e ≡ n ∷ ns → (is : IsPresent c n) → list_any (nat_le c.config.nodes) ns ≡ false → step c e ≡ do_event e is.state c
present_step c e n ns names is others =
    known_step c e n ns names
    ∙ ap (λ (b : Bool). if_known (not b) e n c) (all_known c n ns is others)
    ∙ ap (λ (o : Option NodeState). if_up e o c) is.up

pub plain_handed : (c : Cluster) (e : Event) (n : ℕ) (ev : NodeEvent) → IsPlain e n ev → (is : IsPresent c n) → IsHanded c e n is.state ev
plain_handed c e n ev plain is =
    record {
      known = ap (list_any (nat_le c.config.nodes)) plain.named ∙ all_known c n [] is refl;
      acts = ap head_of plain.named;
      up = is.up;
      event = plain.handed c is.state;
    }
