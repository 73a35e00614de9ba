-- The head of a link that is delivered.
use Rattle.std.proofs.Common.{◌≡◌, ◌≢◌, refl, ap, sym, ◌∙◌, ℕ, ◌==◌, ◌&&◌, Bool, true, false, Option, Some, None, is_some, option_map, eqb-true}
use Rattle.pcl_base.specs.declared.event.Event.{Event}
use Rattle.pcl_base.specs.declared.event.Event.TheVariants as event
use Rattle.pcl_base.specs.declared.message.Message.{Message}
use Rattle.node_rules.specs.Words.{pick, head_of}
use Rattle.node_rules.specs.NodeState.{NodeState, NodeEvent}
use Rattle.node_rules.specs.NodeState as node
use Rattle.cluster_rules.specs.Clusters.{Cluster, last_view}
use Rattle.cluster_rules.specs.ClusterStep.{named}
use Rattle.cluster_rules.specs.Links.{head_at}
use Rattle.cluster_laws.specs.Handed.{IsHanded, handed_to}
use Rattle.cluster_laws.specs.Sound.{IsCluster}
use Rattle.cluster_laws.proofs.Linked.{head_on}
use Rattle.cluster_laws.specs.Link.Coming.{delivers}

-- what is delivered
pub delivers_is : (e : Event) (a b : ℕ) → delivers e a b ≡ true → e ≡ event.Deliver a b
delivers_is (event.Deliver from to) a b t = by (a == from) (b == to) refl refl t
  where
    by : (x y : Bool) → (a == from) ≡ x → (b == to) ≡ y → x && y ≡ true → event.Deliver from to ≡ event.Deliver a b
    by true true p q t = ap (λ (k : ℕ). event.Deliver k to) (sym (eqb-true a from p)) ∙ ap (event.Deliver a) (sym (eqb-true b to q))
    by true false p q t = absurd (cc)
    by false y p q t = absurd (cc)
delivers_is (event.Begin n) a b t = absurd (cc)
delivers_is (event.Read x p) a b t = absurd (cc)
delivers_is (event.Write x p place bytes) a b t = absurd (cc)
delivers_is (event.Commit x) a b t = absurd (cc)
delivers_is (event.Abort x) a b t = absurd (cc)
delivers_is (event.Evict n p) a b t = absurd (cc)
delivers_is (event.Flush n p) a b t = absurd (cc)
delivers_is (event.Crash n) a b t = absurd (cc)
delivers_is (event.View live owners) a b t = absurd (cc)
delivers_is (event.Install n) a b t = absurd (cc)
delivers_is event.Reopen a b t = absurd (cc)
delivers_is (event.Arm n call stops) a b t = absurd (cc)
delivers_is (event.Cut n) a b t = absurd (cc)

-- the message that is handed to a node
pub record IsHead (c : Cluster) (a b : ℕ) (ev : NodeEvent) : Type 0 where
  pub message : Message
  pub first : head_at c.links a b ≡ Some message
  pub event : ev ≡ node.Deliver a message
  pub others : a ≢ b

head_of_handed : (c : Cluster) (a b : ℕ) (ev : NodeEvent) → IsCluster c → (v : Bool) (o : Option Message) → head_at c.links a b ≡ o → pick v (option_map (node.Deliver a) o) None ≡ Some ev → IsHead c a b ev
head_of_handed c a b ev i false o h e = absurd (cc)
head_of_handed c a b ev i true None h e = absurd (cc)
head_of_handed c a b ev i true (Some m) h e =
    record {
      message = m;
      first = h;
      event = (let same : node.Deliver a m ≡ ev = cc in sym same);
      others = (head_on c.config (last_view c).epoch c.links a b m i.links h).others;
    }

pub handed_head : (c : Cluster) (e : Event) (a b n : ℕ) (s : NodeState) (ev : NodeEvent) → IsCluster c → e ≡ event.Deliver a b → IsHanded c e n s ev → IsHead c a b ev × (n ≡ b)
handed_head c e a b n s ev i is h =
    let acts : Some b ≡ Some n = sym (ap (λ (x : Event). head_of (named x)) is) ∙ h.acts in
    let same : b ≡ n = cc in
    (head_of_handed c a b ev i (is_some s.view) (head_at c.links a b) refl (sym (ap (handed_to c s) is) ∙ h.event), sym same)
