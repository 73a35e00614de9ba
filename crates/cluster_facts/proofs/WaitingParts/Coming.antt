-- Who sends a message that is taken has reached the era of its receiver's table.
use Rattle.std.proofs.Common.{◌≡◌, refl, sym, ap, subst, ◌∙◌, ℕ, ◌+◌, ◌≤◌, not, Bool, true, false, List, [], ◌∷◌, Option, Some, None, is_some, option_map, arith}
use Rattle.std.specs.Prelude.{IfSome}
use Rattle.std.specs.List.{AllByRecursion}
use Rattle.pcl_base.specs.declared.event.Event.{Event}
use Rattle.pcl_base.specs.declared.event.Event.TheVariants as event
use Rattle.pcl_base.specs.declared.lock.Verdict.TheVariants as verdict
use Rattle.pcl_base.specs.declared.message.Message.{Message}
use Rattle.pcl_base.specs.declared.tx.TxId.{TxId}
use Rattle.run_rules.specs.Views.{View, since_of}
use Rattle.rule_laws.specs.LaterViews.{IsBetween}
use Rattle.rule_laws.proofs.Successors.{taken_is_between_law}
use Rattle.node_rules.specs.Judging.{judge}
use Rattle.node_rules.specs.NodeState.{NodeState, NodeEvent, first_node, start_node, number_of, table_at, partition}
use Rattle.node_rules.specs.NodeState as node
use Rattle.node_rules.specs.Words.{pick, head_of}
use Rattle.cluster_rules.specs.Clusters.{Cluster, node_at, view_of_epoch, last_view}
use Rattle.cluster_rules.specs.Links.{link_at, head_at}
use Rattle.cluster_laws.specs.Handed.{IsHanded}
use Rattle.cluster_laws.specs.Sound.{IsMember, IsCluster}
use Rattle.cluster_laws.proofs.Steps.{up_is_member_law}
use Rattle.cluster_laws.specs.Era.Counts.{is_dropped}
use Rattle.cluster_laws.specs.Era.CountLaws.{IsOfView}
use Rattle.cluster_laws.specs.Era.Eras.{era_in, era_at}
use Rattle.cluster_laws.proofs.EraParts.Ages.{eras_never_fall_law}
use Rattle.cluster_laws.proofs.EraParts.Counted.{counting_is_of_view_law}
use Rattle.cluster_laws.proofs.EraParts.Lives.{members_know_eras_law}
use Rattle.cluster_laws.specs.Link.EpochLaws.{IsInOrder}
use Rattle.cluster_facts.specs.Waiting.Reached.{HasReached}

-- ---- the message that a node takes
pub head_all : (P : Message → Type 0) (ms : List Message) (m : Message) → AllByRecursion P ms → head_of ms ≡ Some m → P m
head_all P [] m all e = absurd (cc)
head_all P (x ∷ ms) m all e = let same : x ≡ m = cc in subst P same all.0

pub delivered : (c : Cluster) (e : Event) (n : ℕ) (s : NodeState) (from : ℕ) (m : Message) → IsHanded c e n s (node.Deliver from m) → head_at c.links from n ≡ Some m
delivered c (event.Begin k) n s from m h = let bad = h.event in absurd (cc)
delivered c (event.Read t p) n s from m h = let bad = h.event in absurd (cc)
delivered c (event.Write t p place bytes) n s from m h = let bad = h.event in absurd (cc)
delivered c (event.Commit t) n s from m h = let bad = h.event in absurd (cc)
delivered c (event.Abort t) n s from m h = let bad = h.event in absurd (cc)
delivered c (event.Evict k p) n s from m h = let bad = h.event in absurd (cc)
delivered c (event.Flush k p) n s from m h = let bad = h.event in absurd (cc)
delivered c (event.Crash k) n s from m h = let bad = h.event in absurd (cc)
delivered c (event.View live owners) n s from m h = let bad = h.event in absurd (cc)
delivered c event.Reopen n s from m h = let bad = h.event in absurd (cc)
delivered c (event.Arm k call stops) n s from m h = let bad = h.event in absurd (cc)
delivered c (event.Cut k) n s from m h = let bad = h.event in absurd (cc)
delivered c (event.Install k) n s from m h = by (view_of_epoch c.views (s.epoch + 1)) h.event
  where
    by : (o : Option View) → option_map node.Install o ≡ Some (node.Deliver from m) → head_at c.links from n ≡ Some m
    by None g = absurd (cc)
    by (Some v) g = absurd (cc)
delivered c (event.Deliver a b) n s from m h = by (is_some s.view) (head_at c.links a b) refl h.event
  where
    acts : Some b ≡ Some n
    acts = h.acts

    by : (x : Bool) (o : Option Message) → head_at c.links a b ≡ o → pick x (option_map (node.Deliver a) o) None ≡ Some (node.Deliver from m) → head_at c.links from n ≡ Some m
    by false o e g = absurd (cc)
    by true None e g = absurd (cc)
    by true (Some k) e g =
        let at : b ≡ n = cc in
        let sender : a ≡ from = cc in
        let same : k ≡ m = cc in
        ap (λ (j : ℕ). head_at c.links j n) (sym sender) ∙ ap (λ (j : ℕ). head_at c.links a j) (sym at) ∙ e ∙ ap Some same

module _ (c : Cluster) (i : IsCluster c) where
  -- a node in a view is of its eras
  pub view_era : (n : ℕ) (s : NodeState) → IsMember c.config c.views n s → (q : ℕ) → era_in s.view q ≤ era_at c q s.epoch
  view_era n s member q = by s.view refl
    where
      by : (o : Option View) → s.view ≡ o → era_in o q ≤ era_at c q s.epoch
      by None e = omega arith
      by (Some v) e = subst (λ (k : ℕ). since_of v q ≤ k) (sym ((members_know_eras_law c n s v member e).eras q)) (omega arith)

  pub view_low : (n : ℕ) (s : NodeState) → IsMember c.config c.views n s → (q : ℕ) → era_in s.view q ≤ era_at c q (last_view c).epoch
  view_low n s member q =
      let here = view_era n s member q in
      let on = eras_never_fall_law c q s.epoch (last_view c).epoch i member.reached (omega arith) in
      omega (arith, here, on)

  -- ---- what comes by a message that is taken
  module _ (order : IsInOrder c) (n : ℕ) (s : NodeState) (v : View) (up : node_at c n ≡ Some s) (there : s.view ≡ Some v) (from : ℕ) (m : Message) (head : head_at c.links from n ≡ Some m) where
    of_view : (q : ℕ) → judge v (number_of s) from m.epoch q ≡ verdict.Taken → IsOfView c v n from q m.epoch
    of_view q taken =
        let between : IsBetween v (number_of s) from m.epoch q = (taken_is_between_law v (number_of s) from m.epoch q).0 taken in
        counting_is_of_view_law c n s v from q m.epoch i up there (ap (λ x. not (is_dropped x)) taken) between.reached

    pub sender_reached : (q : ℕ) → judge v (number_of s) from m.epoch q ≡ verdict.Taken → (t : TxId) → t.node ≡ from → HasReached c s.view q t
    sender_reached q taken t of =
        subst (λ (o : Option View). HasReached c o q t) (sym there)
        (subst (λ (k : ℕ). IfSome (node_at c k) (λ (r : NodeState). since_of v q ≤ era_at c q r.epoch)) (sym of) (by (node_at c from) refl (order.behind from n)))
      where
        by : (o : Option NodeState) → node_at c from ≡ o → IfSome o (λ (r : NodeState). AllByRecursion (λ (x : Message). x.epoch ≤ r.epoch) (link_at c.links from n))
            → IfSome o (λ (r : NodeState). since_of v q ≤ era_at c q r.epoch)
        by None e behind = tt
        by (Some r) e behind =
            let low : m.epoch ≤ r.epoch = head_all (λ (x : Message). x.epoch ≤ r.epoch) (link_at c.links from n) m behind head in
            let on = eras_never_fall_law c q m.epoch r.epoch i low (up_is_member_law c from r i e).1.reached in
            subst (λ (k : ℕ). k ≤ era_at c q r.epoch) (of_view q taken).era on
