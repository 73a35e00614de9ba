-- What is known of the messages of a page that are on their way while its partition wasn't worked off.
use Rattle.std.proofs.Common.{◌≡◌, refl, ap, sym, subst, ◌∙◌, ℕ, ◌≤◌, ◌==◌, ◌&&◌, cond, Bool, true, false, List, [], ◌∷◌, ◌++◌, Option, Some, eqb-true, arith}
use Rattle.std.specs.Prelude.{IfSome}
use Rattle.std.specs.List.{AllByRecursion, filter}
use Rattle.std.proofs.lemmas.Bool.Decides.{nat_tests}
use Rattle.pcl_base.specs.declared.event.Event.{Event}
use Rattle.pcl_base.specs.declared.message.Message.{Message}
use Rattle.rule_laws.proofs.Turns.{and_left}
use Rattle.node_rules.specs.NodeState.{NodeState, Outgoing, partition}
use Rattle.node_rules.specs.Words.{pick}
use Rattle.node_rules.specs.Work.{Work}
use Rattle.node_laws.proofs.Lists.{all_append, all_weaker, all_each}
use Rattle.cluster_rules.specs.Clusters.{Cluster, node_at, is_up}
use Rattle.cluster_rules.specs.ClusterStep.{is_taken}
use Rattle.cluster_rules.specs.Links.{link_at, tail_of}
use Rattle.cluster_laws.specs.Era.Counts.{counts_in}
use Rattle.cluster_laws.specs.Link.Coming.{speaks_of, is_coming, coming, sent_to, delivers}
use Rattle.cluster_laws.specs.Link.EpochLaws.{IsInOrder}
use Rattle.page_relation.specs.Together.{IsParty}
use Rattle.page_relation.specs.Work.Landing.{land, Acts}
use Rattle.page_relation.proofs.WorkParts.Comings.{landed_coming}
use Rattle.kept_relation.proofs.TurnParts.Narrowing.{all_weaker_both}

-- its parties, and that one of the acting node is of no later epoch than the node's before the step
pub record OnWay (c : Cluster) (n : ℕ) (s : NodeState) (from to : ℕ) (m : Message) : Type 0 where
  pub party : IsParty c from to m
  pub behind : from ≡ n → m.epoch ≤ s.epoch

-- no message of the page was sent yet
abbrev pub NoneSent : Cluster → ℕ → List Outgoing → Type 0
NoneSent c p os = AllByRecursion (λ (o : Outgoing). speaks_of c.config p o.message.body ≡ false) os

all_passing : {X : Type 0} (P Q : X → Type 0) (test : X → Bool) → ((x : X) → P x → test x ≡ true → Q x) → (xs : List X) → AllByRecursion P xs → AllByRecursion Q (filter test xs)
all_passing P Q test f [] all = tt
all_passing P Q test f (x ∷ xs) all = by (test x) refl (all_passing P Q test f xs all.1)
  where
    by : (b : Bool) → test x ≡ b → AllByRecursion Q (filter test xs) → AllByRecursion Q (cond b (x ∷ filter test xs) (filter test xs))
    by true e rest = (f x all.0 e, rest)
    by false e rest = rest

all_tail : (P : Message → Type 0) (ms : List Message) → AllByRecursion P ms → AllByRecursion P (tail_of ms)
all_tail P [] all = tt
all_tail P (m ∷ ms) all = all.1

module _ (c : Cluster) (e : Event) (n p : ℕ) (s : NodeState) (acts : Acts c n) (up : node_at c n ≡ Some s) (order : IsInOrder c) (parties : (x y : ℕ) → AllByRecursion (IsParty c x y) (link_at c.links x y)) where
  behind_on : (from to : ℕ) → AllByRecursion (λ (m : Message). from ≡ n → m.epoch ≤ s.epoch) (link_at c.links from to)
  behind_on from to = by (from == n) refl
    where
      by : (b : Bool) → (from == n) ≡ b → AllByRecursion (λ (m : Message). from ≡ n → m.epoch ≤ s.epoch) (link_at c.links from to)
      by true same =
          let is : from ≡ n = eqb-true from n same in
          all_weaker (λ (m : Message). m.epoch ≤ s.epoch) (λ (m : Message). from ≡ n → m.epoch ≤ s.epoch) (λ m le at. le) (link_at c.links from to)
          (subst (λ (o : Option NodeState). IfSome o (λ k. AllByRecursion (λ (m : Message). m.epoch ≤ k.epoch) (link_at c.links from to))) (ap (node_at c) is ∙ up) (order.behind from to))
      by false other =
          all_each (λ (m : Message). from ≡ n → m.epoch ≤ s.epoch) (λ m at. absurd (grind (arith, nat_tests, other, at))) (link_at c.links from to)

  on_link : (from to : ℕ) → AllByRecursion (OnWay c n s from to) (link_at c.links from to)
  on_link from to =
      all_weaker_both (IsParty c from to) (λ (m : Message). from ≡ n → m.epoch ≤ s.epoch) (OnWay c n s from to) (λ m party behind. record { party = party; behind = behind })
      (link_at c.links from to) (parties from to) (behind_on from to)

  sent_none : (from to : ℕ) (os : List Outgoing) → NoneSent c p os → AllByRecursion (λ (m : Message). speaks_of c.config p m.body ≡ true → OnWay c n s from to m) (sent_to to os)
  unfolding sent_to
  sent_none from to [] none = tt
  sent_none from to (o ∷ os) none = by (o.to == to) (sent_none from to os none.1)
    where
      by : (b : Bool) → AllByRecursion (λ (m : Message). speaks_of c.config p m.body ≡ true → OnWay c n s from to m) (sent_to to os)
          → AllByRecursion (λ (m : Message). speaks_of c.config p m.body ≡ true → OnWay c n s from to m) (pick b (o.message ∷ sent_to to os) (sent_to to os))
      by true rest = ((λ speaks. (let bad : false ≡ true = sym none.0 ∙ speaks in absurd (cc))), rest)
      by false rest = rest

  pub known_coming : (w : Work) → NoneSent c p w.sends → (from to : ℕ) → AllByRecursion (OnWay c n s from to) (coming (land c e n w) p from to)
  known_coming w none from to =
      subst (AllByRecursion (OnWay c n s from to)) (sym (landed_coming c e n p w from to acts))
      (all_passing Speaks (OnWay c n s from to) (is_coming c.config p from (node_at (land c e n w) to))
      (λ m known test. known (and_left (speaks_of c.config p m.body) (counts_in (node_at (land c e n w) to) from (partition c.config p) m.epoch) test))
      (stands ++ out) (all_append Speaks stands out (standing (delivers e from to && is_taken w.replies)) (going (from == n && is_up c to))))
    where
      Speaks : Message → Type 0
      Speaks m = speaks_of c.config p m.body ≡ true → OnWay c n s from to m

      stands : List Message
      stands = pick (delivers e from to && is_taken w.replies) (tail_of (link_at c.links from to)) (link_at c.links from to)

      out : List Message
      out = pick (from == n && is_up c to) (sent_to to w.sends) []

      whole : AllByRecursion Speaks (link_at c.links from to)
      whole = all_weaker (OnWay c n s from to) Speaks (λ m known speaks. known) (link_at c.links from to) (on_link from to)

      standing : (b : Bool) → AllByRecursion Speaks (pick b (tail_of (link_at c.links from to)) (link_at c.links from to))
      standing true = all_tail Speaks (link_at c.links from to) whole
      standing false = whole

      going : (b : Bool) → AllByRecursion Speaks (pick b (sent_to to w.sends) [])
      going true = sent_none from to w.sends none
      going false = tt
