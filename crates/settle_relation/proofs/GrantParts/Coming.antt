-- No second right of the era that serves is on its way to a node that takes one.
use Rattle.std.proofs.Common.{◌≡◌, refl, ap, sym, subst, ◌∙◌, ℕ, ◌==◌, ◌&&◌, cond, Bool, true, false, List, [], ◌∷◌, length, eqb-true, arith}
use Rattle.std.specs.List.{AllByRecursion, filter}
use Rattle.std.proofs.lemmas.Bool.Decides.{nat_tests}
use Rattle.pcl_base.specs.declared.event.Event.{Event}
use Rattle.pcl_base.specs.declared.message.Body.{Body}
use Rattle.pcl_base.specs.declared.message.Body.TheVariants as body
use Rattle.pcl_base.specs.declared.message.Message.{Message}
use Rattle.run_rules.specs.Views.{owner_of}
use Rattle.node_rules.specs.NodeState.{NodeState, Deliver, partition}
use Rattle.node_rules.specs.Words.{pick}
use Rattle.cluster_rules.specs.Clusters.{Cluster, node_at}
use Rattle.cluster_rules.specs.Links.{link_at, tail_of}
use Rattle.cluster_laws.specs.Handed.{IsHanded}
use Rattle.cluster_laws.specs.Sound.{IsCluster}
use Rattle.cluster_laws.specs.Era.Eras.{era_at, owner_at}
use Rattle.cluster_laws.specs.Era.Counts.{counts_in}
use Rattle.cluster_laws.proofs.EraParts.Ages.{eras_have_one_owner_law, owner_is}
use Rattle.cluster_laws.specs.Link.Coming.{coming, delivers, is_coming, speaks_of}
use Rattle.cluster_laws.specs.Link.Orders.{how_many}
use Rattle.page_protocol.specs.State.{Page}
use Rattle.page_relation.specs.Messages.{is_right}
use Rattle.page_relation.specs.Together.{IsParty, PartiesAre}
use Rattle.page_relation.specs.Work.Landing.{land}
use Rattle.page_relation.specs.Work.StepEnds.{start_of}
use Rattle.page_relation.specs.Work.Taken.{TakenSays, taken_of}
use Rattle.page_relation.proofs.WorkParts.Comings.{coming_same}
use Rattle.page_relation.proofs.WorkParts.Framing.{standing_self}
use Rattle.page_relation.proofs.WorkParts.Started.{acting, at_head, begun_coming, deliver_is}
use Rattle.settle_relation.proofs.GrantParts.Holding.{NoRightNow}

-- what holds of those that pass a test
some_of : (P : Message → Type 0) (f : Message → Bool) → (ms : List Message) → AllByRecursion (λ m. f m ≡ true → P m) ms → AllByRecursion P (filter f ms)
some_of P f [] all = tt
some_of P f (m ∷ ms) all = by (f m) refl (some_of P f ms all.1)
  where
    by : (b : Bool) → f m ≡ b → AllByRecursion P (filter f ms) → AllByRecursion P (cond b (m ∷ filter f ms) (filter f ms))
    by true is rest = (all.0 is, rest)
    by false is rest = rest

all_but_head : (P : Message → Type 0) (ms : List Message) → AllByRecursion P ms → AllByRecursion P (tail_of ms)
all_but_head P [] all = tt
all_but_head P (m ∷ ms) all = all.1

each_weaker : (P Q : Message → Type 0) → ((m : Message) → P m → Q m) → (ms : List Message) → AllByRecursion P ms → AllByRecursion Q ms
each_weaker P Q f [] all = tt
each_weaker P Q f (m ∷ ms) all = (f m all.0, each_weaker P Q f ms all.1)

-- none of a kind
none_of_kind : (kind : Body → Bool) (ms : List Message) → how_many kind ms ≡ 0 → AllByRecursion (λ (m : Message). kind m.body ≡ false) ms
none_of_kind kind [] none = tt
none_of_kind kind (m ∷ ms) none = by (kind m.body) refl none (λ zero. none_of_kind kind ms zero)
  where
    by : (b : Bool) → kind m.body ≡ b → length (cond b (m ∷ filter (λ (k : Message). kind k.body) ms) (filter (λ (k : Message). kind k.body) ms)) ≡ 0
        → (how_many kind ms ≡ 0 → AllByRecursion (λ (m : Message). kind m.body ≡ false) ms) → AllByRecursion (λ (m : Message). kind m.body ≡ false) (m ∷ ms)
    by true is zero rest = absurd (omega (arith, zero))
    by false is zero rest = (is, rest zero)

left_of_both : (a b : Bool) → (a && b) ≡ true → a ≡ true
left_of_both true b e = refl
left_of_both false b e = absurd (cc)

-- a grant comes from the owner of its era
from_owner : (c : Cluster) (p b n : ℕ) (m : Message) → IsParty c b n m → speaks_of c.config p m.body ≡ true → is_right m.body ≡ true → owner_at c (partition c.config p) m.epoch ≡ b
from_owner c p b n m party speaks right = by m.body speaks right party.parties
  where
    by : (k : Body) → speaks_of c.config p k ≡ true → is_right k ≡ true → PartiesAre c party.view b n m.epoch k → owner_at c (partition c.config p) m.epoch ≡ b
    by (body.Request r) s k are = absurd (cc)
    by (body.Grant g) s k are =
        owner_is c m.epoch party.view party.made (partition c.config p) ∙ ap (λ (q : ℕ). owner_of party.view (partition c.config q)) (sym (eqb-true g.page p s)) ∙ are.0
    by (body.Release r) s k are = absurd (cc)
    by (body.Revoke page) s k are = absurd (cc)
    by (body.Return r) s k are = absurd (cc)
    by (body.Report r) s k are = absurd (cc)

module _ (c : Cluster) (e : Event) (n p from : ℕ) (s : NodeState) (m : Message) (a : Page) (i : IsCluster c) (h : IsHanded c e n s (Deliver from m))
    (parties : (b : ℕ) → AllByRecursion (IsParty c b n) (link_at c.links b n)) (said : TakenSays c e n p a s from m) (speaks : speaks_of c.config p m.body ≡ true)
    (right : is_right m.body ≡ true) (now : era_at c (partition c.config p) m.epoch ≡ a.era) where
  -- the owner of the era that serves is the sender
  sender : owner_at c (partition c.config p) m.epoch ≡ from
  sender = from_owner c p from n m party speaks right
    where
      party : IsParty c from n m
      party =
          (subst (AllByRecursion (IsParty c from n)) (at_head m (link_at c.links from n) (deliver_is c e n s from m h.acts h.event).1) (parties from)).0

  -- who sends a right of this era is that sender
  one_sender : (b : ℕ) (k : Message) → IsParty c b n k → speaks_of c.config p k.body ≡ true → is_right k.body ≡ true → era_at c (partition c.config p) k.epoch ≡ a.era → b ≡ from
  one_sender b k party speaks right era =
      sym (from_owner c p b n k party speaks right) ∙ eras_have_one_owner_law c (partition c.config p) k.epoch m.epoch i (era ∙ sym now) ∙ sender

  -- what comes from a node comes from the link before the step
  landed_all : (P : Message → Type 0) (b : ℕ) → AllByRecursion (λ k. is_coming c.config p b (node_at c n) k ≡ true → P k) (link_at c.links b n)
      → AllByRecursion P (coming (land c e n (taken_of c s)) p b n)
  landed_all P b all =
      subst (AllByRecursion P)
      (sym (coming_same c e n p (acting c e n s (Deliver from m) i h) (start_of c s) (taken_of c s) (standing_self s) refl (λ k. refl) b n
      ∙ begun_coming c e n p s (Deliver from m) i h [] b n))
      (by (delivers e b n && true))
    where
      by : (t : Bool) → AllByRecursion P (filter (is_coming c.config p b (node_at c n)) (pick t (tail_of (link_at c.links b n)) (link_at c.links b n)))
      by true = some_of P (is_coming c.config p b (node_at c n)) (tail_of (link_at c.links b n)) (all_but_head (λ k. is_coming c.config p b (node_at c n) k ≡ true → P k) (link_at c.links b n) all)
      by false = some_of P (is_coming c.config p b (node_at c n)) (link_at c.links b n) all

  pub no_right_comes : (b : ℕ) → AllByRecursion (NoRightNow c (partition c.config p) a.era) (coming (land c e n (taken_of c s)) p b n)
  no_right_comes b = by (b == from) refl
    where
      by : (t : Bool) → (b == from) ≡ t → AllByRecursion (NoRightNow c (partition c.config p) a.era) (coming (land c e n (taken_of c s)) p b n)
      by true same =
          subst (λ (x : ℕ). AllByRecursion (NoRightNow c (partition c.config p) a.era) (coming (land c e n (taken_of c s)) p x n)) (sym (eqb-true b from same))
          (each_weaker (λ (k : Message). is_right k.body ≡ false) (NoRightNow c (partition c.config p) a.era) (λ k no yes era. let bad : true ≡ false = sym yes ∙ no in cc)
          (coming (land c e n (taken_of c s)) p from n)
          (none_of_kind is_right (coming (land c e n (taken_of c s)) p from n) ((said.head speaks).no_right right)))
      by false other =
          landed_all (NoRightNow c (partition c.config p) a.era) b
          (each_weaker (IsParty c b n) (λ k. is_coming c.config p b (node_at c n) k ≡ true → NoRightNow c (partition c.config p) a.era k)
          (λ k party comes yes era.
          let same : b ≡ from = one_sender b k party (left_of_both (speaks_of c.config p k.body) (counts_in (node_at c n) b (partition c.config p) k.epoch) comes) yes era in
          let bad : (b == from) ≡ true = grind (arith, nat_tests, same) in
          cc)
          (link_at c.links b n) (parties b))
