-- That nothing else tells the end of a transaction: where its release is taken, and at the start of its own end.
use Rattle.std.proofs.Common.{◌≡◌, ◌≢◌, refl, ap, sym, subst, ◌∙◌, ℕ, ◌==◌, ◌&&◌, not, cond, Bool, true, false, List, [], ◌∷◌, Option, arith, eqb-true}
use Rattle.std.specs.List.{AllByRecursion, filter}
use Rattle.std.proofs.lemmas.Bool.Decides.{nat_tests}
use Rattle.pcl_base.specs.Limits.{Sizes}
use Rattle.pcl_base.specs.declared.event.Event.{Event}
use Rattle.pcl_base.specs.declared.event.Event.TheVariants as event
use Rattle.pcl_base.specs.declared.lock.Verdict.{Verdict}
use Rattle.pcl_base.specs.declared.lock.Verdict.TheVariants as verdict
use Rattle.pcl_base.specs.declared.message.Body.{Body}
use Rattle.pcl_base.specs.declared.message.Body.TheVariants as body
use Rattle.pcl_base.specs.declared.message.Message.{Message}
use Rattle.pcl_base.specs.declared.message.Release.{Release}
use Rattle.pcl_base.specs.declared.reply.Reply.{Reply}
use Rattle.pcl_base.specs.declared.reply.Reply.TheVariants as reply
use Rattle.pcl_base.specs.declared.tx.TxId.{TxId}
use Rattle.run_rules.specs.Views.{View}
use Rattle.node_rules.specs.Judging.{judge}
use Rattle.node_rules.specs.NodeState.{NodeState, NodeEvent, Deliver, number_of, partition}
use Rattle.node_rules.specs.NodeStep.{judge_in, partition_of}
use Rattle.node_rules.specs.Words.{pick}
use Rattle.node_rules.specs.Work.{Work}
use Rattle.home_laws.proofs.Tests.{number_same, tx_same, tx_equal}
use Rattle.node_laws.proofs.Lists.{all_weaker}
use Rattle.cluster_rules.specs.Clusters.{Cluster, node_at, last_view, version_of_change}
use Rattle.cluster_rules.specs.Links.{link_at, tail_of}
use Rattle.cluster_laws.specs.Handed.{IsHanded}
use Rattle.cluster_laws.specs.Sound.{IsMember, IsCluster, IsOnLink}
use Rattle.cluster_laws.proofs.Steps.{up_is_member_law}
use Rattle.cluster_laws.specs.Era.Counts.{is_dropped, counts_at, counts_in}
use Rattle.cluster_laws.specs.Era.Eras.{era_at, owner_at, era_in}
use Rattle.cluster_laws.proofs.EraParts.Ages.{eras_are_reached_law}
use Rattle.cluster_laws.specs.Link.Coming.{speaks_of, is_coming, coming, delivers}
use Rattle.cluster_laws.specs.Link.Orders.{AreOrdered, is_report, how_many}
use Rattle.page_protocol.specs.State.{Ended, Page}
use Rattle.page_relation.specs.Messages.{ChangeHas, SaysSo, is_release}
use Rattle.page_relation.specs.Relation.{LinksAre, MessageIs, IsPageOf}
use Rattle.page_relation.specs.Together.{IsParty}
use Rattle.page_relation.specs.Work.Landing.{land, Acts}
use Rattle.page_relation.specs.Work.StepEnds.{start_of}
use Rattle.page_relation.specs.Work.Taken.{taken_of, TakenSays}
use Rattle.page_relation.specs.Work.Unseen.{IsUnseen}
use Rattle.page_relation.proofs.WorkParts.Comings.{coming_same}
use Rattle.page_relation.proofs.WorkParts.Started.{at_head, begun_coming, deliver_is}
use Rattle.end_relation.specs.Release.Owing.{IsUntold}
use Rattle.end_relation.proofs.ReleaseParts.Owners.{IsOwner}
use Rattle.end_relation.proofs.ReleaseParts.Senders.{IsAbove, Speaks, none_many, release_era, release_goes, report_goes, reports_above, same_owner, start_parties, two_all}

-- it stays through what isn't seen of the page
pub untold_kept : (c : Cluster) (e : Event) (n p : ℕ) (t : TxId) (w x : Work) (a : Page) → Acts c n → IsUnseen c e n p w x → IsUntold c e n p t w a → IsUntold c e n p t x a
untold_kept c e n p t w x a acts same is =
    record {
      unreleased = λ k l. ap (how_many (is_release t)) (coming_same c e n p acts w x same.standing same.taken same.sends k l) ∙ is.unreleased k l;
      unreported = λ k l.
          subst (AllByRecursion (λ (m : Message). is_report m.body ≡ true → k ≡ t.node → era_at c (partition c.config p) m.epoch ≢ a.reached n))
          (sym (coming_same c e n p acts w x same.standing same.taken same.sends k l)) (is.unreported k l);
    }

-- a transaction that hasn't ended has no release that counts
says_ended : (a : Page) (p x y e : ℕ) (t : TxId) (b : Body) → ((v : Option ℕ) (f : ℕ) → a.home t ≢ Ended v f) → SaysSo a.era a.hist a.reached a.listed a.right a.home a.sent p x y e b → is_release t b ≡ false
says_ended a p x y e t (body.Release r) none says = by (is_release t (body.Release r)) refl
  where
    by : (b : Bool) → is_release t (body.Release r) ≡ b → b ≡ false
    by true kind = absurd (none (version_of_change r.change) e (sym (ap a.home (tx_equal r.tx t kind)) ∙ says.0))
    by false kind = refl
says_ended a p x y e t (body.Request r) none says = refl
says_ended a p x y e t (body.Grant g) none says = refl
says_ended a p x y e t (body.Revoke page) none says = refl
says_ended a p x y e t (body.Return r) none says = refl
says_ended a p x y e t (body.Report r) none says = refl

pub open_is_unreleased : (d : Cluster) (p q : ℕ) (a : Page) (t : TxId) → LinksAre d p q a → ((v : Option ℕ) (f : ℕ) → a.home t ≢ Ended v f) → (x y : ℕ) → how_many (is_release t) (coming d p x y) ≡ 0
open_is_unreleased d p q a t is none x y =
    none_many (is_release t) (coming d p x y)
    (all_weaker (MessageIs d p q a x y) (λ (m : Message). is_release t m.body ≡ false) (λ m says. says_ended a p x y (era_at d q m.epoch) t m.body none says) (coming d p x y) (is.say x y))

-- no report of a node goes to itself, and so none of an era of its own
pub own_is_unreported : (c : Cluster) (e : Event) (n p : ℕ) (s : NodeState) (ev : NodeEvent) (i : IsCluster c) (h : IsHanded c e n s ev) (rs : List Reply) (a : Page) (t : TxId)
    → ((x y : ℕ) → AllByRecursion (IsParty c x y) (link_at c.links x y)) → IsOwner c (partition c.config p) n s → a.reached n ≡ era_in s.view (partition c.config p) → t.node ≡ n → (x y : ℕ)
    → AllByRecursion (λ (m : Message). is_report m.body ≡ true → x ≡ t.node → era_at c (partition c.config p) m.epoch ≢ a.reached n) (coming (land c e n (record (start_of c s) { replies = rs })) p x y)
own_is_unreported c e n p s ev i h rs a t parties owner reached mine x y =
    all_weaker (λ (m : Message). Speaks c p m × (IsParty c x y m × IsOnLink c.config (last_view c).epoch x y m))
    (λ (m : Message). is_report m.body ≡ true → x ≡ t.node → era_at c (partition c.config p) m.epoch ≢ a.reached n)
    (λ m known report at same.
    let goes = report_goes c p i x y m report known.0 known.1.0 in
    let to : y ≡ n = same_owner c p i y n m.epoch s.epoch (same ∙ reached ∙ sym owner.era_there) goes.0 owner.owner_there in
    known.1.1.others (at ∙ mine ∙ sym to))
    (coming (land c e n (record (start_of c s) { replies = rs })) p x y)
    (start_parties c e n p s ev i h rs (λ (m : Message). IsParty c x y m × IsOnLink c.config (last_view c).epoch x y m) x y
    (two_all (IsParty c x y) (IsOnLink c.config (last_view c).epoch x y) (λ (m : Message). IsParty c x y m × IsOnLink c.config (last_view c).epoch x y m) (λ m party on. (party, on))
    (link_at c.links x y) (parties x y) (i.links.messages x y)))

-- what messages say once a release is taken
said_start : (c : Cluster) (e : Event) (n p q : ℕ) (w : Work) (a : Page) (x y : ℕ) (ms : List Message)
    → AllByRecursion (MessageIs (land c e n w) p q a x y) ms → AllByRecursion (MessageIs c p q a x y) ms
unfolding land era_at
said_start c e n p q w a x y ms all = all

links_at : (c : Cluster) (e : Event) (n p : ℕ) (w : Work) (a : Page) → IsPageOf (land c e n w) p a → LinksAre (land c e n w) p (partition c.config p) a
unfolding land
links_at c e n p w a is = is.links

module _ (c : Cluster) (e : Event) (n p from : ℕ) (s : NodeState) (m : Message) (r : Release) (a : Page) (i : IsCluster c) (h : IsHanded c e n s (Deliver from m))
    (parties : (x y : ℕ) → AllByRecursion (IsParty c x y) (link_at c.links x y)) (said : TakenSays c e n p a s from m) (is : m.body ≡ body.Release r) (page : r.page ≡ p)
    (judged : judge_in s.view (number_of s) from m.epoch (partition_of s.home.config m.body) ≡ verdict.Taken) (related : IsPageOf c p a) where
  head : (e ≡ event.Deliver from n) × (link_at c.links from n ≡ m ∷ tail_of (link_at c.links from n))
  head = let found = deliver_is c e n s from m h.acts h.event in (found.0, at_head m (link_at c.links from n) found.1)

  party : IsParty c from n m
  party = (subst (AllByRecursion (IsParty c from n)) head.1 (parties from n)).0

  speaks : speaks_of c.config p m.body ≡ true
  speaks = ap (speaks_of c.config p) is ∙ ap (λ (k : ℕ). k == p) page ∙ number_same p

  kind : is_release r.tx m.body ≡ true
  kind = ap (is_release r.tx) is ∙ tx_same r.tx

  says : (a.home r.tx ≡ Ended (version_of_change r.change) (era_at c (partition c.config p) m.epoch)) × ChangeHas a.hist r.change
  says = subst (SaysSo a.era a.hist a.reached a.listed a.right a.home a.sent p from n (era_at c (partition c.config p) m.epoch)) is (said.head speaks).says

  pub arrived_ended : a.home r.tx ≡ Ended (version_of_change r.change) (a.reached n)
  arrived_ended = says.0 ∙ ap (Ended (version_of_change r.change)) (sym (said.reached speaks))

  pub arrived_image : ChangeHas a.hist r.change
  arrived_image = says.1

  mine : (r.tx.node ≡ from) × (owner_at c (partition c.config p) m.epoch ≡ n)
  mine = release_goes c p i from n r.tx m kind speaks party

  abbrev comes_to : ℕ → ℕ → List Message
  comes_to x y = coming (land c e n (taken_of c s)) p x y

  known : (x y : ℕ) → AllByRecursion (λ (k : Message). Speaks c p k × IsParty c x y k) (comes_to x y)
  known x y = start_parties c e n p s (Deliver from m) i h (reply.Taken ∷ []) (IsParty c x y) x y (parties x y)

  -- each release of the transaction is on the link of this one
  goes_there : (x y : ℕ) → AllByRecursion (λ (k : Message). is_release r.tx k.body ≡ true → (x ≡ from) × (y ≡ n)) (comes_to x y)
  goes_there x y =
      two_all (MessageIs c p (partition c.config p) a x y) (λ (k : Message). Speaks c p k × IsParty c x y k) (λ (k : Message). is_release r.tx k.body ≡ true → (x ≡ from) × (y ≡ n))
      (λ k told has same.
      let sent = release_goes c p i x y r.tx k same has.0 has.1 in
      let era = release_era c p i a x y (era_at c (partition c.config p) k.epoch) (era_at c (partition c.config p) m.epoch) r.tx (version_of_change r.change) k.body says.0 same told in (
        sym sent.0 ∙ mine.0,
        same_owner c p i y n k.epoch m.epoch era sent.1 mine.1,
      ))
      (comes_to x y) (said_start c e n p (partition c.config p) (taken_of c s) a x y (comes_to x y) ((links_at c e n p (taken_of c s) a said.related).say x y)) (known x y)

  not_there : (x y : ℕ) → (x == from && y == n) ≡ false → (x ≡ from) × (y ≡ n) → ⊥
  not_there x y other same =
      let first : (x == from) ≡ true = eq x from same.0 in
      let second : (y == n) ≡ true = eq y n same.1 in
      let bad : true ≡ false = sym (λ j. first j && second j) ∙ other in
      absurd (cc)
    where
      eq : (k l : ℕ) → k ≡ l → (k == l) ≡ true
      eq k l is = grind (arith, nat_tests, is)

  at_link : (x y : ℕ) (P : ℕ → ℕ → Type 0) → P from n → ((x == from && y == n) ≡ false → P x y) → P x y
  at_link x y P there else_there = by (x == from) (y == n) refl refl
    where
      by : (b d : Bool) → (x == from) ≡ b → (y == n) ≡ d → P x y
      by true true first second = subst (λ (k : ℕ). P k y) (sym (eqb-true x from first)) (subst (P from) (sym (eqb-true y n second)) there)
      by true false first second = else_there (λ j. first j && second j)
      by false d first second = else_there (ap (λ (b : Bool). b && y == n) first)

  unreleased : (x y : ℕ) → how_many (is_release r.tx) (comes_to x y) ≡ 0
  unreleased x y =
      at_link x y (λ k l. how_many (is_release r.tx) (comes_to k l) ≡ 0) ((said.head speaks).no_release r.tx kind)
      (λ other. none_many (is_release r.tx) (comes_to x y)
      (all_weaker (λ (k : Message). is_release r.tx k.body ≡ true → (x ≡ from) × (y ≡ n)) (λ (k : Message). is_release r.tx k.body ≡ false)
      (λ k goes. not_one (is_release r.tx k.body) (λ same. not_there x y other (goes same))) (comes_to x y) (goes_there x y)))
    where
      not_one : (b : Bool) → (b ≡ true → ⊥) → b ≡ false
      not_one true none = absurd (none refl)
      not_one false none = refl

  -- what comes behind the release
  comes : is_coming c.config p from (node_at c n) m ≡ true
  comes = (λ j. speaks j && counted j)
    where
      member : IsMember c.config c.views n s
      member = (up_is_member_law c n s i h.up).1

      of_page : partition_of s.home.config m.body ≡ partition c.config p
      of_page = ap (λ (k : Sizes). partition_of k m.body) member.config ∙ ap (partition_of c.config) is ∙ ap (partition c.config) page

      taken : judge said.view (number_of s) from m.epoch (partition c.config p) ≡ verdict.Taken
      taken =
          sym (ap (λ (o : Option View). judge_in o (number_of s) from m.epoch (partition c.config p)) said.in_view)
          ∙ sym (ap (judge_in s.view (number_of s) from m.epoch) of_page) ∙ judged

      counted : counts_in (node_at c n) from (partition c.config p) m.epoch ≡ true
      counted =
          ap (λ (o : Option NodeState). counts_in o from (partition c.config p) m.epoch) h.up
          ∙ ap (λ (o : Option View). counts_at s o from (partition c.config p) m.epoch) said.in_view
          ∙ ap (λ (x : Verdict). not (is_dropped x)) taken

  behind : AreOrdered m.epoch (comes_to from n)
  unfolding coming
  behind = subst (AreOrdered m.epoch) (sym after) (subst (AreOrdered 0) before (related.links.ordered from n)).1
    where
      f : Message → Bool
      f = is_coming c.config p from (node_at c n)

      rest : List Message
      rest = filter f (tail_of (link_at c.links from n))

      before : coming c p from n ≡ m ∷ rest
      before = ap (filter f) head.1 ∙ ap (λ (b : Bool). cond b (m ∷ rest) rest) comes

      own_link : delivers (event.Deliver from n) from n ≡ true
      own_link = (λ j. number_same from j && number_same n j)

      after : coming (land c e n (taken_of c s)) p from n ≡ rest
      after =
          begun_coming c e n p s (Deliver from m) i h (reply.Taken ∷ []) from n
          ∙ ap (λ (b : Bool). filter f (pick (b && true) (tail_of (link_at c.links from n)) (link_at c.links from n))) (ap (λ (x : Event). delivers x from n) head.0 ∙ own_link)

  unreported : (x y : ℕ) → AllByRecursion (λ (k : Message). is_report k.body ≡ true → x ≡ r.tx.node → era_at c (partition c.config p) k.epoch ≢ a.reached n) (comes_to x y)
  unreported x y =
      at_link x y (λ j l. AllByRecursion (λ (k : Message). is_report k.body ≡ true → j ≡ r.tx.node → era_at c (partition c.config p) k.epoch ≢ a.reached n) (comes_to j l))
      (two_all (IsAbove m.epoch) (λ (k : Message). Speaks c p k × IsParty c from n k)
      (λ (k : Message). is_report k.body ≡ true → from ≡ r.tx.node → era_at c (partition c.config p) k.epoch ≢ a.reached n)
      (λ k above has report at same.
      let goes = (report_goes c p i from n k report has.0 has.1).1 in
      let later = above.1 report in
      let upto = eras_are_reached_law c (partition c.config p) m.epoch i in
      let reached = said.reached speaks in
      absurd (omega (arith, goes, later, upto, reached, same)))
      (comes_to from n) (reports_above m.epoch (comes_to from n) behind) (known from n))
      (λ other.
      all_weaker (λ (k : Message). Speaks c p k × IsParty c x y k) (λ (k : Message). is_report k.body ≡ true → x ≡ r.tx.node → era_at c (partition c.config p) k.epoch ≢ a.reached n)
      (λ k has report at same.
      let goes = report_goes c p i x y k report has.0 has.1 in
      not_there x y other (at ∙ mine.0, same_owner c p i y n k.epoch m.epoch (same ∙ said.reached speaks) goes.0 mine.1))
      (comes_to x y) (known x y))

  pub arrived_untold : IsUntold c e n p r.tx (taken_of c s) a
  arrived_untold = record { unreleased = unreleased; unreported = unreported }
