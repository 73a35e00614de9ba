-- From whom and to whom what tells an end or reports it comes.
use Rattle.std.proofs.Common.{◌≡◌, refl, ap, sym, subst, ◌∙◌, ℕ, suc, ◌<◌, ◌≤◌, ◌&&◌, cond, Bool, true, false, List, [], ◌∷◌, length, Option, Some, arith, eqb-true}
use Rattle.std.specs.List.{AllByRecursion, filter}
use Rattle.pcl_base.specs.declared.event.Event.{Event}
use Rattle.pcl_base.specs.declared.message.Body.{Body}
use Rattle.pcl_base.specs.declared.message.Body.TheVariants as body
use Rattle.pcl_base.specs.declared.message.Message.{Message}
use Rattle.pcl_base.specs.declared.reply.Reply.{Reply}
use Rattle.pcl_base.specs.declared.tx.TxId.{TxId}
use Rattle.run_rules.specs.Views.{View, owner_of, since_of}
use Rattle.node_rules.specs.NodeState.{NodeState, NodeEvent, partition}
use Rattle.node_rules.specs.Words.{pick}
use Rattle.home_laws.proofs.Tests.{tx_equal}
use Rattle.node_laws.proofs.Lists.{all_weaker}
use Rattle.cluster_rules.specs.Clusters.{Cluster, node_at, view_of_epoch, version_of_change}
use Rattle.cluster_rules.specs.ClusterStep.{is_taken}
use Rattle.cluster_rules.specs.Links.{link_at, tail_of}
use Rattle.cluster_laws.specs.Handed.{IsHanded}
use Rattle.cluster_laws.specs.Sound.{IsCluster}
use Rattle.cluster_laws.specs.Era.Counts.{counts_in}
use Rattle.cluster_laws.specs.Era.Eras.{era_at, owner_at}
use Rattle.cluster_laws.proofs.EraParts.Ages.{eras_have_one_owner_law, owner_is, era_is}
use Rattle.cluster_laws.specs.Link.Coming.{speaks_of, is_coming, coming, delivers}
use Rattle.cluster_laws.specs.Link.Orders.{AreOrdered, is_report, how_many}
use Rattle.page_protocol.specs.State.{Ended, Page}
use Rattle.page_relation.specs.Messages.{SaysSo, is_release}
use Rattle.page_relation.specs.Together.{PartiesAre, IsParty}
use Rattle.page_relation.specs.Work.Landing.{land}
use Rattle.page_relation.specs.Work.StepEnds.{start_of}
use Rattle.page_relation.proofs.WorkParts.Started.{begun_coming}

-- ---- lists of messages

-- those that pass a test
pub passed : (P : Message → Type 0) (f : Message → Bool) (ms : List Message) → AllByRecursion (λ (m : Message). f m ≡ true → P m) ms → AllByRecursion P (filter f ms)
passed P f [] all = tt
passed P f (m ∷ ms) all = by (f m) refl (passed P f ms all.1)
  where
    by : (b : Bool) → f m ≡ b → AllByRecursion P (filter f ms) → AllByRecursion P (cond b (m ∷ filter f ms) (filter f ms))
    by true is rest = (all.0 is, rest)
    by false is rest = rest

pub none_many : (kind : Body → Bool) (ms : List Message) → AllByRecursion (λ (m : Message). kind m.body ≡ false) ms → how_many kind ms ≡ 0
none_many kind [] all = refl
none_many kind (m ∷ ms) all = by (kind m.body) all.0 (none_many kind ms all.1)
  where
    by : (b : Bool) → b ≡ false → how_many kind ms ≡ 0 → length (cond b (m ∷ filter (λ (k : Message). kind k.body) ms) (filter (λ (k : Message). kind k.body) ms)) ≡ 0
    by true is rest = absurd (cc)
    by false is rest = rest

pub two_all : (P Q R : Message → Type 0) → ((m : Message) → P m → Q m → R m) → (ms : List Message) → AllByRecursion P ms → AllByRecursion Q ms → AllByRecursion R ms
two_all P Q R f [] p q = tt
two_all P Q R f (m ∷ ms) p q = (f m p.0 q.0, two_all P Q R f ms p.1 q.1)

-- reports behind are of a later epoch
abbrev pub IsAbove : ℕ → Message → Type 0
IsAbove low m = (low ≤ m.epoch) × (is_report m.body ≡ true → low < m.epoch)

pub reports_above : (low : ℕ) (ms : List Message) → AreOrdered low ms → AllByRecursion (IsAbove low) ms
reports_above low [] is = tt
reports_above low (m ∷ ms) is = by (is_report m.body) refl is.0 (reports_above m.epoch ms is.1)
  where
    rest : low ≤ m.epoch → AllByRecursion (IsAbove m.epoch) ms → AllByRecursion (IsAbove low) ms
    rest le all =
        all_weaker (IsAbove m.epoch) (IsAbove low)
        (λ k above. (let first = above.0 in omega (arith, le, first), λ report. let first = above.1 report in omega (arith, le, first))) ms all

    by : (b : Bool) → is_report m.body ≡ b → pick b (suc low) low ≤ m.epoch → AllByRecursion (IsAbove m.epoch) ms → IsAbove low m × AllByRecursion (IsAbove low) ms
    by true report le all = ((omega (arith, le), λ yes. omega (arith, le)), rest (omega (arith, le)) all)
    by false other le all = ((le, λ yes. let bad : true ≡ false = sym yes ∙ other in absurd (cc)), rest le all)

-- ---- senders and receivers

-- the owner in the view of an epoch, and the era
owner_then : (c : Cluster) (epoch : ℕ) (v : View) (q : ℕ) → view_of_epoch c.views epoch ≡ Some v → owner_at c q epoch ≡ owner_of v q
owner_then c epoch v q made = owner_is c epoch v made q

-- what speaks of the page and tells an end, or reports
abbrev pub Speaks : Cluster → ℕ → Message → Type 0
Speaks c p m = speaks_of c.config p m.body ≡ true

-- A message that ends t, or a report of the era, goes to the owner of that era.
module _ (c : Cluster) (p : ℕ) (i : IsCluster c) where
  -- two messages of one era that go to the owner go to one node
  pub same_owner : (x y k l : ℕ) → era_at c (partition c.config p) k ≡ era_at c (partition c.config p) l → owner_at c (partition c.config p) k ≡ x → owner_at c (partition c.config p) l ≡ y → x ≡ y
  same_owner x y k l same first second = sym first ∙ eras_have_one_owner_law c (partition c.config p) k l i same ∙ second

  -- a release
  pub release_goes : (x y : ℕ) (t : TxId) (m : Message) → is_release t m.body ≡ true → Speaks c p m → IsParty c x y m → (t.node ≡ x) × (owner_at c (partition c.config p) m.epoch ≡ y)
  release_goes x y t m kind speaks party = by m.body kind speaks party.parties
    where
      by : (b : Body) → is_release t b ≡ true → speaks_of c.config p b ≡ true → PartiesAre c party.view x y m.epoch b → (t.node ≡ x) × (owner_at c (partition c.config p) m.epoch ≡ y)
      by (body.Release r) kind speaks are = (
        ap (λ (u : TxId). u.node) (sym (tx_equal r.tx t kind)) ∙ are.1.node,
        owner_then c m.epoch party.view (partition c.config p) party.made ∙ ap (λ (k : ℕ). owner_of party.view (partition c.config k)) (sym (eqb-true r.page p speaks)) ∙ are.0,
      )
      by (body.Request r) kind speaks are = absurd (cc)
      by (body.Grant g) kind speaks are = absurd (cc)
      by (body.Revoke page) kind speaks are = absurd (cc)
      by (body.Return r) kind speaks are = absurd (cc)
      by (body.Report r) kind speaks are = absurd (cc)

  -- a report, which is of the first epoch of its era
  pub report_goes : (x y : ℕ) (m : Message) → is_report m.body ≡ true → Speaks c p m → IsParty c x y m
      → (owner_at c (partition c.config p) m.epoch ≡ y) × (era_at c (partition c.config p) m.epoch ≡ m.epoch)
  report_goes x y m kind speaks party = by m.body kind speaks party.parties
    where
      by : (b : Body) → is_report b ≡ true → speaks_of c.config p b ≡ true → PartiesAre c party.view x y m.epoch b
          → (owner_at c (partition c.config p) m.epoch ≡ y) × (era_at c (partition c.config p) m.epoch ≡ m.epoch)
      by (body.Report r) kind speaks are =
          let at : r.partition ≡ partition c.config p = eqb-true r.partition (partition c.config p) speaks in (
            owner_then c m.epoch party.view (partition c.config p) party.made ∙ ap (owner_of party.view) (sym at) ∙ are.0,
            era_is c m.epoch party.view party.made (partition c.config p) ∙ ap (since_of party.view) (sym at) ∙ are.1,
          )
      by (body.Release r) kind speaks are = absurd (cc)
      by (body.Request r) kind speaks are = absurd (cc)
      by (body.Grant g) kind speaks are = absurd (cc)
      by (body.Revoke page) kind speaks are = absurd (cc)
      by (body.Return r) kind speaks are = absurd (cc)

  -- the release of an ended transaction is of its era
  pub release_era : (a : Page) (x y e f : ℕ) (t : TxId) (change : Option ℕ) (b : Body) → a.home t ≡ Ended change f → is_release t b ≡ true
      → SaysSo a.era a.hist a.reached a.listed a.right a.home a.sent p x y e b → e ≡ f
  release_era a x y e f t change (body.Release r) ended kind says = by (version_of_change r.change) (sym (ap a.home (tx_equal r.tx t kind)) ∙ says.0)
    where
      by : (o : Option ℕ) → a.home t ≡ Ended o e → e ≡ f
      by o other = let same : Ended o e ≡ Ended change f = sym other ∙ ended in cc
  release_era a x y e f t change (body.Request r) ended kind says = absurd (cc)
  release_era a x y e f t change (body.Grant g) ended kind says = absurd (cc)
  release_era a x y e f t change (body.Revoke page) ended kind says = absurd (cc)
  release_era a x y e f t change (body.Return r) ended kind says = absurd (cc)
  release_era a x y e f t change (body.Report r) ended kind says = absurd (cc)

-- ---- the messages at the start of a step

-- what comes at the start speaks of the page, and its parties are known
pub start_parties : (c : Cluster) (e : Event) (n p : ℕ) (s : NodeState) (ev : NodeEvent) (i : IsCluster c) (h : IsHanded c e n s ev) (rs : List Reply) (P : Message → Type 0) (x y : ℕ)
    → AllByRecursion P (link_at c.links x y) → AllByRecursion (λ (m : Message). Speaks c p m × P m) (coming (land c e n (record (start_of c s) { replies = rs })) p x y)
start_parties c e n p s ev i h rs P x y all =
    subst (AllByRecursion (λ (m : Message). Speaks c p m × P m)) (sym (begun_coming c e n p s ev i h rs x y))
    (passed (λ (m : Message). Speaks c p m × P m) (is_coming c.config p x (node_at c y)) (pick (delivers e x y && is_taken rs) (tail_of (link_at c.links x y)) (link_at c.links x y))
    (all_weaker P (λ (m : Message). is_coming c.config p x (node_at c y) m ≡ true → Speaks c p m × P m)
    (λ m known comes. (first_of (speaks_of c.config p m.body) (counts_in (node_at c y) x (partition c.config p) m.epoch) comes, known))
    (pick (delivers e x y && is_taken rs) (tail_of (link_at c.links x y)) (link_at c.links x y)) (by (delivers e x y && is_taken rs))))
  where
    first_of : (b d : Bool) → (b && d) ≡ true → b ≡ true
    first_of true d is = refl
    first_of false d is = absurd (cc)

    without : (ms : List Message) → AllByRecursion P ms → AllByRecursion P (tail_of ms)
    without [] known = tt
    without (m ∷ ms) known = known.1

    by : (b : Bool) → AllByRecursion P (pick b (tail_of (link_at c.links x y)) (link_at c.links x y))
    by true = without (link_at c.links x y) all
    by false = all
