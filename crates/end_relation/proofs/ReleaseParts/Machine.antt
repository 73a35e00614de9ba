-- The machine's state once an end has come to a table: transactions and messages.
use Rattle.std.proofs.Common.{◌≡◌, ◌≢◌, refl, ap, sym, subst, ◌∙◌, ℕ, ◌&&◌, cond, Bool, true, false, List, [], ◌∷◌, length, Option, Some, None}
use Rattle.std.specs.Prelude.{eqb}
use Rattle.std.specs.List.{AllByRecursion, filter}
use Rattle.pcl_base.specs.declared.lock.Held.{Held}
use Rattle.pcl_base.specs.declared.lock.Kind.{Kind}
use Rattle.pcl_base.specs.declared.lock.Kind.TheVariants as kind
use Rattle.pcl_base.specs.declared.message.Body.{Body}
use Rattle.pcl_base.specs.declared.message.Body.TheVariants as body
use Rattle.pcl_base.specs.declared.message.Message.{Message}
use Rattle.pcl_base.specs.declared.message.Report.{Report}
use Rattle.pcl_base.specs.declared.tx.Mode.{Mode}
use Rattle.pcl_base.specs.declared.tx.Mode.TheVariants.{Shared, Exclusive}
use Rattle.pcl_base.specs.declared.tx.TxId.{TxId}
use Rattle.node_rules.specs.NodeState.{NodeState}
use Rattle.node_rules.specs.OpenTxs.{held_by, pending_of, is_open}
use Rattle.node_rules.specs.Words.{same_tx}
use Rattle.node_laws.proofs.Lists.{all_weaker}
use Rattle.cluster_rules.specs.Clusters.{Cluster, node_at, last_view}
use Rattle.page_laws.proofs.EntryParts.Stepped.{one_test}
use Rattle.page_laws.proofs.EntryParts.Words.{same_swap}
use Rattle.cluster_laws.specs.Era.Eras.{era_at}
use Rattle.cluster_laws.specs.Link.Coming.{coming}
use Rattle.cluster_laws.specs.Link.Orders.{is_report, how_many}
use Rattle.page_protocol.specs.Bytes.{Copy}
use Rattle.page_protocol.specs.State.{Home, Fresh, Asking, Holding, HoldingAsks, Reading, ReadingAsks, Ended, Gone, Page, current}
use Rattle.page_protocol.specs.State as machine
use Rattle.page_protocol.proofs.Basics.{same_tx_true, and_true, eqb_true}
use Rattle.page_relation.specs.Homes.{wait_on, stand_of, held_stand, shared_stand, Stands, StandsIn, ImageIn, is_unborn}
use Rattle.page_relation.specs.Messages.{HasAsked, WaitIs, ReportIs, SaysSo, is_release}
use Rattle.page_relation.specs.Relation.{HomesAre, LinksAre, MessageIs}
use Rattle.end_relation.specs.Release.Owing.{ended_as}

-- ---- where an ended transaction stands

abbrev has_ended : Home → Bool
has_ended Fresh = false
has_ended (Asking m h) = false
has_ended (Holding m) = false
has_ended HoldingAsks = false
has_ended Reading = false
has_ended ReadingAsks = false
has_ended (Ended c e) = true
has_ended Gone = false

shared_open : (k : Kind) (w : Option Mode) → has_ended (shared_stand k w) ≡ false
shared_open kind.Own None = refl
shared_open kind.Own (Some m) = refl
shared_open kind.Registered None = refl
shared_open kind.Registered (Some m) = refl
shared_open kind.Right None = refl
shared_open kind.Right (Some m) = refl

stand_open : (l : Option Held) (w : Option Mode) (have : Option ℕ) → has_ended (stand_of l w have) ≡ false
stand_open None None have = refl
stand_open None (Some m) have = refl
stand_open (Some l) w have = by l.mode
  where
    by : (m : Mode) → has_ended (held_stand m l.kind w) ≡ false
    by Shared = shared_open l.kind w
    by Exclusive = refl

ended_stands : (o u : Bool) (l : Option Held) (w : Option Mode) (change : Option ℕ) (f : ℕ) → Stands o u l w (Ended change f) → Stands o u l w Gone
ended_stands true u l w change f s =
    let bad : true ≡ false = ap has_ended s.1 ∙ stand_open l w s.0 in absurd (cc)
ended_stands false true l w change f s = absurd s
ended_stands false false l w change f s = tt

ended_stands_in : (last : ℕ) (o : Option NodeState) (t : TxId) (p : ℕ) (change : Option ℕ) (f : ℕ) → StandsIn last o t p (Ended change f) → StandsIn last o t p Gone
ended_stands_in last None t p change f s = ended_stands false _ None None change f s
ended_stands_in last (Some x) t p change f s =
    ended_stands (is_open x.home.txs t) (is_unborn x.view x t) (held_by x.home.txs t p) (wait_on (pending_of x.home.txs t) p) change f s

ended_image : (o : Option NodeState) (t : TxId) (p : ℕ) (change : Option ℕ) (f : ℕ) (image : List ℕ) → ImageIn o t p (Ended change f) image → ImageIn o t p Gone image
ended_image None t p change f image is = tt
ended_image (Some x) t p change f image is = is

-- ---- messages of a kind

pub none_of_kind : (is : Body → Bool) (ms : List Message) → how_many is ms ≡ 0 → AllByRecursion (λ (m : Message). is m.body ≡ false) ms
none_of_kind is [] none = tt
none_of_kind is (m ∷ ms) none = by (is m.body) refl none (none_of_kind is ms)
  where
    by : (b : Bool) → is m.body ≡ b → length (cond b (m ∷ filter (λ (k : Message). is k.body) ms) (filter (λ (k : Message). is k.body) ms)) ≡ 0
        → (how_many is ms ≡ 0 → AllByRecursion (λ (k : Message). is k.body ≡ false) ms) → (is m.body ≡ false) × AllByRecursion (λ (k : Message). is k.body ≡ false) ms
    by true e few rest = absurd (cc)
    by false e few rest = (e, rest few)

pub three_all : (P Q R S : Message → Type 0) → ((m : Message) → P m → Q m → R m → S m) → (ms : List Message) → AllByRecursion P ms → AllByRecursion Q ms → AllByRecursion R ms → AllByRecursion S ms
three_all P Q R S f [] p q r = tt
three_all P Q R S f (m ∷ ms) p q r = (f m p.0 q.0 r.0, three_all P Q R S f ms p.1 q.1 r.1)

-- ---- the state

module _ (a : Page) (t : TxId) (change : Option ℕ) (f : ℕ) (ended : a.home t ≡ Ended change f) (v : ℕ) (slot : ℕ → Option Copy) (disk : Copy) (mark : Bool) where
  abbrev next : Page
  next = ended_as a t f v slot disk mark

  home_kept : (P : Home → Type 0) (u : TxId) → (P (Ended change f) → P Gone) → P (a.home u) → P (next.home u)
  home_kept P u ends old = by (machine.same_tx u t) refl
    where
      by : (b : Bool) → machine.same_tx u t ≡ b → P (machine.pick b Gone (a.home u))
      by true same = ends (subst P (ap a.home (same_tx_true u t same) ∙ ended) old)
      by false other = old

  pub asked_after : (r e : ℕ) (u : TxId) (have : Option ℕ) → HasAsked r e (a.home u) have → HasAsked r e (next.home u) have
  asked_after r e u have is = home_kept (λ h. HasAsked r e h have) u (λ old. record { begun = λ fresh. fresh; told = λ same. tt }) is

  -- what is listed of another transaction or another era
  pub listed_beside : (u : TxId) (e : ℕ) → (u ≡ t → e ≢ f) → next.listed u e ≡ a.listed u e
  listed_beside u e apart = by (machine.same_tx u t && eqb e f) refl
    where
      by : (b : Bool) → (machine.same_tx u t && eqb e f) ≡ b → machine.pick b None (a.listed u e) ≡ a.listed u e
      by true both =
          let parts = and_true (machine.same_tx u t) (eqb e f) both in
          absurd (apart (same_tx_true u t parts.0) (eqb_true e f parts.1))
      by false other = refl

  pub homes_after : (d : Cluster) (p : ℕ) → HomesAre d p (current a) a → HomesAre d p (current next) next
  homes_after d p is =
      record {
        stands = λ u.
            home_kept (λ h. StandsIn (last_view d).epoch (node_at d u.node) u p h) u
            (λ old. ended_stands_in (last_view d).epoch (node_at d u.node) u p change f old) (is.stands u);
        kinds = is.kinds;
        scripts = is.scripts;
        images = λ u. home_kept (λ h. ImageIn (node_at d u.node) u p h (a.image u)) u (λ old. ended_image (node_at d u.node) u p change f (a.image u) old) (is.images u);
        written = λ u holds. is.written u (writer u holds);
      }
    where
      writer : (u : TxId) → next.home u ≡ Holding Exclusive → a.home u ≡ Holding Exclusive
      writer u holds = by (machine.same_tx u t) holds
        where
          by : (b : Bool) → machine.pick b Gone (a.home u) ≡ Holding Exclusive → a.home u ≡ Holding Exclusive
          by true bad = absurd (cc)
          by false is = is

  -- what messages say
  report_after : (p from e : ℕ) (r : Report) → (from ≡ t.node → e ≢ f) → ReportIs a.era a.reached a.listed a.right a.home p from e r
      → ReportIs next.era next.reached next.listed next.right next.home p from e r
  report_after p from e r apart is =
      record {
        later = is.later;
        reaches = is.reaches;
        locks = λ u at. is.locks u at ∙ sym (listed_beside u e (λ same. apart (sym at ∙ ap (λ (x : TxId). x.node) same)));
        rights = is.rights;
        waits = all_weaker (WaitIs a.reached a.home p e) (WaitIs a.reached next.home p e) (λ w old same. asked_after (a.reached w.tx.node) e w.tx w.have (old same)) r.waits is.waits;
      }

  other_home : (u : TxId) → same_tx u t ≡ false → next.home u ≡ a.home u
  other_home u other = ap (λ (b : Bool). machine.pick b Gone (a.home u)) (one_test t u ∙ same_swap t u ∙ other)

  says_after : (p from to e : ℕ) (b : Body) → is_release t b ≡ false → (is_report b ≡ true → from ≡ t.node → e ≢ f)
      → SaysSo a.era a.hist a.reached a.listed a.right a.home a.sent p from to e b → SaysSo next.era next.hist next.reached next.listed next.right next.home next.sent p from to e b
  says_after p from to e (body.Request r) other apart is = asked_after (a.reached r.tx.node) e r.tx r.have is
  says_after p from to e (body.Grant g) other apart is = is
  says_after p from to e (body.Release r) other apart is = (other_home r.tx other ∙ is.0, is.1)
  says_after p from to e (body.Revoke page) other apart is = is
  says_after p from to e (body.Return r) other apart is = is
  says_after p from to e (body.Report r) other apart is = report_after p from e r (apart refl) is

  pub links_after : (d : Cluster) (p q : ℕ) → ((x y : ℕ) → how_many (is_release t) (coming d p x y) ≡ 0)
      → ((x y : ℕ) → AllByRecursion (λ (m : Message). is_report m.body ≡ true → x ≡ t.node → era_at d q m.epoch ≢ f) (coming d p x y))
      → LinksAre d p q a → LinksAre d p q next
  links_after d p q unreleased unreported is =
      record {
        say = λ x y.
            three_all (MessageIs d p q a x y) (λ (m : Message). is_release t m.body ≡ false) (λ (m : Message). is_report m.body ≡ true → x ≡ t.node → era_at d q m.epoch ≢ f) (MessageIs d p q next x y)
            (λ m old other apart. says_after p x y (era_at d q m.epoch) m.body other apart old)
            (coming d p x y) (is.say x y) (none_of_kind (is_release t) (coming d p x y) (unreleased x y)) (unreported x y);
        ordered = is.ordered;
        once = is.once;
      }
