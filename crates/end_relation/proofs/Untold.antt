-- Before the step no message tells the end, and none of the own reports is of an era that the node owns.
use Rattle.std.proofs.Common.{◌≡◌, ◌≢◌, refl, sym, ap, ◌∙◌, ℕ, ◌==◌, Bool, true, false, List, [], ◌∷◌, cond, length, Option, Some, None, eqb-true}
use Rattle.std.specs.List.{AllByRecursion, filter}
use Rattle.pcl_base.specs.declared.event.Event.{Event}
use Rattle.pcl_base.specs.declared.lock.Held.{Held}
use Rattle.pcl_base.specs.declared.lock.Kind.{Kind}
use Rattle.pcl_base.specs.declared.lock.Kind.TheVariants as kind
use Rattle.pcl_base.specs.declared.message.Body.{Body}
use Rattle.pcl_base.specs.declared.message.Body.TheVariants as body
use Rattle.pcl_base.specs.declared.message.Message.{Message}
use Rattle.pcl_base.specs.declared.tx.Mode.{Mode}
use Rattle.pcl_base.specs.declared.tx.Mode.TheVariants.{Shared, Exclusive}
use Rattle.pcl_base.specs.declared.tx.TxId.{TxId}
use Rattle.run_rules.specs.Views.{View, owner_of}
use Rattle.node_rules.specs.InstallRule.{owned_before}
use Rattle.node_rules.specs.LockTable.{LockTable}
use Rattle.node_rules.specs.NodeState.{NodeState, partition, table_of, number_of, owner_in}
use Rattle.node_rules.specs.Words.{same_tx}
use Rattle.node_rules.specs.Work.{Work}
use Rattle.node_laws.proofs.Bases.{base_of}
use Rattle.node_laws.proofs.Lists.{all_weaker}
use Rattle.text_rules.specs.MessageBytes.{IsTx}
use Rattle.home_laws.proofs.Tests.{tx_equal}
use Rattle.rule_laws.proofs.Turns.{and_left}
use Rattle.cluster_rules.specs.Clusters.{Cluster, node_at, view_of_epoch, version_of_change, last_view}
use Rattle.cluster_rules.specs.Links.{link_at}
use Rattle.cluster_laws.specs.Sound.{IsOnLink, IsMember}
use Rattle.cluster_laws.proofs.Steps.{up_is_member_law}
use Rattle.cluster_laws.specs.Era.Eras.{era_at, owner_at}
use Rattle.cluster_laws.proofs.EraParts.Ages.{eras_have_one_owner_law}
use Rattle.cluster_laws.specs.Link.Coming.{speaks_of, is_coming, coming}
use Rattle.cluster_laws.specs.Link.EpochLaws.{IsInOrder}
use Rattle.cluster_laws.specs.Link.Orders.{is_report, how_many}
use Rattle.page_protocol.specs.State.{Home, Fresh, Asking, Ended, Page}
use Rattle.page_relation.specs.Homes.{held_stand, IsOpenAs}
use Rattle.page_relation.specs.Messages.{SaysSo, is_release}
use Rattle.page_relation.specs.Relation.{IsPageOf, MessageIs}
use Rattle.page_relation.specs.Together.{PartiesAre, IsParty}
use Rattle.page_relation.proofs.LossParts.Counting.{all_passing, both_all}
use Rattle.page_relation.specs.Work.Keeping.{IsWorkOf}
use Rattle.page_relation.specs.Work.Landing.{Acts}
use Rattle.end_relation.specs.Midway.{IsMidway}
use Rattle.end_relation.proofs.Telling.{reached_era, is_owned}

-- ---- no release

none_of_kind : (test : Body → Bool) (ms : List Message) → AllByRecursion (λ (k : Message). test k.body ≡ false) ms → how_many test ms ≡ 0
none_of_kind test [] all = refl
none_of_kind test (m ∷ ms) all = by (test m.body) all.0 (none_of_kind test ms all.1)
  where
    by : (b : Bool) → b ≡ false → how_many test ms ≡ 0 → length (cond b (m ∷ filter (λ (k : Message). test k.body) ms) (filter (λ (k : Message). test k.body) ms)) ≡ 0
    by true is rest = absurd (cc)
    by false is rest = rest

-- an open transaction hasn't ended
held_open : (m : Mode) (k : Kind) (w : Option Mode) (change : Option ℕ) (e : ℕ) → held_stand m k w ≡ Ended change e → ⊥
held_open Exclusive k w change e is = absurd (cc)
held_open Shared kind.Right None change e is = absurd (cc)
held_open Shared kind.Right (Some m) change e is = absurd (cc)
held_open Shared kind.Own None change e is = absurd (cc)
held_open Shared kind.Own (Some m) change e is = absurd (cc)
held_open Shared kind.Registered None change e is = absurd (cc)
held_open Shared kind.Registered (Some m) change e is = absurd (cc)

open_unended : (o : Option Held) (w : Option Mode) (h : Home) (change : Option ℕ) (e : ℕ) → IsOpenAs o w h → h ≡ Ended change e → ⊥
open_unended None None h change e st is = let bad : Fresh ≡ Ended change e = sym st.1 ∙ is in absurd (cc)
open_unended None (Some m) h change e st is = let bad : Asking m st.0 ≡ Ended change e = sym st.1 ∙ is in absurd (cc)
open_unended (Some l) w h change e st is = held_open l.mode l.kind w change e (sym st.1 ∙ is)

-- what a message says of a transaction that hasn't ended
says_unended : (a : Page) (p from to e : ℕ) (t : TxId) (b : Body) → ((change : Option ℕ) (f : ℕ) → a.home t ≡ Ended change f → ⊥) → SaysSo a.era a.hist a.reached a.listed a.right a.home a.sent p from to e b → is_release t b ≡ false
says_unended a p from to e t (body.Request r) open_still says = refl
says_unended a p from to e t (body.Grant g) open_still says = refl
says_unended a p from to e t (body.Release r) open_still says = by (same_tx r.tx t) refl
  where
    by : (d : Bool) → same_tx r.tx t ≡ d → d ≡ false
    by true is = absurd (open_still (version_of_change r.change) e (ap a.home (sym (tx_equal r.tx t is)) ∙ says.0))
    by false is = refl
says_unended a p from to e t (body.Revoke page) open_still says = refl
says_unended a p from to e t (body.Return r) open_still says = refl
says_unended a p from to e t (body.Report r) open_still says = refl

-- no release of an open transaction comes
pub unreleased_before : (c : Cluster) (p : ℕ) (t : TxId) (a : Page) (o : Option Held) (w : Option Mode) → IsOpenAs o w (a.home t) → IsPageOf c p a → (y z : ℕ) → how_many (is_release t) (coming c p y z) ≡ 0
unreleased_before c p t a o w st r y z =
    none_of_kind (is_release t) (coming c p y z)
    (all_weaker (MessageIs c p (partition c.config p) a y z) (λ (m : Message). is_release t m.body ≡ false)
    (λ m says. says_unended a p y z (era_at c (partition c.config p) m.epoch) t m.body (λ change e is. open_unended o w (a.home t) change e st is) says) (coming c p y z) (r.links.say y z))

-- ---- no report of the era

-- a report that is one of the partition
reports_of : (c : Cluster) (p : ℕ) (v : View) (y z e : ℕ) (b : Body) → PartiesAre c v y z e b → is_report b ≡ true → speaks_of c.config p b ≡ true → owner_of v (partition c.config p) ≡ z
reports_of c p v y z e (body.Request r) is report speaks = absurd (cc)
reports_of c p v y z e (body.Grant g) is report speaks = absurd (cc)
reports_of c p v y z e (body.Release r) is report speaks = absurd (cc)
reports_of c p v y z e (body.Revoke page) is report speaks = absurd (cc)
reports_of c p v y z e (body.Return r) is report speaks = absurd (cc)
reports_of c p v y z e (body.Report r) is report speaks = ap (owner_of v) (sym (eqb-true r.partition (partition c.config p) speaks)) ∙ is.0

module _ (c : Cluster) (e : Event) (n p : ℕ) (s : NodeState) (t : TxId) (acts : Acts c n) (order : IsInOrder c) (up : node_at c n ≡ Some s) (tx : IsTx s.home.config t)
    (unreleased : (y z : ℕ) → how_many (is_release t) (coming c p y z) ≡ 0) (parties : (a b : ℕ) → AllByRecursion (IsParty c a b) (link_at c.links a b)) (mine : t.node ≡ n) where
  member : IsMember c.config c.views n s
  member = (up_is_member_law c n s acts.cluster up).1

  -- the node owns the page in its view
  owner_here : (w : Work) (tb : LockTable) → IsMidway (base_of s) c e n w → table_of w.node p ≡ Some tb → owner_at c (partition c.config p) s.epoch ≡ n
  unfolding owner_at
  owner_here w tb m there =
      ap (λ (o : Option View). owner_in o (partition c.config p)) m.there
      ∙ eqb-true (owner_of m.view (partition c.config p)) n
      (ap (λ k. owner_of m.view (partition k p) == n) (sym member.config) ∙ ap (λ (k : ℕ). owner_of m.view (partition s.home.config p) == k) (sym member.number)
      ∙ ap (λ (o : Option View). owned_before o (partition s.home.config p) (number_of s)) (sym m.in_view)
      ∙ is_owned c e n p s t acts order up tx unreleased p w tb m there)

  owner_then : (m : Message) (v : View) → view_of_epoch c.views m.epoch ≡ Some v → owner_at c (partition c.config p) m.epoch ≡ owner_of v (partition c.config p)
  unfolding owner_at
  owner_then m v there = ap (λ (o : Option View). owner_in o (partition c.config p)) there

  -- a report of the node that counts is of another era than one that it owns
  pub unreported_before : (w : Work) (a : Page) (tb : LockTable) → IsMidway (base_of s) c e n w → IsWorkOf c e n p w a → table_of w.node p ≡ Some tb
      → (y z : ℕ) → AllByRecursion (λ (m : Message). is_report m.body ≡ true → y ≡ t.node → era_at c (partition c.config p) m.epoch ≢ a.reached n) (coming c p y z)
  unfolding coming
  unreported_before w a tb m related there y z =
      all_passing (λ (k : Message). IsParty c y z k × IsOnLink c.config (last_view c).epoch y z k)
      (λ (k : Message). is_report k.body ≡ true → y ≡ t.node → era_at c (partition c.config p) k.epoch ≢ a.reached n) (is_coming c.config p y (node_at c z))
      (λ k both comes report from same.
      both.1.others
      (from ∙ mine
      ∙ sym (owner_here w tb m there)
      ∙ sym (eras_have_one_owner_law c (partition c.config p) k.epoch s.epoch acts.cluster
      (same ∙ reached_era c e n p s t acts order up tx unreleased w a m related ∙ ap (era_at c (partition c.config p)) m.good.epoch))
      ∙ owner_then k both.0.view both.0.made
      ∙ reports_of c p both.0.view y z k.epoch k.body both.0.parties report (and_left (speaks_of c.config p k.body) _ comes)))
      (link_at c.links y z) (both_all (IsParty c y z) (IsOnLink c.config (last_view c).epoch y z) (link_at c.links y z) (parties y z) (acts.cluster.links.messages y z))
