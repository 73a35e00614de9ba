-- What the decisions of settling change of the authority, and that no second right comes.
use Rattle.std.proofs.Common.{◌≡◌, inr, refl, ap, sym, subst, ◌∙◌, ℕ, suc, ◌<◌, ◌≤◌, cond, Bool, true, false, List, [], ◌∷◌, length, Some, arith, not}
use Rattle.std.specs.List.{AllByRecursion, filter}
use Rattle.pcl_base.specs.declared.event.Event.{Event}
use Rattle.pcl_base.specs.declared.lock.Waiter.{Waiter}
use Rattle.pcl_base.specs.declared.message.Body.{Body}
use Rattle.pcl_base.specs.declared.message.Body.TheVariants as body
use Rattle.pcl_base.specs.declared.message.Grant.{Grant}
use Rattle.pcl_base.specs.declared.message.Message.{Message}
use Rattle.pcl_base.specs.declared.tx.Mode.{Mode}
use Rattle.pcl_base.specs.declared.tx.TxId.{TxId}
use Rattle.node_rules.specs.LockRule.{LockEntry, waiting_without}
use Rattle.node_rules.specs.NodeState.{partition}
use Rattle.node_rules.specs.Words.{same_tx}
use Rattle.node_rules.specs.Work.{Work}
use Rattle.node_laws.proofs.Lists.{all_filter}
use Rattle.cluster_rules.specs.Clusters.{Cluster}
use Rattle.cluster_laws.specs.Era.Eras.{era_at}
use Rattle.cluster_laws.specs.Link.Orders.{how_many}
use Rattle.page_protocol.specs.State.{Sent, NoRight, Flying, Returning, Page, set_at, updn}
use Rattle.page_protocol.proofs.Basics.{by_node, by_set}
use Rattle.page_relation.specs.Messages.{IsSent, SaysSo, CountsFor, is_right, sent_of}
use Rattle.page_relation.specs.Relation.{LinksAre, MessageIs, on_shelf}
use Rattle.page_relation.specs.Work.Keeping.{IsWorkOf}
use Rattle.page_relation.specs.Work.Landing.{land}
use Rattle.settle_relation.specs.Deciding.{IsDecided}

-- ---- what a decision of the authority changes

-- a grant without a right
pub granting_decides : (a : Page) (t : TxId) (m : Mode) (g : Sent) → IsDecided a (set_at a.listed t a.era (Some m)) (g ∷ a.sent) a.right
granting_decides a t m g =
    record {
      later = λ u f over.
          by_set (λ v k y. a.era < k → y ≡ a.listed v k) a.listed t a.era (Some m) u f (λ bad. absurd (omega (arith, bad))) (λ k. refl) over;
      shelves = λ k. refl;
      counts = λ k f over counts. counts;
      sent_on = λ h there. inr there;
      flying = λ k h is. is;
    }

-- a grant with one
pub giving_decides : (a : Page) (n : ℕ) (g : Sent) → a.right n ≡ NoRight → IsDecided a a.listed a.sent (updn a.right n (Flying g))
giving_decides a n g none =
    record {
      later = λ u f over. refl;
      shelves = λ m. by_node (λ k r. on_shelf r ≡ on_shelf (a.right k)) n m (Flying g) (a.right m) (sym (ap on_shelf none)) refl;
      counts = λ m f over. by_node (λ k r. CountsFor f r → CountsFor f (a.right k)) n m (Flying g) (a.right m) (λ bad. absurd bad) (λ k. k);
      sent_on = λ h there. there;
      flying = λ m h.
          by_node (λ k r. a.right k ≡ Flying h → r ≡ Flying h) n m (Flying g) (a.right m) (λ bad. let clash : NoRight ≡ Flying h = sym none ∙ bad in absurd (cc)) (λ k. k);
    }

pub giving_answers : (a : Page) (n : ℕ) (g : Sent) → a.right n ≡ NoRight → (m : ℕ) (readers : List TxId) → a.right m ≡ Returning (suc a.era) readers
    → updn a.right n (Flying g) m ≡ Returning (suc a.era) readers
giving_answers a n g none m readers =
    by_node (λ k r. a.right k ≡ Returning (suc a.era) readers → r ≡ Returning (suc a.era) readers) n m (Flying g) (a.right m)
    (λ bad. let clash : NoRight ≡ Returning (suc a.era) readers = sym none ∙ bad in absurd (cc)) (λ k. k)

-- nothing
pub nothing_decides : (a : Page) → IsDecided a a.listed a.sent a.right
nothing_decides a = record { later = λ u f over. refl; shelves = λ k. refl; counts = λ k f over counts. counts; sent_on = λ h there. there; flying = λ k h is. is }

-- ---- no right comes to a node that has none

pub none_of_kind : (kind : Body → Bool) (ms : List Message) → AllByRecursion (λ (k : Message). kind k.body ≡ false) ms → how_many kind ms ≡ 0
none_of_kind kind [] all = refl
none_of_kind kind (m ∷ ms) all = by (kind m.body) all.0 (none_of_kind kind ms all.1)
  where
    by : (b : Bool) → b ≡ false → how_many kind ms ≡ 0 → length (cond b (m ∷ filter (λ (k : Message). kind k.body) ms) (filter (λ (k : Message). kind k.body) ms)) ≡ 0
    by true is rest = absurd (cc)
    by false is rest = rest

pub two_all : (P Q R : Message → Type 0) → ((m : Message) → P m → Q m → R m) → (ms : List Message) → AllByRecursion P ms → AllByRecursion Q ms → AllByRecursion R ms
two_all P Q R f [] p q = tt
two_all P Q R f (m ∷ ms) p q = (f m p.0 q.0, two_all P Q R f ms p.1 q.1)

pub grant_right : (a : Page) (p n to e : ℕ) (g : Grant) (d : Bool) → g.right ≡ d → a.right to ≡ NoRight → a.era ≤ e
    → SaysSo a.era a.hist a.reached a.listed a.right a.home a.sent p n to e (body.Grant g) → d ≡ false
grant_right a p n to e g false is none low says = refl
grant_right a p n to e g true is none low says =
    let most = says.0 in
    let now : e ≡ a.era = omega (arith, low, most) in
    let sent : IsSent true a.sent (a.right to) (sent_of g) = subst (λ (d : Bool). IsSent d a.sent (a.right to) (sent_of g)) is (says.1 now) in
    let clash : NoRight ≡ Flying (sent_of g) = sym none ∙ sent in
    absurd (cc)

pub no_right_says : (a : Page) (p n to e : ℕ) (b : Body) → a.right to ≡ NoRight → a.era ≤ e → SaysSo a.era a.hist a.reached a.listed a.right a.home a.sent p n to e b → is_right b ≡ false
no_right_says a p n to e (body.Request r) none low says = refl
no_right_says a p n to e (body.Grant g) none low says = grant_right a p n to e g g.right refl none low says
no_right_says a p n to e (body.Release r) none low says = refl
no_right_says a p n to e (body.Revoke page) none low says = refl
no_right_says a p n to e (body.Return r) none low says = refl
no_right_says a p n to e (body.Report r) none low says = refl

-- what the relation of a work says of the links
pub links_of : (c : Cluster) (e : Event) (n p : ℕ) (k : Work) (a : Page) → IsWorkOf c e n p k a → LinksAre (land c e n k) p (partition c.config p) a
unfolding land
links_of c e n p k a is = is.links

pub message_of_land : (c : Cluster) (e : Event) (n p q : ℕ) (k : Work) (a : Page) (from to : ℕ) (m : Message) → MessageIs (land c e n k) p q a from to m
    → SaysSo a.era a.hist a.reached a.listed a.right a.home a.sent p from to (era_at c q m.epoch) m.body
unfolding land era_at
message_of_land c e n p q k a from to m says = says

-- fewer wait
pub fewer_wait : (P : Waiter → Type 0) (e later : LockEntry) (t : TxId) → later.waiting ≡ waiting_without e.waiting t → AllByRecursion P e.waiting → AllByRecursion P later.waiting
fewer_wait P e later t same all = subst (AllByRecursion P) (sym same) (all_filter P (λ w. not (same_tx w.tx t)) e.waiting all)
