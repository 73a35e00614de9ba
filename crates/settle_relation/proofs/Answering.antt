-- Answers to revocations: what the machine changes, and that no further one comes.
use Rattle.std.proofs.Common.{◌≡◌, refl, ap, sym, ◌∙◌, ℕ, suc, ◌≤◌, ◌&&◌, cond, Bool, true, false, List, [], ◌∷◌, length, Option, arith, eqb-true}
use Rattle.std.specs.Prelude.{eqb}
use Rattle.std.specs.List.{AllByRecursion, filter}
use Rattle.pcl_base.specs.declared.event.Event.{Event}
use Rattle.pcl_base.specs.declared.message.Body.{Body}
use Rattle.pcl_base.specs.declared.message.Body.TheVariants as body
use Rattle.pcl_base.specs.declared.message.Message.{Message}
use Rattle.pcl_base.specs.declared.tx.Mode.{Mode}
use Rattle.pcl_base.specs.declared.tx.TxId.{TxId}
use Rattle.run_rules.specs.Views.{View, owner_of}
use Rattle.node_rules.specs.NodeState.{owner_in, partition}
use Rattle.node_rules.specs.Work.{Work}
use Rattle.cluster_rules.specs.Clusters.{Cluster}
use Rattle.cluster_laws.specs.Era.Eras.{era_at, owner_at}
use Rattle.cluster_laws.proofs.EraParts.Ages.{eras_have_one_owner_law}
use Rattle.cluster_laws.specs.Link.Coming.{speaks_of}
use Rattle.cluster_laws.specs.Link.Orders.{how_many}
use Rattle.page_protocol.specs.Authority.{with_shared}
use Rattle.page_protocol.specs.State.{NoRight, Flying, Returning, Page, has, pick as picked, updn}
use Rattle.page_protocol.proofs.Basics.{by_node, by_test, and_true, eqb_true}
use Rattle.page_relation.specs.Messages.{CountsFor, SaysSo, is_answer}
use Rattle.page_relation.specs.Relation.{on_shelf}
use Rattle.page_relation.specs.Together.{IsParty, PartiesAre}
use Rattle.page_relation.specs.Work.Keeping.{IsWorkOf}
use Rattle.page_relation.specs.Work.Landing.{land, Acts}
use Rattle.settle_relation.specs.Deciding.{IsDecided}
use Rattle.settle_relation.proofs.OwnGrants.{eras_of}
use Rattle.settle_relation.proofs.Requesting.{acts}

-- ---- what the machine changes

pub return_decides : (a : Page) (k : ℕ) (readers : List TxId) → a.right k ≡ Returning (suc a.era) readers
    → IsDecided a (λ t f. picked (has t readers && eqb f a.era) (with_shared (a.listed t f)) (a.listed t f)) a.sent (updn a.right k NoRight)
return_decides a k readers back =
    record {
      later = λ u f over.
          by_test (has u readers && eqb f a.era) (λ (o : Option Mode). o ≡ a.listed u f) (with_shared (a.listed u f)) (a.listed u f)
          (λ is. let same : f ≡ a.era = eqb_true f a.era (and_true (has u readers) (eqb f a.era) is).1 in absurd (omega (arith, same, over))) (λ is. refl);
      shelves = λ m. by_node (λ j r. on_shelf r ≡ on_shelf (a.right j)) k m NoRight (a.right m) (sym (ap on_shelf back)) refl;
      counts = λ m f over. by_node (λ j r. CountsFor f r → CountsFor f (a.right j)) k m NoRight (a.right m) (λ bad. absurd bad) (λ j. j);
      sent_on = λ g there. there;
      flying = λ m g.
          by_node (λ j r. a.right j ≡ Flying g → r ≡ Flying g) k m NoRight (a.right m)
          (λ bad. let clash : Returning (suc a.era) readers ≡ Flying g = sym back ∙ bad in absurd (cc)) (λ j. j);
    }

-- ---- no further answer comes

pub none_are : (kind : Body → Bool) (ms : List Message) → how_many kind ms ≡ 0 → AllByRecursion (λ (k : Message). kind k.body ≡ false) ms
none_are kind [] none = tt
none_are kind (m ∷ ms) none = by (kind m.body) refl none (none_are kind ms)
  where
    by : (b : Bool) → kind m.body ≡ b → length (cond b (m ∷ filter (λ (k : Message). kind k.body) ms) (filter (λ (k : Message). kind k.body) ms)) ≡ 0
        → (how_many kind ms ≡ 0 → AllByRecursion (λ (k : Message). kind k.body ≡ false) ms) → (kind m.body ≡ false) × AllByRecursion (λ (k : Message). kind k.body ≡ false) ms
    by true is long rest = absurd (omega (arith, long))
    by false is long rest = (is, rest long)

-- an answer that counts comes to the owner of the era that serves
pub answers_to : (c : Cluster) (p from to owner era : ℕ) (a : Page) (k : Message) → IsParty c from to k → speaks_of c.config p k.body ≡ true → a.era ≤ era_at c (partition c.config p) k.epoch
    → SaysSo a.era a.hist a.reached a.listed a.right a.home a.sent p from to (era_at c (partition c.config p) k.epoch) k.body
    → (era_at c (partition c.config p) k.epoch ≡ a.era → owner_at c (partition c.config p) k.epoch ≡ owner) → is_answer k.body ≡ true → to ≡ owner
unfolding owner_at
answers_to c p from to owner era a k party speaks low says owned answer = by k.body party.parties speaks says answer
  where
    by : (b : Body) → PartiesAre c party.view from to k.epoch b → speaks_of c.config p b ≡ true
        → SaysSo a.era a.hist a.reached a.listed a.right a.home a.sent p from to (era_at c (partition c.config p) k.epoch) b → is_answer b ≡ true → to ≡ owner
    by (body.Request r) parties spoken says is = absurd (cc)
    by (body.Grant g) parties spoken says is = absurd (cc)
    by (body.Release r) parties spoken says is = absurd (cc)
    by (body.Revoke page) parties spoken says is = absurd (cc)
    by (body.Report r) parties spoken says is = absurd (cc)
    by (body.Return r) parties spoken says is =
        let most = says.0 in
        let now : era_at c (partition c.config p) k.epoch ≡ a.era = omega (arith, most, low) in
        sym parties.0 ∙ ap (λ (j : ℕ). owner_of party.view (partition c.config j)) (eqb-true r.page p spoken)
        ∙ sym (ap (λ (o : Option View). owner_in o (partition c.config p)) party.made) ∙ owned now

pub both_first : (x y : Bool) → (x && y) ≡ true → x ≡ true
both_first true y e = refl
both_first false y e = absurd (cc)

-- the owner of the era that serves
pub owner_of_era : (c : Cluster) (e : Event) (n p : ℕ) (k : Work) (a : Page) → Acts c n → IsWorkOf c e n p k a → (epoch : ℕ) → era_at c (partition c.config p) epoch ≡ a.era
    → owner_at c (partition c.config p) epoch ≡ a.owner
unfolding land era_at owner_at
owner_of_era c e n p k a acts is epoch same =
    let era = eras_of c e n p k a is in
    eras_have_one_owner_law c (partition c.config p) epoch era.epoch acts.cluster (same ∙ sym era.era_there) ∙ era.owner_there
