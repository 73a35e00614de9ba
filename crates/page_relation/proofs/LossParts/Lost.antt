-- What is seen of a cluster that lost a node, and what may have become of its transactions and rights.
use Rattle.std.proofs.Common.{◌≡◌, refl, sym, ap, subst, ◌∙◌, ℕ, zero, suc, ◌<◌, ◌==◌, ◌&&◌, ◌||◌, nat_lt, Bool, true, false, List, [], ◌∷◌, length, slice_index_or, slice_set, Option, Some, None, is_some, arith, eqb-true, ltb-true, lt-ltb}
use Rattle.std.proofs.lemmas.Bool.Decides.{nat_tests}
use Rattle.pcl_base.specs.declared.tx.TxId.{TxId}
use Rattle.run_rules.specs.Views.{View}
use Rattle.node_rules.specs.Words.{pick}
use Rattle.node_rules.specs.NodeState.{NodeState}
use Rattle.node_rules.specs.OpenTxs.{OpenTx, with_serial, is_own, is_open, held_by, pending_of}
use Rattle.cluster_rules.specs.Clusters.{Cluster, last_view}
use Rattle.cluster_laws.specs.Sound.{IsMember}
use Rattle.cluster_laws.proofs.EraParts.Lives.{stands}
use Rattle.page_protocol.specs.State as machine
use Rattle.page_protocol.specs.State.{Right, NoRight, Flying, Shelf, Returning, Dead, Home, Fresh, Asking, Holding, HoldingAsks, Reading, ReadingAsks, Ended, Gone, IsFresh, IsClosed}
use Rattle.page_protocol.specs.Eras.{crashed, lost}
use Rattle.page_protocol.proofs.Basics.{by_node}
use Rattle.page_relation.specs.Homes.{Stands, StandsIn, is_unborn, wait_on}
use Rattle.page_relation.specs.Relation.{on_shelf}
use Rattle.page_relation.specs.Messages.{IsTold, HasAsked, CountsFor}

-- ---- the nodes

none_set : (ss : List (Option NodeState)) (n : ℕ) → slice_index_or (slice_set ss n None) n None ≡ None
none_set [] n = refl
none_set (s ∷ ss) zero = refl
none_set (s ∷ ss) (suc n) = none_set ss n

other_set : (ss : List (Option NodeState)) (n m : ℕ) → (m == n) ≡ false → slice_index_or (slice_set ss n None) m None ≡ slice_index_or ss m None
other_set [] n m other = refl
other_set (s ∷ ss) zero zero other = absurd (cc)
other_set (s ∷ ss) zero (suc m) other = refl
other_set (s ∷ ss) (suc n) zero other = refl
other_set (s ∷ ss) (suc n) (suc m) other = other_set ss n m (grind (arith, nat_tests, other))

-- a node where one is lost: that is none, and each other is as before
pub by_lost : (ss : List (Option NodeState)) (n m : ℕ) (P : Bool → Option NodeState → Type 0) → ((m == n) ≡ true → P true None) → ((m == n) ≡ false → P false (slice_index_or ss m None))
    → P (m == n) (slice_index_or (slice_set ss n None) m None)
by_lost ss n m P here other = by (m == n) refl
  where
    by : (b : Bool) → (m == n) ≡ b → P b (slice_index_or (slice_set ss n None) m None)
    by true e =
        subst (P true)
        (sym (subst (λ (k : ℕ). slice_index_or (slice_set ss n None) k None ≡ None) (sym (eqb-true m n e)) (none_set ss n))) (here e)
    by false e = subst (P false) (sym (other_set ss n m e)) (other e)

-- ---- homes

-- a transaction whose node is lost: it is closed, fresh where it was, and an end that was told stays
pub record IsClosing (h k : Home) : Type 0 where
  pub closed : IsClosed k
  pub fresh : IsFresh h → IsFresh k
  pub begun : IsFresh k → IsFresh h
  pub ended : (change : Option ℕ) (e : ℕ) → h ≡ Ended change e → k ≡ Ended change e

-- one of the lost node, and any other
abbrev pub HomeAfter : Bool → Home → Home → Type 0
HomeAfter true h k = IsClosing h k
HomeAfter false h k = k ≡ h

pub after_begun : (b : Bool) (h k : Home) → HomeAfter b h k → IsFresh k → IsFresh h
after_begun true h k after = after.begun
after_begun false h k after = subst IsFresh after

pub after_ended : (b : Bool) (h k : Home) (change : Option ℕ) (e : ℕ) → HomeAfter b h k → h ≡ Ended change e → k ≡ Ended change e
after_ended true h k change e after is = after.ended change e is
after_ended false h k change e after is = after ∙ is

told_closed : (have : Option ℕ) (k : Home) → IsClosed k → (IsFresh k → ⊥) → IsTold have k
told_closed have Fresh c begun = absurd (begun tt)
told_closed have (Asking m told) c begun = absurd c
told_closed have (Holding m) c begun = tt
told_closed have HoldingAsks c begun = tt
told_closed have Reading c begun = tt
told_closed have ReadingAsks c begun = tt
told_closed have (Ended d e) c begun = tt
told_closed have Gone c begun = tt

-- who has asked has so after the loss
pub asked_after : (reached e : ℕ) (b : Bool) (h k : Home) (have : Option ℕ) → HomeAfter b h k → HasAsked reached e h have → HasAsked reached e k have
asked_after reached e true h k have after asked =
    record { begun = λ f. asked.begun (after.begun f); told = λ at. told_closed have k after.closed (λ f. asked.begun (after.begun f)) }
asked_after reached e false h k have after asked = subst (λ (x : Home). HasAsked reached e x have) (sym after) asked

-- what a crash makes of a home
pub crashed_closes : (h : Home) → IsClosing h (crashed h)
crashed_closes Fresh = record { closed = tt; fresh = λ f. f; begun = λ f. f; ended = λ c e is. absurd (cc) }
crashed_closes (Asking m have) = record { closed = tt; fresh = λ f. absurd f; begun = λ f. absurd f; ended = λ c e is. absurd (cc) }
crashed_closes (Holding m) = record { closed = tt; fresh = λ f. absurd f; begun = λ f. absurd f; ended = λ c e is. absurd (cc) }
crashed_closes HoldingAsks = record { closed = tt; fresh = λ f. absurd f; begun = λ f. absurd f; ended = λ c e is. absurd (cc) }
crashed_closes Reading = record { closed = tt; fresh = λ f. absurd f; begun = λ f. absurd f; ended = λ c e is. absurd (cc) }
crashed_closes ReadingAsks = record { closed = tt; fresh = λ f. absurd f; begun = λ f. absurd f; ended = λ c e is. absurd (cc) }
crashed_closes (Ended d f) = record { closed = tt; fresh = λ f. f; begun = λ f. f; ended = λ c e is. is }
crashed_closes Gone = record { closed = tt; fresh = λ f. f; begun = λ f. f; ended = λ c e is. absurd (cc) }

-- ---- rights

pub lost_shelf : (r : Right) → None ≡ on_shelf (lost r)
lost_shelf NoRight = refl
lost_shelf (Flying g) = refl
lost_shelf (Shelf v) = refl
lost_shelf (Returning upto readers) = refl
lost_shelf Dead = refl

lost_counts : (e : ℕ) (r : Right) → CountsFor e (lost r) → CountsFor e r
lost_counts e NoRight counts = counts
lost_counts e (Flying g) counts = counts
lost_counts e (Shelf v) counts = tt
lost_counts e (Returning upto readers) counts = counts
lost_counts e Dead counts = counts

-- the rights once a node is lost
abbrev pub rights_after : (ℕ → Right) → ℕ → ℕ → Right
rights_after right n = machine.updn right n (lost (right n))

pub counts_after : (right : ℕ → Right) (n m e : ℕ) → CountsFor e (rights_after right n m) → CountsFor e (right m)
counts_after right n m e = by_node (λ j (y : Right). CountsFor e y → CountsFor e (right j)) n m (lost (right n)) (right m) (lost_counts e (right n)) (λ counts. counts)

pub none_after : (right : ℕ → Right) (n m : ℕ) → right m ≡ NoRight → rights_after right n m ≡ NoRight
none_after right n m = by_node (λ j (y : Right). right j ≡ NoRight → y ≡ NoRight) n m (lost (right n)) (right m) (λ none. ap lost none) (λ none. none)

lost_returning : (r : Right) (upto : ℕ) (readers : List TxId) → r ≡ Returning upto readers → lost r ≡ Returning upto readers
lost_returning NoRight upto readers is = is
lost_returning (Flying g) upto readers is = absurd (cc)
lost_returning (Shelf v) upto readers is = absurd (cc)
lost_returning (Returning u rs) upto readers is = is
lost_returning Dead upto readers is = is

pub returning_after : (right : ℕ → Right) (n m upto : ℕ) (readers : List TxId) → right m ≡ Returning upto readers → rights_after right n m ≡ Returning upto readers
returning_after right n m upto readers =
    by_node (λ j (y : Right). right j ≡ Returning upto readers → y ≡ Returning upto readers) n m (lost (right n)) (right m) (lost_returning (right n) upto readers) (λ is. is)

-- ---- transactions of later lives

no_open : (txs : List OpenTx) (own : Bool) (serial : ℕ) → length txs ≡ 0 → is_some (pick own (with_serial txs serial) None) ≡ false
unfolding with_serial
no_open [] true serial none = refl
no_open [] false serial none = refl
no_open (x ∷ xs) own serial none = absurd (omega (arith, none))

pub record IsLater (s : NodeState) (t : TxId) : Type 0 where
  pub closed : is_open s.home.txs t ≡ false
  pub unborn : is_unborn s.view s t ≡ true

-- one that is born after the last view isn't begun yet
pub later_life : (c : Cluster) (n : ℕ) (s : NodeState) (t : TxId) → IsMember c.config c.views n s → (last_view c).epoch < t.born → IsLater s t
later_life c n s t is late = by s.view refl
  where
    by : (o : Option View) → s.view ≡ o → IsLater s t
    by None own =
        let reached = is.reached in
        record {
          closed = no_open s.home.txs.txs (is_own s.home.txs t) t.serial (is.sound.idle own);
          unborn = subst (λ (o : Option View). is_unborn o s t ≡ true) (sym own) (lt-ltb s.epoch t.born (omega (arith, reached, late)));
        }
    by (Some v) own =
        let at = stands c n s v is own in
        let born = at.born in
        let upto = at.upto in
        let epoch = at.epoch in
        let reached = is.reached in
        let less : s.home.txs.born < t.born = omega (arith, born, upto, epoch, reached, late) in
        let other : (t.born == s.home.txs.born) ≡ false = grind (arith, nat_tests, less) in
        record {
          closed = not_own (t.node == s.home.txs.node) (t.born == s.home.txs.born) other;
          unborn = subst (λ (o : Option View). is_unborn o s t ≡ true) (sym own) (or_so (nat_lt s.home.txs.born t.born) _ (lt-ltb s.home.txs.born t.born less));
        }
      where
        not_own : (x y : Bool) → y ≡ false → is_some (pick (x && y) (with_serial s.home.txs.txs t.serial) None) ≡ false
        not_own true true e = absurd (cc)
        not_own true false e = refl
        not_own false y e = refl

        or_so : (x y : Bool) → x ≡ true → (x || y) ≡ true
        or_so true y e = refl
        or_so false y e = absurd (cc)

-- a transaction that is born after the last view is fresh
fresh_late : (c : Cluster) (n : ℕ) (o : Option NodeState) (t : TxId) (p : ℕ) (h : Home) → ((s : NodeState) → o ≡ Some s → IsMember c.config c.views n s)
    → StandsIn (last_view c).epoch o t p h → nat_lt (last_view c).epoch t.born ≡ true → IsFresh h
fresh_late c n None t p h member was late = subst (λ (b : Bool). Stands false b None None h) late was
fresh_late c n (Some s) t p h member was late =
    let is = later_life c n s t (member s refl) (ltb-true (last_view c).epoch t.born late) in
    subst (λ (b : Bool). Stands false b (held_by s.home.txs t p) (wait_on (pending_of s.home.txs t) p) h) is.unborn
    (subst (λ (b : Bool). Stands b (is_unborn s.view s t) (held_by s.home.txs t p) (wait_on (pending_of s.home.txs t) p) h) is.closed was)

-- a transaction whose node is lost stands where the machine has it
pub lost_stands : (c : Cluster) (n : ℕ) (o : Option NodeState) (t : TxId) (p : ℕ) (h k : Home) → ((s : NodeState) → o ≡ Some s → IsMember c.config c.views n s) → IsClosing h k
    → StandsIn (last_view c).epoch o t p h → StandsIn (last_view c).epoch None t p k
lost_stands c n o t p h k member after was = by (nat_lt (last_view c).epoch t.born) (λ late. fresh_late c n o t p h member was late)
  where
    by : (b : Bool) → (b ≡ true → IsFresh h) → Stands false b None None k
    by true fresh = after.fresh (fresh refl)
    by false fresh = after.closed
