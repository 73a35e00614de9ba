-- What is removed of transactions that are no more keeps the invariant.
use Rattle.std.specs.Prelude.{ℕ, ◌<◌, ◌≤◌, Bool, true, ◌&&◌, ltb, leb, ◌≡◌, ◌≢◌, ◌⊎◌, List, Option, Some, None}
use Rattle.std.proofs.Common.{refl, sym, ap, ◌∙◌, arith}
use Rattle.pcl_base.specs.declared.tx.TxId.{TxId}
use Rattle.pcl_base.specs.declared.tx.Mode.{Mode}
use Rattle.pcl_base.specs.declared.tx.Mode.TheVariants.{Exclusive}
use Rattle.std.proofs.lemmas.Bool.Decides.{nat_tests}
use mathlib.Core.Logic.{inl, inr}
use Rattle.page_protocol.specs.Eras.{buried, burying, lowering}
use Rattle.page_protocol.specs.Invariant.{Covers, Names, Covered, Locked, EndsOk, Locks, ChangeIs, SlotOk, ScriptOk, Inv}
use Rattle.page_protocol.specs.State.{pick, updn, has, Right, NoRight, Returning, Home, Fresh, Asking, Holding, HoldingAsks, Reading, ReadingAsks, Ended, Gone, Lock, Free, Registered, UnderRight, lock_of, Page, current, IsPast, IsClosed, IsShelf}
use Rattle.page_protocol.proofs.Basics.{and_true, ltb_true, leb_true, leb_holds, by_test, by_node, pick_same, along, back, covered_more}
use Rattle.page_protocol.proofs.AccessesKept.{accesses_homes}
use Rattle.page_protocol.proofs.LocksOne.{locks_homes, locks_unlist}
use Rattle.page_protocol.proofs.GrantsKept.{Fades, fades_same, fades_closed, grants_homes, grants_listed, grants_right}
use Rattle.page_protocol.proofs.LocksEras.{closed_lock}
use Rattle.page_protocol.proofs.EntryKept.{entry_kept}

-- what is buried is as before, or a release that is gone
buried_is : (P : Home → Type 0) (e : ℕ) (h : Home) → P h → ((c : Option ℕ) (f : ℕ) → h ≡ Ended c f → P Gone) → P (buried e h)
buried_is P e Fresh p q = p
buried_is P e (Asking m k) p q = p
buried_is P e (Holding m) p q = p
buried_is P e HoldingAsks p q = p
buried_is P e Reading p q = p
buried_is P e ReadingAsks p q = p
buried_is P e (Ended c f) p q = by_test (leb e f) P Gone (Ended c f) (λ s. q c f refl) (λ s. p)
buried_is P e Gone p q = p

buried_lock : (e : ℕ) (h : Home) → lock_of (buried e h) ≡ lock_of h
buried_lock e h = buried_is (λ k. lock_of k ≡ lock_of h) e h refl (λ c f z. sym (ap lock_of z))

buried_ends : (era x e : ℕ) (l : ℕ → Option Mode) (h : Home) → EndsOk era x l h → EndsOk era x l (buried e h)
buried_ends era x e l h q = buried_is (EndsOk era x l) e h q (λ c f z. tt)

buried_not : (e f : ℕ) (h : Home) (c : Option ℕ) → e ≤ f → buried e h ≢ Ended c f
buried_not e f Fresh c low p = absurd (cc)
buried_not e f (Asking m k) c low p = absurd (cc)
buried_not e f (Holding m) c low p = absurd (cc)
buried_not e f HoldingAsks c low p = absurd (cc)
buried_not e f Reading c low p = absurd (cc)
buried_not e f ReadingAsks c low p = absurd (cc)
buried_not e f (Ended d g) c low p =
    by_test (leb e g) (λ h. h ≡ Ended c f → ⊥) Gone (Ended d g) (λ s q. absurd (cc))
    (λ s q. let z : g ≡ f = cc in let y : leb e f ≡ true = leb_holds e f low in absurd (let x : leb e g ≡ true = rw z y in cc)) p
buried_not e f Gone c low p = absurd (cc)

buried_fades : (e : ℕ) (h : Home) → Fades h (buried e h)
buried_fades e h = buried_is (Fades h) e h (fades_same h) (λ c f z. fades_closed h Gone (λ l. l) (λ n. absurd n))

buried_past : (e : ℕ) (h : Home) → IsPast h → IsPast (buried e h)
buried_past e h p = buried_is IsPast e h p (λ c f z. tt)

-- an answer that counts for fewer eras names as many as before, where later eras list none of its readers
module _ {era : ℕ} {reached : ℕ → ℕ} {listed : TxId → ℕ → Option Mode} {right : ℕ → Right} {home : TxId → Home} (i : Locks era reached listed right home) where
  locks_lowered : (n upto low : ℕ) (readers : List TxId) → right n ≡ Returning upto readers → era < low → low ≤ upto
      → ((t : TxId) → t.node ≡ n → has t readers ≡ true → (lock_of (home t) ≡ Free) × ((f : ℕ) → low < f → listed t f ≡ None))
      → Locks era reached listed (updn right n (Returning low readers)) home
  locks_lowered n upto low readers was above below dead =
      record {
        exclusive = i.exclusive;
        in_era = i.in_era;
        unlisted = i.unlisted;
        ends = i.ends;
        no_rights = λ t m x. by_node (λ k y. y ≡ NoRight) n m (Returning low readers) (right m) (absurd (let z = i.no_rights t n x in cc)) (i.no_rights t m x);
        chain = λ t e f m p q l. by_node (λ k y. k ≡ t.node → Covered (listed t e) y e t m) n t.node (Returning low readers) (right t.node)
            (λ k. covered_more (listed t e) (Returning upto readers) (Returning low readers) e t m (λ w. still t e f m (sym k) q l w)
            (along (λ z. Covered (listed t e) z e t m) (ap right (sym k) ∙ was) (i.chain t e f m p q l)))
            (λ k. i.chain t e f m p q l) refl;
        locks = λ t e p q. by_node (λ k y. k ≡ t.node → Locked (listed t e) y e t (lock_of (home t))) n t.node (Returning low readers) (right t.node)
            (λ k. free t e (lock_of (home t)) (λ h. (dead t (sym k) h).0) (along (λ z. Locked (listed t e) z e t (lock_of (home t))) (ap right (sym k) ∙ was) (i.locks t e p q)))
            (λ k. i.locks t e p q) refl;
        shelves = λ m. by_node (λ k y. IsShelf y → era ≤ reached k) n m (Returning low readers) (right m) (λ x. absurd x) (i.shelves m);
      }
    where
      still : (t : TxId) (e f : ℕ) (m : Mode) → t.node ≡ n → e < f → listed t f ≡ Some m → Names (Returning upto readers) e t → Names (Returning low readers) e t
      still t e f m k q l w = (
        by_test (ltb e low) (λ b. e < low) true true (λ s. ltb_true e low s)
            (λ s. let z : low ≤ e = grind (arith, nat_tests) in absurd (let y = (dead t k w.1).1 f (omega arith) in cc)),
        w.1,
      )

      free : (t : TxId) (e : ℕ) (k : Lock) → (has t readers ≡ true → k ≡ Free) → Locked (listed t e) (Returning upto readers) e t k → Locked (listed t e) (Returning low readers) e t k
      free t e Free f p = tt
      free t e (Registered m) f p = covered_more (listed t e) (Returning upto readers) (Returning low readers) e t m (λ w. absurd (let z = f w.1 in cc)) p
      free t e UnderRight f p = p

module _ (blank : List ℕ) (a : Page) (i : Inv blank a) where
  pub keeps_buries : (e : ℕ) (dead : TxId → Bool) → a.era < e → ((t : TxId) → dead t ≡ true → IsClosed (a.home t)) → Inv blank (burying a e dead)
  unfolding burying
  keeps_buries e dead p closed =
      record {
        locks_hold = locks_unlist
            (locks_homes i.locks_hold (λ t. pick (dead t) (buried e (a.home t)) (a.home t))
            (λ t. by_test (dead t) (λ h. (lock_of h ≡ lock_of (a.home t)) ⊎ (lock_of h ≡ Free)) (buried e (a.home t)) (a.home t) (λ s. inl (buried_lock e (a.home t))) (λ s. inl refl))
            (λ t q. by_test (dead t) (λ h. EndsOk a.era (a.reached t.node) (a.listed t) h) (buried e (a.home t)) (a.home t) (λ s. buried_ends a.era (a.reached t.node) e (a.listed t) (a.home t) q) (λ s. q)))
            (λ t f. dead t && leb e f)
            (λ t f d. let w = and_true (dead t) (leb e f) d in ap lock_of (pick_same (dead t) (buried e (a.home t)) (a.home t) w.0) ∙ buried_lock e (a.home t) ∙ closed_lock (a.home t) (closed t w.0))
            (λ t f g d q. let w = and_true (dead t) (leb e f) d in let low = leb_true e f w.1 in let high = leb_holds e g (omega arith) in inr (rw (w.0, high) refl))
            (λ t f c d. let w = and_true (dead t) (leb e f) d in
            back (λ x. x ≢ Ended c f) (pick_same (dead t) (buried e (a.home t)) (a.home t) w.0) (buried_not e f (a.home t) c (leb_true e f w.1)));
        grants_hold = grants_listed (grants_homes i.grants_hold (λ t. pick (dead t) (buried e (a.home t)) (a.home t))
            (λ t. by_test (dead t) (λ k. Fades (a.home t) k) (buried e (a.home t)) (a.home t) (λ s. buried_fades e (a.home t)) (λ s. fades_same (a.home t))))
            (λ t f. pick (dead t && leb e f) None (a.listed t f))
            (λ t m l c. by_test (dead t && leb e a.era) (λ y. Covers y m) None (a.listed t a.era) (λ d. absurd (unserved t d)) (λ d. c));
        entry_holds = entry_kept i.entry_holds (λ t f. pick (dead t && leb e f) None (a.listed t f)) (λ t. pick (dead t) (buried e (a.home t)) (a.home t))
            (λ t q x. (
              by_test (dead t) IsPast (buried e (a.home t)) (a.home t) (λ s. buried_past e (a.home t) q) (λ s. q),
              by_test (dead t && leb e a.era) (λ y. y ≡ Some Exclusive) None (a.listed t a.era) (λ d. absurd (unserved t d)) (λ d. x),
            ))
            (λ t. by_test (dead t) (ChangeIs a.era a.now) (buried e (a.home t)) (a.home t)
            (λ s. buried_is (ChangeIs a.era a.now) e (a.home t) (i.entry_holds.changes t) (λ c f z. tt)) (λ s. i.entry_holds.changes t));
        stores_hold = i.stores_hold;
        kept_holds = i.kept_holds;
        accesses_hold = accesses_homes i.accesses_hold (λ t. pick (dead t) (buried e (a.home t)) (a.home t))
            (λ t q. by_test (dead t) (λ k. SlotOk (current a) (a.slot t.node) k) (buried e (a.home t)) (a.home t) (λ s. buried_is (SlotOk (current a) (a.slot t.node)) e (a.home t) q (λ c f z. tt)) (λ s. q))
            (λ t q. by_test (dead t) (λ k. ScriptOk (a.hist a.now) (a.script t) (a.image t) k) (buried e (a.home t)) (a.home t)
            (λ s. buried_is (ScriptOk (a.hist a.now) (a.script t) (a.image t)) e (a.home t) q (λ c f z. tt)) (λ s. q));
      }
    where
      unserved : (t : TxId) → (dead t && leb e a.era) ≡ true → ⊥
      unserved t d = let k = leb_true e a.era (and_true (dead t) (leb e a.era) d).1 in absurd (omega arith)

  pub keeps_lowers : (n upto low : ℕ) (readers : List TxId) → a.right n ≡ Returning upto readers → a.era < low → low ≤ upto
      → ((t : TxId) → t.node ≡ n → has t readers ≡ true → IsClosed (a.home t) × ((f : ℕ) → low < f → a.listed t f ≡ None)) → Inv blank (lowering a n low readers)
  unfolding lowering
  keeps_lowers n upto low readers r above below closed =
      record {
        locks_hold = locks_lowered i.locks_hold n upto low readers r above below (λ t k h. (closed_lock (a.home t) (closed t k h).0, (closed t k h).1));
        grants_hold = grants_right i.grants_hold n (Returning low readers) tt;
        entry_holds = i.entry_holds;
        stores_hold = i.stores_hold;
        kept_holds = i.kept_holds;
        accesses_hold = i.accesses_hold;
      }
