-- Locks and rights after a grant, a revocation and its answer.
use Rattle.std.specs.Prelude.{ℕ, ◌<◌, ◌≤◌, Bool, true, false, ◌&&◌, eqb, ◌≡◌, ◌≢◌, ◌⊎◌, List, Option, Some, None}
use Rattle.std.proofs.Common.{suc, refl, sym, ap, ◌∙◌, arith}
use Rattle.pcl_base.specs.declared.tx.TxId.{TxId}
use Rattle.pcl_base.specs.declared.tx.Mode.{Mode}
use Rattle.pcl_base.specs.declared.tx.Mode.TheVariants.{Shared, Exclusive}
use mathlib.Core.Logic.{inl, inr}
use Rattle.page_protocol.specs.Authority.{registered, IsReading, with_shared}
use Rattle.page_protocol.specs.Invariant.{Covers, Covered, Locked, EndsOk, Locks}
use Rattle.page_protocol.specs.State.{pick, updn, set_at, has, Right, NoRight, Shelf, Returning, Home, Fresh, Asking, Holding, HoldingAsks, Reading, ReadingAsks, Ended, Gone, Lock, Free, Registered, UnderRight, lock_of, InEra, IsShelf}
use Rattle.page_protocol.proofs.Basics.{and_true, eqb_true, eqb_refl, by_test, by_node, pick_same, pick_other, along, back, covered_more, locked_listed, by_set, ends_kept}

module _ {era : ℕ} {reached : ℕ → ℕ} {listed : TxId → ℕ → Option Mode} {right : ℕ → Right} {home : TxId → Home} (i : Locks era reached listed right home) where
  -- a grant
  granted_covers : (l : Option Mode) (r : Right) (e : ℕ) (t : TxId) (m k : Mode) → l ≢ Some Exclusive → Covered l r e t k → Covered (Some m) r e t k
  granted_covers l r e t Shared Shared x c = inl tt
  granted_covers l r e t Exclusive Shared x c = inl tt
  granted_covers l r e t m Exclusive x c = absurd (x c)

  granted_first : (t : TxId) (m : Mode) → ((u : TxId) → listed u era ≢ Some Exclusive)
      → (m ≡ Exclusive → (u : TxId) → (listed u era ≡ None) ⊎ (u ≡ t))
      → (u v : TxId) → set_at listed t era (Some m) u era ≡ Some Exclusive → (set_at listed t era (Some m) v era ≡ None) ⊎ (v ≡ u)
  granted_first t m nox alone u v x =
      let w = by_set (λ z f y. f ≡ era → y ≡ Some Exclusive → (z ≡ t) × (m ≡ Exclusive)) listed t era (Some m) u era
      (λ f y. (refl, cc)) (λ f y. absurd (nox u y)) refl x in
      by_set (λ z f y. f ≡ era → (y ≡ None) ⊎ (z ≡ u)) listed t era (Some m) v era
      (λ f. inr (sym w.0)) (λ f. else (alone w.1 v) w.0) refl
    where
      else : (listed v era ≡ None) ⊎ (v ≡ t) → u ≡ t → (listed v era ≡ None) ⊎ (v ≡ u)
      else (inl n) p = inl n
      else (inr q) p = inr (q ∙ sym p)

  pub locks_granted : (t : TxId) (m : Mode) → ((u : TxId) → listed u era ≢ Some Exclusive)
      → (m ≡ Exclusive → (u : TxId) → (listed u era ≡ None) ⊎ (u ≡ t))
      → (m ≡ Exclusive → (n : ℕ) → right n ≡ NoRight)
      → Locks era reached (set_at listed t era (Some m)) right home
  locks_granted t m nox alone none =
      record {
        shelves = i.shelves;
        in_era = i.in_era;
        exclusive = granted_first t m nox alone;
        no_rights = λ u n x. by_set (λ z f y. f ≡ era → y ≡ Some Exclusive → right n ≡ NoRight) listed t era (Some m) u era
            (λ f y. none (cc) n) (λ f y. absurd (nox u y)) refl x;
        chain = λ u e f k p q l. by_set (λ z g y. era ≤ g → g < f → set_at listed t era (Some m) z f ≡ Some k → Covered y (right z.node) g z k) listed t era (Some m) u e
            (λ a b c. granted_covers (listed t era) (right t.node) era t m k (nox t) (i.chain t era f k a b (later t f k a b c)))
            (λ a b c. i.chain u e f k a b (later u f k a b c)) p q l;
        locks = λ u e p q. by_set (λ z g y. era ≤ g → g ≤ reached z.node → Locked y (right z.node) g z (lock_of (home z))) listed t era (Some m) u e
            (λ a b. locked_listed (listed t era) (Some m) (right t.node) era t (lock_of (home t)) (λ k c. granted_covers (listed t era) (right t.node) era t m k (nox t) c) (i.locks t era a b))
            (λ a b. i.locks u e a b) p q;
        unlisted = λ u e p q. by_set (λ z g y. era < g → reached z.node < g → y ≡ None) listed t era (Some m) u e
            (λ a b. absurd (omega arith)) (λ a b. i.unlisted u e a b) p q;
        ends = λ u. ends_kept era (reached u.node) (listed u) (λ e. set_at listed t era (Some m) u e) (home u)
            (λ f p n. by_set (λ z g y. era < g → listed z g ≡ None → y ≡ None) listed t era (Some m) u f (λ a b. absurd (omega arith)) (λ a b. b) p n)
            (λ c e h p x. by_set (λ z g y. listed z g ≡ Some Exclusive → y ≡ Some Exclusive) listed t era (Some m) u e (λ b. absurd (nox t b)) (λ b. b) x)
            (i.ends u);
      }
    where
      later : (u : TxId) (f : ℕ) (k : Mode) {e : ℕ} → era ≤ e → e < f → set_at listed t era (Some m) u f ≡ Some k → listed u f ≡ Some k
      later u f k {e} a b c = by_set (λ z g y. era < g → y ≡ Some k → listed z g ≡ Some k) listed t era (Some m) u f (λ x y. absurd (omega arith)) (λ x y. y) (omega arith) c

  -- a right is spent: its readers are registered
  spent_locked : (l : Option Mode) (e upto : ℕ) (readers : List TxId) (t : TxId) (v : ℕ) (h : Home)
      → e < upto → (IsReading h → has t readers ≡ true) → Locked l (Shelf v) e t (lock_of h) → Locked l (Returning upto readers) e t (lock_of (registered h))
  spent_locked l e upto rs t v Fresh p r k = tt
  spent_locked l e upto rs t v (Asking m h) p r k = tt
  spent_locked l e upto rs t v (Holding m) p r k = covered_more l (Shelf v) (Returning upto rs) e t m (λ x. absurd x) k
  spent_locked l e upto rs t v HoldingAsks p r k = covered_more l (Shelf v) (Returning upto rs) e t Shared (λ x. absurd x) k
  spent_locked l e upto rs t v Reading p r k = inr (p, r tt)
  spent_locked l e upto rs t v ReadingAsks p r k = inr (p, r tt)
  spent_locked l e upto rs t v (Ended c f) p r k = tt
  spent_locked l e upto rs t v Gone p r k = tt

  registered_in_era : (h : Home) (x : ℕ) → InEra (lock_of h) era x → InEra (lock_of (registered h)) era x
  registered_in_era Fresh x p = p
  registered_in_era (Asking m h) x p = p
  registered_in_era (Holding m) x p = p
  registered_in_era HoldingAsks x p = p
  registered_in_era Reading x p = p
  registered_in_era ReadingAsks x p = p
  registered_in_era (Ended c f) x p = p
  registered_in_era Gone x p = p

  registered_ends : (h : Home) (x : ℕ) (l : ℕ → Option Mode) → EndsOk era x l h → EndsOk era x l (registered h)
  registered_ends Fresh x l p = p
  registered_ends (Asking m h) x l p = p
  registered_ends (Holding m) x l p = p
  registered_ends HoldingAsks x l p = p
  registered_ends Reading x l p = tt
  registered_ends ReadingAsks x l p = tt
  registered_ends (Ended c f) x l p = p
  registered_ends Gone x l p = p

  pub locks_spent : (n v upto : ℕ) (readers : List TxId) → right n ≡ Shelf v → reached n < upto
      → ((t : TxId) → t.node ≡ n → IsReading (home t) → has t readers ≡ true)
      → Locks era reached listed (updn right n (Returning upto readers)) (λ t. pick (eqb t.node n) (registered (home t)) (home t))
  locks_spent n v upto rs shelf p named =
      record {
        exclusive = i.exclusive;
        unlisted = i.unlisted;
        no_rights = λ t m x. by_node (λ k y. y ≡ NoRight) n m (Returning upto rs) (right m) (absurd (let z = i.no_rights t n x in cc)) (i.no_rights t m x);
        chain = λ t e f m a b l. by_node (λ k y. k ≡ t.node → Covered (listed t e) y e t m) n t.node (Returning upto rs) (right t.node)
            (λ k. covered_more (listed t e) (Shelf v) (Returning upto rs) e t m (λ x. absurd x) (along (λ z. Covered (listed t e) z e t m) (ap right (sym k) ∙ shelf) (i.chain t e f m a b l)))
            (λ k. i.chain t e f m a b l) refl;
        locks = λ t e a b. by_test (eqb t.node n) (λ h. Locked (listed t e) (updn right n (Returning upto rs) t.node) e t (lock_of h)) (registered (home t)) (home t)
            (λ s. let k = eqb_true t.node n s in
            back (λ y. Locked (listed t e) y e t (lock_of (registered (home t)))) (pick_same (eqb t.node n) (Returning upto rs) (right t.node) s)
            (spent_locked (listed t e) e upto rs t v (home t) (let q = along (λ z. e ≤ reached z) k b in omega arith) (named t k)
            (along (λ z. Locked (listed t e) z e t (lock_of (home t))) (ap right k ∙ shelf) (i.locks t e a b))))
            (λ s. back (λ y. Locked (listed t e) y e t (lock_of (home t))) (pick_other (eqb t.node n) (Returning upto rs) (right t.node) s) (i.locks t e a b));
        in_era = λ t. by_test (eqb t.node n) (λ h. InEra (lock_of h) era (reached t.node)) (registered (home t)) (home t) (λ s. registered_in_era (home t) (reached t.node) (i.in_era t)) (λ s. i.in_era t);
        shelves = λ m. by_node (λ k y. IsShelf y → era ≤ reached k) n m (Returning upto rs) (right m) (λ x. absurd x) (i.shelves m);
        ends = λ t. by_test (eqb t.node n) (λ h. EndsOk era (reached t.node) (listed t) h) (registered (home t)) (home t) (λ s. registered_ends (home t) (reached t.node) (listed t) (i.ends t)) (λ s. i.ends t);
      }

  -- the answer comes
  named_covers : (l : Option Mode) (rs : List TxId) (e : ℕ) (t : TxId) (m : Mode) → era ≤ e → Covered l (Returning (suc era) rs) e t m → Covered (pick (has t rs && eqb e era) (with_shared l) l) NoRight e t m
  named_covers None rs e t Shared p (inl c) = absurd c
  named_covers (Some Shared) rs e t Shared p (inl c) = by_test (has t rs && eqb e era) (λ y. Covered y NoRight e t Shared) (with_shared (Some Shared)) (Some Shared) (λ s. inl tt) (λ s. inl tt)
  named_covers (Some Exclusive) rs e t Shared p (inl c) = by_test (has t rs && eqb e era) (λ y. Covered y NoRight e t Shared) (with_shared (Some Exclusive)) (Some Exclusive) (λ s. inl tt) (λ s. inl tt)
  named_covers l rs e t Shared p (inr w) =
      let same : e ≡ era = omega (arith, w.0) in
      let test : (has t rs && eqb e era) ≡ true = rw (w.1, same, eqb_refl era) refl in
      back (λ y. Covered y NoRight e t Shared) (pick_same (has t rs && eqb e era) (with_shared l) l test) (inl (shared l))
    where
      shared : (k : Option Mode) → Covers (with_shared k) Shared
      shared None = tt
      shared (Some Shared) = tt
      shared (Some Exclusive) = tt
  named_covers l rs e t Exclusive p c =
      by_test (has t rs && eqb e era) (λ y. y ≡ Some Exclusive) (with_shared l) l (λ s. ap with_shared c) (λ s. c)

  more_covers : (b : Bool) (l : Option Mode) (r : Right) (e : ℕ) (t : TxId) (m : Mode) → Covered l r e t m → Covered (pick b (with_shared l) l) r e t m
  more_covers b None r e t Shared (inl c) = absurd c
  more_covers true (Some Shared) r e t Shared (inl c) = inl tt
  more_covers true (Some Exclusive) r e t Shared (inl c) = inl tt
  more_covers false (Some Shared) r e t Shared (inl c) = inl tt
  more_covers false (Some Exclusive) r e t Shared (inl c) = inl tt
  more_covers b l r e t Shared (inr w) = inr w
  more_covers b l r e t Exclusive c = by_test b (λ y. y ≡ Some Exclusive) (with_shared l) l (λ s. ap with_shared c) (λ s. c)

  returned_covers : (n : ℕ) (rs : List TxId) → right n ≡ Returning (suc era) rs → (t : TxId) (e : ℕ) (m : Mode) → era ≤ e → Covered (listed t e) (right t.node) e t m
      → Covered (pick (has t rs && eqb e era) (with_shared (listed t e)) (listed t e)) (updn right n NoRight t.node) e t m
  returned_covers n rs was t e m p =
      by_node (λ k y. k ≡ t.node → Covered (listed t e) (right t.node) e t m → Covered (pick (has t rs && eqb e era) (with_shared (listed t e)) (listed t e)) y e t m) n t.node NoRight (right t.node)
      (λ k c. named_covers (listed t e) rs e t m p (along (λ z. Covered (listed t e) z e t m) (ap right (sym k) ∙ was) c))
      (λ k c. more_covers (has t rs && eqb e era) (listed t e) (right t.node) e t m c) refl

  returned_locked : (n : ℕ) (rs : List TxId) → right n ≡ Returning (suc era) rs → (t : TxId) (e : ℕ) (k : Lock) → era ≤ e → Locked (listed t e) (right t.node) e t k
      → Locked (pick (has t rs && eqb e era) (with_shared (listed t e)) (listed t e)) (updn right n NoRight t.node) e t k
  returned_locked n rs was t e Free p l = tt
  returned_locked n rs was t e (Registered m) p l = returned_covers n rs was t e m p l
  returned_locked n rs was t e UnderRight p l =
      by_node (λ k y. k ≡ t.node → IsShelf y) n t.node NoRight (right t.node) (λ k. along IsShelf (ap right (sym k) ∙ was) l) (λ k. l) refl

  pub locks_returned : (n : ℕ) (rs : List TxId) → right n ≡ Returning (suc era) rs
      → Locks era reached (λ t e. pick (has t rs && eqb e era) (with_shared (listed t e)) (listed t e)) (updn right n NoRight) home
  locks_returned n rs was =
      record {
        in_era = i.in_era;
        exclusive = λ t u x. absurd (none t x);
        no_rights = λ t m x. absurd (none t x);
        chain = λ t e f m p q l. returned_covers n rs was t e m p (i.chain t e f m p q (later t f m (omega arith) l));
        locks = λ t e p q. returned_locked n rs was t e (lock_of (home t)) p (i.locks t e p q);
        shelves = λ m. by_node (λ k y. IsShelf y → era ≤ reached k) n m NoRight (right m) (λ x. absurd x) (i.shelves m);
        unlisted = λ t e p q. rw (other t e p) (i.unlisted t e p q);
        ends = λ t. ends_kept era (reached t.node) (listed t) (λ e. pick (has t rs && eqb e era) (with_shared (listed t e)) (listed t e)) (home t)
            (λ f p x. rw (other t f p) x)
            (λ c e h p x. by_test (has t rs && eqb e era) (λ y. y ≡ Some Exclusive) (with_shared (listed t e)) (listed t e) (λ s. ap with_shared x) (λ s. x))
            (i.ends t);
      }
    where
      still : (l : Option Mode) → with_shared l ≡ Some Exclusive → l ≡ Some Exclusive
      still None x = absurd (cc)
      still (Some m) x = x

      was_exclusive : (t : TxId) → pick (has t rs && eqb era era) (with_shared (listed t era)) (listed t era) ≡ Some Exclusive → listed t era ≡ Some Exclusive
      was_exclusive t = by_test (has t rs && eqb era era) (λ y. y ≡ Some Exclusive → listed t era ≡ Some Exclusive) (with_shared (listed t era)) (listed t era) (λ s x. still (listed t era) x) (λ s x. x)

      none : (t : TxId) → pick (has t rs && eqb era era) (with_shared (listed t era)) (listed t era) ≡ Some Exclusive → ⊥
      none t x = let z = i.no_rights t n (was_exclusive t x) in absurd (cc)

      other : (t : TxId) (e : ℕ) → era < e → pick (has t rs && eqb e era) (with_shared (listed t e)) (listed t e) ≡ listed t e
      other t e p = by_test (has t rs && eqb e era) (λ y. y ≡ listed t e) (with_shared (listed t e)) (listed t e)
          (λ s. let w = and_true (has t rs) (eqb e era) s in let k = eqb_true e era w.1 in absurd (omega arith)) (λ s. refl)

      later : (t : TxId) (e : ℕ) (m : Mode) → era < e → pick (has t rs && eqb e era) (with_shared (listed t e)) (listed t e) ≡ Some m → listed t e ≡ Some m
      later t e m p x = sym (other t e p) ∙ x
