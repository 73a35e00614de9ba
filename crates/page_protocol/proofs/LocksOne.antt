-- Locks and rights after a change at one home or of one right.
use Rattle.std.specs.Prelude.{ℕ, ◌<◌, ◌≤◌, Bool, true, ◌≡◌, ◌≢◌, ◌⊎◌, List, drop, Option, Some, None}
use Rattle.std.proofs.Common.{refl, sym, ap, ◌∙◌, arith}
use Rattle.pcl_base.specs.declared.tx.TxId.{TxId}
use Rattle.pcl_base.specs.declared.tx.Mode.{Mode}
use Rattle.pcl_base.specs.declared.tx.Mode.TheVariants.{Shared, Exclusive}
use mathlib.Core.Logic.{inl, inr}
use Rattle.page_protocol.specs.Invariant.{Names, Covered, Locked, EndsOk, Locks}
use Rattle.page_protocol.specs.Homes.{ended}
use Rattle.page_protocol.specs.State.{pick, upd, updn, has, Right, NoRight, Returning, Home, Fresh, Asking, Holding, HoldingAsks, Reading, ReadingAsks, Ended, Gone, Lock, Free, Registered, UnderRight, lock_of, InEra, IsShelf}
use Rattle.page_protocol.proofs.Basics.{by_test, by_tx, by_node, pick_same, along, back, covered_more, locked_more, ends_kept}

module _ {era : ℕ} {reached : ℕ → ℕ} {listed : TxId → ℕ → Option Mode} {right : ℕ → Right} {home : TxId → Home} (i : Locks era reached listed right home) where
  -- one home changes
  pub locks_home : (t : TxId) (h : Home)
      → ((e : ℕ) → era ≤ e → e ≤ reached t.node → Locked (listed t e) (right t.node) e t (lock_of h))
      → InEra (lock_of h) era (reached t.node)
      → EndsOk era (reached t.node) (listed t) h
      → Locks era reached listed right (upd home t h)
  locks_home t h locked in_era ends =
      record {
        exclusive = i.exclusive;
        no_rights = i.no_rights;
        chain = i.chain;
        shelves = i.shelves;
        unlisted = i.unlisted;
        locks = λ u e p q. by_tx (λ v k. e ≤ reached v.node → Locked (listed v e) (right v.node) e v (lock_of k)) t u h (home u) (λ r. locked e p r) (λ r. i.locks u e p r) q;
        in_era = λ u. by_tx (λ v k. InEra (lock_of k) era (reached v.node)) t u h (home u) in_era (i.in_era u);
        ends = λ u. by_tx (λ v k. EndsOk era (reached v.node) (listed v) k) t u h (home u) ends (i.ends u);
      }

  -- a home that gets no lock and no release
  pub locks_free : (t : TxId) (h : Home) → lock_of h ≡ Free → EndsOk era (reached t.node) (listed t) h → Locks era reached listed right (upd home t h)
  locks_free t h free ends =
      locks_home t h
      (λ e p q. back (λ l. Locked (listed t e) (right t.node) e t l) free tt)
      (back (λ l. InEra l era (reached t.node)) free tt)
      ends

  -- a home that keeps its lock, and has no release
  pub locks_same : (t : TxId) (h : Home) → lock_of h ≡ lock_of (home t) → EndsOk era (reached t.node) (listed t) h → Locks era reached listed right (upd home t h)
  locks_same t h same ends =
      locks_home t h
      (λ e p q. back (λ l. Locked (listed t e) (right t.node) e t l) same (i.locks t e p q))
      (back (λ l. InEra l era (reached t.node)) same (i.in_era t))
      ends

  -- a transaction that ends now: its node's era lists it, later ones don't
  ends_now : (t : TxId) → (e : ℕ) → (f : ℕ) → era < f → reached t.node < f → listed t f ≡ None
  ends_now t e f p q = i.unlisted t f p q

  pub ended_ok : (t : TxId) (h : Home) → EndsOk era (reached t.node) (listed t) h → EndsOk era (reached t.node) (listed t) (ended h (reached t.node))
  ended_ok t Fresh k = tt
  ended_ok t (Asking m h) k = (omega arith, λ f p q. i.unlisted t f p q)
  ended_ok t (Holding m) k = (omega arith, λ f p q. i.unlisted t f p q)
  ended_ok t HoldingAsks k = (omega arith, λ f p q. i.unlisted t f p q)
  ended_ok t Reading k = tt
  ended_ok t ReadingAsks k = (omega arith, λ f p q. i.unlisted t f p q)
  ended_ok t (Ended c e) k = k
  ended_ok t Gone k = k

  pub locks_ended : (t : TxId) → Locks era reached listed right (upd home t (ended (home t) (reached t.node)))
  locks_ended t = locks_free t (ended (home t) (reached t.node)) (free (home t)) (ended_ok t (home t) (i.ends t))
    where
      free : (h : Home) → lock_of (ended h (reached t.node)) ≡ Free
      free Fresh = refl
      free (Asking m h) = refl
      free (Holding m) = refl
      free HoldingAsks = refl
      free Reading = refl
      free ReadingAsks = refl
      free (Ended c e) = refl
      free Gone = refl

  -- one right changes, and the tables name nobody less
  pub locks_right : (n : ℕ) (r : Right)
      → ((t : TxId) → listed t era ≡ Some Exclusive → r ≡ NoRight)
      → ((t : TxId) (e : ℕ) → Names (right n) e t → Names r e t)
      → ((t : TxId) → t.node ≡ n → lock_of (home t) ≡ UnderRight → IsShelf (right n) → IsShelf r)
      → (IsShelf r → era ≤ reached n)
      → Locks era reached listed (updn right n r) home
  locks_right n r alone names shelf reaches =
      record {
        exclusive = i.exclusive;
        in_era = i.in_era;
        unlisted = i.unlisted;
        ends = i.ends;
        no_rights = λ t m x. by_node (λ k y. y ≡ NoRight) n m r (right m) (alone t x) (i.no_rights t m x);
        chain = λ t e f m p q l. by_node (λ k y. k ≡ t.node → Covered (listed t e) y e t m) n t.node r (right t.node)
            (λ k. covered_more (listed t e) (right n) r e t m (λ w. names t e w) (back (λ z. Covered (listed t e) (right z) e t m) k (i.chain t e f m p q l)))
            (λ k. i.chain t e f m p q l) refl;
        locks = λ t e p q. by_node (λ k y. k ≡ t.node → Locked (listed t e) y e t (lock_of (home t))) n t.node r (right t.node)
            (λ k. locked_more (listed t e) (right n) r e t (lock_of (home t)) (λ w. names t e w) (shelf t (sym k)) (back (λ z. Locked (listed t e) (right z) e t (lock_of (home t))) k (i.locks t e p q)))
            (λ k. i.locks t e p q) refl;
        shelves = λ m. by_node (λ k y. IsShelf y → era ≤ reached k) n m r (right m) reaches (i.shelves m);
      }

  -- all homes change, and none gets a lock
  pub locks_homes : (next : TxId → Home)
      → ((t : TxId) → (lock_of (next t) ≡ lock_of (home t)) ⊎ (lock_of (next t) ≡ Free))
      → ((t : TxId) → EndsOk era (reached t.node) (listed t) (home t) → EndsOk era (reached t.node) (listed t) (next t))
      → Locks era reached listed right next
  locks_homes next lock ends =
      record {
        exclusive = i.exclusive;
        no_rights = i.no_rights;
        chain = i.chain;
        shelves = i.shelves;
        unlisted = i.unlisted;
        locks = λ t e p q. less (λ l. Locked (listed t e) (right t.node) e t l) (lock_of (home t)) (lock_of (next t)) (lock t) tt (i.locks t e p q);
        in_era = λ t. less (λ l. InEra l era (reached t.node)) (lock_of (home t)) (lock_of (next t)) (lock t) tt (i.in_era t);
        ends = λ t. ends t (i.ends t);
      }
    where
      less : (P : Lock → Type 0) (l k : Lock) → (k ≡ l) ⊎ (k ≡ Free) → P Free → P l → P k
      less P l k (inl e) f p = back P e p
      less P l k (inr e) f p = back P e f

  -- transactions without a lock leave the tables of eras, and no later era goes on listing them
  pub locks_unlist : (drop : TxId → ℕ → Bool)
      → ((t : TxId) (e : ℕ) → drop t e ≡ true → lock_of (home t) ≡ Free)
      → ((t : TxId) (e f : ℕ) → drop t e ≡ true → e < f → (listed t f ≡ None) ⊎ (drop t f ≡ true))
      → ((t : TxId) (e : ℕ) (c : Option ℕ) → drop t e ≡ true → home t ≢ Ended c e)
      → Locks era reached (λ t e. pick (drop t e) None (listed t e)) right home
  locks_unlist drop free later unended =
      record {
        shelves = i.shelves;
        in_era = i.in_era;
        exclusive = λ t u x. first t u (was t era Exclusive x);
        no_rights = λ t n x. i.no_rights t n (was t era Exclusive x);
        chain = λ t e f m p q l. by_test (drop t e) (λ y. Covered y (right t.node) e t m) None (listed t e)
            (λ d. absurd (gone t f m (later t e f d q) l))
            (λ d. i.chain t e f m p q (was t f m l));
        locks = λ t e p q. by_test (drop t e) (λ y. Locked y (right t.node) e t (lock_of (home t))) None (listed t e)
            (λ d. back (λ k. Locked None (right t.node) e t k) (free t e d) tt) (λ d. i.locks t e p q);
        unlisted = λ t e p q. by_test (drop t e) (λ y. y ≡ None) None (listed t e) (λ d. refl) (λ d. i.unlisted t e p q);
        ends = λ t. ends_kept era (reached t.node) (listed t) (λ e. pick (drop t e) None (listed t e)) (home t)
            (λ f p n. by_test (drop t f) (λ y. y ≡ None) None (listed t f) (λ d. refl) (λ d. n))
            (λ c e h p x. by_test (drop t e) (λ y. y ≡ Some Exclusive) None (listed t e) (λ d. absurd (unended t e c d h)) (λ d. x))
            (i.ends t);
      }
    where
      was : (t : TxId) (e : ℕ) (m : Mode) → pick (drop t e) None (listed t e) ≡ Some m → listed t e ≡ Some m
      was t e m = by_test (drop t e) (λ y. y ≡ Some m → listed t e ≡ Some m) None (listed t e) (λ d x. absurd (cc)) (λ d x. x)

      gone : (t : TxId) (f : ℕ) (m : Mode) → (listed t f ≡ None) ⊎ (drop t f ≡ true) → pick (drop t f) None (listed t f) ≡ Some m → ⊥
      gone t f m (inl none) l = absurd (let w = was t f m l in cc)
      gone t f m (inr dropped) l = absurd (let w = pick_same (drop t f) None (listed t f) dropped in cc)

      first : (t u : TxId) → listed t era ≡ Some Exclusive → (pick (drop u era) None (listed u era) ≡ None) ⊎ (u ≡ t)
      first t u x = by_test (drop u era) (λ y. (y ≡ None) ⊎ (u ≡ t)) None (listed u era) (λ d. inl refl) (λ d. i.exclusive t u x)

  -- an answer that will never come leaves the tables, once its readers are dead
  pub locks_answer_dropped : (n upto : ℕ) (readers : List TxId) → right n ≡ Returning upto readers
      → ((t : TxId) → t.node ≡ n → has t readers ≡ true → (lock_of (home t) ≡ Free) × ((f : ℕ) → era < f → listed t f ≡ None))
      → Locks era reached listed (updn right n NoRight) home
  locks_answer_dropped n upto readers was dead =
      record {
        exclusive = i.exclusive;
        in_era = i.in_era;
        unlisted = i.unlisted;
        ends = i.ends;
        no_rights = λ t m x. by_node (λ k y. y ≡ NoRight) n m NoRight (right m) refl (i.no_rights t m x);
        chain = λ t e f m p q l. by_node (λ k y. k ≡ t.node → Covered (listed t e) y e t m) n t.node NoRight (right t.node)
            (λ k. named t e m (λ h. absurd (let z = (dead t (sym k) h).1 f (omega arith) in cc)) (along (λ z. Covered (listed t e) z e t m) (ap right (sym k) ∙ was) (i.chain t e f m p q l)))
            (λ k. i.chain t e f m p q l) refl;
        locks = λ t e p q. by_node (λ k y. k ≡ t.node → Locked (listed t e) y e t (lock_of (home t))) n t.node NoRight (right t.node)
            (λ k. free t e (lock_of (home t)) (λ h. (dead t (sym k) h).0) (along (λ z. Locked (listed t e) z e t (lock_of (home t))) (ap right (sym k) ∙ was) (i.locks t e p q)))
            (λ k. i.locks t e p q) refl;
        shelves = λ m. by_node (λ k y. IsShelf y → era ≤ reached k) n m NoRight (right m) (λ x. absurd x) (i.shelves m);
      }
    where
      named : (t : TxId) (e : ℕ) (m : Mode) → (has t readers ≡ true → ⊥) → Covered (listed t e) (Returning upto readers) e t m → Covered (listed t e) NoRight e t m
      named t e Shared no_reader (inl c) = inl c
      named t e Shared no_reader (inr w) = absurd (no_reader w.1)
      named t e Exclusive no_reader c = c

      free : (t : TxId) (e : ℕ) (k : Lock) → (has t readers ≡ true → k ≡ Free) → Locked (listed t e) (Returning upto readers) e t k → Locked (listed t e) NoRight e t k
      free t e Free f p = tt
      free t e (Registered m) f p = named t e m (λ h. absurd (let z = f h in cc)) p
      free t e UnderRight f p = p
