-- Locks and rights when nodes are lost, report or join, and when an era is complete.
use Rattle.std.specs.Prelude.{ℕ, ◌<◌, ◌≤◌, Bool, true, ◌&&◌, eqb, ltb, leb, ◌≡◌, ◌≢◌, ◌⊎◌, Option, Some, None}
use Rattle.std.proofs.Common.{refl, sym, ap, ◌∙◌, arith}
use Rattle.pcl_base.specs.declared.tx.TxId.{TxId}
use Rattle.pcl_base.specs.declared.tx.Mode.{Mode}
use Rattle.pcl_base.specs.declared.tx.Mode.TheVariants.{Shared, Exclusive}
use Rattle.std.proofs.lemmas.Bool.Decides.{nat_tests}
use mathlib.Core.Logic.{inl, inr}
use Rattle.page_protocol.specs.Eras.{crashed, lost, forgotten, reported, reports_for, with_report, settled}
use Rattle.page_protocol.specs.Invariant.{Covers, Names, Covered, Locked, EndsOk, Locks}
use Rattle.page_protocol.specs.State.{pick, updn, Right, NoRight, Flying, Shelf, Returning, Dead, Home, Fresh, Asking, Holding, HoldingAsks, Reading, ReadingAsks, Ended, Gone, Lock, Free, Registered, UnderRight, lock_of, InEra, IsClosed, IsShelf}
use Rattle.page_protocol.proofs.Basics.{and_true, eqb_true, eqb_same, ltb_true, ltb_holds, leb_true, leb_holds, eqb_refl, by_test, by_node, by_node_else, updn_same, not_above, along, back, covered_more, covered_self}
use Rattle.page_protocol.proofs.LocksOne.{locks_right, locks_homes}

pub reported_locked : (h : Home) (r : Right) (e : ℕ) (t : TxId) → (lock_of h ≡ UnderRight → IsShelf r) → Locked (reported h) r e t (lock_of h)
reported_locked Fresh r e t s = tt
reported_locked (Asking m h) r e t s = tt
reported_locked (Holding m) r e t s = covered_self (Some m) r e t m refl
reported_locked HoldingAsks r e t s = inl tt
reported_locked Reading r e t s = s refl
reported_locked ReadingAsks r e t s = s refl
reported_locked (Ended c f) r e t s = tt
reported_locked Gone r e t s = tt

pub reported_lock : (h : Home) (m : Mode) → reported h ≡ Some m → lock_of h ≡ Registered m
reported_lock Fresh m e = absurd (cc)
reported_lock (Asking k h) m e = absurd (cc)
reported_lock (Holding k) m e = let z : k ≡ m = cc in ap Registered z
reported_lock HoldingAsks m e = let z : Shared ≡ m = cc in ap Registered z
reported_lock Reading m e = absurd (cc)
reported_lock ReadingAsks m e = absurd (cc)
reported_lock (Ended c f) m e = absurd (cc)
reported_lock Gone m e = absurd (cc)

pub in_era_more : (l : Lock) (era x y : ℕ) → x ≤ y → InEra l era x → InEra l era y
in_era_more Free era x y p q = tt
in_era_more (Registered m) era x y p q = omega arith
in_era_more UnderRight era x y p q = omega arith

-- an ended transaction, when its node reports
pub ends_reported : (era x y : ℕ) (l k : ℕ → Option Mode) (h : Home) → x ≤ y
    → ((f : ℕ) → (k f ≡ l f) ⊎ ((x < f) × (k f ≡ reported h)))
    → EndsOk era x l h → EndsOk era y k h
ends_reported era x y l k Fresh p s q = tt
ends_reported era x y l k (Asking m h) p s q = tt
ends_reported era x y l k (Holding m) p s q = tt
ends_reported era x y l k HoldingAsks p s q = tt
ends_reported era x y l k Reading p s q = tt
ends_reported era x y l k ReadingAsks p s q = tt
ends_reported era x y l k (Ended None e) p s q = (omega (arith, q.0), λ f a b. none f (s f) (q.1 f a b))
  where
    none : (f : ℕ) → (k f ≡ l f) ⊎ ((x < f) × (k f ≡ None)) → l f ≡ None → k f ≡ None
    none f (inl e) z = e ∙ z
    none f (inr w) z = w.1
ends_reported era x y l k (Ended (Some v) e) p s q = (omega (arith, q.0), λ f a b. none f (s f) (q.1 f a b), λ a. same (s e) (q.2 a))
  where
    none : (f : ℕ) → (k f ≡ l f) ⊎ ((x < f) × (k f ≡ None)) → l f ≡ None → k f ≡ None
    none f (inl e) z = e ∙ z
    none f (inr w) z = w.1

    same : (k e ≡ l e) ⊎ ((x < e) × (k e ≡ None)) → l e ≡ Some Exclusive → k e ≡ Some Exclusive
    same (inl e) z = e ∙ z
    same (inr w) z = absurd (omega (arith, w.0, q.0))
ends_reported era x y l k Gone p s q = tt

pub ends_era : (era next x : ℕ) (l : ℕ → Option Mode) (h : Home) → era < next → EndsOk era x l h → EndsOk next x l h
ends_era era next x l Fresh p q = tt
ends_era era next x l (Asking m h) p q = tt
ends_era era next x l (Holding m) p q = tt
ends_era era next x l HoldingAsks p q = tt
ends_era era next x l Reading p q = tt
ends_era era next x l ReadingAsks p q = tt
ends_era era next x l (Ended None e) p q = (q.0, λ f a b. q.1 f (omega arith) b)
ends_era era next x l (Ended (Some v) e) p q = (q.0, λ f a b. q.1 f (omega arith) b, λ a. q.2 (omega arith))
ends_era era next x l Gone p q = tt

pub crashed_lock : (h : Home) → lock_of (crashed h) ≡ Free
crashed_lock Fresh = refl
crashed_lock (Asking m h) = refl
crashed_lock (Holding m) = refl
crashed_lock HoldingAsks = refl
crashed_lock Reading = refl
crashed_lock ReadingAsks = refl
crashed_lock (Ended c f) = refl
crashed_lock Gone = refl

pub crashed_ends : (era x : ℕ) (l : ℕ → Option Mode) (h : Home) → EndsOk era x l h → EndsOk era x l (crashed h)
crashed_ends era x l Fresh q = tt
crashed_ends era x l (Asking m h) q = tt
crashed_ends era x l (Holding m) q = tt
crashed_ends era x l HoldingAsks q = tt
crashed_ends era x l Reading q = tt
crashed_ends era x l ReadingAsks q = tt
crashed_ends era x l (Ended c f) q = q
crashed_ends era x l Gone q = q

pub forgotten_lock : (e : ℕ) (h : Home) → lock_of (forgotten e h) ≡ lock_of h
forgotten_lock e Fresh = refl
forgotten_lock e (Asking m h) = refl
forgotten_lock e (Holding m) = refl
forgotten_lock e HoldingAsks = refl
forgotten_lock e Reading = refl
forgotten_lock e ReadingAsks = refl
forgotten_lock e (Ended c f) = by_test (eqb f e) (λ h. lock_of h ≡ Free) Gone (Ended c f) (λ s. refl) (λ s. refl)
forgotten_lock e Gone = refl

pub forgotten_ends : (era x e : ℕ) (l : ℕ → Option Mode) (h : Home) → EndsOk era x l h → EndsOk era x l (forgotten e h)
forgotten_ends era x e l Fresh q = tt
forgotten_ends era x e l (Asking m h) q = tt
forgotten_ends era x e l (Holding m) q = tt
forgotten_ends era x e l HoldingAsks q = tt
forgotten_ends era x e l Reading q = tt
forgotten_ends era x e l ReadingAsks q = tt
forgotten_ends era x e l (Ended c f) q = by_test (eqb f e) (λ h. EndsOk era x l h) Gone (Ended c f) (λ s. tt) (λ s. q)
forgotten_ends era x e l Gone q = q

pub forgotten_not : (e : ℕ) (h : Home) (c : Option ℕ) → forgotten e h ≢ Ended c e
forgotten_not e Fresh c p = absurd (cc)
forgotten_not e (Asking m h) c p = absurd (cc)
forgotten_not e (Holding m) c p = absurd (cc)
forgotten_not e HoldingAsks c p = absurd (cc)
forgotten_not e Reading c p = absurd (cc)
forgotten_not e ReadingAsks c p = absurd (cc)
forgotten_not e (Ended d f) c p =
    by_test (eqb f e) (λ h. h ≡ Ended c e → ⊥) Gone (Ended d f) (λ s q. absurd (cc))
    (λ s q. let z : f ≡ e = cc in let y : eqb f e ≡ true = rw (z, eqb_refl e) refl in absurd (cc)) p
forgotten_not e Gone c p = absurd (cc)

pub closed_lock : (h : Home) → IsClosed h → lock_of h ≡ Free
closed_lock Fresh c = refl
closed_lock (Asking m h) c = absurd c
closed_lock (Holding m) c = absurd c
closed_lock HoldingAsks c = absurd c
closed_lock Reading c = absurd c
closed_lock ReadingAsks c = absurd c
closed_lock (Ended d f) c = refl
closed_lock Gone c = refl

pub settled_covers : (l : Option Mode) (r : Right) (next e : ℕ) (t : TxId) (m : Mode) → next ≤ e → Covered l r e t m → Covered l (settled next r) e t m
settled_covers l NoRight next e t m p c = c
settled_covers l (Flying g) next e t m p c = covered_more l (Flying g) NoRight e t m (λ x. absurd x) c
settled_covers l (Shelf v) next e t m p c = c
settled_covers l (Returning upto rs) next e t m p c =
    covered_more l (Returning upto rs) (pick (ltb next upto) (Returning upto rs) NoRight) e t m
    (λ w. by_test (ltb next upto) (λ r. Names r e t) (Returning upto rs) NoRight (λ s. w) (λ s. let z : upto ≤ next = grind (arith, nat_tests) in absurd (omega (arith, w.0))))
    c
settled_covers l Dead next e t m p c = covered_more l Dead NoRight e t m (λ x. absurd x) c

pub settled_shelf : (next : ℕ) (r : Right) → IsShelf r → IsShelf (settled next r)
settled_shelf next NoRight s = s
settled_shelf next (Flying g) s = s
settled_shelf next (Shelf v) s = s
settled_shelf next (Returning upto rs) s = absurd s
settled_shelf next Dead s = s

pub was_shelf : (next : ℕ) (r : Right) → IsShelf (settled next r) → IsShelf r
was_shelf next NoRight s = s
was_shelf next (Flying g) s = s
was_shelf next (Shelf v) s = s
was_shelf next (Returning upto rs) s = by_test (ltb next upto) (λ r. IsShelf r → ⊥) (Returning upto rs) NoRight (λ e x. x) (λ e x. x) s
was_shelf next Dead s = s

pub settled_locked : (l : Option Mode) (r : Right) (next e : ℕ) (t : TxId) (k : Lock) → next ≤ e → Locked l r e t k → Locked l (settled next r) e t k
settled_locked l r next e t Free p c = tt
settled_locked l r next e t (Registered m) p c = settled_covers l r next e t m p c
settled_locked l r next e t UnderRight p c = settled_shelf next r c

pub covered_none : (l : Option Mode) (r : Right) (e : ℕ) (t : TxId) (m : Mode) → l ≡ None → r ≡ NoRight → Covered l r e t m → ⊥
covered_none l r e t Shared p q (inl c) = along (λ x. Covers x Shared) p c
covered_none l r e t Shared p q (inr w) = along (λ x. Names x e t) q w
covered_none l r e t Exclusive p q c = absurd (cc)

module _ {era : ℕ} {reached : ℕ → ℕ} {listed : TxId → ℕ → Option Mode} {right : ℕ → Right} {home : TxId → Home} (i : Locks era reached listed right home) where
  -- a crash, first of the homes, then of the right
  pub locks_crashed : (n : ℕ) → Locks era reached listed right (λ t. pick (eqb t.node n) (crashed (home t)) (home t))
  locks_crashed n =
      locks_homes i (λ t. pick (eqb t.node n) (crashed (home t)) (home t))
      (λ t. by_test (eqb t.node n) (λ h. (lock_of h ≡ lock_of (home t)) ⊎ (lock_of h ≡ Free)) (crashed (home t)) (home t) (λ s. inr (crashed_lock (home t))) (λ s. inl refl))
      (λ t q. by_test (eqb t.node n) (λ h. EndsOk era (reached t.node) (listed t) h) (crashed (home t)) (home t) (λ s. crashed_ends era (reached t.node) (listed t) (home t) q) (λ s. q))

  pub locks_lost : (n : ℕ) → ((t : TxId) → t.node ≡ n → lock_of (home t) ≡ Free) → Locks era reached listed (updn right n (lost (right n))) home
  locks_lost n free =
      locks_right i n (lost (right n))
      (λ t x. ap lost (i.no_rights t n x))
      (λ t e w. names (right n) t e w)
      (λ t k u s. absurd (let z = free t k in cc))
      (λ s. absurd (shelf (right n) s))
    where
      names : (r : Right) (t : TxId) (e : ℕ) → Names r e t → Names (lost r) e t
      names NoRight t e w = w
      names (Flying g) t e w = w
      names (Shelf v) t e w = w
      names (Returning u rs) t e w = w
      names Dead t e w = w

      shelf : (r : Right) → IsShelf (lost r) → ⊥
      shelf NoRight s = s
      shelf (Flying g) s = s
      shelf (Shelf v) s = s
      shelf (Returning u rs) s = s
      shelf Dead s = s

  -- dead transactions are forgotten, first at their homes, then in the table
  pub locks_forgotten : (e : ℕ) (dead : TxId → Bool) → Locks era reached listed right (λ t. pick (dead t) (forgotten e (home t)) (home t))
  locks_forgotten e dead =
      locks_homes i (λ t. pick (dead t) (forgotten e (home t)) (home t))
      (λ t. by_test (dead t) (λ h. (lock_of h ≡ lock_of (home t)) ⊎ (lock_of h ≡ Free)) (forgotten e (home t)) (home t) (λ s. inl (forgotten_lock e (home t))) (λ s. inl refl))
      (λ t q. by_test (dead t) (λ h. EndsOk era (reached t.node) (listed t) h) (forgotten e (home t)) (home t) (λ s. forgotten_ends era (reached t.node) e (listed t) (home t) q) (λ s. q))

  -- a node reports: an era lists it anew, or as before
  pub report_says : (n e : ℕ) (t : TxId) (f : ℕ)
      → ((t.node ≡ n) × (reached n < f) × (f ≤ e) × (with_report reached home listed n e t f ≡ reported (home t)))
      ⊎ ((t.node ≡ n → reached n < f → f ≤ e → ⊥) × (with_report reached home listed n e t f ≡ listed t f))
  report_says n e t f = by_test (reports_for reached n e t f)
      (λ y. ((t.node ≡ n) × (reached n < f) × (f ≤ e) × (y ≡ reported (home t))) ⊎ ((t.node ≡ n → reached n < f → f ≤ e → ⊥) × (y ≡ listed t f)))
      (reported (home t)) (listed t f)
      (λ s. let w = and_true (eqb t.node n) (ltb (reached n) f && leb f e) s in
      let v = and_true (ltb (reached n) f) (leb f e) w.1 in
      inl (eqb_true t.node n w.0, ltb_true (reached n) f v.0, leb_true f e v.1, refl))
      (λ s. inr (
        λ p q r. let a = eqb_same t.node n p in let b = ltb_holds (reached n) f q in let c = leb_holds f e r in
            let d : (eqb t.node n && (ltb (reached n) f && leb f e)) ≡ true = rw (a, b, c) refl in absurd (cc),
        refl,
      ))

  grows : (n e : ℕ) → reached n < e → (m : ℕ) → reached m ≤ updn reached n e m
  grows n e new m = by_node_else (λ k y. reached k ≤ y) n m e (reached m) (omega arith) (λ d. omega arith)

  report_chain : (n e : ℕ) → era ≤ reached n → (t : TxId) (d f : ℕ) (m : Mode) → era ≤ d → d < f → with_report reached home listed n e t f ≡ Some m → Covered (with_report reached home listed n e t d) (right t.node) d t m
  report_chain n e after t d f m p q l = first (report_says n e t f) (report_says n e t d)
    where
      now : ℕ → Option Mode
      now g = with_report reached home listed n e t g

      first : ((t.node ≡ n) × (reached n < f) × (f ≤ e) × (with_report reached home listed n e t f ≡ reported (home t))) ⊎ ((t.node ≡ n → reached n < f → f ≤ e → ⊥) × (with_report reached home listed n e t f ≡ listed t f))
          → ((t.node ≡ n) × (reached n < d) × (d ≤ e) × (with_report reached home listed n e t d ≡ reported (home t))) ⊎ ((t.node ≡ n → reached n < d → d ≤ e → ⊥) × (with_report reached home listed n e t d ≡ listed t d))
          → Covered (with_report reached home listed n e t d) (right t.node) d t m
      first (inl a) (inl b) = covered_self (with_report reached home listed n e t d) (right t.node) d t m (b.3 ∙ sym a.3 ∙ l)
      first (inl a) (inr b) =
          let h = reported_lock (home t) m (sym a.3 ∙ l) in
          let a2 = a.2 in
          let same = ap reached a.0 in
          let below : d ≤ reached n = not_above (reached n) d (λ z. b.0 a.0 z (omega arith)) in
          back (λ y. Covered y (right t.node) d t m) b.1 (along (λ k. Locked (listed t d) (right t.node) d t k) h (i.locks t d p (omega arith)))
      first (inr a) (inl b) =
          let same = ap reached b.0 in
          let b1 = b.1 in
          let none = i.unlisted t f (omega arith) (omega arith) in
          absurd (let z = a.1 in cc)
      first (inr a) (inr b) = back (λ y. Covered y (right t.node) d t m) b.1 (i.chain t d f m p q (sym a.1 ∙ l))

  report_locked : (n e : ℕ) → era ≤ reached n → (t : TxId) (d : ℕ) → era ≤ d → d ≤ updn reached n e t.node → Locked (with_report reached home listed n e t d) (right t.node) d t (lock_of (home t))
  report_locked n e after t d p q = first (report_says n e t d)
    where
      shelf : t.node ≡ n → lock_of (home t) ≡ UnderRight → IsShelf (right t.node)
      shelf k u = along (λ y. Locked (listed t era) (right t.node) era t y) u (i.locks t era (omega arith) (let same = ap reached k in omega arith))

      first : ((t.node ≡ n) × (reached n < d) × (d ≤ e) × (with_report reached home listed n e t d ≡ reported (home t))) ⊎ ((t.node ≡ n → reached n < d → d ≤ e → ⊥) × (with_report reached home listed n e t d ≡ listed t d))
          → Locked (with_report reached home listed n e t d) (right t.node) d t (lock_of (home t))
      first (inl a) = back (λ y. Locked y (right t.node) d t (lock_of (home t))) a.3 (reported_locked (home t) (right t.node) d t (shelf a.0))
      first (inr a) =
          back (λ y. Locked y (right t.node) d t (lock_of (home t))) a.1
          (i.locks t d p
          (by_node (λ k y. k ≡ t.node → d ≤ y → d ≤ reached t.node) n t.node e (reached t.node)
          (λ k z. let same = ap reached k in let below : d ≤ reached n = not_above (reached n) d (λ w. a.0 (sym k) w z) in omega arith)
          (λ k z. z) refl q))

  report_unlisted : (n e : ℕ) → era ≤ reached n → reached n < e → (t : TxId) (f : ℕ) → era < f → updn reached n e t.node < f → with_report reached home listed n e t f ≡ None
  report_unlisted n e after new t f p q = first (report_says n e t f)
    where
      first : ((t.node ≡ n) × (reached n < f) × (f ≤ e) × (with_report reached home listed n e t f ≡ reported (home t))) ⊎ ((t.node ≡ n → reached n < f → f ≤ e → ⊥) × (with_report reached home listed n e t f ≡ listed t f))
          → with_report reached home listed n e t f ≡ None
      first (inl a) =
          let z : updn reached n e t.node ≡ e = ap (updn reached n e) a.0 ∙ updn_same reached n e in
          let a2 = a.2 in
          absurd (omega arith)
      first (inr a) = a.1 ∙ i.unlisted t f p (let g = grows n e new t.node in omega arith)

  pub report_old : (n e : ℕ) → era ≤ reached n → (t : TxId) → with_report reached home listed n e t era ≡ listed t era
  report_old n e after t = first (report_says n e t era)
    where
      first : ((t.node ≡ n) × (reached n < era) × (era ≤ e) × (with_report reached home listed n e t era ≡ reported (home t))) ⊎ ((t.node ≡ n → reached n < era → era ≤ e → ⊥) × (with_report reached home listed n e t era ≡ listed t era))
          → with_report reached home listed n e t era ≡ listed t era
      first (inl a) = let z = a.1 in absurd (omega arith)
      first (inr a) = a.1

  pub locks_reported : (n e : ℕ) → era ≤ reached n → reached n < e → Locks era (updn reached n e) (with_report reached home listed n e) right home
  locks_reported n e after new =
      record {
        exclusive = λ t u x. rw (report_old n e after u) (i.exclusive t u (sym (report_old n e after t) ∙ x));
        no_rights = λ t m x. i.no_rights t m (sym (report_old n e after t) ∙ x);
        chain = λ t d f m p q l. report_chain n e after t d f m p q l;
        locks = λ t d p q. report_locked n e after t d p q;
        in_era = λ t. in_era_more (lock_of (home t)) era (reached t.node) (updn reached n e t.node) (grows n e new t.node) (i.in_era t);
        shelves = λ m s. let p = i.shelves m s in let q = grows n e new m in omega arith;
        unlisted = λ t f p q. report_unlisted n e after new t f p q;
        ends = λ t. ends_reported era (reached t.node) (updn reached n e t.node) (listed t) (λ f. with_report reached home listed n e t f) (home t) (grows n e new t.node) (λ f. either t f (report_says n e t f)) (i.ends t);
      }
    where
      either : (t : TxId) (f : ℕ) → ((t.node ≡ n) × (reached n < f) × (f ≤ e) × (with_report reached home listed n e t f ≡ reported (home t))) ⊎ ((t.node ≡ n → reached n < f → f ≤ e → ⊥) × (with_report reached home listed n e t f ≡ listed t f))
          → (with_report reached home listed n e t f ≡ listed t f) ⊎ ((reached t.node < f) × (with_report reached home listed n e t f ≡ reported (home t)))
      either t f (inl a) = inr (let same = ap reached a.0 in let z = a.1 in omega arith, a.3)
      either t f (inr a) = inl a.1

  -- a node joins
  pub locks_joined : (n e : ℕ) → era ≤ e → reached n ≤ e → ((t : TxId) → t.node ≡ n → IsClosed (home t)) → Locks era (updn reached n e) listed right home
  locks_joined n e after new closed =
      record {
        exclusive = i.exclusive;
        no_rights = i.no_rights;
        chain = i.chain;
        locks = λ t d p q. by_node (λ k y. k ≡ t.node → d ≤ y → Locked (listed t d) (right t.node) d t (lock_of (home t))) n t.node e (reached t.node)
            (λ k z. back (λ l. Locked (listed t d) (right t.node) d t l) (closed_lock (home t) (closed t (sym k))) tt)
            (λ k z. i.locks t d p z) refl q;
        in_era = λ t. in_era_more (lock_of (home t)) era (reached t.node) (updn reached n e t.node) (more t.node) (i.in_era t);
        shelves = λ m s. let p = i.shelves m s in let q = more m in omega arith;
        unlisted = λ t f p q. i.unlisted t f p (let g = more t.node in omega arith);
        ends = λ t. ends_reported era (reached t.node) (updn reached n e t.node) (listed t) (listed t) (home t) (more t.node) (λ f. inl refl) (i.ends t);
      }
    where
      more : (m : ℕ) → reached m ≤ updn reached n e m
      more m = by_node (λ k y. reached k ≤ y) n m e (reached m) new (omega arith)

  -- an era is complete
  pub locks_completed : (e : ℕ) → era < e → ((t : TxId) → InEra (lock_of (home t)) e (reached t.node)) → ((n : ℕ) → IsShelf (right n) → e ≤ reached n)
      → Locks e reached listed (λ n. settled e (right n)) home
  locks_completed e new all shelf =
      record {
        exclusive = λ t u x. alone t u (i.chain t era e Exclusive (omega arith) new x) (listed u e) refl;
        no_rights = λ t n x. ap (settled e) (i.no_rights t n (i.chain t era e Exclusive (omega arith) new x));
        chain = λ t d f m p q l. settled_covers (listed t d) (right t.node) e d t m p (i.chain t d f m (omega arith) q l);
        locks = λ t d p q. settled_locked (listed t d) (right t.node) e d t (lock_of (home t)) p (i.locks t d (omega arith) q);
        in_era = all;
        shelves = λ n s. shelf n (was_shelf e (right n) s);
        unlisted = λ t f p q. i.unlisted t f (omega arith) q;
        ends = λ t. ends_era era e (reached t.node) (listed t) (home t) new (i.ends t);
      }
    where
      alone : (t u : TxId) → listed t era ≡ Some Exclusive → (l : Option Mode) → listed u e ≡ l → (listed u e ≡ None) ⊎ (u ≡ t)
      alone t u x None l = inl l
      alone t u x (Some m) l = other (i.exclusive t u x)
        where
          other : (listed u era ≡ None) ⊎ (u ≡ t) → (listed u e ≡ None) ⊎ (u ≡ t)
          other (inl n) = absurd (covered_none (listed u era) (right u.node) era u m n (i.no_rights t u.node x) (i.chain u era e m (omega arith) new l))
          other (inr s) = inr s
