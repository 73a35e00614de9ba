-- Who holds a page after a change of the open transactions held it before, or gets its lock.
use Rattle.std.proofs.Common.{◌≡◌, ◌⊎◌, inl, inr, refl, ap, subst, ◌∙◌, ℕ, ◌==◌, Bool, true, false, List, [], ◌∷◌, ◌++◌, Option, Some, None, is_some, option_map}
use Rattle.std.specs.Prelude.{◌≢◌}
use Rattle.pcl_base.specs.declared.lock.Held.{Held}
use Rattle.pcl_base.specs.declared.lock.Kind.{Kind}
use Rattle.pcl_base.specs.declared.lock.Pending.{Pending}
use Rattle.pcl_base.specs.declared.tx.TxId.{TxId}
use Rattle.node_rules.specs.Words.{pick}
use Rattle.node_rules.specs.AccessRule.{kinds_on}
use Rattle.node_rules.specs.OpenTxs.{OpenTx, OpenTxs, is_own, with_serial, pages_of_open, held_by, lock_on, put_lock, kind_on, change_open, change_tx, with_lock, begin, add, wait, set_kind}
use Rattle.page_laws.specs.Look.Grants.{of_kind}

-- what is there isn't none, and the other way round
pub there_some : {X : Type 0} → (o : Option X) → o ≢ None → is_some o ≡ true
there_some None h = absurd (h refl)
there_some (Some x) h = refl

pub some_there : {X : Type 0} → (o : Option X) → is_some o ≡ true → o ≢ None
some_there None h = λ e. let bad : false ≡ true = h in cc
some_there (Some x) h = λ e. cc

module _ (p : ℕ) where
  -- whether a transaction that may be open holds the page
  abbrev OpenHolds : Option OpenTx → Type 0
  OpenHolds o = is_some (lock_on (pages_of_open o) p) ≡ true

  -- ---- a change of one transaction
  module _ (E : Type 0) (f : OpenTx → OpenTx) (serial : (x : OpenTx) → (f x).serial ≡ x.serial)
      (each : (x : OpenTx) → is_some (lock_on (f x).pages p) ≡ true → (is_some (lock_on x.pages p) ≡ true) ⊎ E) where
    changed : (xs : List OpenTx) (n m : ℕ) → OpenHolds (with_serial (change_open f xs n) m) → OpenHolds (with_serial xs m) ⊎ E
    unfolding change_open with_serial
    changed [] n m h = inl h
    changed (x ∷ xs) n m h = by (x.serial == n) (x.serial == m) refl h (changed xs n m)
      where
        by : (a b : Bool) → (x.serial == m) ≡ b → OpenHolds (pick ((pick a (f x) x).serial == m) (Some (pick a (f x) x)) (with_serial (change_open f xs n) m))
            → (OpenHolds (with_serial (change_open f xs n) m) → OpenHolds (with_serial xs m) ⊎ E) → OpenHolds (pick b (Some x) (with_serial xs m)) ⊎ E
        by true true e h rest =
            each x (subst (λ (z : Bool). OpenHolds (pick z (Some (f x)) (with_serial (change_open f xs n) m))) (ap (λ (k : ℕ). k == m) (serial x) ∙ e) h)
        by true false e h rest =
            rest (subst (λ (z : Bool). OpenHolds (pick z (Some (f x)) (with_serial (change_open f xs n) m))) (ap (λ (k : ℕ). k == m) (serial x) ∙ e) h)
        by false true e h rest = inl (subst (λ (z : Bool). OpenHolds (pick z (Some x) (with_serial (change_open f xs n) m))) e h)
        by false false e h rest = rest (subst (λ (z : Bool). OpenHolds (pick z (Some x) (with_serial (change_open f xs n) m))) e h)

    held_changed : (s : OpenTxs) (t u : TxId) → is_some (held_by (change_tx f s t) u p) ≡ true → (is_some (held_by s u p) ≡ true) ⊎ E
    held_changed s t u h = by (is_own s u) h
      where
        by : (b : Bool) → OpenHolds (pick b (with_serial (change_open f s.txs t.serial) u.serial) None) → OpenHolds (pick b (with_serial s.txs u.serial) None) ⊎ E
        by true h = changed s.txs t.serial u.serial h
        by false h = inl h

  -- ---- a lock more
  put_holds : (l : Held) (hs : List Held) → is_some (lock_on (put_lock hs l) p) ≡ true → (is_some (lock_on hs p) ≡ true) ⊎ ((l.page == p) ≡ true)
  unfolding lock_on put_lock
  put_holds l [] h = by (l.page == p) h
    where
      by : (b : Bool) → is_some (pick b (Some l) None) ≡ true → (is_some (lock_on [] p) ≡ true) ⊎ (b ≡ true)
      by true h = inr refl
      by false h = inl h
  put_holds l (x ∷ hs) h = by (x.page == l.page) h (put_holds l hs)
    where
      first : (d b : Bool) → is_some (pick d (Some l) (lock_on hs p)) ≡ true → (is_some (pick b (Some x) (lock_on hs p)) ≡ true) ⊎ (d ≡ true)
      first true b h = inr refl
      first false true h = inl refl
      first false false h = inl h

      later : (b : Bool) → is_some (pick b (Some x) (lock_on (put_lock hs l) p)) ≡ true → (is_some (lock_on (put_lock hs l) p) ≡ true → (is_some (lock_on hs p) ≡ true) ⊎ ((l.page == p) ≡ true))
          → (is_some (pick b (Some x) (lock_on hs p)) ≡ true) ⊎ ((l.page == p) ≡ true)
      later true h rest = inl refl
      later false h rest = rest h

      by : (a : Bool) → is_some (lock_on (pick a (l ∷ hs) (x ∷ put_lock hs l)) p) ≡ true → (is_some (lock_on (put_lock hs l) p) ≡ true → (is_some (lock_on hs p) ≡ true) ⊎ ((l.page == p) ≡ true))
          → (is_some (pick (x.page == p) (Some x) (lock_on hs p)) ≡ true) ⊎ ((l.page == p) ≡ true)
      by true h rest = first (l.page == p) (x.page == p) h
      by false h rest = later (x.page == p) h rest

  pub added_holds : (s : OpenTxs) (t : TxId) (l : Held) (u : TxId) → is_some (held_by (add s t l) u p) ≡ true → (is_some (held_by s u p) ≡ true) ⊎ ((l.page == p) ≡ true)
  unfolding add
  added_holds s t l u h = held_changed ((l.page == p) ≡ true) (with_lock l) (λ x. refl) (λ x k. put_holds l x.pages k) s t u h

  -- ---- no lock more
  only_left : {X : Type 0} → X ⊎ ⊥ → X
  only_left (inl x) = x
  only_left (inr x) = absurd x

  pub waits_hold : (s : OpenTxs) (t : TxId) (w : Pending) (u : TxId) → is_some (held_by (wait s t w) u p) ≡ true → is_some (held_by s u p) ≡ true
  unfolding wait
  waits_hold s t w u h = only_left (held_changed ⊥ (λ x. record x { waiting = Some w }) (λ x. refl) (λ x k. inl k) s t u h)

  kind_holds : (q : ℕ) (k : Kind) (hs : List Held) → is_some (lock_on (kind_on hs q k) p) ≡ true → is_some (lock_on hs p) ≡ true
  unfolding lock_on kind_on
  kind_holds q k [] h = h
  kind_holds q k (x ∷ hs) h = by (x.page == q) h (kind_holds q k hs)
    where
      test : (b : Bool) (o : Option Held) → is_some o ≡ true → is_some (pick b o (lock_on (kind_on hs q k) p)) ≡ true → (is_some (lock_on (kind_on hs q k) p) ≡ true → is_some (lock_on hs p) ≡ true)
          → is_some (pick b (Some x) (lock_on hs p)) ≡ true
      test true o there h rest = refl
      test false o there h rest = rest h

      by : (a : Bool) → is_some (pick ((pick a (record x { kind = k }) x).page == p) (Some (pick a (record x { kind = k }) x)) (lock_on (kind_on hs q k) p)) ≡ true
          → (is_some (lock_on (kind_on hs q k) p) ≡ true → is_some (lock_on hs p) ≡ true) → is_some (pick (x.page == p) (Some x) (lock_on hs p)) ≡ true
      by true h rest = test (x.page == p) (Some (record x { kind = k })) refl h rest
      by false h rest = test (x.page == p) (Some x) refl h rest

  set_holds : (s : OpenTxs) (t : TxId) (q : ℕ) (k : Kind) (u : TxId) → is_some (held_by (set_kind s t q k) u p) ≡ true → is_some (held_by s u p) ≡ true
  unfolding set_kind
  set_holds s t q k u h = only_left (held_changed ⊥ (λ x. record x { pages = kind_on x.pages q k }) (λ x. refl) (λ x e. inl (kind_holds q k x.pages e)) s t u h)

  pub kinds_hold : (ts : List TxId) (s : OpenTxs) (q : ℕ) (k : Kind) (u : TxId) → is_some (held_by (kinds_on s ts q k) u p) ≡ true → is_some (held_by s u p) ≡ true
  unfolding kinds_on
  kinds_hold [] s q k u h = h
  kinds_hold (t ∷ ts) s q k u h = set_holds s t q k u (kinds_hold ts (set_kind s t q k) q k u h)

  pub kind_of_held : (b : Bool) (k : Kind) (o : Option Held) → is_some (pick b (option_map (of_kind k) o) o) ≡ true → is_some o ≡ true
  kind_of_held true k None h = h
  kind_of_held true k (Some l) h = refl
  kind_of_held false k o h = h

  -- ---- a transaction more, which holds nothing
  begun : (xs : List OpenTx) (x : OpenTx) (m : ℕ) → x.pages ≡ [] → OpenHolds (with_serial (xs ++ x ∷ []) m) → OpenHolds (with_serial xs m)
  unfolding with_serial
  begun [] x m none h = by (x.serial == m) h
    where
      by : (b : Bool) → OpenHolds (pick b (Some x) None) → is_some (lock_on [] p) ≡ true
      by true h = subst (λ (hs : List Held). is_some (lock_on hs p) ≡ true) none h
      by false h = h
  begun (y ∷ xs) x m none h = by (y.serial == m) h (begun xs x m none)
    where
      by : (b : Bool) → OpenHolds (pick b (Some y) (with_serial (xs ++ x ∷ []) m)) → (OpenHolds (with_serial (xs ++ x ∷ []) m) → OpenHolds (with_serial xs m)) → OpenHolds (pick b (Some y) (with_serial xs m))
      by true h rest = h
      by false h rest = rest h

  pub begun_holds : (s : OpenTxs) (u : TxId) → is_some (held_by (begin s) u p) ≡ true → is_some (held_by s u p) ≡ true
  unfolding begin
  begun_holds s u h = by (is_own s u) h
    where
      by : (b : Bool) → OpenHolds (pick b (with_serial (begin s).txs u.serial) None) → OpenHolds (pick b (with_serial s.txs u.serial) None)
      by true h = begun s.txs _ u.serial refl h
      by false h = h

  -- ---- no transactions
  pub none_holds : (s : OpenTxs) (u : TxId) → s.txs ≡ [] → is_some (held_by s u p) ≡ true → ⊥
  unfolding lock_on with_serial
  none_holds s u none h = by (is_own s u) h
    where
      nothing : false ≡ true → ⊥
      nothing e = cc

      by : (b : Bool) → OpenHolds (pick b (with_serial s.txs u.serial) None) → ⊥
      by true h = nothing (subst (λ (xs : List OpenTx). OpenHolds (with_serial xs u.serial)) none h)
      by false h = nothing h

-- ---- whose transactions they are
pub waits_node : (s : OpenTxs) (t : TxId) (w : Pending) → (wait s t w).node ≡ s.node
unfolding wait
waits_node s t w = refl

pub kinds_node : (ts : List TxId) (s : OpenTxs) (q : ℕ) (k : Kind) → (kinds_on s ts q k).node ≡ s.node
unfolding kinds_on set_kind
kinds_node [] s q k = refl
kinds_node (t ∷ ts) s q k = kinds_node ts (set_kind s t q k) q k

pub begun_node : (s : OpenTxs) → (begin s).node ≡ s.node
unfolding begin
begun_node s = refl
