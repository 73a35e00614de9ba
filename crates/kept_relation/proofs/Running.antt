-- The machine's run that removes what dead transactions and nodes that are gone have.
use Rattle.std.proofs.Common.{◌≡◌, ◌⊎◌, inl, inr, refl, ap, sym, subst, ◌∙◌, ℕ, zero, suc, ◌&&◌, ◌||◌, eqb, ltb, Bool, true, false, Option, None, arith}
use Rattle.std.proofs.lemmas.Bool.Decides.{nat_tests}
use Rattle.pcl_base.specs.declared.tx.Mode.{Mode}
use Rattle.pcl_base.specs.declared.tx.TxId.{TxId}
use Rattle.page_protocol.specs.Authority.{dropping}
use Rattle.page_protocol.specs.Eras.{IsDead, forgotten, purging}
use Rattle.page_protocol.specs.State.{pick, Right, NoRight, Flying, Shelf, Returning, Dead, Home, Fresh, Asking, Holding, HoldingAsks, Reading, ReadingAsks, Ended, Gone, Page, IsClosed, IsShelf}
use Rattle.page_protocol.specs.Steps.{Run, here, then, Step, drops_right, drops_grant, drops_answer, purges, purges_early}
use Rattle.kept_relation.specs.Emptying.{emptied, dead_below, gone_below, nobody, AreDead, AreGone, EmptyingIsRun, EmptyingEarlyIsRun}

-- ---- tests

below_next : (n k : ℕ) → ltb n (suc k) ≡ (ltb n k || eqb n k)
below_next n k = grind (arith, nat_tests)

below_none : (n : ℕ) → ltb n 0 ≡ false
below_none n = grind (arith, nat_tests)

not_both : (n k : ℕ) → eqb n k ≡ true → ltb n k ≡ true → ⊥
not_both n k same less = grind (arith, nat_tests, same, less)

both_tests : (x y : Bool) → (x && y) ≡ true → (x ≡ true) × (y ≡ true)
both_tests true true e = (refl, refl)
both_tests true false e = absurd (cc)
both_tests false y e = absurd (cc)

one_more : (i l d f : Bool) (x : Option Mode) → pick ((i && d) && f) None (pick ((l && d) && f) None x) ≡ pick (((l || i) && d) && f) None x
one_more false false d f x = refl
one_more false true d f x = refl
one_more true false d f x = refl
one_more true true true true x = refl
one_more true true true false x = refl
one_more true true false f x = refl

one_more_home : (i l d : Bool) (e : ℕ) (h : Home) → (i ≡ true → l ≡ true → ⊥)
    → pick (i && d) (forgotten e (pick (l && d) (forgotten e h) h)) (pick (l && d) (forgotten e h) h) ≡ pick ((l || i) && d) (forgotten e h) h
one_more_home false false d e h no_both = refl
one_more_home false true d e h no_both = refl
one_more_home true false d e h no_both = refl
one_more_home true true d e h no_both = absurd (no_both refl refl)

one_more_right : (i l g : Bool) (r : Right) → (i ≡ true → g ≡ true) → pick i NoRight (pick (l && g) NoRight r) ≡ pick ((l || i) && g) NoRight r
one_more_right false false g r is = refl
one_more_right false true g r is = refl
one_more_right true false true r is = refl
one_more_right true true true r is = refl
one_more_right true l false r is = let bad = is refl in absurd (cc)

no_more_right : (i l g : Bool) (r : Right) → (i ≡ true → r ≡ NoRight) → pick (l && g) NoRight r ≡ pick ((l || i) && g) NoRight r
no_more_right false false g r is = refl
no_more_right false true g r is = refl
no_more_right true false true r is = is refl
no_more_right true false false r is = refl
no_more_right true true g r is = refl

no_more : (i l d f : Bool) (x : Option Mode) → (i ≡ true → d ≡ false) → pick ((l && d) && f) None x ≡ pick (((l || i) && d) && f) None x
no_more false false d f x is = refl
no_more false true d f x is = refl
no_more true false true f x is = let bad = is refl in absurd (cc)
no_more true false false f x is = refl
no_more true true d f x is = refl

no_more_home : (i l d : Bool) (x y : Home) → (i ≡ true → d ≡ false) → pick (l && d) x y ≡ pick ((l || i) && d) x y
no_more_home false false d x y is = refl
no_more_home false true d x y is = refl
no_more_home true false true x y is = let bad = is refl in absurd (cc)
no_more_home true false false x y is = refl
no_more_home true true d x y is = refl

forgotten_closed : (e : ℕ) (h : Home) → IsClosed h → IsClosed (forgotten e h)
forgotten_closed e Fresh is = tt
forgotten_closed e (Asking m v) is = absurd is
forgotten_closed e (Holding m) is = absurd is
forgotten_closed e HoldingAsks is = absurd is
forgotten_closed e Reading is = absurd is
forgotten_closed e ReadingAsks is = absurd is
forgotten_closed e (Ended c f) is = by (eqb f e)
  where
    by : (b : Bool) → IsClosed (pick b Gone (Ended c f))
    by true = tt
    by false = tt
forgotten_closed e Gone is = tt

closed_either : (b : Bool) (e : ℕ) (h : Home) → IsClosed h → IsClosed (pick b (forgotten e h) h)
closed_either true e h is = forgotten_closed e h is
closed_either false e h is = is

none_either : (b : Bool) (x : Option Mode) → x ≡ None → pick b None x ≡ None
none_either true x is = refl
none_either false x is = is

-- two states that differ in what is listed, in homes and in rights
states_same : (a : Page) (listed more : TxId → ℕ → Option Mode) (home homes : TxId → Home) (right rights : ℕ → Right) → ((t : TxId) (f : ℕ) → listed t f ≡ more t f)
    → ((t : TxId) → home t ≡ homes t) → ((m : ℕ) → right m ≡ rights m)
    → record a { listed = listed; home = home; right = right } ≡ record a { listed = more; home = homes; right = rights }
states_same a listed more home homes right rights l h r = (λ i. record a { listed = λ t f. l t f i; home = λ t. h t i; right = λ m. r m i })

module _ (a : Page) (e : ℕ) (dead : TxId → Bool) (gone : ℕ → Bool) (are : AreDead a e dead gone) where
  abbrev only : ℕ → TxId → Bool
  only k t = eqb t.node k && dead t

  nothing_yet : a ≡ emptied a e (dead_below 0 dead) (gone_below 0 gone)
  nothing_yet =
      states_same a a.listed (emptied a e (dead_below 0 dead) (gone_below 0 gone)).listed a.home (emptied a e (dead_below 0 dead) (gone_below 0 gone)).home a.right
      (emptied a e (dead_below 0 dead) (gone_below 0 gone)).right (λ t f. ap (λ (b : Bool). pick ((b && dead t) && eqb f e) None (a.listed t f)) (sym (below_none t.node)))
      (λ t. ap (λ (b : Bool). pick (b && dead t) (forgotten e (a.home t)) (a.home t)) (sym (below_none t.node)))
      (λ m. ap (λ (b : Bool). pick (b && gone m) NoRight (a.right m)) (sym (below_none m)))

  -- the dead of one node more
  purged_next : (k : ℕ) (off : ℕ → Bool) → purging (emptied a e (dead_below k dead) off) e (only k) ≡ emptied a e (dead_below (suc k) dead) off
  unfolding purging
  purged_next k off =
      states_same a (purging (emptied a e (dead_below k dead) off) e (only k)).listed (emptied a e (dead_below (suc k) dead) off).listed
      (purging (emptied a e (dead_below k dead) off) e (only k)).home (emptied a e (dead_below (suc k) dead) off).home (emptied a e (dead_below k dead) off).right
      (emptied a e (dead_below (suc k) dead) off).right
      (λ t f.
      one_more (eqb t.node k) (ltb t.node k) (dead t) (eqb f e) (a.listed t f)
      ∙ ap (λ (b : Bool). pick ((b && dead t) && eqb f e) None (a.listed t f)) (sym (below_next t.node k)))
      (λ t.
      one_more_home (eqb t.node k) (ltb t.node k) (dead t) e (a.home t) (not_both t.node k)
      ∙ ap (λ (b : Bool). pick (b && dead t) (forgotten e (a.home t)) (a.home t)) (sym (below_next t.node k)))
      (λ m. refl)

  -- none where the node isn't gone
  alive : (k : ℕ) → gone k ≡ false → (t : TxId) → eqb t.node k ≡ true → dead t ≡ false
  alive k not_gone t at = by (dead t) refl
    where
      by : (b : Bool) → dead t ≡ b → b ≡ false
      by true is =
          let same : t.node ≡ k = grind (arith, nat_tests, at) in
          let bad : true ≡ false = sym (are.named t is) ∙ (ap gone same ∙ not_gone) in
          absurd (cc)
      by false is = refl

  kept_next : (k : ℕ) (off : ℕ → Bool) → gone k ≡ false → emptied a e (dead_below k dead) off ≡ emptied a e (dead_below (suc k) dead) off
  kept_next k off not_gone =
      states_same a (emptied a e (dead_below k dead) off).listed (emptied a e (dead_below (suc k) dead) off).listed (emptied a e (dead_below k dead) off).home
      (emptied a e (dead_below (suc k) dead) off).home (emptied a e (dead_below k dead) off).right (emptied a e (dead_below (suc k) dead) off).right
      (λ t f.
      no_more (eqb t.node k) (ltb t.node k) (dead t) (eqb f e) (a.listed t f) (alive k not_gone t)
      ∙ ap (λ (b : Bool). pick ((b && dead t) && eqb f e) None (a.listed t f)) (sym (below_next t.node k)))
      (λ t.
      no_more_home (eqb t.node k) (ltb t.node k) (dead t) (forgotten e (a.home t)) (a.home t) (alive k not_gone t)
      ∙ ap (λ (b : Bool). pick (b && dead t) (forgotten e (a.home t)) (a.home t)) (sym (below_next t.node k)))
      (λ m. refl)

  dead_still : (k : ℕ) (off : ℕ → Bool) → IsDead (emptied a e (dead_below k dead) off) k e (only k)
  dead_still k off t is =
      let parts = both_tests (eqb t.node k) (dead t) is in
      let at = parts.0 in
      let same : t.node ≡ k = grind (arith, nat_tests, at) in
      (same, closed_either (dead_below k dead t) e (a.home t) (are.closed t parts.1), λ f later. none_either (dead_below k dead t && eqb f e) (a.listed t f) (are.unlisted t parts.1 f later))

  -- the purge of one node more, by the step that is made for it
  purge_next : (k : ℕ) (off : ℕ → Bool)
      → (gone k ≡ true → IsDead (emptied a e (dead_below k dead) off) k e (only k) → Step (emptied a e (dead_below k dead) off) (purging (emptied a e (dead_below k dead) off) e (only k)))
      → Run a (emptied a e (dead_below k dead) off) → Run a (emptied a e (dead_below (suc k) dead) off)
  purge_next k off step run = by (gone k) refl
    where
      by : (b : Bool) → gone k ≡ b → Run a (emptied a e (dead_below (suc k) dead) off)
      by true is = subst (Run a) (purged_next k off) (then run (step is (dead_still k off)))
      by false is = subst (Run a) (kept_next k off is) run

pub emptying_early_is_run_law : EmptyingEarlyIsRun
emptying_early_is_run_law a e zero dead gone later are =
    subst (Run a)
    (states_same a a.listed (emptied a e (dead_below 0 dead) nobody).listed a.home (emptied a e (dead_below 0 dead) nobody).home a.right a.right
    (λ t f. ap (λ (b : Bool). pick ((b && dead t) && eqb f e) None (a.listed t f)) (sym (below_none t.node)))
    (λ t. ap (λ (b : Bool). pick (b && dead t) (forgotten e (a.home t)) (a.home t)) (sym (below_none t.node))) (λ m. refl))
    here
emptying_early_is_run_law a e (suc k) dead gone later are =
    purge_next a e dead gone are k nobody (λ is dead_is. purges_early k e (only a e dead gone are k) later dead_is) (emptying_early_is_run_law a e k dead gone later are)

module _ (a : Page) (dead : TxId → Bool) (gone : ℕ → Bool) (on : a.served ≡ true) (are : AreDead a a.era dead gone) (left : AreGone a gone) (k : ℕ) where
  abbrev s : Page
  s = emptied a a.era (dead_below (suc k) dead) (gone_below k gone)

  abbrev z : Page
  z = emptied a a.era (dead_below (suc k) dead) (gone_below (suc k) gone)

  own_right : s.right k ≡ a.right k
  own_right =
      let none : ltb k k ≡ false = grind (arith, nat_tests) in
      ap (λ (b : Bool). pick (b && gone k) NoRight (a.right k)) none

  dropped : gone k ≡ true → dropping s k ≡ z
  unfolding dropping
  dropped is =
      states_same a s.listed z.listed s.home z.home (dropping s k).right z.right (λ t f. refl) (λ t. refl)
      (λ m.
      one_more_right (eqb m k) (ltb m k) (gone m) (a.right m) (λ at. let same : m ≡ k = grind (arith, nat_tests, at) in ap gone same ∙ is)
      ∙ ap (λ (b : Bool). pick (b && gone m) NoRight (a.right m)) (sym (below_next m k)))

  undropped : ((m : ℕ) → eqb m k ≡ true → (a.right m ≡ NoRight) ⊎ (gone m ≡ false)) → s ≡ z
  undropped is =
      states_same a s.listed z.listed s.home z.home s.right z.right (λ t f. refl) (λ t. refl)
      (λ m. by m (eqb m k) refl ∙ ap (λ (b : Bool). pick (b && gone m) NoRight (a.right m)) (sym (below_next m k)))
    where
      of : (l g : Bool) (r : Right) → g ≡ false → pick (l && g) NoRight r ≡ pick ((l || true) && g) NoRight r
      of true g r e = refl
      of false true r e = absurd (cc)
      of false false r e = refl

      by : (m : ℕ) (b : Bool) → eqb m k ≡ b → pick (ltb m k && gone m) NoRight (a.right m) ≡ pick ((ltb m k || eqb m k) && gone m) NoRight (a.right m)
      by m true at =
          elim (is m at) [
            | inl none ↦ no_more_right (eqb m k) (ltb m k) (gone m) (a.right m) (λ same. none)
            | inr not_gone ↦ of (ltb m k) (gone m) (a.right m) not_gone ∙ ap (λ (b : Bool). pick ((ltb m k || b) && gone m) NoRight (a.right m)) (sym at)
          ]
      by m false at = no_more_right (eqb m k) (ltb m k) (gone m) (a.right m) (λ same. let bad : true ≡ false = sym same ∙ at in absurd (cc))

  -- its right, where it is gone
  right_next : Run a s → gone k ≡ true → Run a z
  right_next run is = by (a.right k) refl
    where
      by : (r : Right) → a.right k ≡ r → Run a z
      by NoRight at =
          subst (Run a) (undropped (λ m same. let here_is : m ≡ k = grind (arith, nat_tests, same) in inl (ap a.right here_is ∙ at))) run
      by (Flying g) at = subst (Run a) (dropped is) (then run (drops_grant k g (own_right ∙ at)))
      by (Shelf v) at = absurd (left.shelves k is (subst IsShelf (sym at) tt))
      by (Returning upto readers) at =
          subst (Run a) (dropped is)
          (then run
          (drops_answer k upto readers (own_right ∙ at)
          (λ t of_node named.
          let old = left.readers k upto readers is at t of_node named in
          (closed_either (dead_below (suc k) dead t) a.era (a.home t) old.0, λ f later. none_either (dead_below (suc k) dead t && eqb f a.era) (a.listed t f) (old.1 f later)))))
      by Dead at = subst (Run a) (dropped is) (then run (drops_right k (own_right ∙ at)))

  all_next : Run a s → Run a z
  all_next run = by (gone k) refl
    where
      by : (b : Bool) → gone k ≡ b → Run a z
      by true is = right_next run is
      by false is = subst (Run a) (undropped (λ m same. let here_is : m ≡ k = grind (arith, nat_tests, same) in inr (ap gone here_is ∙ is))) run

pub emptying_is_run_law : EmptyingIsRun
emptying_is_run_law a zero dead gone on are left = subst (Run a) (nothing_yet a a.era dead gone are) here
emptying_is_run_law a (suc k) dead gone on are left =
    all_next a dead gone on are left k
    (purge_next a a.era dead gone are k (gone_below k gone) (λ is dead_is. purges k (only a a.era dead gone are k) on (left.logs k is) dead_is)
    (emptying_is_run_law a k dead gone on are left))
