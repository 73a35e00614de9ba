-- The machine's runs that remove what is dead and gone.
use Rattle.std.proofs.Common.{◌≡◌, refl, ap, sym, subst, ◌∙◌, ℕ, zero, suc, ◌<◌, ◌≤◌, ◌&&◌, ◌||◌, eqb, ltb, Bool, true, false, List, arith}
use Rattle.std.proofs.lemmas.Bool.Decides.{nat_tests}
use Rattle.pcl_base.specs.declared.tx.TxId.{TxId}
use Rattle.page_protocol.specs.Eras.{burying, lowering}
use Rattle.page_protocol.specs.State.{pick, Right, NoRight, Flying, Shelf, Returning, Dead, Page}
use Rattle.page_protocol.specs.Steps.{Run, buries, here, lowers, then}
use Rattle.report_relation.specs.Bury.Burying.{lower, lowered}
use Rattle.report_relation.specs.Bury.Running.{AreBounded, AreOver, BurialIsRun, LoweringIsRun}

pub burial_is_run_law : BurialIsRun
unfolding burying
burial_is_run_law a low dead before closed = then here (buries low dead before closed)

-- ---- rights, node by node

below_next : (m k : ℕ) → ltb m (suc k) ≡ (ltb m k || eqb m k)
below_next m k = grind (arith, nat_tests)

below_none : (m : ℕ) → ltb m 0 ≡ false
below_none m = grind (arith, nat_tests)

abbrev gone_below : ℕ → (ℕ → Bool) → ℕ → Bool
gone_below k gone m = ltb m k && gone m

rights_same : (a : Page) (right rights : ℕ → Right) → ((m : ℕ) → right m ≡ rights m) → record a { right = right } ≡ record a { right = rights }
rights_same a right rights same = (λ i. record a { right = λ m. same m i })

module _ (a : Page) (low : ℕ) (gone : ℕ → Bool) (before : a.era < low) (over : AreOver a low gone) where
  abbrev s : ℕ → Page
  s k = lowered a low (gone_below k gone)

  nothing_yet : a ≡ s 0
  nothing_yet = rights_same a a.right (s 0).right (λ m. ap (λ (b : Bool). pick (b && gone m) (lower low (a.right m)) (a.right m)) (sym (below_none m)))

  own_right : (k : ℕ) → (s k).right k ≡ a.right k
  own_right k =
      let none : ltb k k ≡ false = grind (arith, nat_tests) in
      ap (λ (b : Bool). pick (b && gone k) (lower low (a.right k)) (a.right k)) none

  -- of the next node nothing changes
  skipped : (k : ℕ) → (gone k ≡ true → lower low (a.right k) ≡ a.right k) → s k ≡ s (suc k)
  skipped k stays =
      rights_same a (s k).right (s (suc k)).right
      (λ m. by m (eqb m k) refl ∙ ap (λ (b : Bool). pick (b && gone m) (lower low (a.right m)) (a.right m)) (sym (below_next m k)))
    where
      same : (l g : Bool) (x y : Right) → (g ≡ true → x ≡ y) → pick (l && g) x y ≡ pick ((l || true) && g) x y
      same true g x y is = refl
      same false true x y is = sym (is refl)
      same false false x y is = refl

      none : (l g : Bool) (x y : Right) → pick (l && g) x y ≡ pick ((l || false) && g) x y
      none true g x y = refl
      none false g x y = refl

      by : (m : ℕ) (b : Bool) → eqb m k ≡ b → pick (ltb m k && gone m) (lower low (a.right m)) (a.right m) ≡ pick ((ltb m k || eqb m k) && gone m) (lower low (a.right m)) (a.right m)
      by m true at =
          let is : m ≡ k = grind (arith, nat_tests, at) in
          same (ltb m k) (gone m) (lower low (a.right m)) (a.right m) (subst (λ (j : ℕ). gone j ≡ true → lower low (a.right j) ≡ a.right j) (sym is) stays)
          ∙ ap (λ (b : Bool). pick ((ltb m k || b) && gone m) (lower low (a.right m)) (a.right m)) (sym at)
      by m false at = none (ltb m k) (gone m) (lower low (a.right m)) (a.right m) ∙ ap (λ (b : Bool). pick ((ltb m k || b) && gone m) (lower low (a.right m)) (a.right m)) (sym at)

  -- its right counts for fewer eras
  next_is : (k : ℕ) (readers : List TxId) → gone k ≡ true → lower low (a.right k) ≡ Returning low readers → lowering (s k) k low readers ≡ s (suc k)
  unfolding lowering
  next_is k readers there is =
      rights_same a (lowering (s k) k low readers).right (s (suc k)).right
      (λ m. by m (eqb m k) refl ∙ ap (λ (b : Bool). pick (b && gone m) (lower low (a.right m)) (a.right m)) (sym (below_next m k)))
    where
      now : (l g : Bool) (x y : Right) → g ≡ true → pick ((l || true) && g) x y ≡ x
      now true true x y e = refl
      now false true x y e = refl
      now l false x y e = absurd (cc)

      none : (l g : Bool) (x y : Right) → pick (l && g) x y ≡ pick ((l || false) && g) x y
      none true g x y = refl
      none false g x y = refl

      by : (m : ℕ) (b : Bool) → eqb m k ≡ b → pick (eqb m k) (Returning low readers) (pick (ltb m k && gone m) (lower low (a.right m)) (a.right m)) ≡ pick ((ltb m k || eqb m k) && gone m) (lower low (a.right m)) (a.right m)
      by m true at =
          let same : m ≡ k = grind (arith, nat_tests, at) in
          ap (λ (b : Bool). pick b (Returning low readers) (pick (ltb m k && gone m) (lower low (a.right m)) (a.right m))) at
          ∙ (sym (ap (λ (j : ℕ). lower low (a.right j)) same ∙ is)
          ∙ (sym (now (ltb m k) (gone m) (lower low (a.right m)) (a.right m) (ap gone same ∙ there)) ∙ ap (λ (b : Bool). pick ((ltb m k || b) && gone m) (lower low (a.right m)) (a.right m)) (sym at)))
      by m false at =
          ap (λ (b : Bool). pick b (Returning low readers) (pick (ltb m k && gone m) (lower low (a.right m)) (a.right m))) at
          ∙ (none (ltb m k) (gone m) (lower low (a.right m)) (a.right m) ∙ ap (λ (b : Bool). pick ((ltb m k || b) && gone m) (lower low (a.right m)) (a.right m)) (sym at))

  next : (k : ℕ) → Run a (s k) → Run a (s (suc k))
  next k run = by (gone k) refl (a.right k) refl
    where
      given : gone k ≡ true → (upto : ℕ) (readers : List TxId) → a.right k ≡ Returning upto readers → (b : Bool) → ltb low upto ≡ b → Run a (s (suc k))
      given there upto readers is true test =
          let after : low < upto = grind (arith, nat_tests, test) in
          let to : lower low (a.right k) ≡ Returning low readers = ap (lower low) is ∙ ap (λ (b : Bool). pick b (Returning low readers) (Returning upto readers)) test in
          subst (Run a) (next_is k readers there to)
          (then run (lowers k upto low readers (own_right k ∙ is) before (omega (arith, after)) (λ t home named. over k upto readers there is after t home named)))
      given there upto readers is false test =
          subst (Run a) (skipped k (λ again. ap (lower low) is ∙ (ap (λ (b : Bool). pick b (Returning low readers) (Returning upto readers)) test ∙ sym is))) run

      by : (g : Bool) → gone k ≡ g → (r : Right) → a.right k ≡ r → Run a (s (suc k))
      by true there NoRight is = subst (Run a) (skipped k (λ again. ap (lower low) is ∙ sym is)) run
      by true there (Flying g) is = subst (Run a) (skipped k (λ again. ap (lower low) is ∙ sym is)) run
      by true there (Shelf v) is = subst (Run a) (skipped k (λ again. ap (lower low) is ∙ sym is)) run
      by true there (Returning upto readers) is = given there upto readers is (ltb low upto) refl
      by true there Dead is = subst (Run a) (skipped k (λ again. ap (lower low) is ∙ sym is)) run
      by false alive r is = subst (Run a) (skipped k (λ there. let bad : true ≡ false = sym there ∙ alive in absurd (cc))) run

  some : (k : ℕ) → Run a (s k)
  some zero = subst (Run a) nothing_yet here
  some (suc k) = next k (some k)

  -- all of them, where the others have none
  all : AreBounded a → Run a (lowered a low gone)
  all bounded = subst (Run a) (rights_same a (s bounded.bound).right (lowered a low gone).right (λ m. by m (ltb m bounded.bound) refl)) (some bounded.bound)
    where
      none : (g : Bool) (r : Right) → r ≡ NoRight → pick g (lower low r) r ≡ NoRight
      none true r is = ap (lower low) is
      none false r is = is

      by : (m : ℕ) (b : Bool) → ltb m bounded.bound ≡ b → pick (ltb m bounded.bound && gone m) (lower low (a.right m)) (a.right m) ≡ pick (gone m) (lower low (a.right m)) (a.right m)
      by m true test = ap (λ (b : Bool). pick (b && gone m) (lower low (a.right m)) (a.right m)) test
      by m false test =
          let after : bounded.bound ≤ m = grind (arith, nat_tests, test) in
          ap (λ (b : Bool). pick (b && gone m) (lower low (a.right m)) (a.right m)) test ∙ (bounded.none m after ∙ sym (none (gone m) (a.right m) (bounded.none m after)))

pub lowering_is_run_law : LoweringIsRun
lowering_is_run_law a low gone before bounded over = all a low gone before over bounded
