-- What holds of the rights on a shelf through everything that changes them.
use Rattle.std.proofs.Common.{◌≡◌, refl, ap, subst, ◌∙◌, sym, ℕ, ◌<◌, ◌==◌, ◌||◌, not, cond, Bool, true, false, List, [], ◌∷◌, ◌++◌, Option, Some, None, is_some, arith}
use Rattle.std.specs.List.{filter, fold}
use Rattle.std.proofs.lemmas.Bool.Decides.{nat_tests}
use Rattle.pcl_base.specs.Limits.{Sizes}
use Rattle.pcl_base.specs.declared.tx.TxId.{TxId}
use Rattle.pcl_base.specs.declared.message.Grant.{Grant}
use Rattle.text_rules.specs.MessageBytes.{IsPage}
use Rattle.node_rules.specs.Words.{pick, same_tx, among}
use Rattle.node_rules.specs.Shelf.{Right, right_on, accept, change_right, with_one_reader, add_reader, end_reader, spend}
use Rattle.node_rules.specs.AccessRule.{shelf_after, readers_after}
use Rattle.step_laws.specs.Most.{AreApart}
use Rattle.node_laws.specs.Nodes.{AreRights}

-- different transactions
among_push : (ts : List TxId) (t u : TxId) → among ts u ≡ false → same_tx t u ≡ false → among (ts ++ t ∷ []) u ≡ false
unfolding among
among_push [] t u none other = ap (λ b. b || false) other
among_push (x ∷ ts) t u none other = by (same_tx x u) none (λ f. among_push ts t u f other)
  where
    by : (b : Bool) → b || among ts u ≡ false → (among ts u ≡ false → among (ts ++ t ∷ []) u ≡ false) → b || among (ts ++ t ∷ []) u ≡ false
    by true e rest = absurd (cc)
    by false e rest = rest e

turned : (t u : TxId) → same_tx t u ≡ false → same_tx u t ≡ false
turned t u e = grind (arith, nat_tests)

apart_push : (ts : List TxId) (t : TxId) → AreApart ts → among ts t ≡ false → AreApart (ts ++ t ∷ [])
unfolding among
apart_push [] t apart none = (refl, tt)
apart_push (x ∷ ts) t apart none = by (same_tx x t) refl none (apart_push ts t apart.1)
  where
    by : (b : Bool) → same_tx x t ≡ b → b || among ts t ≡ false → (among ts t ≡ false → AreApart (ts ++ t ∷ [])) → (among (ts ++ t ∷ []) x ≡ false) × AreApart (ts ++ t ∷ [])
    by true e f rest = absurd (cc)
    by false e f rest = (among_push ts t x apart.0 (turned x t e), rest f)

among_left : (keep : TxId → Bool) (ts : List TxId) (u : TxId) → among ts u ≡ false → among (filter keep ts) u ≡ false
unfolding among
among_left keep [] u none = refl
among_left keep (x ∷ ts) u none = by (same_tx x u) refl none (keep x) (among_left keep ts u)
  where
    by : (b : Bool) → same_tx x u ≡ b → b || among ts u ≡ false → (k : Bool) → (among ts u ≡ false → among (filter keep ts) u ≡ false) → among (cond k (x ∷ filter keep ts) (filter keep ts)) u ≡ false
    by true e f k rest = absurd (cc)
    by false e f true rest = ap (λ b. b || among (filter keep ts) u) e ∙ rest f
    by false e f false rest = rest f

apart_left : (keep : TxId → Bool) (ts : List TxId) → AreApart ts → AreApart (filter keep ts)
apart_left keep [] apart = tt
apart_left keep (x ∷ ts) apart = by (keep x) (apart_left keep ts apart.1)
  where
    by : (k : Bool) → AreApart (filter keep ts) → AreApart (cond k (x ∷ filter keep ts) (filter keep ts))
    by true rest = (among_left keep ts x apart.0, rest)
    by false rest = rest

one_reader : (t : TxId) (r : Right) → AreApart r.readers → AreApart (with_one_reader t r).readers
one_reader t r apart = by (among r.readers t) refl
  where
    by : (b : Bool) → among r.readers t ≡ b → AreApart (pick b r (record r { readers = r.readers ++ t ∷ [] })).readers
    by true e = apart
    by false e = apart_push r.readers t apart e

one_page : (t : TxId) (r : Right) → (with_one_reader t r).page ≡ r.page
one_page t r = by (among r.readers t)
  where
    by : (b : Bool) → (pick b r (record r { readers = r.readers ++ t ∷ [] })).page ≡ r.page
    by true = refl
    by false = refl

-- a change that keeps the page
module _ (f : Right → Right) (page : (r : Right) → (f r).page ≡ r.page) where
  none_changed : (rs : List Right) (p q : ℕ) → right_on rs q ≡ None → right_on (change_right f rs p) q ≡ None
  unfolding right_on change_right
  none_changed [] p q none = refl
  none_changed (r ∷ rs) p q none = by (r.page == q) refl none (r.page == p) (none_changed rs p q)
    where
      by : (b : Bool) → (r.page == q) ≡ b → pick b (Some r) (right_on rs q) ≡ None → (k : Bool)
          → (right_on rs q ≡ None → right_on (change_right f rs p) q ≡ None) → pick ((pick k (f r) r).page == q) (Some (pick k (f r) r)) (right_on (change_right f rs p) q) ≡ None
      by true e h k rest = absurd (cc)
      by false e h true rest = ap (λ b. pick b (Some (f r)) (right_on (change_right f rs p) q)) (ap (λ n. n == q) (page r) ∙ e) ∙ rest h
      by false e h false rest = ap (λ b. pick b (Some r) (right_on (change_right f rs p) q)) e ∙ rest h

  change_is : (c : Sizes) → ((r : Right) → AreApart r.readers → AreApart (f r).readers) → (rs : List Right) (p : ℕ) → AreRights c rs → AreRights c (change_right f rs p)
  unfolding change_right
  change_is c each [] p are = tt
  change_is c each (r ∷ rs) p are = by (r.page == p) (change_is c each rs p are.3)
    where
      by : (b : Bool) → AreRights c (change_right f rs p) → AreRights c (pick b (f r) r ∷ change_right f rs p)
      by true rest = (
        subst (λ (n : ℕ). n < c.pages) (sym (page r)) are.0,
        each r are.1,
        ap (right_on (change_right f rs p)) (page r) ∙ none_changed rs p r.page are.2,
        rest,
      )
      by false rest = (are.0, are.1, none_changed rs p r.page are.2, rest)

none_left : (keep : Right → Bool) (rs : List Right) (q : ℕ) → right_on rs q ≡ None → right_on (filter keep rs) q ≡ None
unfolding right_on
none_left keep [] q none = refl
none_left keep (r ∷ rs) q none = by (r.page == q) refl none (keep r) (none_left keep rs q)
  where
    by : (b : Bool) → (r.page == q) ≡ b → pick b (Some r) (right_on rs q) ≡ None → (k : Bool) → (right_on rs q ≡ None → right_on (filter keep rs) q ≡ None) → right_on (cond k (r ∷ filter keep rs) (filter keep rs)) q ≡ None
    by true e h k rest = absurd (cc)
    by false e h true rest = ap (λ b. pick b (Some r) (right_on (filter keep rs) q)) e ∙ rest h
    by false e h false rest = rest h

none_push : (rs : List Right) (x : Right) (q : ℕ) → right_on rs q ≡ None → (x.page == q) ≡ false → right_on (rs ++ x ∷ []) q ≡ None
unfolding right_on
none_push [] x q none other = ap (λ b. pick b (Some x) None) other
none_push (r ∷ rs) x q none other = by (r.page == q) none (λ h. none_push rs x q h other)
  where
    by : (b : Bool) → pick b (Some r) (right_on rs q) ≡ None → (right_on rs q ≡ None → right_on (rs ++ x ∷ []) q ≡ None) → pick b (Some r) (right_on (rs ++ x ∷ []) q) ≡ None
    by true h rest = absurd (cc)
    by false h rest = rest h

swapped : (m n : ℕ) → (m == n) ≡ false → (n == m) ≡ false
swapped m n e = grind (arith, nat_tests)

module _ (c : Sizes) where
  pub left_are : (keep : Right → Bool) (rs : List Right) → AreRights c rs → AreRights c (filter keep rs)
  left_are keep [] are = tt
  left_are keep (r ∷ rs) are = by (keep r) (left_are keep rs are.3)
    where
      by : (k : Bool) → AreRights c (filter keep rs) → AreRights c (cond k (r ∷ filter keep rs) (filter keep rs))
      by true rest = (are.0, are.1, none_left keep rs r.page are.2, rest)
      by false rest = rest

  push_are : (rs : List Right) (x : Right) → IsPage c x.page → AreApart x.readers → right_on rs x.page ≡ None → AreRights c rs → AreRights c (rs ++ x ∷ [])
  unfolding right_on
  push_are [] x page apart none are = (page, apart, refl, tt)
  push_are (r ∷ rs) x page apart none are = by (r.page == x.page) refl none (λ h. push_are rs x page apart h are.3)
    where
      by : (b : Bool) → (r.page == x.page) ≡ b → pick b (Some r) (right_on rs x.page) ≡ None → (right_on rs x.page ≡ None → AreRights c (rs ++ x ∷ [])) → AreRights c (r ∷ (rs ++ x ∷ []))
      by true e h rest = absurd (cc)
      by false e h rest = (are.0, are.1, none_push rs x r.page are.2 (swapped r.page x.page e), rest h)

  accept_are : (rs : List Right) (p v : ℕ) → IsPage c p → AreRights c rs → AreRights c (accept rs p v)
  unfolding accept
  accept_are rs p v page are = by (right_on rs p) refl
    where
      by : (o : Option Right) → right_on rs p ≡ o → AreRights c (pick (is_some o) rs (rs ++ record { page = p; version = v; readers = [] } ∷ []))
      by None e = push_are rs (record { page = p; version = v; readers = [] }) page tt e are
      by (Some r) e = are

  pub add_are : (rs : List Right) (p : ℕ) (t : TxId) → AreRights c rs → AreRights c (add_reader rs p t)
  unfolding add_reader
  add_are rs p t are = change_is (with_one_reader t) (one_page t) c (one_reader t) rs p are

  pub end_are : (rs : List Right) (p : ℕ) (t : TxId) → AreRights c rs → AreRights c (end_reader rs p t)
  unfolding end_reader
  end_are rs p t are =
      change_is (λ r. record r { readers = filter (λ u. not (same_tx u t)) r.readers }) (λ r. refl) c (λ r apart. apart_left (λ u. not (same_tx u t)) r.readers apart) rs p are

  pub ends_are : (t : TxId) (ps : List ℕ) (rs : List Right) → AreRights c rs → AreRights c (fold (λ rs p. end_reader rs p t) rs ps)
  ends_are t [] rs are = are
  ends_are t (p ∷ ps) rs are = ends_are t ps (end_reader rs p t) (end_are rs p t are)

  pub spend_are : (rs : List Right) (p : ℕ) → AreRights c rs → AreRights c (spend rs p)
  unfolding spend
  spend_are rs p are = left_are (λ r. not (r.page == p)) rs are

  pub after_are : (g : Grant) (rs : List Right) → IsPage c g.page → AreRights c rs → AreRights c (shelf_after g rs)
  after_are g rs page are = by g.right
    where
      by : (b : Bool) → AreRights c (pick b (accept rs g.page g.version) rs)
      by true = accept_are rs g.page g.version page are
      by false = are

  pub readers_are : (g : Grant) (rs : List Right) → AreRights c rs → AreRights c (readers_after g rs)
  readers_are g rs are = by g.right
    where
      by : (b : Bool) → AreRights c (pick b (add_reader rs g.page g.tx) (end_reader rs g.page g.tx))
      by true = add_are rs g.page g.tx are
      by false = end_are rs g.page g.tx are
