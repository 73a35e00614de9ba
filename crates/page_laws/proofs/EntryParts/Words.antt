-- Tests of transactions, items of lists, and the looks at the lists of an entry after each change of a list.
use Rattle.std.proofs.Common.{◌≡◌, ◌≢◌, ◌⊎◌, ℕ, ◌==◌, ◌&&◌, ◌||◌, not, cond, Bool, true, false, List, [], ◌∷◌, ◌++◌, Option, Some, None, filter, Contains, refl, sym, ap, subst, ◌∙◌, arith, inl, inr}
use Rattle.std.specs.List.{AllByRecursion, list_any}
use Rattle.std.proofs.lemmas.Bool.Decides.{nat_tests}
use Rattle.pcl_base.specs.declared.tx.TxId.{TxId}
use Rattle.pcl_base.specs.declared.tx.Mode.{Mode}
use Rattle.pcl_base.specs.declared.tx.Mode.TheVariants.{Exclusive}
use Rattle.pcl_base.specs.declared.lock.Holder.{Holder}
use Rattle.node_rules.specs.Words.{pick, same_tx, or_else, is_exclusive}
use Rattle.node_rules.specs.LockRule.{mode_of, held_beside, exclusive_beside, hold_alone}
use Rattle.rule_laws.proofs.Lists.{contains_here, contains_there, contains_split, contains_none}
use Rattle.rule_laws.proofs.Turns.{same_self, same_equal}

-- two names are of one transaction, or they aren't equal
pub same_tells : (t u : TxId) → ((same_tx t u ≡ true) × (t ≡ u)) ⊎ ((same_tx t u ≡ false) × (t ≢ u))
same_tells t u = by (same_tx t u) refl
  where
    by : (b : Bool) → same_tx t u ≡ b → ((same_tx t u ≡ true) × (t ≡ u)) ⊎ ((same_tx t u ≡ false) × (t ≢ u))
    by true q = inl (q, same_equal t u q)
    by false q = inr (q, λ e. let yes : same_tx t u ≡ true = subst (λ (x : TxId). same_tx t x ≡ true) e (same_self t) in absurd (cc))

pub same_swap : (t u : TxId) → same_tx t u ≡ same_tx u t
same_swap t u =
    elim (same_tells t u) [
      | inl same ↦ subst (λ (x : TxId). same_tx t x ≡ same_tx x t) same.1 refl
      | inr other ↦ elim (same_tells u t) [ inl back ↦ absurd (other.1 (sym back.1)) | inr none ↦ other.0 ∙ sym none.0 ]
    ]

pub number_swap : (m n : ℕ) → (m == n) ≡ (n == m)
number_swap m n = grind (arith, nat_tests)

pub number_self : (n : ℕ) → (n == n) ≡ true
number_self n = grind (arith, nat_tests)

pub number_equal : (m n : ℕ) → (m == n) ≡ true → m ≡ n
number_equal m n e = grind (arith, nat_tests)

pub number_other : (m n : ℕ) → (m ≡ n → ⊥) → (m == n) ≡ false
number_other m n no_path = by (m == n) refl
  where
    by : (b : Bool) → (m == n) ≡ b → b ≡ false
    by true e = absurd (no_path (number_equal m n e))
    by false e = refl

pub or_parts : (a b : Bool) → a || b ≡ false → (a ≡ false) × (b ≡ false)
or_parts false b e = (refl, e)
or_parts true b e = absurd (cc)

pub or_last : (a b : Bool) → b ≡ true → a || b ≡ true
or_last true b e = refl
or_last false b e = e

-- items of lists
module _ {X : Type 0} where
  pub all_in : (P : X → Type 0) (xs : List X) (x : X) → AllByRecursion P xs → Contains xs x → P x
  all_in P [] x all c = absurd (contains_none x c)
  all_in P (y ∷ xs) x all c =
      elim (contains_split y x xs c) [ inl same ↦ subst P same all.0 | inr later ↦ all_in P xs x all.1 later ]

  pub all_from : (P : X → Type 0) (xs : List X) → ((x : X) → Contains xs x → P x) → AllByRecursion P xs
  all_from P [] f = tt
  all_from P (x ∷ xs) f = (f x (contains_here x xs), all_from P xs (λ y c. f y (contains_there x y xs c)))

  pub pushed_in : (xs : List X) (y x : X) → Contains (xs ++ y ∷ []) x → Contains xs x ⊎ (x ≡ y)
  pushed_in [] y x c = elim (contains_split y x [] c) [ inl same ↦ inr (sym same) | inr later ↦ inl later ]
  pushed_in (z ∷ xs) y x c =
      elim (contains_split z x (xs ++ y ∷ []) c) [
        | inl same ↦ inl (0, omega arith, same)
        | inr later ↦ elim (pushed_in xs y x later) [ inl before ↦ inl (contains_there z x xs before) | inr last ↦ inr last ]
      ]

  -- what passes a test stays
  pub stays_in : (keep : X → Bool) (xs : List X) (x : X) → Contains xs x → keep x ≡ true → Contains (filter keep xs) x
  stays_in keep [] x c e = c
  stays_in keep (y ∷ xs) x c e = by (keep y) refl (λ later. stays_in keep xs x later e)
    where
      by : (b : Bool) → keep y ≡ b → (Contains xs x → Contains (filter keep xs) x) → Contains (cond b (y ∷ filter keep xs) (filter keep xs)) x
      by true q f =
          elim (contains_split y x xs c) [
            | inl same ↦ (0, omega arith, same)
            | inr later ↦ contains_there y x (filter keep xs) (f later)
          ]
      by false q f =
          elim (contains_split y x xs c) [
            | inl same ↦ let passes : keep y ≡ true = ap keep same ∙ e in absurd (cc)
            | inr later ↦ f later
          ]

  -- a test of a list with one item more, or of a filtered one
  pub any_pushed : (p : X → Bool) (xs : List X) (y : X) → list_any p (xs ++ y ∷ []) ≡ list_any p xs || p y
  any_pushed p [] y = by (p y)
    where
      by : (b : Bool) → b || false ≡ false || b
      by true = refl
      by false = refl
  any_pushed p (x ∷ xs) y = by (p x) (any_pushed p xs y)
    where
      by : (b : Bool) → list_any p (xs ++ y ∷ []) ≡ list_any p xs || p y → b || list_any p (xs ++ y ∷ []) ≡ (b || list_any p xs) || p y
      by true r = refl
      by false r = r

  -- a test that only items of one kind pass, which stay all or not at all
  pub any_kept : (p keep : X → Bool) (b : Bool) → ((x : X) → p x ≡ true → keep x ≡ b) → (xs : List X) → list_any p (filter keep xs) ≡ b && list_any p xs
  any_kept p keep true same [] = refl
  any_kept p keep false same [] = refl
  any_kept p keep b same (x ∷ xs) = by (p x) refl (keep x) refl b (same x) (any_kept p keep b same xs)
    where
      by : (c : Bool) → p x ≡ c → (d : Bool) → keep x ≡ d → (b : Bool) → (p x ≡ true → keep x ≡ b) → list_any p (filter keep xs) ≡ b && list_any p xs
          → list_any p (cond d (x ∷ filter keep xs) (filter keep xs)) ≡ b && (c || list_any p xs)
      by c e true f true s r = ap (λ y. y || list_any p (filter keep xs)) e ∙ ap (λ y. c || y) r
      by true e true f false s r = let bad = s e in absurd (cc)
      by false e true f false s r = ap (λ y. y || list_any p (filter keep xs)) e ∙ r
      by true e false f true s r = let bad = s e in absurd (cc)
      by false e false f true s r = r
      by c e false f false s r = r

-- the modes in which a transaction holds the page
pub mode_pushed : (hs : List Holder) (h : Holder) (u : TxId) → mode_of (hs ++ h ∷ []) u ≡ or_else (mode_of hs u) (pick (same_tx h.tx u) (Some h.mode) None)
unfolding mode_of
mode_pushed [] h u = refl
mode_pushed (x ∷ hs) h u = by (same_tx x.tx u) (mode_pushed hs h u)
  where
    by : (b : Bool) → mode_of (hs ++ h ∷ []) u ≡ or_else (mode_of hs u) (pick (same_tx h.tx u) (Some h.mode) None)
        → pick b (Some x.mode) (mode_of (hs ++ h ∷ []) u) ≡ or_else (pick b (Some x.mode) (mode_of hs u)) (pick (same_tx h.tx u) (Some h.mode) None)
    by true r = refl
    by false r = r

pub mode_kept : (keep : TxId → Bool) (hs : List Holder) (u : TxId) → mode_of (filter (λ h. keep h.tx) hs) u ≡ pick (keep u) (mode_of hs u) None
unfolding mode_of
mode_kept keep [] u = by (keep u)
  where
    nothing : Option Mode
    nothing = None

    by : (b : Bool) → nothing ≡ pick b nothing nothing
    by true = refl
    by false = refl
mode_kept keep (h ∷ hs) u = by (keep h.tx) refl (same_tx h.tx u) refl (mode_kept keep hs u)
  where
    last : (b : Bool) (x : Option Mode) → b ≡ false → None ≡ pick b x None
    last true x e = absurd (cc)
    last false x e = refl

    first : (b : Bool) (x y : Option Mode) → b ≡ true → x ≡ pick b x y
    first true x y e = refl
    first false x y e = absurd (cc)

    by : (b : Bool) → keep h.tx ≡ b → (c : Bool) → same_tx h.tx u ≡ c → mode_of (filter (λ h. keep h.tx) hs) u ≡ pick (keep u) (mode_of hs u) None
        → mode_of (cond b (h ∷ filter (λ h. keep h.tx) hs) (filter (λ h. keep h.tx) hs)) u ≡ pick (keep u) (pick c (Some h.mode) (mode_of hs u)) None
    by true x true q r =
        ap (λ (y : Bool). pick y (Some h.mode) (mode_of (filter (λ h. keep h.tx) hs) u)) q
        ∙ first (keep u) (Some h.mode) None (sym (ap keep (same_equal h.tx u q)) ∙ x)
    by true x false q r = ap (λ (y : Bool). pick y (Some h.mode) (mode_of (filter (λ h. keep h.tx) hs) u)) q ∙ r
    by false x false q r = r
    by false x true q r =
        let gone : keep u ≡ false = sym (ap keep (same_equal h.tx u q)) ∙ x in
        r ∙ (sym (last (keep u) (mode_of hs u) gone) ∙ last (keep u) (Some h.mode) gone)

pub mode_alone : (hs : List Holder) (t u : TxId) → mode_of (hold_alone hs t) u ≡ pick (same_tx t u) (Some Exclusive) (mode_of hs u)
unfolding mode_of hold_alone
mode_alone [] t u = refl
mode_alone (h ∷ hs) t u = by (same_tx h.tx t) refl (mode_alone hs t u)
  where
    skip : (b c : Bool) (x y z : Option Mode) → (b ≡ true → c ≡ false) → pick b x (pick c y z) ≡ pick c y (pick b x z)
    skip true true x y z s = let bad = s refl in absurd (cc)
    skip true false x y z s = refl
    skip false c x y z s = refl

    under : (b : Bool) (x y z : Option Mode) → pick b x y ≡ pick b x (pick b z y)
    under true x y z = refl
    under false x y z = refl

    by : (b : Bool) → same_tx h.tx t ≡ b → mode_of (hold_alone hs t) u ≡ pick (same_tx t u) (Some Exclusive) (mode_of hs u)
        → mode_of (pick b (record { tx = t; mode = Exclusive } ∷ hs) (h ∷ hold_alone hs t)) u ≡ pick (same_tx t u) (Some Exclusive) (pick (same_tx h.tx u) (Some h.mode) (mode_of hs u))
    by true q r =
        under (same_tx t u) (Some Exclusive) (mode_of hs u) (Some h.mode)
        ∙ ap (λ (x : TxId). pick (same_tx t u) (Some Exclusive) (pick (same_tx x u) (Some h.mode) (mode_of hs u))) (sym (same_equal h.tx t q))
    by false q r =
        ap (λ (o : Option Mode). pick (same_tx h.tx u) (Some h.mode) o) r
        ∙ skip (same_tx h.tx u) (same_tx t u) (Some h.mode) (Some Exclusive) (mode_of hs u) apart
      where
        apart : same_tx h.tx u ≡ true → same_tx t u ≡ false
        apart e =
            elim (same_tells t u) [
              | inl same ↦
                  let bad : same_tx h.tx t ≡ true = ap (λ (x : TxId). same_tx h.tx x) same.1 ∙ e in
                  absurd (cc)
              | inr other ↦ other.0
            ]

-- nobody holds the page beside one, or nobody writes it beside one
pub none_beside : (hs : List Holder) (t u : TxId) → held_beside hs t ≡ false → (mode_of hs u ≡ None) ⊎ (u ≡ t)
unfolding mode_of
none_beside [] t u e = inl refl
none_beside (h ∷ hs) t u e = by (same_tx h.tx u) refl (none_beside hs t u both.1)
  where
    both : (not (same_tx h.tx t) ≡ false) × (held_beside hs t ≡ false)
    both = or_parts (not (same_tx h.tx t)) (held_beside hs t) e

    of_not : (b : Bool) → not b ≡ false → b ≡ true
    of_not true q = refl
    of_not false q = absurd (cc)

    by : (b : Bool) → same_tx h.tx u ≡ b → (mode_of hs u ≡ None) ⊎ (u ≡ t) → (pick b (Some h.mode) (mode_of hs u) ≡ None) ⊎ (u ≡ t)
    by true q r = inr (sym (same_equal h.tx u q) ∙ same_equal h.tx t (of_not (same_tx h.tx t) both.0))
    by false q r = r

pub writes_beside : (hs : List Holder) (t u : TxId) → same_tx u t ≡ false → mode_of hs u ≡ Some Exclusive → exclusive_beside hs t ≡ true
unfolding mode_of
writes_beside [] t u other e = absurd (cc)
writes_beside (h ∷ hs) t u other e = by (same_tx h.tx u) refl e (writes_beside hs t u other)
  where
    by : (b : Bool) → same_tx h.tx u ≡ b → pick b (Some h.mode) (mode_of hs u) ≡ Some Exclusive → (mode_of hs u ≡ Some Exclusive → exclusive_beside hs t ≡ true)
        → (not (same_tx h.tx t) && is_exclusive h.mode) || exclusive_beside hs t ≡ true
    by true q r f =
        let mode : h.mode ≡ Exclusive = cc in
        ap (λ (x : Bool). (not x && is_exclusive h.mode) || exclusive_beside hs t) (ap (λ (x : TxId). same_tx x t) (same_equal h.tx u q) ∙ other)
        ∙ ap (λ (m : Mode). is_exclusive m || exclusive_beside hs t) mode
    by false q r f = or_last (not (same_tx h.tx t) && is_exclusive h.mode) (exclusive_beside hs t) (f r)

pub nobody_writes : (hs : List Holder) (t : TxId) → exclusive_beside hs t ≡ false → mode_of hs t ≢ Some Exclusive → (u : TxId) → mode_of hs u ≢ Some Exclusive
nobody_writes hs t none not_it u e =
    elim (same_tells u t) [
      | inl same ↦ not_it (subst (λ (x : TxId). mode_of hs x ≡ Some Exclusive) same.1 e)
      | inr other ↦ let bad = writes_beside hs t u other.0 e in absurd (cc)
    ]
