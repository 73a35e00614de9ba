-- Granted writes as items: each stands once, and a commit point raises the version of each page of its transaction by one.
use Rattle.std.proofs.Common.{◌≡◌, refl, ap, sym, subst, ◌∙◌, ℕ, suc, ◌+◌, ◌<◌, ◌≤◌, ◌==◌, ◌&&◌, ◌||◌, cond, Bool, true, false, List, [], ◌∷◌, ◌++◌, length, slice_index, slice_set, arith}
use Rattle.std.specs.List.{list_any, filter, fold}
use Rattle.std.proofs.lemmas.Bool.Decides.{nat_tests}
use Rattle.pcl_base.specs.declared.tx.TxId.{TxId}
use Rattle.run_rules.specs.Words.{pick, same_tx}
use Rattle.run_rules.specs.Ledger.{Of, is_of}
use Rattle.run_rules.specs.Taking.{one_more}
use Rattle.home_laws.proofs.Tests.{one, number_equal, tx_equal, and_left, and_right}
use Rattle.node_laws.proofs.Lists.{set_look, set_same, set_length}
use Rattle.cluster_laws.proofs.Lists.{or_left, or_right}

-- ---- tests

or_true : (b : Bool) → b || true ≡ true
or_true true = refl
or_true false = refl

pub or_none : (b : Bool) → b || false ≡ b
or_none true = refl
or_none false = refl

or_joined : (a b c : Bool) → a || (b || c) ≡ (a || b) || c
or_joined true b c = refl
or_joined false b c = refl

module _ {X : Type 0} (f : X → Bool) where
  pub any_more : (xs : List X) (y : X) → list_any f (xs ++ y ∷ []) ≡ list_any f xs || f y
  any_more [] y = or_none (f y)
  any_more (x ∷ xs) y = ap (λ b. f x || b) (any_more xs y) ∙ or_joined (f x) (list_any f xs) (f y)

  filter_more : (xs : List X) (y : X) → length (filter f (xs ++ y ∷ [])) ≡ length (filter f xs) + one (f y)
  filter_more [] y = by (f y)
    where
      by : (b : Bool) → length (cond b (y ∷ []) []) ≡ 0 + one b
      by true = omega arith
      by false = omega arith
  filter_more (x ∷ xs) y = by (f x) (filter_more xs y)
    where
      by : (b : Bool) → length (filter f (xs ++ y ∷ [])) ≡ length (filter f xs) + one (f y)
          → length (cond b (x ∷ filter f (xs ++ y ∷ [])) (filter f (xs ++ y ∷ []))) ≡ length (cond b (x ∷ filter f xs) (filter f xs)) + one (f y)
      by true rest = omega (arith, rest)
      by false rest = rest

  none_filtered : (xs : List X) → list_any f xs ≡ false → length (filter f xs) ≡ 0
  none_filtered [] e = refl
  none_filtered (x ∷ xs) e = by (f x) (or_left (f x) (list_any f xs) e) (none_filtered xs (or_right (f x) (list_any f xs) e))
    where
      by : (b : Bool) → b ≡ false → length (filter f xs) ≡ 0 → length (cond b (x ∷ filter f xs) (filter f xs)) ≡ 0
      by true e rest = absurd (cc)
      by false e rest = rest

  some_filtered : (xs : List X) → list_any f xs ≡ true → 1 ≤ length (filter f xs)
  some_filtered [] e = absurd (cc)
  some_filtered (x ∷ xs) e = by (f x) e (λ g. some_filtered xs g)
    where
      by : (b : Bool) → b || list_any f xs ≡ true → (list_any f xs ≡ true → 1 ≤ length (filter f xs)) → 1 ≤ length (cond b (x ∷ filter f xs) (filter f xs))
      by true e rest = omega arith
      by false e rest = rest e

  -- at most one item passes: as many as there is one
  pub counted : (xs : List X) → length (filter f xs) ≤ 1 → length (filter f xs) ≡ one (list_any f xs)
  counted xs few = by (list_any f xs) refl
    where
      by : (b : Bool) → list_any f xs ≡ b → length (filter f xs) ≡ one b
      by true e = let some = some_filtered xs e in omega (arith, some, few)
      by false e = none_filtered xs e

  -- items that pass two tests
  pub filtered_both : (g : X → Bool) (xs : List X) → length (filter g (filter f xs)) ≡ length (filter (λ x. f x && g x) xs)
  filtered_both g [] = refl
  filtered_both g (x ∷ xs) = by (f x) (filtered_both g xs)
    where
      inner : (b : Bool) → length (filter g (filter f xs)) ≡ length (filter (λ x. f x && g x) xs)
          → length (cond b (x ∷ filter g (filter f xs)) (filter g (filter f xs))) ≡ length (cond b (x ∷ filter (λ x. f x && g x) xs) (filter (λ x. f x && g x) xs))
      inner true rest = ap suc rest
      inner false rest = rest

      by : (a : Bool) → length (filter g (filter f xs)) ≡ length (filter (λ x. f x && g x) xs)
          → length (filter g (cond a (x ∷ filter f xs) (filter f xs))) ≡ length (cond (a && g x) (x ∷ filter (λ x. f x && g x) xs) (filter (λ x. f x && g x) xs))
      by true rest = inner (g x) rest
      by false rest = rest

-- ---- a write that is noted

module _ (u : TxId) (q : ℕ) where
  abbrev pub item : Of
  item = record { tx = u; page = q }

  abbrev pub noted : List Of → List Of
  noted done = pick (list_any (is_of u q) done) done (done ++ item ∷ [])

  -- of another transaction and page it is the same one
  of_same : (t : TxId) (p : ℕ) (done : List Of) → is_of t p item ≡ true → list_any (is_of t p) done ≡ list_any (is_of u q) done
  of_same t p done e =
      ap (λ (v : TxId). list_any (is_of v p) done) (sym (tx_equal u t (and_left (same_tx u t) (q == p) e)))
      ∙ ap (λ (k : ℕ). list_any (is_of u k) done) (sym (number_equal q p (and_right (same_tx u t) (q == p) e)))

  pub noted_any : (t : TxId) (p : ℕ) (done : List Of) → list_any (is_of t p) (noted done) ≡ list_any (is_of t p) done || is_of t p item
  noted_any t p done = by (list_any (is_of u q) done) refl
    where
      there : list_any (is_of u q) done ≡ true → (a : Bool) → is_of t p item ≡ a → list_any (is_of t p) done ≡ list_any (is_of t p) done || a
      there e true f = let is : list_any (is_of t p) done ≡ true = of_same t p done f ∙ e in is ∙ sym (or_true (list_any (is_of t p) done))
      there e false f = sym (or_none (list_any (is_of t p) done))

      by : (b : Bool) → list_any (is_of u q) done ≡ b → list_any (is_of t p) (pick b done (done ++ item ∷ [])) ≡ list_any (is_of t p) done || is_of t p item
      by true e = there e (is_of t p item) refl
      by false e = any_more (is_of t p) done item

  pub noted_once : (t : TxId) (p : ℕ) (done : List Of) → length (filter (is_of t p) done) ≤ 1 → length (filter (is_of t p) (noted done)) ≤ 1
  noted_once t p done few = by (list_any (is_of u q) done) refl
    where
      new : list_any (is_of u q) done ≡ false → (a : Bool) → is_of t p item ≡ a → length (filter (is_of t p) done) + one a ≤ 1
      new e true f = let none = none_filtered (is_of t p) done (of_same t p done f ∙ e) in omega (arith, none)
      new e false f = omega (arith, few)

      by : (b : Bool) → list_any (is_of u q) done ≡ b → length (filter (is_of t p) (pick b done (done ++ item ∷ []))) ≤ 1
      by true e = few
      by false e = let less = new e (is_of t p item) refl in let same = filter_more (is_of t p) done item in omega (arith, less, same)

-- ---- versions that are raised

raised_look : (vs : List ℕ) (q p : ℕ) → p < length vs → slice_index (slice_set vs q (slice_index vs q + 1)) p ≡ slice_index vs p + one (q == p)
raised_look vs q p low = by (q == p) refl
  where
    apart : (q == p) ≡ false → p ≡ q → ⊥
    apart e same = absurd (grind (arith, nat_tests, e, same))

    nothing : (n : ℕ) → n ≡ n + one false
    nothing n = omega arith

    by : (b : Bool) → (q == p) ≡ b → slice_index (slice_set vs q (slice_index vs q + 1)) p ≡ slice_index vs p + one b
    by true e =
        let same : p ≡ q = sym (number_equal q p e) in
        ap (λ (k : ℕ). slice_index (slice_set vs q (slice_index vs q + 1)) k) same
        ∙ set_same 0 vs q (slice_index vs q + 1) (subst (λ (k : ℕ). k < length vs) same low)
        ∙ ap (λ (k : ℕ). slice_index vs k + 1) (sym same)
    by false e = set_look (λ (v : ℕ). v ≡ slice_index vs p) 0 vs q p (slice_index vs q + 1) (λ same. absurd (apart e same)) refl ∙ nothing (slice_index vs p)

-- each item raises its page by one
pub raised_by : (xs : List Of) (vs : List ℕ) (p : ℕ) → p < length vs → slice_index (fold one_more vs xs) p ≡ slice_index vs p + length (filter (λ x. x.page == p) xs)
raised_by [] vs p low = nothing (slice_index vs p)
  where
    nothing : (n : ℕ) → n ≡ n + 0
    nothing n = omega arith
raised_by (x ∷ xs) vs p low =
    let rest = raised_by xs (one_more vs x) p (subst (λ (n : ℕ). p < n) (sym (set_length vs x.page (slice_index vs x.page + 1))) low) in
    rest ∙ ap (λ (n : ℕ). n + length (filter (λ y. y.page == p) xs)) (raised_look vs x.page p low) ∙ by (x.page == p) (slice_index vs p)
  where
    by : (b : Bool) (n : ℕ) → n + one b + length (filter (λ y. y.page == p) xs) ≡ n + length (cond b (x ∷ filter (λ y. y.page == p) xs) (filter (λ y. y.page == p) xs))
    by true n = omega arith
    by false n = omega arith

pub raised_length : (xs : List Of) (vs : List ℕ) → length (fold one_more vs xs) ≡ length vs
raised_length [] vs = refl
raised_length (x ∷ xs) vs = raised_length xs (one_more vs x) ∙ set_length vs x.page (slice_index vs x.page + 1)

-- a commit point of t raises each page of which t has a granted write, by one
pub committed_look : (t : TxId) (done : List Of) (vs : List ℕ) (p : ℕ) → p < length vs → length (filter (is_of t p) done) ≤ 1
    → slice_index (fold one_more vs (filter (λ x. same_tx x.tx t) done)) p ≡ slice_index vs p + one (list_any (is_of t p) done)
committed_look t done vs p low few =
    raised_by (filter (λ x. same_tx x.tx t) done) vs p low
    ∙ ap (λ (n : ℕ). slice_index vs p + n) (filtered_both (λ (x : Of). same_tx x.tx t) (λ (x : Of). x.page == p) done ∙ counted (is_of t p) done few)
