-- The greatest version of a page.
use Rattle.std.proofs.Common.{inl, inr, ◌≡◌, refl, sym, ◌∙◌, ℕ, suc, ◌≤◌, Bool, true, false, nat_lt, List, [], ◌∷◌, arith}
use Rattle.std.specs.Prelude.{◌⊎◌}
use Rattle.std.specs.List.{fold, AllByRecursion, Contains}
use Rattle.std.proofs.lemmas.Bool.Decides.{nat_tests}
use Rattle.pcl_base.specs.declared.log.Logged.{Logged}
use Rattle.run_rules.specs.Words.{pick}
use Rattle.run_rules.specs.Redo.{entries_of, greatest}
use Rattle.redo_laws.specs.Laws.{GreatestIsGreatest}

-- the greater of a version and that of an entry
abbrev pub greater : ℕ → Logged → ℕ
greater v x = pick (nat_lt v x.version) x.version v

-- the greatest version among entries, from one on
abbrev pub greatest_from : ℕ → List Logged → ℕ
greatest_from v xs = fold greater v xs

greater_is : (v : ℕ) (x : Logged) → (v ≤ greater v x) × ((x.version ≤ greater v x) × ((greater v x ≡ v) ⊎ (greater v x ≡ x.version)))
greater_is v x = one (nat_lt v x.version) refl
  where
    one : (b : Bool) → nat_lt v x.version ≡ b → (v ≤ pick b x.version v) × ((x.version ≤ pick b x.version v) × ((pick b x.version v ≡ v) ⊎ (pick b x.version v ≡ x.version)))
    one true e = (grind (arith, nat_tests), (omega arith, inr refl))
    one false e = (omega arith, (grind (arith, nat_tests), inl refl))

-- it is no less than where it begins and than each entry
pub greatest_rises : (v : ℕ) (xs : List Logged) → v ≤ greatest_from v xs
greatest_rises v [] = omega arith
greatest_rises v (x ∷ xs) = let first = (greater_is v x).0 in let rest = greatest_rises (greater v x) xs in omega arith

greatest_most : (v : ℕ) (xs : List Logged) → AllByRecursion (λ x. x.version ≤ greatest_from v xs) xs
greatest_most v [] = tt
greatest_most v (x ∷ xs) =
    let first = (greater_is v x).1.0 in
    let rest = greatest_rises (greater v x) xs in
    (omega arith, greatest_most (greater v x) xs)

-- and it is one of them
greatest_there : (v : ℕ) (xs : List Logged) → (greatest_from v xs ≡ v) ⊎ ((x : Logged) × (Contains xs x × (x.version ≡ greatest_from v xs)))
greatest_there v [] = inl refl
greatest_there v (x ∷ xs) = one (greater_is v x).1.1 (greatest_there (greater v x) xs)
  where
    one : (greater v x ≡ v) ⊎ (greater v x ≡ x.version) → (greatest_from (greater v x) xs ≡ greater v x) ⊎ ((y : Logged) × (Contains xs y × (y.version ≡ greatest_from (greater v x) xs)))
        → (greatest_from v (x ∷ xs) ≡ v) ⊎ ((y : Logged) × (Contains (x ∷ xs) y × (y.version ≡ greatest_from v (x ∷ xs))))
    one (inl same) (inl kept) = inl (kept ∙ same)
    one (inr same) (inl kept) = inr (x, ((0, omega arith, refl), sym (kept ∙ same)))
    one same (inr h) = let at = h.1.0 in inr (h.0, ((suc at.0, (let less = at.1 in omega arith), at.2), h.1.1))

pub greatest_is_greatest_law : GreatestIsGreatest
unfolding greatest
greatest_is_greatest_law rs p = record { most = greatest_most 0 (entries_of p rs); there = greatest_there 0 (entries_of p rs) }
