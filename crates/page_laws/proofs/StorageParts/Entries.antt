-- The records of a page among the entries of logs.
use Rattle.std.proofs.Common.{◌≡◌, refl, sym, ap, ◌∙◌, ℕ, ◌<◌, ◌≤◌, ◌==◌, eqb, leb, Bool, true, false, List, [], ◌∷◌, ◌++◌, Option, Some, None, arith}
use Rattle.std.specs.List.{AllByRecursion}
use Rattle.std.proofs.lemmas.Bool.Decides.{nat_tests}
use Rattle.pcl_base.specs.declared.log.Logged.{Logged}
use Rattle.page_protocol.specs.Bytes.{Ranges}
use Rattle.page_protocol.specs.State.{pick}
use Rattle.text_rules.specs.LogRecord.{is_whole}
use Rattle.page_laws.specs.Storage.Looks.{ranges_of_part, ranges_in, AreRising}

-- the first of two that is there
abbrev pub first_of : Option Ranges → Option Ranges → Option Ranges
first_of None y = y
first_of (Some x) y = Some x

pub ranges_joined : (xs ys : List Logged) (v : ℕ) → ranges_in (xs ++ ys) v ≡ first_of (ranges_in xs v) (ranges_in ys v)
unfolding ranges_in
ranges_joined [] ys v = refl
ranges_joined (x ∷ xs) ys v = by (x.version == v) (ranges_joined xs ys v)
  where
    by : (b : Bool) → ranges_in (xs ++ ys) v ≡ first_of (ranges_in xs v) (ranges_in ys v)
        → pick b (Some (ranges_of_part x.part)) (ranges_in (xs ++ ys) v) ≡ first_of (pick b (Some (ranges_of_part x.part)) (ranges_in xs v)) (ranges_in ys v)
    by true ih = refl
    by false ih = ih

-- the entry of a further version
pub ranges_added : (xs : List Logged) (x : Logged) (v : ℕ) → ranges_in xs x.version ≡ None → ranges_in (xs ++ x ∷ []) v ≡ pick (eqb v x.version) (Some (ranges_of_part x.part)) (ranges_in xs v)
unfolding ranges_in
ranges_added xs x v none = ranges_joined xs (x ∷ []) v ∙ by (eqb v x.version) refl
  where
    alone : (b : Bool) → (x.version == v) ≡ b → ranges_in (x ∷ []) v ≡ pick b (Some (ranges_of_part x.part)) None
    alone b e = ap (λ t. pick t (Some (ranges_of_part x.part)) None) e

    nothing : (o : Option Ranges) → first_of o None ≡ o
    nothing None = refl
    nothing (Some r) = refl

    by : (b : Bool) → eqb v x.version ≡ b → first_of (ranges_in xs v) (ranges_in (x ∷ []) v) ≡ pick b (Some (ranges_of_part x.part)) (ranges_in xs v)
    by true e =
        let same : v ≡ x.version = grind (arith, nat_tests) in
        let first : ranges_in xs v ≡ None = ap (ranges_in xs) same ∙ none in
        ap (λ o. first_of o (ranges_in (x ∷ []) v)) first ∙ alone true (grind (arith, nat_tests))
    by false e =
        ap (λ o. first_of (ranges_in xs v) o) (alone false (grind (arith, nat_tests))) ∙ nothing (ranges_in xs v)

-- entries above a version have none up to it
pub none_low : (xs : List Logged) (low v : ℕ) → AreRising low xs → v ≤ low → ranges_in xs v ≡ None
unfolding ranges_in
none_low [] low v rising le = refl
none_low (x ∷ xs) low v rising le =
    let above = rising.0 in
    let other : (x.version == v) ≡ false = grind (arith, nat_tests) in
    ap (λ b. pick b (Some (ranges_of_part x.part)) (ranges_in xs v)) other ∙ none_low xs x.version v rising.2 (omega (arith, above, le))

pub rising_lower : (xs : List Logged) (low high : ℕ) → low ≤ high → AreRising high xs → AreRising low xs
rising_lower [] low high le rising = tt
rising_lower (x ∷ xs) low high le rising = (let above = rising.0 in omega (arith, above, le), rising.1, rising.2)

-- an entry of a version above all others
pub rising_added : (xs : List Logged) (low : ℕ) (x : Logged) → AreRising low xs → low < x.version → is_whole x.part ≡ false → ((v : ℕ) → x.version ≤ v → ranges_in xs v ≡ None) → AreRising low (xs ++ x ∷ [])
unfolding ranges_in
rising_added [] low x rising above changed none = (above, changed, tt)
rising_added (y ∷ xs) low x rising above changed none =
    (rising.0, rising.1, rising_added xs y.version x rising.2 below changed (λ v le. rest v le))
  where
    below : y.version < x.version
    below = by (leb x.version y.version) refl
      where
        here : (b : Bool) → (y.version == y.version) ≡ b → pick b (Some (ranges_of_part y.part)) (ranges_in xs y.version) ≡ None → b ≡ true → ⊥
        here true e n t = absurd (cc)
        here false e n t = absurd (cc)

        by : (b : Bool) → leb x.version y.version ≡ b → y.version < x.version
        by true e = absurd (here (y.version == y.version) refl (none y.version (grind (arith, nat_tests))) (grind (arith, nat_tests)))
        by false e = grind (arith, nat_tests)

    rest : (v : ℕ) → x.version ≤ v → ranges_in xs v ≡ None
    rest v le =
        let other : (y.version == v) ≡ false = let low = below in grind (arith, nat_tests) in
        sym (ap (λ b. pick b (Some (ranges_of_part y.part)) (ranges_in xs v)) other) ∙ none v le

-- what is left behind entries that the disk has
pub record IsRest (fs rs : List Logged) (low most : ℕ) : Type 0 where
  pub upto : ℕ
  pub least : low ≤ upto
  pub on_disk : upto ≤ most
  pub rising : AreRising upto rs
  pub left : (v : ℕ) → ranges_in rs v ≡ pick (leb v upto) None (ranges_in (fs ++ rs) v)

pub rest_of : (fs rs : List Logged) (low most : ℕ) → low ≤ most → AreRising low (fs ++ rs) → AllByRecursion (λ x. x.version ≤ most) fs → IsRest fs rs low most
unfolding ranges_in
rest_of [] rs low most le rising old = record { upto = low; least = omega arith; on_disk = le; rising = rising; left = λ v. by v (leb v low) refl }
  where
    by : (v : ℕ) (b : Bool) → leb v low ≡ b → ranges_in rs v ≡ pick b None (ranges_in rs v)
    by v true e = none_low rs low v rising (grind (arith, nat_tests))
    by v false e = refl
rest_of (x ∷ fs) rs low most le rising old =
    let more = rest_of fs rs x.version most old.0 rising.2 old.1 in
    record {
      upto = more.upto;
      least = let above = rising.0 in let least = more.least in omega (arith, above, least);
      on_disk = more.on_disk;
      rising = more.rising;
      left = λ v. more.left v ∙ by v more.upto more.least (leb v more.upto) refl (x.version == v) refl;
    }
  where
    by : (v w : ℕ) → x.version ≤ w → (b : Bool) → leb v w ≡ b → (t : Bool) → (x.version == v) ≡ t
        → pick b None (ranges_in (fs ++ rs) v) ≡ pick b None (pick t (Some (ranges_of_part x.part)) (ranges_in (fs ++ rs) v))
    by v w least true e t f = refl
    by v w least false e false f = refl
    by v w least false e true f = absurd (grind (arith, nat_tests))
