-- Who is up and in a view has reached the era of a table without a missing report.
use Rattle.std.proofs.Common.{◌≡◌, ◌⊎◌, inl, inr, refl, ap, sym, subst, ◌∙◌, ℕ, zero, suc, ◌+◌, ◌<◌, ◌≤◌, ◌==◌, ◌&&◌, not, nat_le, Bool, true, false, List, [], ◌∷◌, length, slice_index_or, Option, arith, Some, None}
use Rattle.std.specs.List.{list_any}
use Rattle.std.proofs.lemmas.Bool.Decides.{nat_tests}
use Rattle.run_rules.specs.Views.{View, is_live, owner_of, since_of, born_of, count_from}
use Rattle.node_rules.specs.LockTable.{LockTable, marked}
use Rattle.node_rules.specs.Reports.{is_missing, missing}
use Rattle.cluster_laws.specs.Sound.{IsMember}
use Rattle.cluster_laws.proofs.Steps.{up_is_member_law}
use Rattle.page_laws.proofs.EntryParts.Words.{number_other, or_parts}
use Rattle.cluster_laws.specs.Era.EraLaws.{KnowsEras, Lives}
use Rattle.cluster_laws.specs.Era.Eras.{era_at, born_at, life_in, life_of}
use Rattle.cluster_laws.proofs.EraParts.Ages.{era_is, born_is, live_is, births_are_reached_law, eras_go_on_law, eras_never_fall_law}
use Rattle.cluster_laws.proofs.EraParts.Lives.{members_know_eras_law, up_nodes_live_law}
use Rattle.report_relation.specs.Completing.{OthersHaveReached, UpHaveReached}

-- a test that no number passes
none_in : (f : ℕ → Bool) (a n i : ℕ) → list_any f (count_from a n) ≡ false → i < n → f (a + i) ≡ false
unfolding count_from
none_in f a zero i e low = absurd (omega (arith, low))
none_in f a (suc n) zero e low =
    let same : a ≡ a + 0 = omega arith in subst (λ (k : ℕ). f k ≡ false) same (or_parts (f a) (list_any f (count_from (a + 1) n)) e).0
none_in f a (suc n) (suc i) e low =
    let same : (a + 1) + i ≡ a + suc i = omega arith in
    subst (λ (k : ℕ). f k ≡ false) same (none_in f (a + 1) n i (or_parts (f a) (list_any f (count_from (a + 1) n)) e).1 (omega (arith, low)))

-- a node that is live has its flag
live_low : (flags : List Bool) (m : ℕ) → slice_index_or flags m false ≡ true → m < length flags
live_low [] m is = absurd (cc)
live_low (b ∷ flags) zero is = omega arith
live_low (b ∷ flags) (suc m) is = let rest = live_low flags m is in omega (arith, rest)

marks_or : (l o k b : Bool) → l && (not o && (not k && b)) ≡ false → l ≡ true → o ≡ false → (k ≡ true) ⊎ (b ≡ false)
marks_or true false true b e on other = inl refl
marks_or true false false b e on other = inr e
marks_or true true k b e on other = absurd (cc)
marks_or false o k b e on other = absurd (cc)

-- a live node whose report isn't missing, and that doesn't own the partition, is marked or was born later
live_is_marked : (t : LockTable) (v : View) (q m : ℕ) → missing t v q ≡ false → is_live v.live m ≡ true → (m == owner_of v q) ≡ false
    → (marked t m ≡ true) ⊎ (nat_le (born_of v m) (since_of v q) ≡ false)
unfolding missing
live_is_marked t v q m e live other =
    marks_or (is_live v.live m) (m == owner_of v q) (marked t m) (nat_le (born_of v m) (since_of v q))
    (let same : 0 + m ≡ m = omega arith in
    subst (λ (k : ℕ). is_missing t v q k ≡ false) same (none_in (is_missing t v q) 0 (length v.live) m e (live_low v.live m live))) live other

pub up_have_reached_law : UpHaveReached
up_have_reached_law c n q epoch v t m s acts low has other up marks = by (nat_le epoch s.epoch) refl
  where
    member : IsMember c.config c.views m s
    member = (up_is_member_law c m s acts.cluster up).1

    era_v : era_at c q epoch ≡ since_of v q
    era_v = era_is c epoch v has.there q

    -- its life began by its epoch, or begins with the next one
    begun : life_of s ≤ s.epoch + 1
    begun = of s.view refl
      where
        of : (o : Option View) → s.view ≡ o → life_of s ≤ s.epoch + 1
        of None viewed = let life : life_of s ≡ s.epoch + 1 = ap (λ (o : Option View). life_in s o) viewed in omega (arith, life)
        of (Some u) viewed =
            let knows : KnowsEras c m s u = members_know_eras_law c m s u member viewed in
            let life : life_of s ≡ s.home.txs.born = ap (λ (o : Option View). life_in s o) viewed in
            let born : born_at c m s.epoch ≡ s.home.txs.born = knows.own.born in
            let upto : born_at c m s.epoch ≤ s.epoch = births_are_reached_law c m s.epoch acts.cluster in
            omega (arith, life, born, upto)

    earlier : s.epoch < epoch → since_of v q ≤ era_at c q s.epoch
    earlier less =
        elim (live_is_marked t v q m has.none_missing (sym (live_is c epoch v has.there m) ∙ lives.live) (number_other m (owner_of v q) (λ is. other (is ∙ sym has.owner)))) [
          | inl on ↦ marks on
          | inr later ↦
              (let born : born_of v m ≡ life_of s = sym (born_is c epoch v has.there m) ∙ lives.born in
              let past : since_of v q < born_of v m = grind (arith, nat_tests, later) in
              let below : era_at c q epoch ≤ s.epoch = omega (arith, era_v, past, born, begun) in
              let same : era_at c q s.epoch ≡ era_at c q epoch = eras_go_on_law c q epoch s.epoch acts.cluster has.made below (omega (arith, less)) in
              omega (arith, same, era_v))
        ]
      where
        lives : Lives c m (life_of s) epoch
        lives = up_nodes_live_law c m s epoch acts.cluster up (omega (arith, begun, less)) has.made

    by : (b : Bool) → nat_le epoch s.epoch ≡ b → since_of v q ≤ era_at c q s.epoch
    by true is =
        let le : epoch ≤ s.epoch = grind (arith, nat_tests, is) in
        let rises : era_at c q epoch ≤ era_at c q s.epoch = eras_never_fall_law c q epoch s.epoch acts.cluster le member.reached in
        omega (arith, rises, era_v)
    by false is = earlier (grind (arith, nat_tests, is))

pub others_have_reached_law : OthersHaveReached
others_have_reached_law c n q epoch v t m s u acts low has other up viewed marks =
    subst (λ (k : ℕ). since_of v q ≤ k) own
    (up_have_reached_law c n q epoch v t m s acts low has other up (λ on. subst (λ (k : ℕ). since_of v q ≤ k) (sym own) (marks on)))
  where
    own : era_at c q s.epoch ≡ since_of u q
    own = (members_know_eras_law c m s u (up_is_member_law c m s acts.cluster up).1 viewed).eras q
