-- Whose report a table without a missing one has.
use Rattle.std.proofs.Common.{◌≡◌, ◌⊎◌, inl, inr, refl, subst, ℕ, zero, suc, ◌+◌, ◌<◌, ◌≤◌, ◌==◌, ◌&&◌, ◌||◌, not, nat_le, nat_lt, Bool, true, false, List, [], ◌∷◌, length, slice_index_or, Some, arith}
use Rattle.std.specs.List.{list_any}
use Rattle.std.proofs.lemmas.Bool.Decides.{nat_tests}
use Rattle.pcl_base.specs.declared.lock.Verdict.TheVariants as verdict
use Rattle.pcl_base.specs.declared.tx.TxId.{TxId}
use Rattle.run_rules.specs.Views.{View, born_of, count_from, is_live, owner_of, since_of}
use Rattle.node_rules.specs.Judging.{is_past, judge}
use Rattle.node_rules.specs.LockTable.{LockTable, marked}
use Rattle.node_rules.specs.NodeState.{NodeState, number_of}
use Rattle.node_rules.specs.Reports.{is_missing, missing}
use Rattle.node_rules.specs.Words.{pick}
use Rattle.page_laws.proofs.EntryParts.Words.{number_other, or_parts}
use Rattle.cluster_laws.specs.Era.Counts.{counts_at, is_dropped}
use Rattle.related_runs.specs.Parties.{IsLiving}
use Rattle.report_relation.specs.Bury.Past.{past_in}
use Rattle.report_relation.proofs.BuryParts.Living.{past_of}

-- a test that no number passes
none_in : (f : ℕ → Bool) (a n i : ℕ) → list_any f (count_from a n) ≡ false → i < n → f (a + i) ≡ false
unfolding count_from
none_in f a zero i e low = absurd (omega (arith, low))
none_in f a (suc n) zero e low =
    let same : a ≡ a + 0 = omega arith in subst (λ (k : ℕ). f k ≡ false) same (or_parts (f a) (list_any f (count_from (a + 1) n)) e).0
none_in f a (suc n) (suc i) e low =
    let same : (a + 1) + i ≡ a + suc i = omega arith in
    subst (λ (k : ℕ). f k ≡ false) same (none_in f (a + 1) n i (or_parts (f a) (list_any f (count_from (a + 1) n)) e).1 (omega (arith, low)))

-- a node that is live has its flag
live_low : (flags : List Bool) (m : ℕ) → slice_index_or flags m false ≡ true → m < length flags
live_low [] m is = absurd (cc)
live_low (b ∷ flags) zero is = omega arith
live_low (b ∷ flags) (suc m) is = let rest = live_low flags m is in omega (arith, rest)

never_missing : (l o k b : Bool) → l && (not o && (not k && b)) ≡ false → l ≡ true → o ≡ false → k ≡ false → b ≡ false
never_missing true false false b e on other off = e
never_missing true false true b e on other off = absurd (cc)
never_missing true true k b e on other off = absurd (cc)
never_missing false o k b e on other off = absurd (cc)

-- a live node, not the owner, that isn't marked, was born after the era
pub unmarked_is_new : (t : LockTable) (v : View) (q m : ℕ) → missing t v q ≡ false → is_live v.live m ≡ true → (m ≡ owner_of v q → ⊥) → marked t m ≡ false → since_of v q < born_of v m
unfolding missing
unmarked_is_new t v q m e live other off =
    let same : 0 + m ≡ m = omega arith in
    let none : is_missing t v q m ≡ false = subst (λ (k : ℕ). is_missing t v q k ≡ false) same (none_in (is_missing t v q) 0 (length v.live) m e (live_low v.live m live)) in
    let test : nat_le (born_of v m) (since_of v q) ≡ false =
    never_missing (is_live v.live m) (m == owner_of v q) (marked t m) (nat_le (born_of v m) (since_of v q)) none live (number_other m (owner_of v q) other) off in
    grind (arith, nat_tests, test)

-- so who is of such a node, and was born before the era, is past
pub unmarked_is_past : (t : LockTable) (v : View) (q : ℕ) (u : TxId) → missing t v q ≡ false → (u.node ≡ owner_of v q → ⊥) → marked t u.node ≡ false → u.born < since_of v q → since_of v q ≤ v.epoch → past_in v u ≡ true
unmarked_is_past t v q u e other off born upto = past_of v u (omega (arith, born, upto)) never
  where
    never : IsLiving v u → ⊥
    never lives =
        let new = unmarked_is_new t v q u.node e lives.live other off in
        let same = lives.born in
        omega (arith, new, same, born)

-- what counts at a view is held, or isn't of an earlier era than the view's
held_or_past : (x y : Bool) → not (is_dropped (pick x verdict.Held (pick y verdict.Dropped verdict.Taken))) ≡ true → (x ≡ true) ⊎ (y ≡ false)
held_or_past true y e = inl refl
held_or_past false true e = absurd (cc)
held_or_past false false e = inr refl

last_part : (l b c d : Bool) → (not l || (b || (c || d))) ≡ false → d ≡ false
last_part true false false d e = e
last_part true false true d e = absurd (cc)
last_part true true c d e = absurd (cc)
last_part false b c d e = absurd (cc)

pub counted_era : (s : NodeState) (v : View) (from q epoch : ℕ) → counts_at s (Some v) from q epoch ≡ true → (v.epoch < epoch) ⊎ (since_of v q ≤ epoch)
unfolding judge
counted_era s v from q epoch counts =
    elim (held_or_past (nat_lt v.epoch epoch) (is_past v (number_of s) from epoch q) counts) [
      | inl held ↦ inl (grind (arith, nat_tests, held))
      | inr fine ↦
          (let test = last_part (is_live v.live from) (nat_lt epoch (born_of v from)) (nat_lt epoch (born_of v (number_of s))) (nat_lt epoch (since_of v q)) fine in
          inr (grind (arith, nat_tests, test)))
    ]
