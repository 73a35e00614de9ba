-- Transactions of lives in a view, and those that are past in it.
use Rattle.std.proofs.Common.{◌≡◌, refl, ap, sym, subst, ◌∙◌, ℕ, ◌≤◌, ◌==◌, ◌&&◌, ◌||◌, not, nat_le, nat_lt, Bool, true, false, Some, arith}
use Rattle.std.proofs.lemmas.Bool.Decides.{nat_tests}
use Rattle.pcl_base.specs.declared.lock.Verdict.TheVariants as verdict
use Rattle.pcl_base.specs.declared.tx.TxId.{TxId}
use Rattle.run_rules.specs.Views.{View, born_of, is_live, owner_of, since_of}
use Rattle.node_rules.specs.Judging.{is_past, judge}
use Rattle.node_rules.specs.NodeState.{NodeState, number_of}
use Rattle.node_rules.specs.Words.{pick}
use Rattle.cluster_rules.specs.Clusters.{Cluster, last_view, view_of_epoch}
use Rattle.cluster_laws.specs.Sound.{IsCluster}
use Rattle.cluster_laws.specs.Era.Counts.{counts_at, is_dropped}
use Rattle.cluster_laws.specs.Era.EraLaws.{Lives}
use Rattle.cluster_laws.specs.Era.Eras.{born_at, era_at}
use Rattle.cluster_laws.proofs.EraParts.Ages.{born_is, era_is, eras_have_one_owner_law, eras_never_fall_law, live_is, owner_is}
use Rattle.cluster_laws.proofs.EraParts.Lives.{lives_go_on_law}
use Rattle.related_runs.specs.Parties.{IsLiving}
use Rattle.report_relation.specs.Bury.Past.{is_living, past_in}

pub both_parts : (x y : Bool) → (x && y) ≡ true → (x ≡ true) × (y ≡ true)
both_parts true y e = (refl, e)
both_parts false y e = absurd (cc)

pub either_false : (x y : Bool) → (x ≡ true → y ≡ false) → (x && y) ≡ false
either_false true y e = e refl
either_false false y e = refl

-- who is past was born by then, and isn't living
pub past_early : (v : View) (t : TxId) → past_in v t ≡ true → t.born ≤ v.epoch
past_early v t is = let test = (both_parts (nat_le t.born v.epoch) (not (is_living v t)) is).0 in grind (arith, nat_tests, test)

pub living_test : (v : View) (t : TxId) → IsLiving v t → is_living v t ≡ true
living_test v t lives =
    let same : (t.born == born_of v t.node) ≡ true = born_test t.born (born_of v t.node) lives.born in
    (λ i. lives.live i && same i)
  where
    born_test : (x y : ℕ) → x ≡ y → (x == y) ≡ true
    born_test x y e = grind (arith, nat_tests, e)

pub past_unless : (v : View) (t : TxId) → (t.born ≤ v.epoch → IsLiving v t) → past_in v t ≡ false
past_unless v t lives =
    either_false (nat_le t.born v.epoch) (not (is_living v t))
    (λ test. let early : t.born ≤ v.epoch = grind (arith, nat_tests, test) in ap not (living_test v t (lives early)))

pub living_not_past : (v : View) (t : TxId) → IsLiving v t → past_in v t ≡ true → ⊥
living_not_past v t lives is = let none : past_in v t ≡ false = past_unless v t (λ early. lives) in absurd (cc)

-- who isn't living is past, where it was born by then
pub past_of : (v : View) (t : TxId) → t.born ≤ v.epoch → (IsLiving v t → ⊥) → past_in v t ≡ true
past_of v t early never = by (is_live v.live t.node) (t.born == born_of v t.node) refl refl
  where
    low : nat_le t.born v.epoch ≡ true
    low = grind (arith, nat_tests, early)

    by : (l b : Bool) → is_live v.live t.node ≡ l → (t.born == born_of v t.node) ≡ b → past_in v t ≡ true
    by true true live born =
        let same : t.born ≡ born_of v t.node = grind (arith, nat_tests, born) in
        absurd (never (record { live = live; born = same }))
    by true false live born = (λ i. low i && not (live i && born i))
    by false b live born = (λ i. low i && not (live i && born i))

-- what counts at a view and isn't held is of the sender's life there
not_dropped : (x y : Bool) → x ≡ false → not (is_dropped (pick x verdict.Held (pick y verdict.Dropped verdict.Taken))) ≡ true → y ≡ false
not_dropped true y e counts = absurd (cc)
not_dropped false true e counts = absurd (cc)
not_dropped false false e counts = refl

not_past : (l b c d : Bool) → (not l || (b || (c || d))) ≡ false → (l ≡ true) × (b ≡ false)
not_past true true c d e = absurd (cc)
not_past true false c d e = (refl, refl)
not_past false b c d e = absurd (cc)

pub counted_alive : (s : NodeState) (v : View) (from q epoch : ℕ) → epoch ≤ v.epoch → counts_at s (Some v) from q epoch ≡ true → (is_live v.live from ≡ true) × (born_of v from ≤ epoch)
unfolding judge
counted_alive s v from q epoch early counts =
    let now : nat_lt v.epoch epoch ≡ false = grind (arith, nat_tests, early) in
    let parts = not_past (is_live v.live from) (nat_lt epoch (born_of v from)) (nat_lt epoch (born_of v (number_of s))) (nat_lt epoch (since_of v q))
    (not_dropped (nat_lt v.epoch epoch) (is_past v (number_of s) from epoch q) now counts) in
    let test = parts.1 in
    (parts.0, grind (arith, nat_tests, test))

module _ (c : Cluster) (cluster : IsCluster c) (v : View) (there : view_of_epoch c.views v.epoch ≡ Some v) where
  -- who lives in a view of that epoch lives in it
  pub lives_in : (m b : ℕ) → Lives c m b v.epoch → (is_live v.live m ≡ true) × (born_of v m ≡ b)
  lives_in m b lives = (sym (live_is c v.epoch v there m) ∙ lives.live, sym (born_is c v.epoch v there m) ∙ lives.born)

  -- who is of a life in a later view, and was born by then
  pub later_living : (epoch : ℕ) (u : View) (t : TxId) → view_of_epoch c.views epoch ≡ Some u → v.epoch ≤ epoch → IsLiving u t → t.born ≤ v.epoch → IsLiving v t
  later_living epoch u t at later lives early =
      let born : born_at c t.node epoch ≡ t.born = born_is c epoch u at t.node ∙ sym lives.born in
      let on = lives_in t.node (born_at c t.node epoch)
      (lives_go_on_law c t.node epoch v.epoch cluster (live_is c epoch u at t.node ∙ lives.live) (subst (λ (k : ℕ). k ≤ v.epoch) (sym born) early) later) in
      record { live = on.0; born = sym (on.1 ∙ born) }

  -- who is of a life in an earlier view in which what its node sent counts still
  pub earlier_living : (epoch : ℕ) (u : View) (t : TxId) → view_of_epoch c.views epoch ≡ Some u → epoch ≤ v.epoch → IsLiving u t → is_live v.live t.node ≡ true → born_of v t.node ≤ epoch → IsLiving v t
  earlier_living epoch u t at early lives live born =
      let on = lives_go_on_law c t.node v.epoch epoch cluster (live_is c v.epoch v there t.node ∙ live) (subst (λ (k : ℕ). k ≤ epoch) (sym (born_is c v.epoch v there t.node)) born) early in
      let then : born_of u t.node ≡ born_of v t.node = sym (born_is c epoch u at t.node) ∙ (on.born ∙ born_is c v.epoch v there t.node) in
      record { live = live; born = lives.born ∙ then }

  -- an earlier view in which a partition has no earlier era has its owner
  pub owner_then : (q epoch low : ℕ) (u : View) → view_of_epoch c.views epoch ≡ Some u → v.epoch ≤ (last_view c).epoch → epoch ≤ v.epoch → since_of v q ≤ low → low ≤ era_at c q epoch
      → (low ≤ since_of v q) × (owner_of u q ≡ owner_of v q)
  owner_then q epoch low u at made early upto from =
      let rises = eras_never_fall_law c q epoch v.epoch cluster early made in
      let own = era_is c v.epoch v there q in
      let same : era_at c q epoch ≡ era_at c q v.epoch = omega (arith, rises, own, upto, from) in
      (omega (arith, rises, own, upto, from), sym (owner_is c epoch u at q) ∙ (eras_have_one_owner_law c q epoch v.epoch cluster same ∙ owner_is c v.epoch v there q))
