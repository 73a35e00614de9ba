-- The written places of a page: runs with a further one, and the runs of one page among others.
use Rattle.std.proofs.Common.{◌≡◌, ℕ, ◌+◌, ◌<◌, ◌≤◌, ◌==◌, nat_lt, min, max, Bool, true, false, List, [], ◌∷◌, refl, ap, sym, subst, ◌∙◌, arith}
use Rattle.std.proofs.lemmas.Bool.Decides.{nat_tests}
use Rattle.pcl_base.specs.declared.tx.TxId.{TxId}
use Rattle.node_rules.specs.Words.{pick, same_tx}
use Rattle.node_rules.specs.NodeState.{Run, Written, cover, runs_at, put_runs}
use Rattle.home_laws.specs.Homes.{AreRuns, AreWrittenRuns}
use Rattle.home_laws.proofs.Tests.{and_left, and_right, number_equal, tx_equal}
use Rattle.home_laws.proofs.PrivateLooks.{same_place, place_same}

lower : (size low less : ℕ) (rs : List Run) → less ≤ low → AreRuns size low rs → AreRuns size less rs
lower size low less [] le runs = tt
lower size low less (r ∷ rs) le runs = let from = runs.0 in (omega (arith, from, le), runs.1, runs.2, runs.3)

-- one more step of it
covered : (size low : ℕ) (r : Run) (rs : List Run) (from to : ℕ) → AreRuns size low (r ∷ rs) → low ≤ from → from < to → to ≤ size
    → (r.to + 1 ≤ from → from < to → to ≤ size → AreRuns size (r.to + 1) (cover rs from to))
    → (AreRuns size low rs → low ≤ min r.from from → min r.from from < max r.to to → max r.to to ≤ size → AreRuns size low (cover rs (min r.from from) (max r.to to)))
    → AreRuns size low (pick (nat_lt r.to from) (r ∷ cover rs from to) (pick (nat_lt to r.from) (record { from = from; to = to } ∷ r ∷ rs) (cover rs (min r.from from) (max r.to to))))
covered size low r rs from to runs le some within later joined = by (nat_lt r.to from) (nat_lt to r.from) refl refl
  where
    rest : AreRuns size low rs
    rest = let a = runs.0 in let b = runs.1 in lower size (r.to + 1) low rs (omega (arith, a, b)) runs.3

    lowest : low ≤ min r.from from
    lowest = let a = runs.0 in grind (arith, nat_tests)

    longer : min r.from from < max r.to to
    longer = grind (arith, nat_tests)

    highest : max r.to to ≤ size
    highest = let a = runs.2 in grind (arith, nat_tests)

    by : (b d : Bool) → nat_lt r.to from ≡ b → nat_lt to r.from ≡ d
        → AreRuns size low (pick b (r ∷ cover rs from to) (pick d (record { from = from; to = to } ∷ r ∷ rs) (cover rs (min r.from from) (max r.to to))))
    by true d e g = (runs.0, runs.1, runs.2, later (grind (arith, nat_tests)) some within)
    by false true e g = (le, some, within, ((let less : to + 1 ≤ r.from = grind (arith, nat_tests) in less), runs.1, runs.2, runs.3))
    by false false e g = joined rest lowest longer highest

-- runs with a further one are runs
pub cover_runs : (size low : ℕ) (rs : List Run) (from to : ℕ) → AreRuns size low rs → low ≤ from → from < to → to ≤ size → AreRuns size low (cover rs from to)
unfolding cover
cover_runs size low [] from to runs le some within = (le, some, within, tt)
cover_runs size low (r ∷ rs) from to runs le some within =
    covered size low r rs from to runs le some within (cover_runs size (r.to + 1) rs from to runs.3) (cover_runs size low rs (min r.from from) (max r.to to))

-- and there are some
pub cover_written : (size : ℕ) (rs : List Run) (from to : ℕ) → AreRuns size 0 (cover rs from to) → AreWrittenRuns size true (cover rs from to)
unfolding cover
cover_written size [] from to runs = runs
cover_written size (r ∷ rs) from to runs = by (nat_lt r.to from) (nat_lt to r.from) (cover_written size rs (min r.from from) (max r.to to)) runs
  where
    by : (b d : Bool) → (AreRuns size 0 (cover rs (min r.from from) (max r.to to)) → AreWrittenRuns size true (cover rs (min r.from from) (max r.to to)))
        → AreRuns size 0 (pick b (r ∷ cover rs from to) (pick d (record { from = from; to = to } ∷ r ∷ rs) (cover rs (min r.from from) (max r.to to))))
        → AreWrittenRuns size true (pick b (r ∷ cover rs from to) (pick d (record { from = from; to = to } ∷ r ∷ rs) (cover rs (min r.from from) (max r.to to))))
    by true d ih h = h
    by false true ih h = h
    by false false ih h = ih h

pub written_runs : (size : ℕ) (b : Bool) (rs : List Run) → AreWrittenRuns size b rs → AreRuns size 0 rs
written_runs size true [] runs = tt
written_runs size true (r ∷ rs) runs = runs
written_runs size false rs runs = subst (AreRuns size 0) (sym runs) tt

-- the runs of a page, put in
pub put_here : (ws : List Written) (t : TxId) (p : ℕ) (rs : List Run) → runs_at (put_runs ws t p rs) t p ≡ rs
unfolding runs_at put_runs
put_here [] t p rs = ap (λ c. pick c rs []) (place_same t p)
put_here (w ∷ ws) t p rs = by (same_place w.tx w.page t p) refl (put_here ws t p rs)
  where
    by : (b : Bool) → same_place w.tx w.page t p ≡ b → runs_at (put_runs ws t p rs) t p ≡ rs → runs_at (pick b (record { tx = t; page = p; runs = rs } ∷ ws) (w ∷ put_runs ws t p rs)) t p ≡ rs
    by true e ih = ap (λ c. pick c rs (runs_at ws t p)) (place_same t p)
    by false e ih = ap (λ c. pick c w.runs (runs_at (put_runs ws t p rs) t p)) e ∙ ih

pub put_there : (ws : List Written) (t u : TxId) (p q : ℕ) (rs : List Run) → same_place u q t p ≡ false → runs_at (put_runs ws t p rs) u q ≡ runs_at ws u q
unfolding runs_at put_runs
put_there [] t u p q rs other = ap (λ c. pick c rs []) (turned t u p q other)
  where
    turned : (t u : TxId) (p q : ℕ) → same_place u q t p ≡ false → same_place t p u q ≡ false
    turned t u p q e = grind (arith, nat_tests)
put_there (w ∷ ws) t u p q rs other = by (same_place w.tx w.page t p) refl (put_there ws t u p q rs other)
  where
    turned : same_place t p u q ≡ false
    turned = grind (arith, nat_tests)

    by : (b : Bool) → same_place w.tx w.page t p ≡ b → runs_at (put_runs ws t p rs) u q ≡ runs_at ws u q
        → runs_at (pick b (record { tx = t; page = p; runs = rs } ∷ ws) (w ∷ put_runs ws t p rs)) u q ≡ pick (same_place w.tx w.page u q) w.runs (runs_at ws u q)
    by true e ih =
        let a = tx_equal w.tx t (and_left (same_tx w.tx t) (w.page == p) e) in
        let b = number_equal w.page p (and_right (same_tx w.tx t) (w.page == p) e) in
        let no : same_place w.tx w.page u q ≡ false = ap (λ v. same_place v w.page u q) a ∙ ap (λ n. same_place t n u q) b ∙ turned in
        ap (λ c. pick c rs (runs_at ws u q)) turned ∙ ap (λ c. pick c w.runs (runs_at ws u q)) (sym no)
    by false e ih = ap (λ o. pick (same_place w.tx w.page u q) w.runs o) ih
