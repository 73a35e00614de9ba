-- The places that a transaction wrote are all of pages at which its end is told.
use Rattle.std.proofs.Common.{◌≡◌, ℕ, ◌≤◌, ◌==◌, ◌&&◌, Bool, true, false, List, [], ◌∷◌, length, refl, ap, arith}
use Rattle.std.specs.List.{All, AllByRecursion}
use Rattle.std.proofs.lemmas.List.Elements.{All-nil, All-cons, All-weaker}
use Rattle.smallvec.specs.SmallVec.{SmallVec}
use Rattle.pcl_base.specs.declared.tx.TxId.{TxId}
use Rattle.node_rules.specs.Words.{pick, same_tx}
use Rattle.node_rules.specs.NodeState.{Run, Written, runs_at}
use Rattle.home_laws.proofs.Words.{self_test}
use Rattle.home.specs.Ends.{listed}
use Rattle.home.specs.Places.{rows_of, HasRun}
use Rattle.home.proofs.Removed.{IsListed}

-- an entry has runs
abbrev pub HasRuns : Written → Type 0
HasRuns w = 1 ≤ length w.runs

-- what is found of an entry's transaction and page has runs
first_runs : (t : TxId) (w : Written) (ws : List Written) → HasRuns w → same_tx w.tx t ≡ true → 1 ≤ length (runs_at (w ∷ ws) t w.page)
unfolding runs_at
first_runs t w ws some own =
    let page = self_test w.page in
    let here : (same_tx w.tx t && w.page == w.page) ≡ true = (λ i. own i && page i) in
    let found : pick (same_tx w.tx t && w.page == w.page) w.runs (runs_at ws t w.page) ≡ w.runs = ap (λ b. pick b w.runs (runs_at ws t w.page)) here in
    let count = ap length found in
    omega (arith, count, some)

more_runs : (t : TxId) (p : ℕ) (w : Written) (ws : List Written) → HasRuns w → 1 ≤ length (runs_at ws t p) → 1 ≤ length (runs_at (w ∷ ws) t p)
unfolding runs_at
more_runs t p w ws some rest = by_test (same_tx w.tx t && w.page == p)
  where
    by_test : (b : Bool) → 1 ≤ length (pick b w.runs (runs_at ws t p))
    by_test true = some
    by_test false = rest

runs_there : (t : TxId) (ws : List Written) → AllByRecursion HasRuns ws → All (λ w. same_tx w.tx t ≡ true → 1 ≤ length (runs_at ws t w.page)) ws
runs_there t [] all = All-nil (λ w. same_tx w.tx t ≡ true → 1 ≤ length (runs_at [] t w.page))
runs_there t (w ∷ ws) all =
    All-cons (λ x. same_tx x.tx t ≡ true → 1 ≤ length (runs_at (w ∷ ws) t x.page)) w ws (first_runs t w ws all.0)
    (All-weaker (λ x. same_tx x.tx t ≡ true → 1 ≤ length (runs_at ws t x.page)) (λ x. same_tx x.tx t ≡ true → 1 ≤ length (runs_at (w ∷ ws) t x.page))
    (λ x there own. more_runs t x.page w ws all.0 (there own)) ws (runs_there t ws all.1))

-- all entries of the transaction are of listed pages
pub all_listed : (t : TxId) (ps : List ℕ) (ws : List Written) → AllByRecursion HasRuns ws → ((p : ℕ) → listed ps p ≡ false → runs_at ws t p ≡ [])
    → All (IsListed (λ (w : Written). same_tx w.tx t) (λ (w : Written). w.page) ps) ws
all_listed t ps ws some outside =
    All-weaker (λ x. same_tx x.tx t ≡ true → 1 ≤ length (runs_at ws t x.page)) (IsListed (λ (w : Written). same_tx w.tx t) (λ (w : Written). w.page) ps)
    (λ x there own. by_test (listed ps x.page) (listed ps x.page) refl (outside x.page) (there own)) ws (runs_there t ws some)
  where
    by_test : {X : Type 0} {rs : List X} (b c : Bool) → b ≡ c → (b ≡ false → rs ≡ []) → 1 ≤ length rs → b ≡ true
    by_test b true is none some = is
    by_test b false is none some = let gone = ap length (none is) in absurd (omega (arith, gone, some))

-- the entries of a map, whose lists of runs aren't empty
pub rows_have : (es : List (Rattle.home.specs.declared.written.Key.Key × SmallVec Run)) → AllByRecursion HasRun es → AllByRecursion HasRuns (rows_of es)
rows_have [] all = tt
rows_have (e ∷ es) all = (all.0, rows_have es all.1)
