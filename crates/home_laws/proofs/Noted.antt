-- The places that a transaction noted as written are those of its last pages, so they go with these.
use Rattle.std.proofs.Common.{◌≡◌, ℕ, zero, suc, ◌<◌, ◌≤◌, ◌==◌, ◌&&◌, ◌||◌, not, cond, Bool, true, false, List, [], ◌∷◌, length, slice_index_or, Option, Some, None, is_some, refl, ap, sym, subst, ◌∙◌, arith}
use Rattle.std.proofs.lemmas.List.Elements.{All-head, All-tail, All-filter, filter_passes}
use Rattle.std.specs.List.{filter, fold, list_any, All}
use Rattle.pcl_base.specs.declared.tx.TxId.{TxId}
use Rattle.pcl_base.specs.declared.lock.Held.{Held}
use Rattle.node_rules.specs.Words.{pick, same_tx}
use Rattle.node_rules.specs.OpenTxs.{held_by, pending_of, waits_on}
use Rattle.node_rules.specs.NodeState.{HomeState, Written, Run, runs_at}
use Rattle.node_rules.specs.EndRule.{pages_at_end}
use Rattle.home_laws.specs.Homes.{IsHome, AreWrittenRuns, is_exclusive_lock}
use Rattle.home_laws.proofs.Words.{self_test, swap_test}
use Rattle.home_laws.proofs.Serials.{one_if}
use Rattle.home_laws.proofs.Unpins.{times}
use Rattle.home_laws.proofs.Closed.{times_at_end}
use Rattle.home_laws.proofs.Written.{times_more}

-- no place is noted of a page that isn't held exclusively
pub runs_outside : (h : HomeState) (t : TxId) (p : ℕ) → IsHome h → times p (pages_at_end h t) ≡ 0 → runs_at h.written t p ≡ []
runs_outside h t p is none = of_lock (held_by h.txs t p) (is.runs t p) (times_at_end h t p is)
  where
    shared : (o : Option Held) → is_some o ≡ false → is_exclusive_lock o ≡ false
    shared None e = refl
    shared (Some x) e = absurd (cc)

    empty : (b : Bool) (rs : List Run) → b ≡ false → AreWrittenRuns h.config.size b rs → rs ≡ []
    empty true rs e are = absurd (cc)
    empty false rs e are = are

    of_test : (b c : Bool) → 0 ≡ one_if (b || c) → b ≡ false
    of_test true c e = absurd (omega (arith, e))
    of_test false c e = refl

    of_lock : (o : Option Held) → AreWrittenRuns h.config.size (is_exclusive_lock o) (runs_at h.written t p) → times p (pages_at_end h t) ≡ one_if (is_some o || waits_on (pending_of h.txs t) p) → runs_at h.written t p ≡ []
    of_lock o are count = empty (is_exclusive_lock o) (runs_at h.written t p) (shared o (of_test (is_some o) (waits_on (pending_of h.txs t) p) (sym none ∙ count))) are

-- the same, by the test whether the page is listed
pub runs_unlisted : (h : HomeState) (t : TxId) (p : ℕ) → IsHome h → list_any (λ q. q == p) (pages_at_end h t) ≡ false → runs_at h.written t p ≡ []
runs_unlisted h t p is none = runs_outside h t p is (never (pages_at_end h t) none)
  where
    never : (ps : List ℕ) → list_any (λ q. q == p) ps ≡ false → times p ps ≡ 0
    never [] e = refl
    never (q ∷ ps) e = by_page (q == p) e (never ps)
      where
        by_page : (b : Bool) → (b || list_any (λ x. x == p) ps) ≡ false → (list_any (λ x. x == p) ps ≡ false → times p ps ≡ 0) → length (cond b (q ∷ filter (λ x. x == p) ps) (filter (λ x. x == p) ps)) ≡ 0
        by_page true f rest = absurd (cc)
        by_page false f rest = rest f

-- the entries without that of a transaction and a page
abbrev pub without_entry : TxId → ℕ → List Written → List Written
without_entry t p ws = filter (λ w. not (same_tx w.tx t && w.page == p)) ws

-- the entries without those of a transaction
abbrev pub without_tx : TxId → List Written → List Written
without_tx t ws = filter (λ w. not (same_tx w.tx t)) ws

-- an entry that is there is found, where none is empty
runs_there : (t : TxId) (p : ℕ) (ws : List Written) (k : ℕ) (d : Written) → All (λ w. 1 ≤ length w.runs) ws → k < length ws → (same_tx (slice_index_or ws k d).tx t && (slice_index_or ws k d).page == p) ≡ true → 1 ≤ length (runs_at ws t p)
unfolding runs_at
runs_there t p [] k d some within here = absurd (omega arith)
runs_there t p (w ∷ ws) zero d some within here = subst (λ b. 1 ≤ length (pick b w.runs (runs_at ws t p))) (sym here) (All-head (λ x. 1 ≤ length x.runs) w ws some)
runs_there t p (w ∷ ws) (suc k) d some within here =
    by_name (same_tx w.tx t && w.page == p) (All-head (λ x. 1 ≤ length x.runs) w ws some) (runs_there t p ws k d (All-tail (λ x. 1 ≤ length x.runs) w ws some) (omega arith) here)
  where
    by_name : (b : Bool) → 1 ≤ length w.runs → 1 ≤ length (runs_at ws t p) → 1 ≤ length (pick b w.runs (runs_at ws t p))
    by_name true first rest = first
    by_name false first rest = rest

-- each entry of the transaction is of one of the pages at its end
pub entries_listed : (h : HomeState) (t : TxId) → IsHome h → All (λ w. 1 ≤ length w.runs) h.written → All (λ w. same_tx w.tx t ≡ true → 1 ≤ times w.page (pages_at_end h t)) h.written
entries_listed h t is some k d within same =
    let p : ℕ = (slice_index_or h.written k d).page in
    let here : (same_tx (slice_index_or h.written k d).tx t && p == p) ≡ true = (λ i. same i && self_test p i) in
    listed (times p (pages_at_end h t)) refl (runs_there t p h.written k d some within here)
  where
    listed : (n : ℕ) → times (slice_index_or h.written k d).page (pages_at_end h t) ≡ n → 1 ≤ length (runs_at h.written t (slice_index_or h.written k d).page) → 1 ≤ times (slice_index_or h.written k d).page (pages_at_end h t)
    listed zero e found =
        let none = ap length (runs_outside h t (slice_index_or h.written k d).page is e) in absurd (omega (arith, none, found))
    listed (suc n) e found = omega (arith, e)

-- entries that leave in two steps
gone_twice : (t : TxId) (p : ℕ) (ws : List Written) → without_tx t (without_entry t p ws) ≡ without_tx t ws
gone_twice t p [] = refl
gone_twice t p (w ∷ ws) = by_name (same_tx w.tx t) refl (w.page == p) refl (gone_twice t p ws)
  where
    by_name : (b : Bool) → same_tx w.tx t ≡ b → (c : Bool) → (w.page == p) ≡ c → without_tx t (without_entry t p ws) ≡ without_tx t ws
        → without_tx t (cond (not (same_tx w.tx t && w.page == p)) (w ∷ without_entry t p ws) (without_entry t p ws)) ≡ cond (not (same_tx w.tx t)) (w ∷ without_tx t ws) (without_tx t ws)
    by_name true e true f rest =
        ap (λ d. without_tx t (cond (not d) (w ∷ without_entry t p ws) (without_entry t p ws))) (λ i. e i && f i) ∙ rest ∙ sym (ap (λ d. cond (not d) (w ∷ without_tx t ws) (without_tx t ws)) e)
    by_name true e false f rest =
        ap (λ d. without_tx t (cond (not d) (w ∷ without_entry t p ws) (without_entry t p ws))) (λ i. e i && f i)
        ∙ ap (λ d. cond (not d) (w ∷ without_tx t (without_entry t p ws)) (without_tx t (without_entry t p ws))) e ∙ rest ∙ sym (ap (λ d. cond (not d) (w ∷ without_tx t ws) (without_tx t ws)) e)
    by_name false e c f rest =
        ap (λ d. without_tx t (cond (not (d && w.page == p)) (w ∷ without_entry t p ws) (without_entry t p ws))) e
        ∙ ap (λ d. cond (not d) (w ∷ without_tx t (without_entry t p ws)) (without_tx t (without_entry t p ws))) e
        ∙ ap (λ l. w ∷ l) rest ∙ sym (ap (λ d. cond (not d) (w ∷ without_tx t ws) (without_tx t ws)) e)

none_gone : (t : TxId) (ws : List Written) → All (λ w. same_tx w.tx t ≡ true → 1 ≤ 0) ws → ws ≡ without_tx t ws
none_gone t [] none = refl
none_gone t (w ∷ ws) none = by_name (same_tx w.tx t) refl (All-head (λ x. same_tx x.tx t ≡ true → 1 ≤ 0) w ws none) (none_gone t ws (All-tail (λ x. same_tx x.tx t ≡ true → 1 ≤ 0) w ws none))
  where
    by_name : (b : Bool) → same_tx w.tx t ≡ b → (same_tx w.tx t ≡ true → 1 ≤ 0) → ws ≡ without_tx t ws → w ∷ ws ≡ cond (not (same_tx w.tx t)) (w ∷ without_tx t ws) (without_tx t ws)
    by_name true e f rest = let bad = f e in absurd (omega (arith, bad))
    by_name false e f rest = ap (λ l. w ∷ l) rest ∙ sym (ap (λ d. cond (not d) (w ∷ without_tx t ws) (without_tx t ws)) e)

-- where each entry of the transaction is of one of the pages, all leave with these
pub entries_removed : (t : TxId) (ps : List ℕ) (ws : List Written) → All (λ w. same_tx w.tx t ≡ true → 1 ≤ times w.page ps) ws → fold (λ vs p. without_entry t p vs) ws ps ≡ without_tx t ws
entries_removed t [] ws listed = none_gone t ws listed
entries_removed t (p ∷ ps) ws listed = entries_removed t ps (without_entry t p ws) still ∙ gone_twice t p ws
  where
    later : (w : Written) → (same_tx w.tx t ≡ true → 1 ≤ times w.page (p ∷ ps)) → not (same_tx w.tx t && w.page == p) ≡ true → same_tx w.tx t ≡ true → 1 ≤ times w.page ps
    later w before passes same = by_page (w.page == p) refl
      where
        by_page : (b : Bool) → (w.page == p) ≡ b → 1 ≤ times w.page ps
        by_page true e = let bad : not true ≡ true = ap not (sym (λ i. same i && e i)) ∙ passes in absurd (cc)
        by_page false e =
            let count = times_more p w.page ps in
            let zero : one_if (p == w.page) ≡ 0 = ap one_if (swap_test p w.page ∙ e) in
            omega (arith, before same, count, zero)

    still : All (λ w. same_tx w.tx t ≡ true → 1 ≤ times w.page ps) (without_entry t p ws)
    still k d within =
        later (slice_index_or (without_entry t p ws) k d)
        (All-filter (λ w. not (same_tx w.tx t && w.page == p)) (λ w. same_tx w.tx t ≡ true → 1 ≤ times w.page (p ∷ ps)) ws listed k d within)
        (filter_passes (λ w. not (same_tx w.tx t && w.page == p)) ws k d within)

-- at an end
pub written_removed : (h : HomeState) (t : TxId) → IsHome h → All (λ w. 1 ≤ length w.runs) h.written → fold (λ vs p. without_entry t p vs) h.written (pages_at_end h t) ≡ without_tx t h.written
written_removed h t is some = entries_removed t (pages_at_end h t) h.written (entries_listed h t is some)
