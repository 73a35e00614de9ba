-- The written places as a list, and as the entries of a map.
use Rattle.std.proofs.Common.{◌≡◌, ℕ, ◌≤◌, ◌==◌, ◌&&◌, nat_lt, min, max, not, cond, Bool, true, false, List, [], ◌∷◌, ◌++◌, length, filter, Option, Some, None, refl, ap, sym, subst, ◌∙◌, arith}
use Rattle.std.proofs.lemmas.Bool.Decides.{nat_tests}
use Rattle.std.specs.List.{AllByRecursion}
use Rattle.std.specs.Prelude.{Result, Ok, Err, OnOk, OnErr}
use Rattle.std.specs.Map.{lookup, set_value, remove_entry}
use Rattle.smallvec.specs.SmallVec.{SmallVec}
use Rattle.pcl_base.specs.declared.tx.TxId.{TxId}
use Rattle.node_rules.specs.Words.{pick, same_tx}
use Rattle.node_rules.specs.NodeState.{Run, Written, cover, runs_at, put_runs}
use Rattle.home_laws.proofs.Words.{and_true, equal, same_equal}
use Rattle.home.specs.declared.written.Key.{Key}
use Rattle.home.specs.Places.{key_of, tx_of, same_key, row_of, rows_of, HasRun}

-- the entries of the map
abbrev pub Entries : Type 0
Entries = List (Key × SmallVec Run)

-- a key is found exactly where its transaction and page are
key_equal : (k l : Key) → same_key k l ≡ true → (same_tx (tx_of l) (tx_of k) && l.page == k.page) ≡ true
key_equal k l e =
    let a : k.node ≡ l.node = grind (arith, nat_tests) in
    let b : k.born ≡ l.born = grind (arith, nat_tests) in
    let c : k.serial ≡ l.serial = grind (arith, nat_tests) in
    let d : k.page ≡ l.page = grind (arith, nat_tests) in
    grind (arith, nat_tests)

key_self : (k : Key) → same_key k k ≡ true
key_self k = grind (arith, nat_tests)

row_equal : (t : TxId) (p : ℕ) (l : Key) → (same_tx (tx_of l) t && l.page == p) ≡ true → key_of t p ≡ l
row_equal t p l e =
    let both = and_true (same_tx (tx_of l) t) (l.page == p) e in
    let tx : tx_of l ≡ t = same_equal (tx_of l) t both.0 in
    let page : l.page ≡ p = equal l.page p both.1 in
    sym (λ i. record { node = (tx i).node; born = (tx i).born; serial = (tx i).serial; page = page i })

pub found_as : (t : TxId) (p : ℕ) (l : Key) → same_key (key_of t p) l ≡ (same_tx (tx_of l) t && l.page == p)
found_as t p l = by_case (same_key (key_of t p) l) (same_tx (tx_of l) t && l.page == p) (key_equal (key_of t p) l) back
  where
    back : (same_tx (tx_of l) t && l.page == p) ≡ true → same_key (key_of t p) l ≡ true
    back e = subst (λ k. same_key (key_of t p) k ≡ true) (row_equal t p l e) (key_self (key_of t p))

    by_case : (b c : Bool) → (b ≡ true → c ≡ true) → (c ≡ true → b ≡ true) → b ≡ c
    by_case true c f g = sym (f refl)
    by_case false true f g = g refl
    by_case false false f g = refl

-- the runs of a value that may be missing
abbrev pub runs_or : Option (SmallVec Run) → List Run
runs_or None = []
runs_or (Some v) = v.items

pub runs_found : (t : TxId) (p : ℕ) (es : Entries) → runs_at (rows_of es) t p ≡ runs_or (lookup (same_key (key_of t p)) es)
unfolding runs_at
runs_found t p [] = refl
runs_found t p (e ∷ es) = rw (← found_as t p e.0) (by_case (same_key (key_of t p) e.0) (runs_found t p es))
  where
    by_case : (b : Bool) → runs_at (rows_of es) t p ≡ runs_or (lookup (same_key (key_of t p)) es) → pick b e.1.items (runs_at (rows_of es) t p) ≡ runs_or (cond b (Some e.1) (lookup (same_key (key_of t p)) es))
    by_case true ih = refl
    by_case false ih = ih

-- other runs of a page that is listed
pub put_set : (t : TxId) (p : ℕ) (v w : SmallVec Run) (es : Entries) → lookup (same_key (key_of t p)) es ≡ Some v
    → rows_of (set_value (same_key (key_of t p)) es w) ≡ put_runs (rows_of es) t p w.items
unfolding put_runs
put_set t p v w [] there = absurd (cc)
put_set t p v w (e ∷ es) there = rw (← found_as t p e.0) (by_case (same_key (key_of t p) e.0) refl (λ f. put_set t p v w es f) there)
  where
    by_case : (b : Bool) → same_key (key_of t p) e.0 ≡ b → (lookup (same_key (key_of t p)) es ≡ Some v → rows_of (set_value (same_key (key_of t p)) es w) ≡ put_runs (rows_of es) t p w.items)
        → cond b (Some e.1) (lookup (same_key (key_of t p)) es) ≡ Some v
        → rows_of (cond b ((e.0, w) ∷ es) (e ∷ set_value (same_key (key_of t p)) es w)) ≡ pick b (record { tx = t; page = p; runs = w.items } ∷ rows_of es) (row_of e ∷ put_runs (rows_of es) t p w.items)
    by_case true q ih f =
        let k : key_of t p ≡ e.0 = row_equal t p e.0 (sym (found_as t p e.0) ∙ q) in
        ap (λ l. record { tx = tx_of l; page = l.page; runs = w.items } ∷ rows_of es) (sym k)
    by_case false q ih f = ap (λ rest. row_of e ∷ rest) (ih f)

-- the runs of a page that isn't listed
pub put_new : (t : TxId) (p : ℕ) (w : SmallVec Run) (es : Entries) → lookup (same_key (key_of t p)) es ≡ None
    → rows_of (es ++ (key_of t p, w) ∷ []) ≡ put_runs (rows_of es) t p w.items
unfolding put_runs
put_new t p w [] none = refl
put_new t p w (e ∷ es) none = rw (← found_as t p e.0) (by_case (same_key (key_of t p) e.0) (λ f. put_new t p w es f) none)
  where
    by_case : (b : Bool) → (lookup (same_key (key_of t p)) es ≡ None → rows_of (es ++ (key_of t p, w) ∷ []) ≡ put_runs (rows_of es) t p w.items)
        → cond b (Some e.1) (lookup (same_key (key_of t p)) es) ≡ None
        → row_of e ∷ rows_of (es ++ (key_of t p, w) ∷ []) ≡ pick b (record { tx = t; page = p; runs = w.items } ∷ rows_of es) (row_of e ∷ put_runs (rows_of es) t p w.items)
    by_case true ih f = absurd (cc)
    by_case false ih f = ap (λ rest. row_of e ∷ rest) (ih f)

-- the rows of other pages
abbrev pub is_other : TxId → ℕ → Written → Bool
is_other t p w = not (same_tx w.tx t && w.page == p)

-- nothing is taken out where the page isn't listed
pub none_out : (t : TxId) (p : ℕ) (es : Entries) → lookup (same_key (key_of t p)) es ≡ None → filter (is_other t p) (rows_of es) ≡ rows_of es
none_out t p [] none = refl
none_out t p (e ∷ es) none = rw (← found_as t p e.0) (by_case (same_key (key_of t p) e.0) (λ f. none_out t p es f) none)
  where
    by_case : (b : Bool) → (lookup (same_key (key_of t p)) es ≡ None → filter (is_other t p) (rows_of es) ≡ rows_of es)
        → cond b (Some e.1) (lookup (same_key (key_of t p)) es) ≡ None
        → cond (not b) (row_of e ∷ filter (is_other t p) (rows_of es)) (filter (is_other t p) (rows_of es)) ≡ row_of e ∷ rows_of es
    by_case true ih f = absurd (cc)
    by_case false ih f = ap (λ rest. row_of e ∷ rest) (ih f)

-- a page is taken out, which isn't listed afterwards
pub taken_out : (t : TxId) (p : ℕ) (es : Entries) → lookup (same_key (key_of t p)) (remove_entry (same_key (key_of t p)) es) ≡ None
    → rows_of (remove_entry (same_key (key_of t p)) es) ≡ filter (is_other t p) (rows_of es)
taken_out t p [] none = refl
taken_out t p (e ∷ es) none = rw (← found_as t p e.0) (by_case (same_key (key_of t p) e.0) refl (λ f. taken_out t p es f) none)
  where
    by_case : (b : Bool) → same_key (key_of t p) e.0 ≡ b
        → (lookup (same_key (key_of t p)) (remove_entry (same_key (key_of t p)) es) ≡ None → rows_of (remove_entry (same_key (key_of t p)) es) ≡ filter (is_other t p) (rows_of es))
        → lookup (same_key (key_of t p)) (cond b es (e ∷ remove_entry (same_key (key_of t p)) es)) ≡ None
        → rows_of (cond b es (e ∷ remove_entry (same_key (key_of t p)) es)) ≡ cond (not b) (row_of e ∷ filter (is_other t p) (rows_of es)) (filter (is_other t p) (rows_of es))
    by_case true q ih f = sym (none_out t p es f)
    by_case false q ih f = ap (λ rest. row_of e ∷ rest) (ih (rw q at f))

-- each listed page has a run
pub run_there : (k : Key) (v : SmallVec Run) (es : Entries) → AllByRecursion HasRun es → lookup (same_key k) es ≡ Some v → 1 ≤ length v.items
run_there k v [] all there = absurd (cc)
run_there k v (e ∷ es) all there = by_case (same_key k e.0) (λ f. run_there k v es all.1 f) there
  where
    by_case : (b : Bool) → (lookup (same_key k) es ≡ Some v → 1 ≤ length v.items) → cond b (Some e.1) (lookup (same_key k) es) ≡ Some v → 1 ≤ length v.items
    by_case true ih f = let q : e.1 ≡ v = cc in subst (λ w. 1 ≤ length w.items) q all.0
    by_case false ih f = ih f

pub runs_set : (k : Key) (w : SmallVec Run) (es : Entries) → AllByRecursion HasRun es → 1 ≤ length w.items → AllByRecursion HasRun (set_value (same_key k) es w)
runs_set k w [] all one = tt
runs_set k w (e ∷ es) all one = by_case (same_key k e.0) (runs_set k w es all.1 one)
  where
    by_case : (b : Bool) → AllByRecursion HasRun (set_value (same_key k) es w) → AllByRecursion HasRun (cond b ((e.0, w) ∷ es) (e ∷ set_value (same_key k) es w))
    by_case true ih = (one, all.1)
    by_case false ih = (all.0, ih)

pub runs_pushed : (k : Key) (w : SmallVec Run) (es : Entries) → AllByRecursion HasRun es → 1 ≤ length w.items → AllByRecursion HasRun (es ++ (k, w) ∷ [])
runs_pushed k w [] all one = (one, tt)
runs_pushed k w (e ∷ es) all one = (all.0, runs_pushed k w es all.1 one)

pub runs_left : (k : Key) (es : Entries) → AllByRecursion HasRun es → AllByRecursion HasRun (remove_entry (same_key k) es)
runs_left k [] all = tt
runs_left k (e ∷ es) all = by_case (same_key k e.0) (runs_left k es all.1)
  where
    by_case : (b : Bool) → AllByRecursion HasRun (remove_entry (same_key k) es) → AllByRecursion HasRun (cond b es (e ∷ remove_entry (same_key k) es))
    by_case true ih = all.1
    by_case false ih = (all.0, ih)

-- a page without runs isn't listed
pub not_listed : (t : TxId) (p : ℕ) (es : Entries) → AllByRecursion HasRun es → runs_at (rows_of es) t p ≡ [] → lookup (same_key (key_of t p)) es ≡ None
not_listed t p es all none = by_case (lookup (same_key (key_of t p)) es) (λ v f. run_there (key_of t p) v es all f) (sym (runs_found t p es) ∙ none)
  where
    by_case : (o : Option (SmallVec Run)) → ((v : SmallVec Run) → o ≡ Some v → 1 ≤ length v.items) → runs_or o ≡ [] → o ≡ None
    by_case None f n = refl
    by_case (Some v) f n = let one = f v refl in let none : length v.items ≡ 0 = ap length n in absurd (omega (arith, one, none))

-- with one more run some are there
pub some_covered : (rs : List Run) (from to : ℕ) → 1 ≤ length (cover rs from to)
unfolding cover
some_covered [] from to = omega arith
some_covered (r ∷ rs) from to = by_case (nat_lt r.to from) (nat_lt to r.from) (some_covered rs (min r.from from) (max r.to to))
  where
    by_case : (b c : Bool) → 1 ≤ length (cover rs (min r.from from) (max r.to to)) → 1 ≤ length (pick b (r ∷ cover rs from to) (pick c (record { from = from; to = to } ∷ r ∷ rs) (cover rs (min r.from from) (max r.to to))))
    by_case true c ih = omega arith
    by_case false true ih = omega arith
    by_case false false ih = ih

-- what a look in the map finds, for the list of places that is seen
pub runs_now : (t : TxId) (p : ℕ) (es : Entries) (places : List Written) (k : Key) (o : Option (SmallVec Run)) → rows_of es ≡ places → k ≡ key_of t p → o ≡ lookup (same_key k) es
    → runs_or o ≡ runs_at places t p
runs_now t p es places k o seen key look =
    ap runs_or (look ∙ ap (λ l. lookup (same_key l) es) key) ∙ sym (runs_found t p es) ∙ ap (λ ws. runs_at ws t p) seen

-- other room for the same runs
rows_same : (k : Key) (v w : SmallVec Run) (es : Entries) → lookup (same_key k) es ≡ Some v → w.items ≡ v.items → rows_of (set_value (same_key k) es w) ≡ rows_of es
rows_same k v w [] there same = absurd (cc)
rows_same k v w (e ∷ es) there same = by_case (same_key k e.0) (λ f. rows_same k v w es f same) there
  where
    by_case : (b : Bool) → (lookup (same_key k) es ≡ Some v → rows_of (set_value (same_key k) es w) ≡ rows_of es) → cond b (Some e.1) (lookup (same_key k) es) ≡ Some v
        → rows_of (cond b ((e.0, w) ∷ es) (e ∷ set_value (same_key k) es w)) ≡ rows_of (e ∷ es)
    by_case true ih f = let q : e.1 ≡ v = cc in ap (λ rs. record { tx = tx_of e.0; page = e.0.page; runs = rs } ∷ rows_of es) (same ∙ sym (ap (λ x. x.items) q))
    by_case false ih f = ap (λ rest. row_of e ∷ rest) (ih f)

pub same_now : (k : Key) (v w : SmallVec Run) (es : Entries) (places : List Written) → rows_of es ≡ places → Some v ≡ lookup (same_key k) es → w.items ≡ v.items
    → rows_of (set_value (same_key k) es w) ≡ places
same_now k v w es places seen there same = rows_same k v w es (sym there) same ∙ seen

-- a further run of a page that is listed
pub covered_now : (t : TxId) (p from to : ℕ) (k : Key) (v w : SmallVec Run) (es : Entries) (places : List Written) → rows_of es ≡ places → k ≡ key_of t p → Some v ≡ lookup (same_key k) es → w.items ≡ cover v.items from to
    → rows_of (set_value (same_key k) es w) ≡ put_runs places t p (cover (runs_at places t p) from to)
covered_now t p from to k v w es places seen key there covers =
    let found : lookup (same_key (key_of t p)) es ≡ Some v = subst (λ l. lookup (same_key l) es ≡ Some v) key (sym there) in
    let runs : v.items ≡ runs_at places t p = runs_now t p es places k (Some v) seen key there in
    ap (λ l. rows_of (set_value (same_key l) es w)) key
    ∙ put_set t p v w es found
    ∙ ap (λ rs. put_runs (rows_of es) t p rs) (covers ∙ ap (λ rs. cover rs from to) runs)
    ∙ ap (λ ws. put_runs ws t p (cover (runs_at places t p) from to)) seen

-- a page that is listed has a run
pub listed_now : (t : TxId) (p : ℕ) (k : Key) (v : SmallVec Run) (es : Entries) (places : List Written) → AllByRecursion HasRun es → rows_of es ≡ places → k ≡ key_of t p → Some v ≡ lookup (same_key k) es
    → runs_at places t p ≡ [] → ⊥
listed_now t p k v es places all seen key there none =
    let some = run_there k v es all (sym there) in
    let empty : length v.items ≡ 0 = ap length (runs_now t p es places k (Some v) seen key there ∙ none) in
    omega (arith, some, empty)

-- the first run of a page
pub first_now : (t : TxId) (p : ℕ) (k : Key) (v : SmallVec Run) (rs : List Run) (es now : Entries) (places : List Written) → AllByRecursion HasRun es → rows_of es ≡ places → k ≡ key_of t p → runs_at places t p ≡ [] → v.items ≡ rs → now ≡ es ++ (k, v) ∷ []
    → rows_of now ≡ put_runs places t p rs
first_now t p k v rs es now places all seen key none items last =
    let absent = not_listed t p es all (ap (λ ws. runs_at ws t p) seen ∙ none) in
    ap rows_of last ∙ ap (λ l. rows_of (es ++ (l, v) ∷ [])) key ∙ put_new t p v es absent
    ∙ ap (λ ws. put_runs ws t p v.items) seen ∙ ap (λ l. put_runs places t p l) items

pub absent_now : (t : TxId) (p : ℕ) (k : Key) (es : Entries) (places : List Written) → AllByRecursion HasRun es → rows_of es ≡ places → k ≡ key_of t p → runs_at places t p ≡ []
    → lookup (same_key k) es ≡ None
absent_now t p k es places all seen key none =
    ap (λ l. lookup (same_key l) es) key ∙ not_listed t p es all (ap (λ ws. runs_at ws t p) seen ∙ none)

-- the runs of a page are forgotten
pub removed_now : (t : TxId) (p : ℕ) (k : Key) (es now : Entries) (places : List Written) → rows_of es ≡ places → k ≡ key_of t p → now ≡ remove_entry (same_key k) es → lookup (same_key k) now ≡ None
    → rows_of now ≡ filter (is_other t p) places
removed_now t p k es now places seen key gone none =
    let left : lookup (same_key (key_of t p)) (remove_entry (same_key (key_of t p)) es) ≡ None =
    subst (λ l. lookup (same_key l) (remove_entry (same_key l) es) ≡ None) key (ap (lookup (same_key k)) (sym gone) ∙ none) in
    ap rows_of gone ∙ ap (λ l. rows_of (remove_entry (same_key l) es)) key ∙ taken_out t p es left ∙ ap (filter (is_other t p)) seen

-- the first run of a page that has none
pub covers_none : (from to : ℕ) → record { from = from; to = to } ∷ [] ≡ cover [] from to
unfolding cover
covers_none from to = refl

-- what holds in either case of a result
pub on_err : {T E : Type 0} {P : Type 0} (r : Result T E) → P → OnErr r P
on_err (Ok x) p = tt
on_err (Err e) p = p

pub on_ok : {T E : Type 0} {P Q : Type 0} (r : Result T E) → OnOk r P → (P → Q) → OnOk r Q
on_ok (Ok x) p f = f p
on_ok (Err e) p f = tt
