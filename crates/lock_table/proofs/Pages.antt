-- Rows of entries, one for each page of a partition.
use Rattle.std.proofs.Common.{◌≡◌, ◌≢◌, ℕ, zero, suc, ◌+◌, ◌*◌, ◌%◌, ◌<◌, ◌≤◌, ◌==◌, nat_lt, Bool, true, false, List, [], ◌∷◌, map, refl, ap, sym, ◌∙◌, arith}
use Rattle.std.proofs.lemmas.Bool.Decides.{nat_tests}
use Rattle.std.proofs.Math.Nat.{add-mod_right}
use Rattle.node_rules.specs.Words.{pick}
use Rattle.node_rules.specs.LockRule.{LockEntry}
use Rattle.node_rules.specs.LockTable.{PageEntry, pages_from, entry_in, entries_with}

-- the row of a page whose entry a function gives
abbrev pub row_of : (ℕ → LockEntry) → ℕ → PageEntry
row_of g p = record { page = p; entry = g p }

same_number : (m n : ℕ) → m ≡ n → (m == n) ≡ true
same_number m n same = grind (arith, nat_tests)

other_number : (m n : ℕ) → m ≢ n → (m == n) ≡ false
other_number m n other = grind (arith, nat_tests)

is_below : (m n : ℕ) → m < n → nat_lt m n ≡ true
is_below m n below = grind (arith, nat_tests)

-- the pages from one that is below the end
pub pages_first : (n step p end : ℕ) → p < end → pages_from (suc n) step p end ≡ p ∷ pages_from n step (p + step) end
unfolding pages_from
pages_first n step p end below = ap (λ b. pick b (p ∷ pages_from n step (p + step) end) []) (is_below p end below)

entry_here : (g : ℕ → LockEntry) (p page : ℕ) (rows : List PageEntry) → p ≡ page → entry_in (row_of g p ∷ rows) page ≡ g p
unfolding entry_in
entry_here g p page rows here = ap (λ b. pick b (g p) (entry_in rows page)) (same_number p page here)

entry_past : (g : ℕ → LockEntry) (p page : ℕ) (rows : List PageEntry) → p ≢ page → entry_in (row_of g p ∷ rows) page ≡ entry_in rows page
unfolding entry_in
entry_past g p page rows past = ap (λ b. pick b (g p) (entry_in rows page)) (other_number p page past)

-- an entry is looked up at its page
pub entry_in_pages : (g : ℕ → LockEntry) (step end page : ℕ) (n j p : ℕ) → page ≡ p + step * j → j < n → page < end → 1 ≤ step
    → entry_in (map (row_of g) (pages_from n step p end)) page ≡ g page
entry_in_pages g step end page zero j p at fuel below some = absurd (omega arith)
entry_in_pages g step end page (suc n) zero p at fuel below some =
    let here : p ≡ page = omega arith in
    let within : p < end = omega arith in
    ap (λ l. entry_in (map (row_of g) l) page) (pages_first n step p end within)
    ∙ (entry_here g p page (map (row_of g) (pages_from n step (p + step) end)) here ∙ ap g here)
entry_in_pages g step end page (suc n) (suc j) p at fuel below some =
    let next : page ≡ (p + step) + step * j = omega arith in
    let past : p ≢ page = λ same. omega arith in
    let within : p < end = omega arith in
    ap (λ l. entry_in (map (row_of g) l) page) (pages_first n step p end within)
    ∙ (entry_past g p page (map (row_of g) (pages_from n step (p + step) end)) past
    ∙ entry_in_pages g step end page n j (p + step) next (omega arith) below some)

-- two functions that agree from a page on give the same rows
pub same_rows : (g h : ℕ → LockEntry) (step end q : ℕ) (n p : ℕ) → p % step ≡ q
    → ((x : ℕ) → x % step ≡ q → p ≤ x → g x ≡ h x)
    → map (row_of g) (pages_from n step p end) ≡ map (row_of h) (pages_from n step p end)
unfolding pages_from
same_rows g h step end q zero p own agree = refl
same_rows g h step end q (suc n) p own agree =
    let own_next : (p + step) % step ≡ q = add-mod_right p step ∙ own in
    let rest = same_rows g h step end q n (p + step) own_next (λ x mine above. agree x mine (omega arith)) in
    rows_of (nat_lt p end) p (pages_from n step (p + step) end) (agree p own (omega arith)) rest
  where
    rows_of : (b : Bool) (p : ℕ) (ps : List ℕ) → g p ≡ h p → map (row_of g) ps ≡ map (row_of h) ps
        → map (row_of g) (pick b (p ∷ ps) []) ≡ map (row_of h) (pick b (p ∷ ps) [])
    rows_of true p ps here rest = λ i. record { page = p; entry = here i } ∷ rest i
    rows_of false p ps here rest = refl

put_here : (g : ℕ → LockEntry) (p page : ℕ) (e : LockEntry) (rows : List PageEntry) → p ≡ page
    → entries_with (row_of g p ∷ rows) page e ≡ record { page = page; entry = e } ∷ rows
unfolding entries_with
put_here g p page e rows here =
    ap (λ b. pick b (record { page = page; entry = e } ∷ rows) (row_of g p ∷ entries_with rows page e)) (same_number p page here)

put_past : (g : ℕ → LockEntry) (p page : ℕ) (e : LockEntry) (rows : List PageEntry) → p ≢ page
    → entries_with (row_of g p ∷ rows) page e ≡ row_of g p ∷ entries_with rows page e
unfolding entries_with
put_past g p page e rows past =
    ap (λ b. pick b (record { page = page; entry = e } ∷ rows) (row_of g p ∷ entries_with rows page e)) (other_number p page past)

-- another entry at a page is another function
pub put_in_pages : (g h : ℕ → LockEntry) (e : LockEntry) (step end page q : ℕ) (n j p : ℕ) → page ≡ p + step * j → j < n → page < end → 1 ≤ step
    → p % step ≡ q → h page ≡ e → ((x : ℕ) → x % step ≡ q → x ≢ page → h x ≡ g x)
    → map (row_of h) (pages_from n step p end) ≡ entries_with (map (row_of g) (pages_from n step p end)) page e
put_in_pages g h e step end page q zero j p at fuel below some own new others = absurd (omega arith)
put_in_pages g h e step end page q (suc n) zero p at fuel below some own new others =
    let here : p ≡ page = omega arith in
    let within : p < end = omega arith in
    let own_next : (p + step) % step ≡ q = add-mod_right p step ∙ own in
    let rest = same_rows h g step end q n (p + step) own_next (λ x mine above. others x mine (λ same. omega arith)) in
    let ps = pages_from n step (p + step) end in
    let front = pages_first n step p end within in
    let value : h p ≡ e = ap h here ∙ new in
    ap (λ l. map (row_of h) l) front
    ∙ ((λ i. record { page = here i; entry = value i } ∷ rest i)
    ∙ (sym (put_here g p page e (map (row_of g) ps) here) ∙ ap (λ l. entries_with (map (row_of g) l) page e) (sym front)))
put_in_pages g h e step end page q (suc n) (suc j) p at fuel below some own new others =
    let next : page ≡ (p + step) + step * j = omega arith in
    let past : p ≢ page = λ same. omega arith in
    let within : p < end = omega arith in
    let own_next : (p + step) % step ≡ q = add-mod_right p step ∙ own in
    let rest = put_in_pages g h e step end page q n j (p + step) next (omega arith) below some own_next new others in
    let ps = pages_from n step (p + step) end in
    let front = pages_first n step p end within in
    ap (λ l. map (row_of h) l) front
    ∙ ((λ i. record { page = p; entry = others p own past i } ∷ rest i)
    ∙ (sym (put_past g p page e (map (row_of g) ps) past) ∙ ap (λ l. entries_with (map (row_of g) l) page e) (sym front)))
