-- The open transactions in their slots, under changes.
use Rattle.std.proofs.Common.{◌≡◌, ◌≢◌, ℕ, nat_eq, Bool, true, false, cond, Option, Some, None, is_some, List, [], ◌∷◌, ◌++◌, length, suc, map, refl, ap, sym, subst, Bor, MutBor, ◌∙◌, arith}
use Rattle.std.proofs.lemmas.Bool.Decides.{nat_tests}
use Rattle.std.specs.Option.{option_copied, option_copied_mut, IfNone}
use Rattle.std.specs.Map.{lookup, set_value, remove_entry}
use Rattle.node_rules.specs.OpenTxs.{OpenTx}
use Rattle.tx_table.specs.Slots.{slot, row, rows, IsFree, HasSlots}

-- all slots but one keep what they have
abbrev pub SameBut : ℕ → List (Option OpenTx) → List (Option OpenTx) → Type 0
SameBut k old new = (j : ℕ) → j ≢ k → slot new j ≡ slot old j

some_number : (m n : ℕ) → Some m ≡ Some n → m ≡ n
some_number m n same = cc

none_number : (m : ℕ) → Some m ≡ None → ⊥
none_number m same = absurd (cc)

-- a serial that has no slot has no transaction
none_case : (n k : ℕ) (b : Bool) (o : Option OpenTx) (serial : ℕ) (l : List (ℕ × OpenTx)) (rest : Option ℕ) → nat_eq n serial ≡ b
    → cond b (Some k) rest ≡ None → (rest ≡ None → lookup (nat_eq n) l ≡ None) → lookup (nat_eq n) (row serial o l) ≡ None
none_case n k true o serial l rest is none later = absurd (none_number k none)
none_case n k false None serial l rest is none later = later none
none_case n k false (Some x) serial l rest is none later = ap (λ b. cond b (Some x) (lookup (nat_eq n) l)) is ∙ later none

pub rows_none : (slots : List (Option OpenTx)) (n : ℕ) (es : List (ℕ × ℕ)) → lookup (nat_eq n) es ≡ None → lookup (nat_eq n) (rows slots es) ≡ None
rows_none slots n [] none = refl
rows_none slots n (e ∷ es) none =
    none_case n e.1 (nat_eq n e.0) (slot slots e.1) e.0 (rows slots es) (lookup (nat_eq n) es) refl none (λ later. rows_none slots n es later)

-- a serial has the transaction of its slot
found_case : (n k j : ℕ) (b : Bool) (o : Option OpenTx) (p : Option OpenTx) (serial : ℕ) (l : List (ℕ × OpenTx)) (rest : Option ℕ) → nat_eq n serial ≡ b
    → is_some o ≡ true → cond b (Some j) rest ≡ Some k → (j ≡ k → o ≡ p) → (rest ≡ Some k → lookup (nat_eq n) l ≡ p)
    → lookup (nat_eq n) (row serial o l) ≡ p
found_case n k j b None p serial l rest is there found here later = absurd (cc)
found_case n k j true (Some x) p serial l rest is there found here later =
    ap (λ b. cond b (Some x) (lookup (nat_eq n) l)) is ∙ here (some_number j k found)
found_case n k j false (Some x) p serial l rest is there found here later =
    ap (λ b. cond b (Some x) (lookup (nat_eq n) l)) is ∙ later found

pub rows_found : (slots : List (Option OpenTx)) (n k : ℕ) (es : List (ℕ × ℕ)) → HasSlots slots es → lookup (nat_eq n) es ≡ Some k
    → lookup (nat_eq n) (rows slots es) ≡ slot slots k
rows_found slots n k [] has found = absurd (cc)
rows_found slots n k (e ∷ es) has found =
    found_case n k e.1 (nat_eq n e.0) (slot slots e.1) (slot slots k) e.0 (rows slots es) (lookup (nat_eq n) es) refl has.0 found
    (λ same. ap (λ j. slot slots j) same) (λ later. rows_found slots n k es has.2 later)

-- the slot of a serial has a transaction
there_case : (slots : List (Option OpenTx)) (k j : ℕ) (b : Bool) (rest : Option ℕ) → is_some (slot slots j) ≡ true → cond b (Some j) rest ≡ Some k
    → (rest ≡ Some k → is_some (slot slots k) ≡ true) → is_some (slot slots k) ≡ true
there_case slots k j true rest there found later = ap (λ i. is_some (slot slots i)) (sym (some_number j k found)) ∙ there
there_case slots k j false rest there found later = later found

pub slot_there : (slots : List (Option OpenTx)) (n k : ℕ) (es : List (ℕ × ℕ)) → HasSlots slots es → lookup (nat_eq n) es ≡ Some k
    → is_some (slot slots k) ≡ true
slot_there slots n k [] has found = absurd (cc)
slot_there slots n k (e ∷ es) has found =
    there_case slots k e.1 (nat_eq n e.0) (lookup (nat_eq n) es) has.0 found (λ later. slot_there slots n k es has.2 later)

-- there are as many transactions as serials
length_case : (o : Option OpenTx) (serial n : ℕ) (l : List (ℕ × OpenTx)) → is_some o ≡ true → length l ≡ n → length (row serial o l) ≡ suc n
length_case None serial n l there rest = absurd (cc)
length_case (Some x) serial n l there rest = ap (λ m. suc m) rest

pub length-rows : (slots : List (Option OpenTx)) (es : List (ℕ × ℕ)) → HasSlots slots es → length (rows slots es) ≡ length es
length-rows slots [] has = refl
length-rows slots (e ∷ es) has = length_case (slot slots e.1) e.0 (length es) (rows slots es) has.0 (length-rows slots es has.2)

-- a list made of the serials alone
serials_case : {X : Type 0} (f : ℕ → X) (o : Option OpenTx) (serial : ℕ) (l : List (ℕ × OpenTx)) (xs : List X) → is_some o ≡ true
    → xs ≡ map (λ e. f e.0) l → f serial ∷ xs ≡ map (λ e. f e.0) (row serial o l)
serials_case f None serial l xs there rest = absurd (cc)
serials_case f (Some x) serial l xs there rest = ap (λ m. f serial ∷ m) rest

pub serials_of_rows : {X : Type 0} (f : ℕ → X) (slots : List (Option OpenTx)) (es : List (ℕ × ℕ)) → HasSlots slots es
    → map (λ e. f e.0) es ≡ map (λ e. f e.0) (rows slots es)
serials_of_rows f slots [] has = refl
serials_of_rows f slots (e ∷ es) has =
    serials_case f (slot slots e.1) e.0 (rows slots es) (map (λ e. f e.0) es) has.0 (serials_of_rows f slots es has.2)

-- an empty slot is no serial's
free_case : (slots : List (Option OpenTx)) (k j : ℕ) → is_some (slot slots j) ≡ true → slot slots k ≡ None → j ≢ k
free_case slots k j there none same =
    let bad : is_some (slot slots k) ≡ true = ap (λ i. is_some (slot slots i)) (sym same) ∙ there in
    let no : is_some (slot slots k) ≡ false = ap (λ o. is_some o) none in
    absurd (cc)

pub free_of_empty : (slots : List (Option OpenTx)) (k : ℕ) (es : List (ℕ × ℕ)) → HasSlots slots es → slot slots k ≡ None → IsFree k es
free_of_empty slots k [] has none = tt
free_of_empty slots k (e ∷ es) has none = (free_case slots k e.1 has.0 none, free_of_empty slots k es has.2 none)

-- a change of a free slot changes nothing
pub rows_other : (old new : List (Option OpenTx)) (k : ℕ) (es : List (ℕ × ℕ)) → IsFree k es → SameBut k old new → rows new es ≡ rows old es
rows_other old new k [] free same = refl
rows_other old new k (e ∷ es) free same = λ i. row e.0 (same e.1 free.0 i) (rows_other old new k es free.1 same i)

pub slots_other : (old new : List (Option OpenTx)) (k : ℕ) (es : List (ℕ × ℕ)) → IsFree k es → SameBut k old new → HasSlots old es → HasSlots new es
slots_other old new k [] free same has = tt
slots_other old new k (e ∷ es) free same has =
    (ap (λ o. is_some o) (same e.1 free.0) ∙ has.0, has.1, slots_other old new k es free.1 same has.2)

-- a serial in a slot that was empty goes last
row_pushed : (o : Option OpenTx) (serial : ℕ) (l m tail : List (ℕ × OpenTx)) → l ≡ m ++ tail → row serial o l ≡ row serial o m ++ tail
row_pushed None serial l m tail same = same
row_pushed (Some x) serial l m tail same = ap (λ r. (serial, x) ∷ r) same

pub rows_pushed : (old new : List (Option OpenTx)) (n k : ℕ) (x : OpenTx) (es : List (ℕ × ℕ)) → HasSlots old es → slot old k ≡ None → slot new k ≡ Some x
    → SameBut k old new → rows new (es ++ (n, k) ∷ []) ≡ rows old es ++ (n, x) ∷ []
rows_pushed old new n k x es has none now same = by es (free_of_empty old k es has none)
  where
    by : (es : List (ℕ × ℕ)) → IsFree k es → rows new (es ++ (n, k) ∷ []) ≡ rows old es ++ (n, x) ∷ []
    by [] free = ap (λ o. row n o []) now
    by (e ∷ es) free =
        ap (λ o. row e.0 o (rows new (es ++ (n, k) ∷ []))) (same e.1 free.0)
        ∙ row_pushed (slot old e.1) e.0 (rows new (es ++ (n, k) ∷ [])) (rows old es) ((n, x) ∷ []) (by es free.1)

free_pushed : (j n k : ℕ) (es : List (ℕ × ℕ)) → IsFree j es → k ≢ j → IsFree j (es ++ (n, k) ∷ [])
free_pushed j n k [] free other = (other, tt)
free_pushed j n k (e ∷ es) free other = (free.0, free_pushed j n k es free.1 other)

pub slots_pushed : (old new : List (Option OpenTx)) (n k : ℕ) (x : OpenTx) (es : List (ℕ × ℕ)) → HasSlots old es → slot old k ≡ None → slot new k ≡ Some x
    → SameBut k old new → HasSlots new (es ++ (n, k) ∷ [])
slots_pushed old new n k x es has none now same = by es has (free_of_empty old k es has none)
  where
    by : (es : List (ℕ × ℕ)) → HasSlots old es → IsFree k es → HasSlots new (es ++ (n, k) ∷ [])
    by [] has free = (ap (λ o. is_some o) now, tt, tt)
    by (e ∷ es) has free =
        (ap (λ o. is_some o) (same e.1 free.0) ∙ has.0, free_pushed e.1 n k es has.1 (λ back. free.0 (sym back)), by es has.2 free.1)

-- a slot that others have not is another than theirs
free_found_case : (j k i : ℕ) (b : Bool) (rest : Option ℕ) → i ≢ j → cond b (Some i) rest ≡ Some k → (rest ≡ Some k → k ≢ j) → k ≢ j
free_found_case j k i true rest other found later = λ same. other (some_number i k found ∙ same)
free_found_case j k i false rest other found later = later found

pub free_found : (j n k : ℕ) (es : List (ℕ × ℕ)) → IsFree j es → lookup (nat_eq n) es ≡ Some k → k ≢ j
free_found j n k [] free found = absurd (cc)
free_found j n k (e ∷ es) free found =
    free_found_case j k e.1 (nat_eq n e.0) (lookup (nat_eq n) es) free.0 found (λ later. free_found j n k es free.1 later)

-- a serial's slot gets another transaction
row_set_here : (n : ℕ) (o p : Option OpenTx) (w : OpenTx) (serial : ℕ) (l m : List (ℕ × OpenTx)) → nat_eq n serial ≡ true → is_some o ≡ true
    → p ≡ Some w → m ≡ l → row serial p m ≡ set_value (nat_eq n) (row serial o l) w
row_set_here n None p w serial l m is there now rest = absurd (cc)
row_set_here n (Some x) p w serial l m is there now rest =
    (λ i. row serial (now i) (rest i)) ∙ sym (ap (λ b. cond b ((serial, w) ∷ l) ((serial, x) ∷ set_value (nat_eq n) l w)) is)

row_set_later : (n : ℕ) (o p : Option OpenTx) (w : OpenTx) (serial : ℕ) (l m : List (ℕ × OpenTx)) → nat_eq n serial ≡ false → is_some o ≡ true
    → p ≡ o → m ≡ set_value (nat_eq n) l w → row serial p m ≡ set_value (nat_eq n) (row serial o l) w
row_set_later n None p w serial l m is there now rest = absurd (cc)
row_set_later n (Some x) p w serial l m is there now rest =
    (λ i. row serial (now i) (rest i)) ∙ sym (ap (λ b. cond b ((serial, w) ∷ l) ((serial, x) ∷ set_value (nat_eq n) l w)) is)

rows_set_case : (old new : List (Option OpenTx)) (n k : ℕ) (w : OpenTx) (e : ℕ × ℕ) (es : List (ℕ × ℕ)) (b : Bool) → nat_eq n e.0 ≡ b
    → HasSlots old (e ∷ es) → cond b (Some e.1) (lookup (nat_eq n) es) ≡ Some k → slot new k ≡ Some w → SameBut k old new
    → (lookup (nat_eq n) es ≡ Some k → rows new es ≡ set_value (nat_eq n) (rows old es) w)
    → row e.0 (slot new e.1) (rows new es) ≡ set_value (nat_eq n) (row e.0 (slot old e.1) (rows old es)) w
rows_set_case old new n k w e es true is has found now same later =
    let here : e.1 ≡ k = some_number e.1 k found in
    row_set_here n (slot old e.1) (slot new e.1) w e.0 (rows old es) (rows new es) is has.0
    (ap (λ j. slot new j) here ∙ now)
    (rows_other old new k es (subst (λ j. IsFree j es) here has.1) same)
rows_set_case old new n k w e es false is has found now same later =
    let other : e.1 ≢ k = λ back. free_found e.1 n k es has.1 found (sym back) in
    row_set_later n (slot old e.1) (slot new e.1) w e.0 (rows old es) (rows new es) is has.0 (same e.1 other) (later found)

pub rows_set : (old new : List (Option OpenTx)) (n k : ℕ) (w : OpenTx) (es : List (ℕ × ℕ)) → HasSlots old es → lookup (nat_eq n) es ≡ Some k
    → slot new k ≡ Some w → SameBut k old new → rows new es ≡ set_value (nat_eq n) (rows old es) w
rows_set old new n k w [] has found now same = absurd (cc)
rows_set old new n k w (e ∷ es) has found now same =
    rows_set_case old new n k w e es (nat_eq n e.0) refl has found now same (λ later. rows_set old new n k w es has.2 later now same)

-- a slot is that of the change, or it keeps what it has
kept_case : (old new : List (Option OpenTx)) (j k : ℕ) (b : Bool) → nat_eq j k ≡ b → is_some (slot old j) ≡ true → is_some (slot new k) ≡ true
    → SameBut k old new → is_some (slot new j) ≡ true
kept_case old new j k true is there now same = ap (λ i. is_some (slot new i)) (same_number j k is) ∙ now
  where
    same_number : (m n : ℕ) → nat_eq m n ≡ true → m ≡ n
    same_number m n is = grind (arith, nat_tests)
kept_case old new j k false is there now same = ap (λ o. is_some o) (same j (other_number j k is)) ∙ there
  where
    other_number : (m n : ℕ) → nat_eq m n ≡ false → m ≢ n
    other_number m n is same = grind (arith, nat_tests)

pub slots_set : (old new : List (Option OpenTx)) (k : ℕ) (es : List (ℕ × ℕ)) → HasSlots old es → is_some (slot new k) ≡ true → SameBut k old new → HasSlots new es
slots_set old new k [] has now same = tt
slots_set old new k (e ∷ es) has now same =
    (kept_case old new e.1 k (nat_eq e.1 k) refl has.0 now same, has.1, slots_set old new k es has.2 now same)

-- a serial's slot is emptied, and the serial taken out
row_gone_here : (n : ℕ) (o : Option OpenTx) (serial : ℕ) (l m : List (ℕ × OpenTx)) → nat_eq n serial ≡ true → is_some o ≡ true
    → m ≡ l → m ≡ remove_entry (nat_eq n) (row serial o l)
row_gone_here n None serial l m is there rest = absurd (cc)
row_gone_here n (Some x) serial l m is there rest =
    rest ∙ sym (ap (λ b. cond b l ((serial, x) ∷ remove_entry (nat_eq n) l)) is)

row_gone_later : (n : ℕ) (o p : Option OpenTx) (serial : ℕ) (l m : List (ℕ × OpenTx)) → nat_eq n serial ≡ false → is_some o ≡ true
    → p ≡ o → m ≡ remove_entry (nat_eq n) l → row serial p m ≡ remove_entry (nat_eq n) (row serial o l)
row_gone_later n None p serial l m is there now rest = absurd (cc)
row_gone_later n (Some x) p serial l m is there now rest =
    (λ i. row serial (now i) (rest i)) ∙ sym (ap (λ b. cond b l ((serial, x) ∷ remove_entry (nat_eq n) l)) is)

rows_gone_case : (old new : List (Option OpenTx)) (n k : ℕ) (e : ℕ × ℕ) (es : List (ℕ × ℕ)) (b : Bool) → nat_eq n e.0 ≡ b
    → HasSlots old (e ∷ es) → cond b (Some e.1) (lookup (nat_eq n) es) ≡ Some k → SameBut k old new
    → (lookup (nat_eq n) es ≡ Some k → rows new (remove_entry (nat_eq n) es) ≡ remove_entry (nat_eq n) (rows old es))
    → rows new (cond b es (e ∷ remove_entry (nat_eq n) es)) ≡ remove_entry (nat_eq n) (row e.0 (slot old e.1) (rows old es))
rows_gone_case old new n k e es true is has found same later =
    let here : e.1 ≡ k = some_number e.1 k found in
    row_gone_here n (slot old e.1) e.0 (rows old es) (rows new es) is has.0
    (rows_other old new k es (subst (λ j. IsFree j es) here has.1) same)
rows_gone_case old new n k e es false is has found same later =
    let other : e.1 ≢ k = λ back. free_found e.1 n k es has.1 found (sym back) in
    row_gone_later n (slot old e.1) (slot new e.1) e.0 (rows old es) (rows new (remove_entry (nat_eq n) es)) is has.0 (same e.1 other) (later found)

pub rows_gone : (old new : List (Option OpenTx)) (n k : ℕ) (es : List (ℕ × ℕ)) → HasSlots old es → lookup (nat_eq n) es ≡ Some k
    → SameBut k old new → rows new (remove_entry (nat_eq n) es) ≡ remove_entry (nat_eq n) (rows old es)
rows_gone old new n k [] has found same = absurd (cc)
rows_gone old new n k (e ∷ es) has found same =
    rows_gone_case old new n k e es (nat_eq n e.0) refl has found same (λ later. rows_gone old new n k es has.2 later same)

free_gone_case : (j n : ℕ) (e : ℕ × ℕ) (es : List (ℕ × ℕ)) (b : Bool) → IsFree j (e ∷ es) → IsFree j (remove_entry (nat_eq n) es)
    → IsFree j (cond b es (e ∷ remove_entry (nat_eq n) es))
free_gone_case j n e es true free rest = free.1
free_gone_case j n e es false free rest = (free.0, rest)

free_gone : (j n : ℕ) (es : List (ℕ × ℕ)) → IsFree j es → IsFree j (remove_entry (nat_eq n) es)
free_gone j n [] free = tt
free_gone j n (e ∷ es) free = free_gone_case j n e es (nat_eq n e.0) free (free_gone j n es free.1)

slots_gone_case : (old new : List (Option OpenTx)) (n k : ℕ) (e : ℕ × ℕ) (es : List (ℕ × ℕ)) (b : Bool)
    → HasSlots old (e ∷ es) → cond b (Some e.1) (lookup (nat_eq n) es) ≡ Some k → SameBut k old new
    → (lookup (nat_eq n) es ≡ Some k → HasSlots new (remove_entry (nat_eq n) es))
    → HasSlots new (cond b es (e ∷ remove_entry (nat_eq n) es))
slots_gone_case old new n k e es true has found same later =
    let here : e.1 ≡ k = some_number e.1 k found in
    slots_other old new k es (subst (λ j. IsFree j es) here has.1) same has.2
slots_gone_case old new n k e es false has found same later =
    let other : e.1 ≢ k = λ back. free_found e.1 n k es has.1 found (sym back) in
    (ap (λ o. is_some o) (same e.1 other) ∙ has.0, free_gone e.1 n es has.1, later found)

pub slots_gone : (old new : List (Option OpenTx)) (n k : ℕ) (es : List (ℕ × ℕ)) → HasSlots old es → lookup (nat_eq n) es ≡ Some k
    → SameBut k old new → HasSlots new (remove_entry (nat_eq n) es)
slots_gone old new n k [] has found same = absurd (cc)
slots_gone old new n k (e ∷ es) has found same =
    slots_gone_case old new n k e es (nat_eq n e.0) has found same (λ later. slots_gone old new n k es has.2 later same)

-- a serial that isn't there can't be taken out
absent_case : {X : Type 0} (n : ℕ) (e : ℕ × X) (es : List (ℕ × X)) (b : Bool) → cond b (Some e.1) (lookup (nat_eq n) es) ≡ None
    → (lookup (nat_eq n) es ≡ None → remove_entry (nat_eq n) es ≡ es) → cond b es (e ∷ remove_entry (nat_eq n) es) ≡ e ∷ es
absent_case n e es true none rest = absurd (cc)
absent_case n e es false none rest = ap (λ l. e ∷ l) (rest none)

pub remove_absent : {X : Type 0} (n : ℕ) (es : List (ℕ × X)) → lookup (nat_eq n) es ≡ None → remove_entry (nat_eq n) es ≡ es
remove_absent n [] none = refl
remove_absent n (e ∷ es) none = absent_case n e es (nat_eq n e.0) none (λ later. remove_absent n es later)

-- a serial that has no transaction has no slot
absent_row_case : (n k : ℕ) (b : Bool) (o : Option OpenTx) (serial : ℕ) (l : List (ℕ × OpenTx)) (rest : Option ℕ) → nat_eq n serial ≡ b → is_some o ≡ true
    → lookup (nat_eq n) (row serial o l) ≡ None → (lookup (nat_eq n) l ≡ None → rest ≡ None) → cond b (Some k) rest ≡ None
absent_row_case n k b None serial l rest is there none later = absurd (cc)
absent_row_case n k true (Some x) serial l rest is there none later =
    let bad : Some x ≡ None = sym (ap (λ b. cond b (Some x) (lookup (nat_eq n) l)) is) ∙ none in
    absurd (cc)
absent_row_case n k false (Some x) serial l rest is there none later =
    later (sym (ap (λ b. cond b (Some x) (lookup (nat_eq n) l)) is) ∙ none)

pub no_slot : (slots : List (Option OpenTx)) (n : ℕ) (es : List (ℕ × ℕ)) → HasSlots slots es → lookup (nat_eq n) (rows slots es) ≡ None
    → lookup (nat_eq n) es ≡ None
no_slot slots n [] has none = refl
no_slot slots n (e ∷ es) has none =
    absent_row_case n e.1 (nat_eq n e.0) (slot slots e.1) e.0 (rows slots es) (lookup (nat_eq n) es) refl has.0 none (λ later. no_slot slots n es has.2 later)

pub key_there : (slots : List (Option OpenTx)) (n : ℕ) (es : List (ℕ × ℕ)) → is_some (lookup (nat_eq n) (rows slots es)) ≡ true → is_some (lookup (nat_eq n) es) ≡ true
key_there slots n es there = by (lookup (nat_eq n) es) refl
  where
    by : (o : Option ℕ) → lookup (nat_eq n) es ≡ o → is_some o ≡ true
    by None none =
        let no : is_some (lookup (nat_eq n) (rows slots es)) ≡ false = ap (λ o. is_some o) (rows_none slots n es none) in
        absurd (cc)
    by (Some k) found = refl

-- a reference is there where what it points to is
pub some_of_copied : {X : Type 0} (o : Option (Bor X)) → is_some (option_copied o) ≡ true → is_some o ≡ true
some_of_copied None there = there
some_of_copied (Some x) there = refl

pub some_of_copied_mut : {X : Type 0} (o : Option (MutBor X)) → is_some (option_copied_mut o) ≡ true → is_some o ≡ true
some_of_copied_mut None there = there
some_of_copied_mut (Some x) there = refl

-- what is said where nothing is there holds of what is there
pub if_none_there : {X : Type 0} (o : Option X) (P : Type 0) → is_some o ≡ true → IfNone o P
if_none_there None P there = absurd (cc)
if_none_there (Some x) P there = tt
