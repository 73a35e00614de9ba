-- The open transactions under their serials, as a list.
use Rattle.std.proofs.Common.{◌≡◌, ◌≢◌, ℕ, suc, ◌+◌, ◌<◌, ◌≤◌, ◌==◌, nat_eq, Bool, true, false, not, cond, Option, Some, None, is_some, Result, Ok, Err, List, [], ◌∷◌, ◌++◌, length, get_or, drop, drop-cons, refl, ap, sym, ◌∙◌, arith}
use Rattle.std.proofs.Math.ListN.{drop_of_length-le}
use Rattle.std.proofs.lemmas.Bool.Decides.{nat_tests}
use Rattle.std.specs.Result.{OnOk, OnErr}
use Rattle.std.specs.List.{filter}
use Rattle.std.specs.Map.{lookup, set_value, remove_entry, values_of}
use Rattle.pcl_base.specs.declared.tx.TxId.{TxId}
use Rattle.pcl_base.specs.declared.lock.Held.{Held}
use Rattle.node_rules.specs.Words.{pick}
use Rattle.node_rules.specs.OpenTxs.{OpenTx, OpenTxs, with_serial, lock_on, open_at, is_own, change_open}
use Rattle.tx_table.specs.Links.{IsLinked}

other_number : (m n : ℕ) → m ≢ n → nat_eq m n ≡ false
other_number m n other = grind (arith, nat_tests)

same_test : (a s k : ℕ) (b : Bool) → a ≡ k → nat_eq s k ≡ b → (a == s) ≡ b
same_test a s k true same is = grind (arith, nat_tests)
same_test a s k false same is = grind (arith, nat_tests)

none_rest : (b : Bool) (x : OpenTx) (l : Option OpenTx) → cond b (Some x) l ≡ None → (b ≡ false) × (l ≡ None)
none_rest true x l none = absurd (cc)
none_rest false x l none = (refl, none)

-- a serial that isn't above the lowest is absent
pub absent_below : (low last s : ℕ) (es : List (ℕ × OpenTx)) → IsLinked low last es → s ≤ low → lookup (nat_eq s) es ≡ None
absent_below low last s [] linked below = refl
absent_below low last s (e ∷ es) linked below =
    let high : low < e.0 = linked.0 in
    let other : s ≢ e.0 = λ same. omega arith in
    ap (λ b. cond b (Some e.1) (lookup (nat_eq s) es)) (other_number s e.0 other) ∙ absent_below e.0 last s es linked.3 (omega arith)

-- a serial above the last is absent
pub absent_above : (low last s : ℕ) (es : List (ℕ × OpenTx)) → IsLinked low last es → last < s → lookup (nat_eq s) es ≡ None
absent_above low last s [] linked above = refl
absent_above low last s (e ∷ es) linked above =
    let low : e.0 ≤ last = linked.1 in
    let other : s ≢ e.0 = λ same. omega arith in
    ap (λ b. cond b (Some e.1) (lookup (nat_eq s) es)) (other_number s e.0 other) ∙ absent_above e.0 last s es linked.3 above

-- the next serial goes last
pub linked_pushed : (low last : ℕ) (o : OpenTx) (es : List (ℕ × OpenTx)) → low ≤ last → IsLinked low last es → o.serial ≡ last + 1
    → IsLinked low (last + 1) (es ++ (last + 1, o) ∷ [])
linked_pushed low last o [] within linked serial = (omega arith, omega arith, serial, tt)
linked_pushed low last o (e ∷ es) within linked serial =
    let below : e.0 ≤ last = linked.1 in
    (linked.0, omega arith, linked.2, linked_pushed e.0 last o es below linked.3 serial)

pub values_pushed : (s : ℕ) (o : OpenTx) (es : List (ℕ × OpenTx)) → values_of (es ++ (s, o) ∷ []) ≡ values_of es ++ o ∷ []
values_pushed s o [] = refl
values_pushed s o (e ∷ es) = ap (λ l. e.1 ∷ l) (values_pushed s o es)

found_case : (b c : Bool) (x : OpenTx) (l m : Option OpenTx) → c ≡ b → l ≡ m → pick c (Some x) l ≡ cond b (Some x) m
found_case true c x l m test rest = ap (λ a. pick a (Some x) l) test
found_case false c x l m test rest = ap (λ a. pick a (Some x) l) test ∙ rest

-- the transaction of a serial stands under it
pub with_serial_lookup : (low last s : ℕ) (es : List (ℕ × OpenTx)) → IsLinked low last es → with_serial (values_of es) s ≡ lookup (nat_eq s) es
unfolding with_serial
with_serial_lookup low last s [] linked = refl
with_serial_lookup low last s (e ∷ es) linked =
    found_case (nat_eq s e.0) (e.1.serial == s) e.1 (with_serial (values_of es) s) (lookup (nat_eq s) es)
    (same_test e.1.serial s e.0 (nat_eq s e.0) linked.2 refl) (with_serial_lookup e.0 last s es linked.3)

kept_case : (b c : Bool) (x : OpenTx) (l m : List OpenTx) → c ≡ b → b ≡ false → l ≡ m → cond (not c) (x ∷ l) l ≡ x ∷ m
kept_case b c x l m test out rest = ap (λ a. cond (not a) (x ∷ l) l) (test ∙ out) ∙ ap (λ k. x ∷ k) rest

-- without an absent serial nothing changes
filter_absent : (low last s : ℕ) (es : List (ℕ × OpenTx)) → IsLinked low last es → lookup (nat_eq s) es ≡ None
    → filter (λ x. not (x.serial == s)) (values_of es) ≡ values_of es
filter_absent low last s [] linked none = refl
filter_absent low last s (e ∷ es) linked none =
    let parts = none_rest (nat_eq s e.0) e.1 (lookup (nat_eq s) es) none in
    kept_case (nat_eq s e.0) (e.1.serial == s) e.1 _ _ (same_test e.1.serial s e.0 (nat_eq s e.0) linked.2 refl) parts.0 (filter_absent e.0 last s es linked.3 parts.1)

same_from : (s k : ℕ) → nat_eq s k ≡ true → s ≡ k
same_from s k is = grind (arith, nat_tests)

removed_case : (low last s : ℕ) (e : ℕ × OpenTx) (es : List (ℕ × OpenTx)) (b : Bool) → nat_eq s e.0 ≡ b → IsLinked low last (e ∷ es)
    → values_of (remove_entry (nat_eq s) es) ≡ filter (λ x. not (x.serial == s)) (values_of es)
    → values_of (cond b es (e ∷ remove_entry (nat_eq s) es)) ≡ filter (λ x. not (x.serial == s)) (e.1 ∷ values_of es)
removed_case low last s e es true is linked rest =
    let none : lookup (nat_eq s) es ≡ None = ap (λ k. lookup (nat_eq k) es) (same_from s e.0 is) ∙ absent_below e.0 last e.0 es linked.3 (omega arith) in
    sym (ap (λ a. cond (not a) (e.1 ∷ filter (λ x. not (x.serial == s)) (values_of es)) (filter (λ x. not (x.serial == s)) (values_of es))) (same_test e.1.serial s e.0 true linked.2 is) ∙ filter_absent e.0 last s es linked.3 none)
removed_case low last s e es false is linked rest =
    ap (λ l. e.1 ∷ l) rest
    ∙ sym (ap (λ a. cond (not a) (e.1 ∷ filter (λ x. not (x.serial == s)) (values_of es)) (filter (λ x. not (x.serial == s)) (values_of es))) (same_test e.1.serial s e.0 false linked.2 is))

-- the transactions without the one of a serial
pub values_removed : (low last s : ℕ) (es : List (ℕ × OpenTx)) → IsLinked low last es
    → values_of (remove_entry (nat_eq s) es) ≡ filter (λ x. not (x.serial == s)) (values_of es)
values_removed low last s [] linked = refl
values_removed low last s (e ∷ es) linked = removed_case low last s e es (nat_eq s e.0) refl linked (values_removed e.0 last s es linked.3)

-- all serials are above a lower one too
linked_lower : (low k last : ℕ) (es : List (ℕ × OpenTx)) → low < k → IsLinked k last es → IsLinked low last es
linked_lower low k last [] lower linked = tt
linked_lower low k last (e ∷ es) lower linked =
    let high : k < e.0 = linked.0 in
    (omega arith, linked.1, linked.2, linked.3)

linked_removed_case : (low last s : ℕ) (e : ℕ × OpenTx) (es : List (ℕ × OpenTx)) (b : Bool) → IsLinked low last (e ∷ es) → IsLinked e.0 last (remove_entry (nat_eq s) es)
    → IsLinked low last (cond b es (e ∷ remove_entry (nat_eq s) es))
linked_removed_case low last s e es true linked rest = linked_lower low e.0 last es linked.0 linked.3
linked_removed_case low last s e es false linked rest = (linked.0, linked.1, linked.2, rest)

pub linked_removed : (low last s : ℕ) (es : List (ℕ × OpenTx)) → IsLinked low last es → IsLinked low last (remove_entry (nat_eq s) es)
linked_removed low last s [] linked = tt
linked_removed low last s (e ∷ es) linked = linked_removed_case low last s e es (nat_eq s e.0) linked (linked_removed e.0 last s es linked.3)

-- a lock at a place is that of the page, or another's
pub lock_here : (hs : List Held) (p i : ℕ) (d : Held) → i < length hs → (get_or hs i d).page ≡ p → lock_on (drop i hs) p ≡ Some (get_or hs i d)
unfolding lock_on
lock_here hs p i d within same =
    let h = get_or hs i d in
    ap (λ l. lock_on l p) (drop-cons hs i d within) ∙ ap (λ b. pick b (Some h) (lock_on (drop (suc i) hs) p)) (is_same h.page p same)
  where
    is_same : (m n : ℕ) → m ≡ n → (m == n) ≡ true
    is_same m n e = grind (arith, nat_tests)

pub lock_next : (hs : List Held) (p i : ℕ) (d : Held) → i < length hs → (get_or hs i d).page ≢ p → lock_on (drop (i + 1) hs) p ≡ lock_on (drop i hs) p
unfolding lock_on
lock_next hs p i d within other =
    let h = get_or hs i d in
    let next : i + 1 ≡ suc i = omega arith in
    ap (λ k. lock_on (drop k hs) p) next
    ∙ sym (ap (λ l. lock_on l p) (drop-cons hs i d within) ∙ ap (λ b. pick b (Some h) (lock_on (drop (suc i) hs) p)) (other_number h.page p other))

pub lock_past : (hs : List Held) (p i : ℕ) → length hs ≤ i → lock_on (drop i hs) p ≡ None
unfolding lock_on
lock_past hs p i past = ap (λ l. lock_on l p) (drop_of_length-le hs past)

-- the transaction that is open stands under its serial
pub open_found : (s : OpenTxs) (t : TxId) → is_some (open_at s t) ≡ true → open_at s t ≡ with_serial s.txs t.serial
open_found s t there = by_own (is_own s t) there
  where
    by_own : (b : Bool) → is_some (pick b (with_serial s.txs t.serial) None) ≡ true → pick b (with_serial s.txs t.serial) None ≡ with_serial s.txs t.serial
    by_own true there = refl
    by_own false there = absurd (cc)

absent_change_case : (f : OpenTx → OpenTx) (b c : Bool) (x : OpenTx) (l m : List OpenTx) → c ≡ b → b ≡ false → l ≡ m → pick c (f x) x ∷ l ≡ x ∷ m
absent_change_case f b c x l m test out rest = λ i. pick ((test ∙ out) i) (f x) x ∷ rest i

change_absent : (f : OpenTx → OpenTx) (low last s : ℕ) (es : List (ℕ × OpenTx)) → IsLinked low last es → lookup (nat_eq s) es ≡ None
    → change_open f (values_of es) s ≡ values_of es
unfolding change_open
change_absent f low last s [] linked none = refl
change_absent f low last s (e ∷ es) linked none =
    let parts = none_rest (nat_eq s e.0) e.1 (lookup (nat_eq s) es) none in
    absent_change_case f (nat_eq s e.0) (e.1.serial == s) e.1 _ _ (same_test e.1.serial s e.0 (nat_eq s e.0) linked.2 refl) parts.0 (change_absent f e.0 last s es linked.3 parts.1)

some_same : (x y : OpenTx) → Some x ≡ Some y → x ≡ y
some_same x y same = cc

changed_case : (f : OpenTx → OpenTx) (low last s : ℕ) (v w : OpenTx) (e : ℕ × OpenTx) (es : List (ℕ × OpenTx)) (b : Bool) → nat_eq s e.0 ≡ b → IsLinked low last (e ∷ es)
    → cond b (Some e.1) (lookup (nat_eq s) es) ≡ Some v → w ≡ f v
    → (lookup (nat_eq s) es ≡ Some v → values_of (set_value (nat_eq s) es w) ≡ change_open f (values_of es) s)
    → values_of (cond b ((e.0, w) ∷ es) (e ∷ set_value (nat_eq s) es w)) ≡ change_open f (e.1 ∷ values_of es) s
unfolding change_open
changed_case f low last s v w e es true is linked there new rest =
    let none : lookup (nat_eq s) es ≡ None = ap (λ k. lookup (nat_eq k) es) (same_from s e.0 is) ∙ absent_below e.0 last e.0 es linked.3 (omega arith) in
    let value : w ≡ f e.1 = new ∙ ap f (sym (some_same e.1 v there)) in
    let here : change_open f (e.1 ∷ values_of es) s ≡ f e.1 ∷ values_of es = λ i. pick (same_test e.1.serial s e.0 true linked.2 is i) (f e.1) e.1 ∷ change_absent f e.0 last s es linked.3 none i in
    ap (λ x. x ∷ values_of es) value ∙ sym here
changed_case f low last s v w e es false is linked there new rest =
    let later : change_open f (e.1 ∷ values_of es) s ≡ e.1 ∷ values_of (set_value (nat_eq s) es w) = λ i. pick (same_test e.1.serial s e.0 false linked.2 is i) (f e.1) e.1 ∷ sym (rest there) i in
    sym later

-- the transactions with a change of the one of a serial
pub values_changed : (f : OpenTx → OpenTx) (low last s : ℕ) (v w : OpenTx) (es : List (ℕ × OpenTx)) → IsLinked low last es → lookup (nat_eq s) es ≡ Some v → w ≡ f v
    → values_of (set_value (nat_eq s) es w) ≡ change_open f (values_of es) s
values_changed f low last s v w [] linked there new = absurd (cc)
values_changed f low last s v w (e ∷ es) linked there new =
    changed_case f low last s v w e es (nat_eq s e.0) refl linked there new (λ later. values_changed f e.0 last s v w es linked.3 later new)

linked_set_case : (low last s : ℕ) (w : OpenTx) (e : ℕ × OpenTx) (es : List (ℕ × OpenTx)) (b : Bool) → nat_eq s e.0 ≡ b → w.serial ≡ s → IsLinked low last (e ∷ es)
    → IsLinked e.0 last (set_value (nat_eq s) es w) → IsLinked low last (cond b ((e.0, w) ∷ es) (e ∷ set_value (nat_eq s) es w))
linked_set_case low last s w e es true is serial linked rest = (linked.0, linked.1, serial ∙ same_from s e.0 is, linked.3)
linked_set_case low last s w e es false is serial linked rest = (linked.0, linked.1, linked.2, rest)

-- the links hold after a change
pub linked_set : (low last s : ℕ) (w : OpenTx) (es : List (ℕ × OpenTx)) → w.serial ≡ s → IsLinked low last es → IsLinked low last (set_value (nat_eq s) es w)
linked_set low last s w [] serial linked = tt
linked_set low last s w (e ∷ es) serial linked = linked_set_case low last s w e es (nat_eq s e.0) refl serial linked (linked_set e.0 last s w es serial linked.3)

serial_case : (low last s : ℕ) (v : OpenTx) (e : ℕ × OpenTx) (es : List (ℕ × OpenTx)) (b : Bool) → nat_eq s e.0 ≡ b → IsLinked low last (e ∷ es)
    → cond b (Some e.1) (lookup (nat_eq s) es) ≡ Some v → (lookup (nat_eq s) es ≡ Some v → v.serial ≡ s) → v.serial ≡ s
serial_case low last s v e es true is linked there rest =
    ap (λ (x : OpenTx). x.serial) (sym (some_same e.1 v there)) ∙ (linked.2 ∙ sym (same_from s e.0 is))
serial_case low last s v e es false is linked there rest = rest there

-- the serial of what stands under one
pub serial_found : (low last s : ℕ) (v : OpenTx) (es : List (ℕ × OpenTx)) → IsLinked low last es → lookup (nat_eq s) es ≡ Some v → v.serial ≡ s
serial_found low last s v [] linked there = absurd (cc)
serial_found low last s v (e ∷ es) linked there =
    serial_case low last s v e es (nat_eq s e.0) refl linked there (λ later. serial_found e.0 last s v es linked.3 later)

-- what follows on one outcome
pub on_ok : {X E : Type 0} (P Q : Type 0) (r : Result X E) → (P → Q) → OnOk r P → OnOk r Q
on_ok P Q (Ok x) f p = f p
on_ok P Q (Err e) f p = p

pub on_err : {X E : Type 0} (P Q : Type 0) (r : Result X E) → (P → Q) → OnErr r P → OnErr r Q
on_err P Q (Ok x) f p = p
on_err P Q (Err e) f p = f p
