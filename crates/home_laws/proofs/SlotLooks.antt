-- The slots of a buffer: how many there are once one changes, and facts of each of them; and what is
-- found of them.
use Rattle.std.proofs.Common.{◌≡◌, ℕ, suc, ◌+◌, ◌≤◌, ◌==◌, not, Bool, true, false, List, [], ◌∷◌, length, cond, Option, Some, None, is_some, refl, ap, sym, subst, ◌∙◌, arith}
use Rattle.std.proofs.lemmas.List.Elements.{All-nil, All-cons, All-head, All-tail, All-filter}
use Rattle.std.specs.List.{All, filter}
use Rattle.node_rules.specs.Words.{pick, or_else}
use Rattle.node_rules.specs.BufferRule.{Slot, slot_in, change_slot, slots_without, in_front, may_go, last_to_go}
use Rattle.home_laws.proofs.Tests.{one, number_same, number_equal}
pub use Rattle.home_laws.proofs.SlotFound.{KeepsPage, changed_here, changed_there, without_here, without_there, slot_page, front_same}

-- how many slots a page has
abbrev pub slots_of : ℕ → List Slot → ℕ
slots_of q ss = length (filter (λ s. s.page == q) ss)

pub counted : (test : Slot → Bool) (s : Slot) (ss : List Slot) → length (filter test (s ∷ ss)) ≡ one (test s) + length (filter test ss)
counted test s ss = by (test s)
  where
    by : (b : Bool) → length (cond b (s ∷ filter test ss) (filter test ss)) ≡ one b + length (filter test ss)
    by true = omega arith
    by false = omega arith

-- a change that no test of the slots tells
pub test_changed : (test : Slot → Bool) (f : Slot → Slot) → ((s : Slot) → test (f s) ≡ test s) → (ss : List Slot) (p : ℕ) → length (filter test (change_slot f ss p)) ≡ length (filter test ss)
unfolding change_slot
test_changed test f keeps [] p = refl
test_changed test f keeps (s ∷ ss) p = by (s.page == p) (test_changed test f keeps ss p)
  where
    by : (b : Bool) → length (filter test (change_slot f ss p)) ≡ length (filter test ss) → length (filter test (pick b (f s) s ∷ change_slot f ss p)) ≡ length (filter test (s ∷ ss))
    by true ih =
        let same : one (test (f s)) ≡ one (test s) = ap one (keeps s) in
        omega (arith, counted test (f s) (change_slot f ss p), counted test s ss, same, ih)
    by false ih = omega (arith, counted test s (change_slot f ss p), counted test s ss, ih)

pub slots_changed : (f : Slot → Slot) → KeepsPage f → (ss : List Slot) (p q : ℕ) → slots_of q (change_slot f ss p) ≡ slots_of q ss
slots_changed f keeps ss p q = test_changed (λ s. s.page == q) f (λ s. ap (λ m. m == q) (keeps s)) ss p

pub length_changed : (f : Slot → Slot) (ss : List Slot) (p : ℕ) → length (change_slot f ss p) ≡ length ss
unfolding change_slot
length_changed f [] p = refl
length_changed f (s ∷ ss) p = ap (λ k. suc k) (length_changed f ss p)

pub filtered_less : (test keep : Slot → Bool) (ss : List Slot) → length (filter test (filter keep ss)) ≤ length (filter test ss)
filtered_less test keep [] = omega arith
filtered_less test keep (s ∷ ss) = by (keep s) (filtered_less test keep ss)
  where
    by : (b : Bool) → length (filter test (filter keep ss)) ≤ length (filter test ss) → length (filter test (cond b (s ∷ filter keep ss) (filter keep ss))) ≤ length (filter test (s ∷ ss))
    by true ih = omega (arith, counted test s (filter keep ss), counted test s ss, ih)
    by false ih = omega (arith, counted test s ss, ih)

pub none_of : (ss : List Slot) (p : ℕ) → slot_in ss p ≡ None → slots_of p ss ≡ 0
unfolding slot_in
none_of [] p none = refl
none_of (s ∷ ss) p none = by (s.page == p) none (none_of ss p)
  where
    by : (b : Bool) → pick b (Some s) (slot_in ss p) ≡ None → (slot_in ss p ≡ None → slots_of p ss ≡ 0) → length (cond b (s ∷ filter (λ x. x.page == p) ss) (filter (λ x. x.page == p) ss)) ≡ 0
    by true e ih = absurd (cc)
    by false e ih = ih e

pub some_of : (ss : List Slot) (p : ℕ) (s : Slot) → slot_in ss p ≡ Some s → 1 ≤ slots_of p ss
unfolding slot_in
some_of [] p s found = absurd (cc)
some_of (x ∷ ss) p s found = by (x.page == p) found (some_of ss p s)
  where
    by : (b : Bool) → pick b (Some x) (slot_in ss p) ≡ Some s → (slot_in ss p ≡ Some s → 1 ≤ slots_of p ss) → 1 ≤ length (cond b (x ∷ filter (λ y. y.page == p) ss) (filter (λ y. y.page == p) ss))
    by true e ih = omega arith
    by false e ih = ih e

pub without_none : (ss : List Slot) (p : ℕ) → slots_of p ss ≡ 0 → slots_without ss p ≡ ss
without_none [] p none = refl
without_none (s ∷ ss) p none = by (s.page == p) none (without_none ss p)
  where
    by : (b : Bool) → length (cond b (s ∷ filter (λ x. x.page == p) ss) (filter (λ x. x.page == p) ss)) ≡ 0 → (slots_of p ss ≡ 0 → slots_without ss p ≡ ss)
        → cond (not b) (s ∷ slots_without ss p) (slots_without ss p) ≡ s ∷ ss
    by true e ih = absurd (omega (arith, e))
    by false e ih = ap (λ ys. s ∷ ys) (ih e)

-- a slot less, and with it one that passes a test
pub test_without : (test : Slot → Bool) (ss : List Slot) (p : ℕ) (s : Slot) → slot_in ss p ≡ Some s → test s ≡ true → slots_of p ss ≤ 1 → length (filter test (slots_without ss p)) + 1 ≡ length (filter test ss)
unfolding slot_in
test_without test [] p s found passes once = absurd (cc)
test_without test (x ∷ ss) p s found passes once = by (x.page == p) refl found once (test_without test ss p s)
  where
    by : (b : Bool) → (x.page == p) ≡ b → pick b (Some x) (slot_in ss p) ≡ Some s → length (cond b (x ∷ filter (λ y. y.page == p) ss) (filter (λ y. y.page == p) ss)) ≤ 1
        → (slot_in ss p ≡ Some s → test s ≡ true → slots_of p ss ≤ 1 → length (filter test (slots_without ss p)) + 1 ≡ length (filter test ss))
        → length (filter test (cond (not b) (x ∷ slots_without ss p) (slots_without ss p))) + 1 ≡ length (filter test (x ∷ ss))
    by true t e le ih =
        let same : x ≡ s = cc in
        let none : slots_of p ss ≡ 0 = omega (arith, le) in
        let here : one (test x) ≡ 1 = ap one (ap test same ∙ passes) in
        ap (λ ys. length (filter test ys) + 1) (without_none ss p none) ∙ omega (arith, counted test x ss, here)
    by false t e le ih =
        let rest = ih e passes le in
        omega (arith, counted test x (slots_without ss p), counted test x ss, rest)

pub filter_all : (ss : List Slot) → filter (λ s. true) ss ≡ ss
filter_all [] = refl
filter_all (s ∷ ss) = ap (λ ys. s ∷ ys) (filter_all ss)

pub length_without : (ss : List Slot) (p : ℕ) (s : Slot) → slot_in ss p ≡ Some s → slots_of p ss ≤ 1 → length (slots_without ss p) + 1 ≡ length ss
length_without ss p s found once =
    let count = test_without (λ x. true) ss p s found refl once in
    let a : length (filter (λ x. true) (slots_without ss p)) ≡ length (slots_without ss p) = ap length (filter_all (slots_without ss p)) in
    let b : length (filter (λ x. true) ss) ≡ length ss = ap length (filter_all ss) in
    omega (arith, count, a, b)

-- facts of each slot
pub all_changed : (P Q : Slot → Type 0) (f : Slot → Slot) (ss : List Slot) (p : ℕ) → ((s : Slot) → (s.page == p) ≡ true → P s → Q (f s)) → ((s : Slot) → (s.page == p) ≡ false → P s → Q s) → All P ss → All Q (change_slot f ss p)
unfolding change_slot
all_changed P Q f [] p here there all = All-nil Q
all_changed P Q f (s ∷ ss) p here there all =
    All-cons Q (pick (s.page == p) (f s) s) (change_slot f ss p) (by (s.page == p) refl (All-head P s ss all)) (all_changed P Q f ss p here there (All-tail P s ss all))
  where
    by : (b : Bool) → (s.page == p) ≡ b → P s → Q (pick b (f s) s)
    by true t x = here s t x
    by false t x = there s t x

pub all_found : (P : Slot → Type 0) (ss : List Slot) (p : ℕ) (s : Slot) → slot_in ss p ≡ Some s → All P ss → P s
unfolding slot_in
all_found P [] p s found all = absurd (cc)
all_found P (x ∷ ss) p s found all = by (x.page == p) found (all_found P ss p s)
  where
    by : (b : Bool) → pick b (Some x) (slot_in ss p) ≡ Some s → (slot_in ss p ≡ Some s → All P ss → P s) → P s
    by true e ih =
        let same : x ≡ s = cc in
        subst P same (All-head P x ss all)
    by false e ih = ih e (All-tail P x ss all)

pub all_front : (P : Slot → Type 0) (ss : List Slot) (p : ℕ) → All P ss → All P (in_front (slot_in ss p) ss)
all_front P ss p all = by (slot_in ss p) refl
  where
    by : (o : Option Slot) → slot_in ss p ≡ o → All P (in_front o ss)
    by None e = all
    by (Some s) e = All-cons P s (slots_without ss s.page) (all_found P ss p s e all) (All-filter (λ x. not (x.page == s.page)) P ss all)

-- a front has as many, of each page
pub length_front : (ss : List Slot) (p : ℕ) → slots_of p ss ≤ 1 → length (in_front (slot_in ss p) ss) ≡ length ss
length_front ss p once = by (slot_in ss p) refl
  where
    by : (o : Option Slot) → slot_in ss p ≡ o → length (in_front o ss) ≡ length ss
    by None e = refl
    by (Some s) e =
        let page = slot_page ss p s e in
        let less = length_without ss p s e once in
        let same : length (slots_without ss s.page) ≡ length (slots_without ss p) = ap (λ n. length (slots_without ss n)) page in
        omega (arith, less, same)

pub slots_front : (ss : List Slot) (p q : ℕ) → slots_of p ss ≤ 1 → slots_of q ss ≤ 1 → slots_of q (in_front (slot_in ss p) ss) ≤ 1
slots_front ss p q once le = by (slot_in ss p) refl
  where
    by : (o : Option Slot) → slot_in ss p ≡ o → slots_of q (in_front o ss) ≤ 1
    by None e = le
    by (Some s) e = of (s.page == q) refl
      where
        of : (b : Bool) → (s.page == q) ≡ b → length (cond b (s ∷ filter (λ x. x.page == q) (slots_without ss s.page)) (filter (λ x. x.page == q) (slots_without ss s.page))) ≤ 1
        of true t =
            let page = number_equal s.page q t in
            let gone : slots_of s.page (slots_without ss s.page) ≡ 0 = none_of (slots_without ss s.page) s.page (without_here ss s.page) in
            let none : slots_of q (slots_without ss s.page) ≡ 0 = subst (λ n. slots_of n (slots_without ss s.page) ≡ 0) page gone in
            omega (arith, none)
        of false t =
            let less = filtered_less (λ x. x.page == q) (λ x. not (x.page == s.page)) ss in
            omega (arith, less, le)

-- the slot that goes
pub goes_may : (ss : List Slot) (keep : ℕ) (s : Slot) → last_to_go ss keep ≡ Some s → may_go keep s ≡ true
unfolding last_to_go
goes_may [] keep s found = absurd (cc)
goes_may (x ∷ ss) keep s found = by (last_to_go ss keep) (may_go keep x) refl found (goes_may ss keep s)
  where
    by : (o : Option Slot) (b : Bool) → may_go keep x ≡ b → or_else o (pick b (Some x) None) ≡ Some s → (o ≡ Some s → may_go keep s ≡ true) → may_go keep s ≡ true
    by (Some y) b t e ih = ih e
    by None true t e ih =
        let same : x ≡ s = cc in
        ap (may_go keep) (sym same) ∙ t
    by None false t e ih = absurd (cc)

pub goes_there : (ss : List Slot) (keep : ℕ) (s : Slot) → ((q : ℕ) → slots_of q ss ≤ 1) → last_to_go ss keep ≡ Some s → slot_in ss s.page ≡ Some s
unfolding last_to_go slot_in
goes_there [] keep s once found = absurd (cc)
goes_there (x ∷ ss) keep s once found = by (last_to_go ss keep) (may_go keep x) refl found (goes_there ss keep s fewer)
  where
    fewer : (q : ℕ) → slots_of q ss ≤ 1
    fewer q =
        let le = once q in
        omega (arith, counted (λ y. y.page == q) x ss, le)

    by : (o : Option Slot) (b : Bool) → last_to_go ss keep ≡ o → or_else o (pick b (Some x) None) ≡ Some s → (o ≡ Some s → slot_in ss s.page ≡ Some s) → pick (x.page == s.page) (Some x) (slot_in ss s.page) ≡ Some s
    by (Some y) b t e ih = of (x.page == s.page) refl
      where
        of : (d : Bool) → (x.page == s.page) ≡ d → pick d (Some x) (slot_in ss s.page) ≡ Some s
        of true u =
            let le = once s.page in
            let some = some_of ss s.page s (ih e) in
            let here : one (x.page == s.page) ≡ 1 = ap one u in
            absurd (omega (arith, counted (λ z. z.page == s.page) x ss, le, some, here))
        of false u = ih e
    by None true t e ih =
        let same : x ≡ s = cc in
        ap (λ c. pick c (Some x) (slot_in ss s.page)) (ap (λ n. n == s.page) (ap (λ y. y.page) same) ∙ number_same s.page) ∙ e
    by None false t e ih = absurd (cc)

pub goes_some : (ss : List Slot) (keep : ℕ) → 1 ≤ length (filter (may_go keep) ss) → is_some (last_to_go ss keep) ≡ true
unfolding last_to_go
goes_some [] keep some = absurd (omega (arith, some))
goes_some (x ∷ ss) keep some = by (last_to_go ss keep) (may_go keep x) some (goes_some ss keep)
  where
    by : (o : Option Slot) (b : Bool) → 1 ≤ length (cond b (x ∷ filter (may_go keep) ss) (filter (may_go keep) ss)) → (1 ≤ length (filter (may_go keep) ss) → is_some o ≡ true) → is_some (or_else o (pick b (Some x) None)) ≡ true
    by (Some y) b le ih = refl
    by None true le ih = refl
    by None false le ih = ih le
